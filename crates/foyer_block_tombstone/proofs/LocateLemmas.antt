-- Where pages lie.
use Rattle.std.proofs.Common.{◌≡◌, ◌≢◌, ℕ, ◌+◌, ◌-◌, ◌*◌, ◌/◌, ◌<◌, ◌≤◌, ◌⊎◌, inl, inr, true, false, nat_lt, List, [], ◌∷◌, length, drop, get_or, map, refl, sym, ap, ◌∙◌, subst, arith, Option, Some, Result, Ok, Err, OnOk}
use Rattle.std.proofs.lemmas.Bool.Decides.{nat_tests}
use Rattle.std.proofs.lemmas.List.{at_drop_more}
use Rattle.foyer_device_partition.specs.Extent.{Extent, AreApart as ExtentsApart, IsApartFromAll, AreDisjoint}
use Rattle.foyer_io_engine.specs.Disk.{Disk, CanAccess, IfKnown}
use Rattle.foyer_block_tombstone.specs.Pages.{Place, PageAt, places, pages_of, locate, start_of, extent_of, AreWhole}
use Rattle.foyer_block_tombstone.specs.PageBytes.{HasPage}
use Rattle.foyer_block_tombstone.proofs.RoundLemmas.{le_or_lt}

lt_true : (n m : ℕ) → n < m → nat_lt n m ≡ true
lt_true n m lt = grind (arith, nat_tests)

lt_false : (n m : ℕ) → m ≤ n → nat_lt n m ≡ false
lt_false n m le = grind (arith, nat_tests)

pub locate_here : (p : Place) (ps : List Place) (n : ℕ) → n < p.size / 4096
    → locate (p ∷ ps) n ≡ Some (record { extent = p.extent; size = p.size; offset = 4096 * n })
locate_here p ps n lt = rw (lt_true n (p.size / 4096) lt) refl

pub locate_later : (p : Place) (ps : List Place) (n : ℕ) → p.size / 4096 ≤ n → locate (p ∷ ps) n ≡ locate ps (n - p.size / 4096)
locate_later p ps n le = rw (lt_false n (p.size / 4096) le) refl

-- one partition more
pub pages_step : {P : Type 0} (e : P → Extent) (b : P → ℕ) (ps : List P) (i : ℕ) (p : P) → i < length ps → p ≡ get_or ps i p
    → pages_of (places e b (drop i ps)) ≡ b p / 4096 + pages_of (places e b (drop (i + 1) ps))
pages_step {P = P} e b ps i p lt is =
    let F : List P → ℕ = λ ys. pages_of (places e b ys) in
    at_drop_more F ps i p lt ∙ ap (λ (q : P). F (q ∷ drop (i + 1) ps)) (sym is)

pub find_here : {P : Type 0} (e : P → Extent) (b : P → ℕ) (ps : List P) (i n : ℕ) (p : P) → i < length ps → p ≡ get_or ps i p → n < b p / 4096
    → locate (places e b (drop i ps)) n ≡ Some (record { extent = e p; size = b p; offset = 4096 * n })
find_here {P = P} e b ps i n p lt is low =
    let F : List P → Option PageAt = λ ys. locate (places e b ys) n in
    at_drop_more F ps i p lt ∙ ap (λ (q : P). F (q ∷ drop (i + 1) ps)) (sym is)
    ∙ locate_here (record { extent = e p; size = b p }) (places e b (drop (i + 1) ps)) n low

pub find_later : {P : Type 0} (e : P → Extent) (b : P → ℕ) (ps : List P) (i n : ℕ) (p : P) → i < length ps → p ≡ get_or ps i p → b p / 4096 ≤ n
    → locate (places e b (drop i ps)) n ≡ locate (places e b (drop (i + 1) ps)) (n - b p / 4096)
find_later {P = P} e b ps i n p lt is high =
    let F : List P → Option PageAt = λ ys. locate (places e b ys) n in
    at_drop_more F ps i p lt ∙ ap (λ (q : P). F (q ∷ drop (i + 1) ps)) (sym is)
    ∙ locate_later (record { extent = e p; size = b p }) (places e b (drop (i + 1) ps)) n high

-- a page that lies somewhere is one of the pages
pub located_within : (ps : List Place) (n : ℕ) (at : PageAt) → locate ps n ≡ Some at → n < pages_of ps
located_within [] n at is = cc
located_within (p ∷ ps) n at is =
    elim (le_or_lt (p.size / 4096) n) [
      | inl le ↦
          let deep : n - p.size / 4096 < pages_of ps = located_within ps (n - p.size / 4096) at (sym (locate_later p ps n le) ∙ is) in
          omega arith
      | inr lt ↦ omega arith
    ]

pub has_at : {d : Disk} {ps : List Place} {n : ℕ} (at : PageAt) → locate ps n ≡ Some at → (CanAccess d at.extent at.size at.offset 4096 → ⊥) → HasPage d ps n → ⊥
has_at {d} at is not has =
    let same : has.at ≡ at = let both : Some has.at ≡ Some at = sym has.located ∙ is in cc in
    let P : PageAt → Type 0 = λ a. CanAccess d a.extent a.size a.offset 4096 in
    not (subst P same has.access)

pub on_ok : {A E P Q : Type 0} (r : Result A E) → (P → Q) → OnOk r P → OnOk r Q
on_ok (Ok x) f p = f p
on_ok (Err e) f p = tt

pub on_ok_known : {A E : Type 0} (P : Disk → Type 0) (r : Result A E) (D : Option Disk) → IfKnown D (λ d. OnOk r (P d)) → OnOk r (IfKnown D P)
on_ok_known P (Ok x) D all = all
on_ok_known P (Err e) D all = tt

-- a page lies within the extent of its partition
pub located_fits : (ps : List Place) (n : ℕ) (at : PageAt) → AreWhole ps → locate ps n ≡ Some at → at.offset + 4096 ≤ at.extent.len
located_fits [] n at whole is = cc
located_fits (p ∷ ps) n at whole is =
    elim (le_or_lt (p.size / 4096) n) [
      | inl le ↦ located_fits ps (n - p.size / 4096) at whole.1 (sym (locate_later p ps n le) ∙ is)
      | inr lt ↦
          let here : PageAt = record { extent = p.extent; size = p.size; offset = 4096 * n } in
          let both : Some here ≡ Some at = sym (locate_here p ps n lt) ∙ is in
          let same : here ≡ at = cc in
          let P : PageAt → Type 0 = λ a. a.offset + 4096 ≤ a.extent.len in
          let fits : 4096 * n + 4096 ≤ p.extent.len = omega (arith, whole.0) in
          subst P same fits
    ]

pub start_is : (at : PageAt) → at.offset + 4096 ≤ at.extent.len → start_of at ≡ at.extent.start + at.offset
start_is at fits = omega arith

-- a page of other partitions is apart from an extent that they are apart from
located_apart : (x : Extent) (ps : List Place) (n : ℕ) (at : PageAt) → IsApartFromAll x (map extent_of ps) → locate ps n ≡ Some at → ExtentsApart x at.extent
located_apart x [] n at apart is = cc
located_apart x (p ∷ ps) n at apart is =
    elim (le_or_lt (p.size / 4096) n) [
      | inl le ↦ located_apart x ps (n - p.size / 4096) at apart.1 (sym (locate_later p ps n le) ∙ is)
      | inr lt ↦
          let here : PageAt = record { extent = p.extent; size = p.size; offset = 4096 * n } in
          let both : Some here ≡ Some at = sym (locate_here p ps n lt) ∙ is in
          let same : here ≡ at = cc in
          let P : PageAt → Type 0 = λ a. ExtentsApart x a.extent in
          subst P same apart.0
    ]

-- two pages share no byte
abbrev pub PagesApart : PageAt → PageAt → Type 0
PagesApart a b = (a.extent.file ≢ b.extent.file) ⊎ (start_of a + 4096 ≤ start_of b) ⊎ (start_of b + 4096 ≤ start_of a)

turned : (a b : PageAt) → PagesApart a b → PagesApart b a
turned a b (inl files) = inl (λ same. files (sym same))
turned a b (inr (inl low)) = inr (inr low)
turned a b (inr (inr high)) = inr (inl high)

beside : (a b : PageAt) → a.offset + 4096 ≤ a.extent.len → b.offset + 4096 ≤ b.extent.len → ExtentsApart a.extent b.extent → PagesApart a b
beside a b fa fb (inl files) = inl files
beside a b fa fb (inr (inl low)) = inr (inl (omega (arith, start_is a fa, start_is b fb)))
beside a b fa fb (inr (inr high)) = inr (inr (omega (arith, start_is a fa, start_is b fb)))

first_and_rest : (p : Place) (ps : List Place) (m n : ℕ) (a b : PageAt) → AreWhole (p ∷ ps) → AreDisjoint (map extent_of (p ∷ ps))
    → locate (p ∷ ps) m ≡ Some a → locate (p ∷ ps) n ≡ Some b → m < p.size / 4096 → p.size / 4096 ≤ n → PagesApart a b
first_and_rest p ps m n a b whole disjoint ia ib low high =
    let here : PageAt = record { extent = p.extent; size = p.size; offset = 4096 * m } in
    let both : Some here ≡ Some a = sym (locate_here p ps m low) ∙ ia in
    let same : here ≡ a = cc in
    let deep : locate ps (n - p.size / 4096) ≡ Some b = sym (locate_later p ps n high) ∙ ib in
    let apart : ExtentsApart p.extent b.extent = located_apart p.extent ps (n - p.size / 4096) b disjoint.0 deep in
    let P : PageAt → Type 0 = λ x. ExtentsApart x.extent b.extent in
    beside a b (located_fits (p ∷ ps) m a whole ia) (located_fits (p ∷ ps) n b whole ib) (subst P same apart)

both_first : (p : Place) (ps : List Place) (m n : ℕ) (a b : PageAt) → AreWhole (p ∷ ps) → locate (p ∷ ps) m ≡ Some a → locate (p ∷ ps) n ≡ Some b
    → m < p.size / 4096 → n < p.size / 4096 → m ≢ n → PagesApart a b
both_first p ps m n a b whole ia ib lm ln not =
    let ha : PageAt = record { extent = p.extent; size = p.size; offset = 4096 * m } in
    let hb : PageAt = record { extent = p.extent; size = p.size; offset = 4096 * n } in
    let ea : Some ha ≡ Some a = sym (locate_here p ps m lm) ∙ ia in
    let eb : Some hb ≡ Some b = sym (locate_here p ps n ln) ∙ ib in
    let sa : ha ≡ a = cc in
    let sb : hb ≡ b = cc in
    let fa : ha.offset + 4096 ≤ ha.extent.len = omega (arith, whole.0) in
    let fb : hb.offset + 4096 ≤ hb.extent.len = omega (arith, whole.0) in
    let apart : PagesApart ha hb =
    elim (le_or_lt m n) [
      | inl le ↦ let lt : m < n = omega arith in inr (inl (omega (arith, start_is ha fa, start_is hb fb)))
      | inr lt ↦ inr (inr (omega (arith, start_is ha fa, start_is hb fb)))
    ] in
    let P : PageAt → Type 0 = λ x. PagesApart x hb in
    let Q : PageAt → Type 0 = λ y. PagesApart a y in
    subst Q sb (subst P sa apart)

pub pages_apart : (ps : List Place) (m n : ℕ) (a b : PageAt) → AreWhole ps → AreDisjoint (map extent_of ps)
    → locate ps m ≡ Some a → locate ps n ≡ Some b → m ≢ n → PagesApart a b
pages_apart [] m n a b whole disjoint ia ib not = cc
pages_apart (p ∷ ps) m n a b whole disjoint ia ib not =
    elim (le_or_lt (p.size / 4096) m) [
      | inl hm ↦ elim (le_or_lt (p.size / 4096) n) [
        | inl hn ↦
            let deep_a : locate ps (m - p.size / 4096) ≡ Some a = sym (locate_later p ps m hm) ∙ ia in
            let deep_b : locate ps (n - p.size / 4096) ≡ Some b = sym (locate_later p ps n hn) ∙ ib in
            pages_apart ps (m - p.size / 4096) (n - p.size / 4096) a b whole.1 disjoint.1 deep_a deep_b (λ same. not (omega arith))
        | inr ln ↦ turned b a (first_and_rest p ps n m b a whole disjoint ib ia ln hm)
      ]
      | inr lm ↦ elim (le_or_lt (p.size / 4096) n) [
        | inl hn ↦ first_and_rest p ps m n a b whole disjoint ia ib lm hn
        | inr ln ↦ both_first p ps m n a b whole ia ib lm ln not
      ]
    ]
