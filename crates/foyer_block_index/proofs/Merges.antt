-- What a merge of hashes into a shard's entries leaves for each hash.
use Rattle.std.proofs.Common.{◌≡◌, ◌≢◌, ◌⊎◌, inl, inr, ℕ, zero, suc, ◌+◌, ◌-◌, ◌<◌, ◌≤◌, Bool, true, false, Some, List, [], ◌∷◌, ◌++◌, length, take, drop, get_or, slice_get, slice_set, slice_index, refl, sym, ap, subst, ◌∙◌, arith, append_assoc}
use Rattle.std.specs.List.{All, AllByRecursion, Contains}
use Rattle.std.specs.List.Sorted.{IsStrictlyIncreasing}
use Rattle.std.proofs.Common.{◌==◌}
use Rattle.std.proofs.Math.Dec.{ltb}
use Rattle.std.proofs.lemmas.Bool.{eqb-true, eqb-false, ltb-true, ltb-false}
use Rattle.foyer_block_index.proofs.Halving.{got_index, index_got, all_below}
use Rattle.std.proofs.lemmas.List.{get_or_default, get_or-take, take-append-drop, length-take-le}
use Rattle.std.proofs.lemmas.List.Kept.{AllPairs-from_increasing}
use Rattle.foyer_block_index.specs.declared.shard.Entry.{Entry}
use Rattle.foyer_block_index.specs.declared.shard.Slot.TheVariants.{Vacant}
use Rattle.foyer_block_index.specs.Entries.{held_by, hashes, pair_of, pairs}
use Rattle.foyer_block_index.specs.Probe.{Lacks, HasPlace}
use Rattle.foyer_block_index.proofs.Entries.{Ascends, ascends-from, ascends-to}

abbrev pub Above : ℕ → List Entry → Type 0
Above h es = AllByRecursion (λ f. h < f.hash) es

above-trans : (g h : ℕ) (es : List Entry) → g < h → Above h es → Above g es
above-trans g h [] lt above = tt
above-trans g h (e ∷ es) lt above = let first : h < e.hash = above.0 in (omega arith, above-trans g h es lt above.1)

pub pairs-append : (es fs : List Entry) → pairs (es ++ fs) ≡ pairs es ++ pairs fs
pairs-append [] fs = refl
pairs-append (e ∷ es) fs = ap (λ l. pair_of e.hash (held_by e.slot) ++ l) (pairs-append es fs) ∙ sym (append_assoc (pair_of e.hash (held_by e.slot)) (pairs es) (pairs fs))

pub drop-written : {X : Type 0} (xs : List X) (p : ℕ) (x : X) → p < length xs → drop p (slice_set xs p x) ≡ x ∷ drop (p + 1) xs
drop-written {X} xs p x lt = let next : suc p ≡ p + 1 = omega arith in subst (λ k. drop p (slice_set xs p x) ≡ x ∷ drop k xs) next (go xs p lt)
  where
    go : (ys : List X) (k : ℕ) → k < length ys → drop k (slice_set ys k x) ≡ x ∷ drop (suc k) ys
    go [] k less = absurd (omega arith)
    go (y ∷ ys) zero less = refl
    go (y ∷ ys) (suc k) less = go ys k (omega arith)

pub take-written : {X : Type 0} (xs : List X) (p q : ℕ) (x : X) → q ≤ p → take q (slice_set xs p x) ≡ take q xs
take-written [] p q x le = refl
take-written (y ∷ ys) p zero x le = refl
take-written (y ∷ ys) zero (suc q) x le = absurd (omega arith)
take-written (y ∷ ys) (suc p) (suc q) x le = ap (λ l. y ∷ l) (take-written ys p q x (omega arith))

pub take-next : {X : Type 0} (xs : List X) (o : ℕ) (d : X) → o < length xs → take (o + 1) xs ≡ take o xs ++ get_or xs o d ∷ []
take-next {X} xs o d lt = let next : suc o ≡ o + 1 = omega arith in subst (λ k. take k xs ≡ take o xs ++ get_or xs o d ∷ []) next (go xs o lt)
  where
    go : (ys : List X) (k : ℕ) → k < length ys → take (suc k) ys ≡ take k ys ++ get_or ys k d ∷ []
    go [] k less = absurd (omega arith)
    go (y ∷ ys) zero less = refl
    go (y ∷ ys) (suc k) less = ap (λ l. y ∷ l) (go ys k (omega arith))

pub hash_at : (es : List Entry) (k : ℕ) (d : Entry) → k < length es → slice_index (hashes es) k ≡ (get_or es k d).hash
hash_at [] k d lt = absurd (omega arith)
hash_at (e ∷ es) zero d lt = refl
hash_at (e ∷ es) (suc k) d lt = hash_at es k d (omega arith)

pub length-hashes : (es : List Entry) → length (hashes es) ≡ length es
length-hashes [] = refl
length-hashes (e ∷ es) = ap suc (length-hashes es)

pub place_behind : (es fs : List Entry) (q : ℕ) → HasPlace (hashes fs) q → HasPlace (hashes (es ++ fs)) q
place_behind [] fs q has = has
place_behind (e ∷ es) fs q has = let rest = place_behind es fs q has in (suc rest.0, rest.1)

place_before : (es fs : List Entry) (k q : ℕ) → slice_get (hashes es) k ≡ Some q → slice_get (hashes (es ++ fs)) k ≡ Some q
place_before [] fs k q at = absurd (cc)
place_before (e ∷ es) fs zero q at = at
place_before (e ∷ es) fs (suc k) q at = place_before es fs k q at

place_in_front : (es : List Entry) (o k q : ℕ) → k < o → slice_get (hashes es) k ≡ Some q → slice_get (hashes (take o es)) k ≡ Some q
place_in_front [] o k q lt at = absurd (cc)
place_in_front (e ∷ es) zero k q lt at = absurd (omega arith)
place_in_front (e ∷ es) (suc o) zero q lt at = at
place_in_front (e ∷ es) (suc o) (suc k) q lt at = place_in_front es o k q (omega arith) at

place_split : (es fs : List Entry) (q : ℕ) → HasPlace (hashes (es ++ fs)) q → HasPlace (hashes es) q ⊎ HasPlace (hashes fs) q
place_split [] fs q has = inr has
place_split (e ∷ es) fs q has = go has.0 has.1 (place_split es fs q)
  where
    go : (place : ℕ) → slice_get (hashes ((e ∷ es) ++ fs)) place ≡ Some q → (HasPlace (hashes (es ++ fs)) q → HasPlace (hashes es) q ⊎ HasPlace (hashes fs) q)
        → HasPlace (hashes (e ∷ es)) q ⊎ HasPlace (hashes fs) q
    go zero at rest = inl (zero, at)
    go (suc place) at rest = further (rest (place, at))
      where
        further : HasPlace (hashes es) q ⊎ HasPlace (hashes fs) q → HasPlace (hashes (e ∷ es)) q ⊎ HasPlace (hashes fs) q
        further (inl there) = inl (suc there.0, there.1)
        further (inr there) = inr there

place_of_front : (es : List Entry) (o q : ℕ) → HasPlace (hashes (take o es)) q → HasPlace (hashes es) q
place_of_front es o q has = (has.0, go es o has.0 has.1)
  where
    go : (gs : List Entry) (k place : ℕ) → slice_get (hashes (take k gs)) place ≡ Some q → slice_get (hashes gs) place ≡ Some q
    go gs zero place at = absurd (cc)
    go [] (suc k) place at = absurd (cc)
    go (g ∷ gs) (suc k) zero at = at
    go (g ∷ gs) (suc k) (suc place) at = go gs k place at

-- in the midst of a merge of hashes into entries: `tail` has what was merged, the first o entries and n hashes are left
pub record Merging (start : List Entry) (news : List ℕ) (tail : List Entry) (o n : ℕ) : Type 0 where
  pub old_within : o ≤ length start
  pub new_within : n ≤ length news
  pub same : pairs (take o start ++ tail) ≡ pairs start
  pub up : Ascends tail
  pub above_old : (k : ℕ) → k < o → Above (slice_index (hashes start) k) tail
  pub above_new : (k : ℕ) → k < n → Above (slice_index news k) tail
  pub kept : (k : ℕ) → o ≤ k → k < length start → HasPlace (hashes tail) (slice_index (hashes start) k)
  pub made : (k : ℕ) → n ≤ k → k < length news → HasPlace (hashes tail) (slice_index news k)
  pub only : (q : ℕ) → HasPlace (hashes tail) q → HasPlace (hashes start) q ⊎ Contains news q

pub merge-none : (start : List Entry) (news : List ℕ) (tail : List Entry) → tail ≡ [] → Merging start news tail (length start) (length news)
merge-none start news tail none = record {
  old_within = omega arith;
  new_within = omega arith;
  same = subst (λ l. pairs (take (length start) start ++ l) ≡ pairs start) (sym none) (ap pairs (append_nil (take (length start) start) ∙ take_whole start));
  up = subst Ascends (sym none) tt;
  above_old = λ k lt. subst (Above (slice_index (hashes start) k)) (sym none) tt;
  above_new = λ k lt. subst (Above (slice_index news k)) (sym none) tt;
  kept = λ k more lt. absurd (omega arith);
  made = λ k more lt. absurd (omega arith);
  only = λ q has. absurd (no_place q (subst (λ l. HasPlace (hashes l) q) none has));
}
  where
    no_place : (q : ℕ) → HasPlace (hashes []) q → ⊥
    no_place q has = let at = has.1 in cc

    append_nil : {X : Type 0} (xs : List X) → xs ++ [] ≡ xs
    append_nil [] = refl
    append_nil (x ∷ xs) = ap (λ l. x ∷ l) (append_nil xs)

    take_whole : {X : Type 0} (xs : List X) → take (length xs) xs ≡ xs
    take_whole [] = refl
    take_whole (x ∷ xs) = ap (λ l. x ∷ l) (take_whole xs)

pub merge-old : (start : List Entry) (news : List ℕ) (tail : List Entry) (o n : ℕ) (x : Entry) → IsStrictlyIncreasing (hashes start) → IsStrictlyIncreasing news
    → Merging start news tail (o + 1) (n + 1) → x ≡ get_or start o x → slice_index news n < x.hash → Merging start news (x ∷ tail) o (n + 1)
merge-old start news tail o n x up ascend merging is more =
    let within : o + 1 ≤ length start = merging.old_within in
    let some : n + 1 ≤ length news = merging.new_within in
    let here : slice_index (hashes start) o ≡ x.hash = hash_at start o x (omega arith) ∙ ap (λ e. e.hash) (sym is) in
    let front : take (o + 1) start ≡ take o start ++ x ∷ [] = take-next start o x (omega arith) ∙ ap (λ e. take o start ++ e ∷ []) (sym is) in
    let lengths : length (hashes start) ≡ length start = length-hashes start in
    record {
      old_within = omega arith;
      new_within = merging.new_within;
      same = ap pairs (sym (append_assoc (take o start) (x ∷ []) tail)) ∙ ap (λ l. pairs (l ++ tail)) (sym front) ∙ merging.same;
      up = (subst (λ h. Above h tail) here (merging.above_old o (omega arith)), merging.up);
      above_old = λ k lt. (subst (λ h. slice_index (hashes start) k < h) here (AllPairs-from_increasing (hashes start) up k o 0 lt (omega arith)), merging.above_old k (omega arith));
      above_new = λ k lt. (new_below k lt, merging.above_new k lt);
      kept = λ k from lt. old_there k from lt (k == o) refl;
      made = λ k from lt. let there = merging.made k from lt in (suc there.0, there.1);
      only = λ q has. old_only q has.0 has.1;
    }
  where
    old_only : (q place : ℕ) → slice_get (hashes (x ∷ tail)) place ≡ Some q → HasPlace (hashes start) q ⊎ Contains news q
    old_only q zero at =
        let same : x.hash ≡ q = cc in
        let within : o + 1 ≤ length start = merging.old_within in
        let lengths : length (hashes start) ≡ length start = length-hashes start in
        inl (o, index_got (hashes start) o q (omega arith) (hash_at start o x (omega arith) ∙ ap (λ e. e.hash) (sym is) ∙ same))
    old_only q (suc place) at = merging.only q (place, at)

    new_below : (k : ℕ) → k < n + 1 → slice_index news k < x.hash
    new_below k lt = go (k == n) refl
      where
        go : (b : Bool) → (k == n) ≡ b → slice_index news k < x.hash
        go true e = subst (λ j. slice_index news j < x.hash) (sym (eqb-true k n e)) more
        go false e =
            let ne : k ≢ n = eqb-false k n e in
            let within : n + 1 ≤ length news = merging.new_within in
            let before : slice_index news k < slice_index news n = AllPairs-from_increasing news ascend k n 0 (omega arith) (omega arith) in omega arith

    old_there : (k : ℕ) → o ≤ k → k < length start → (b : Bool) → (k == o) ≡ b → HasPlace (hashes (x ∷ tail)) (slice_index (hashes start) k)
    old_there k from lt true e =
        let same : k ≡ o = eqb-true k o e in
        (zero, ap Some (sym (ap (slice_index (hashes start)) same ∙ hash_at start o x (omega arith) ∙ ap (λ e. e.hash) (sym is))))
    old_there k from lt false e =
        let ne : k ≢ o = eqb-false k o e in
        let there = merging.kept k (omega arith) lt in (suc there.0, there.1)

pub merge-new : (start : List Entry) (news : List ℕ) (tail : List Entry) (o n h : ℕ) → IsStrictlyIncreasing (hashes start) → IsStrictlyIncreasing news
    → Merging start news tail o (n + 1) → h ≡ slice_index news n → ((k : ℕ) → k < o → slice_index (hashes start) k < h)
    → Merging start news (record { hash = h; slot = Vacant } ∷ tail) o n
merge-new start news tail o n h up ascend merging is below =
    let some : n + 1 ≤ length news = merging.new_within in
    record {
      old_within = merging.old_within;
      new_within = omega arith;
      same = pairs-append (take o start) (record { hash = h; slot = Vacant } ∷ tail) ∙ sym (pairs-append (take o start) tail) ∙ merging.same;
      up = (subst (λ x. Above x tail) (sym is) (merging.above_new n (omega arith)), merging.up);
      above_old = λ k lt. (below k lt, merging.above_old k lt);
      above_new = λ k lt. (subst (λ x. slice_index news k < x) (sym is) (AllPairs-from_increasing news ascend k n 0 lt (omega arith)), merging.above_new k (omega arith));
      kept = λ k from lt. let there = merging.kept k from lt in (suc there.0, there.1);
      made = λ k from lt. new_there k from lt (k == n) refl;
      only = λ q has. new_only q has.0 has.1;
    }
  where
    new_only : (q place : ℕ) → slice_get (hashes (record { hash = h; slot = Vacant } ∷ tail)) place ≡ Some q → HasPlace (hashes start) q ⊎ Contains news q
    new_only q zero at =
        let same : h ≡ q = cc in
        let some : n + 1 ≤ length news = merging.new_within in
        inr (n, omega arith, get_or_default news n q 0 (omega arith) ∙ sym is ∙ same)
    new_only q (suc place) at = merging.only q (place, at)

    new_there : (k : ℕ) → n ≤ k → k < length news → (b : Bool) → (k == n) ≡ b → HasPlace (hashes (record { hash = h; slot = Vacant } ∷ tail)) (slice_index news k)
    new_there k from lt true e = (zero, ap Some (is ∙ ap (slice_index news) (sym (eqb-true k n e))))
    new_there k from lt false e =
        let ne : k ≢ n = eqb-false k n e in
        let there = merging.made k (omega arith) lt in (suc there.0, there.1)

-- what stands below all of a list goes before it
pub ascends-append : (es fs : List Entry) → Ascends es → Ascends fs → ((k : ℕ) → k < length es → Above (slice_index (hashes es) k) fs) → Ascends (es ++ fs)
ascends-append [] fs up after above = after
ascends-append (e ∷ es) fs up after above = (both es up.0 (above 0 (omega arith)), ascends-append es fs up.1 after (λ k lt. above (suc k) (omega arith)))
  where
    both : (gs : List Entry) → Above e.hash gs → Above e.hash fs → Above e.hash (gs ++ fs)
    both [] a b = b
    both (g ∷ gs) a b = (a.0, both gs a.1 b)

take-ascends : (o : ℕ) (es : List Entry) → Ascends es → Ascends (take o es)
take-ascends zero es up = tt
take-ascends (suc o) [] up = tt
take-ascends (suc o) (e ∷ es) up = (part o es up.0, take-ascends o es up.1)
  where
    part : (k : ℕ) (gs : List Entry) → Above e.hash gs → Above e.hash (take k gs)
    part zero gs a = tt
    part (suc k) [] a = tt
    part (suc k) (g ∷ gs) a = (a.0, part k gs a.1)

take-index : (o k : ℕ) (es : List Entry) → k < o → slice_index (hashes (take o es)) k ≡ slice_index (hashes es) k
take-index zero k es lt = absurd (omega arith)
take-index (suc o) k [] lt = refl
take-index (suc o) zero (e ∷ es) lt = refl
take-index (suc o) (suc k) (e ∷ es) lt = take-index o k es (omega arith)

length_front : {X : Type 0} (o : ℕ) (xs : List X) → length (take o xs) ≤ o
length_front zero xs = omega arith
length_front (suc o) [] = omega arith
length_front (suc o) (x ∷ xs) = let rest = length_front o xs in omega (arith, rest)

-- a merge that is done
module _ (start : List Entry) (news : List ℕ) (tail all : List Entry) (o : ℕ) (up : IsStrictlyIncreasing (hashes start)) (merging : Merging start news tail o 0) (is : all ≡ take o start ++ tail) where
  pub merged-up : IsStrictlyIncreasing (hashes all)
  merged-up = subst (λ l. IsStrictlyIncreasing (hashes l)) (sym is) (ascends-to (take o start ++ tail)
      (ascends-append (take o start) tail (take-ascends o start (ascends-from start up)) merging.up
      (λ k lt. let few = length_front o start in subst (λ h. Above h tail) (sym (take-index o k start (omega (arith, few, lt)))) (merging.above_old k (omega (arith, few, lt))))))

  pub merged-same : pairs all ≡ pairs start
  merged-same = ap pairs is ∙ merging.same

  pub merged-kept : (q : ℕ) → HasPlace (hashes start) q → HasPlace (hashes all) q
  merged-kept q has = subst (λ l. HasPlace (hashes l) q) (sym is) (go (ltb has.0 o) refl)
    where
      go : (b : Bool) → ltb has.0 o ≡ b → HasPlace (hashes (take o start ++ tail)) q
      go true e = (has.0, place_before (take o start) tail has.0 q (place_in_front start o has.0 q (ltb-true has.0 o e) has.1))
      go false e =
          let found = got_index (hashes start) has.0 q has.1 in
          let within : has.0 < length (hashes start) = found.0 in
          let lengths : length (hashes start) ≡ length start = length-hashes start in
          place_behind (take o start) tail q (subst (HasPlace (hashes tail)) found.1 (merging.kept has.0 (ltb-false has.0 o e) (omega arith)))

  pub merged-only : (q : ℕ) → HasPlace (hashes all) q → HasPlace (hashes start) q ⊎ Contains news q
  merged-only q has = go (place_split (take o start) tail q (subst (λ l. HasPlace (hashes l) q) is has))
    where
      go : HasPlace (hashes (take o start)) q ⊎ HasPlace (hashes tail) q → HasPlace (hashes start) q ⊎ Contains news q
      go (inl front) = inl (place_of_front start o q front)
      go (inr behind) = merging.only q behind

  pub merged-made : All (HasPlace (hashes all)) news
  merged-made k d lt =
      let there : HasPlace (hashes tail) (slice_index news k) = merging.made k (omega arith) lt in
      subst (λ l. HasPlace (hashes l) (get_or news k d)) (sym is) (place_behind (take o start) tail (get_or news k d) (subst (HasPlace (hashes tail)) (get_or_default news k 0 d lt) there))

take-shorter : {X : Type 0} (o len : ℕ) (xs : List X) → o ≤ len → take o (take len xs) ≡ take o xs
take-shorter zero len xs le = refl
take-shorter (suc o) zero xs le = absurd (omega arith)
take-shorter (suc o) (suc len) [] le = refl
take-shorter (suc o) (suc len) (x ∷ xs) le = ap (λ l. x ∷ l) (take-shorter o len xs (omega arith))

module _ (es all : List Entry) (news : List ℕ) (len old new : ℕ) (room : length all ≡ len + length news) (same : length es ≡ length all)
    (up : IsStrictlyIncreasing (hashes (take len all))) (ascend : IsStrictlyIncreasing news)
    (front : take old es ≡ take old all) (merging : Merging (take len all) news (drop (old + new) es) old new) where
  old_fits : old ≤ len
  old_fits = let within : old ≤ length (take len all) = merging.old_within in let few = length_front len all in omega (arith, within, few)

  read_front : (k : ℕ) (d : Entry) → k < old → get_or es k d ≡ get_or (take len all) k d
  read_front k d lt = sym (get_or-take old es k d lt) ∙ ap (λ l. get_or l k d) front ∙ get_or-take old all k d lt ∙ sym (get_or-take len all k d (omega (arith, lt, old_fits)))

  tail_is : (x : Entry) → 0 < old + new → drop (old + new - 1) (slice_set es (old + new - 1) x) ≡ x ∷ drop (old + new) es
  tail_is x some =
      let within : new ≤ length news = merging.new_within in
      let next : old + new - 1 + 1 ≡ old + new = omega arith in
      drop-written es (old + new - 1) x (omega (arith, some, old_fits, within, room, same)) ∙ ap (λ k. x ∷ drop k es) next

  pub merge_step_old : (d : Entry) → 0 < new → 0 < old → slice_index news (new - 1) < (get_or es (old - 1) d).hash
      → (take (old - 1) (slice_set es (old + new - 1) (get_or es (old - 1) d)) ≡ take (old - 1) all)
      × Merging (take len all) news (drop (old - 1 + new) (slice_set es (old + new - 1) (get_or es (old - 1) d))) (old - 1) new
  merge_step_old d some left more =
      let start = take len all in
      let o = old - 1 in
      let n = new - 1 in
      let x = get_or es o d in
      let eo : old ≡ o + 1 = omega arith in
      let en : new ≡ n + 1 = omega arith in
      let before : Merging start news (drop (old + new) es) (o + 1) (n + 1) = subst (λ k. Merging start news (drop (old + new) es) k (n + 1)) eo (subst (λ k. Merging start news (drop (old + new) es) old k) en merging) in
      let within : old ≤ length start = merging.old_within in
      let is : x ≡ get_or start o x = read_front o d (omega arith) ∙ get_or_default start o d x (omega arith) in
      let after : Merging start news (x ∷ drop (old + new) es) o (n + 1) = merge-old start news (drop (old + new) es) o n x up ascend before is more in
      let place : old - 1 + new ≡ old + new - 1 = omega arith in
      let tail : drop (old - 1 + new) (slice_set es (old + new - 1) x) ≡ x ∷ drop (old + new) es = ap (λ k. drop k (slice_set es (old + new - 1) x)) place ∙ tail_is x (omega arith) in (
        take-written es (old + new - 1) o x (omega arith) ∙ sym (take-shorter o old es (omega arith)) ∙ ap (take o) front ∙ take-shorter o old all (omega arith),
        subst (λ l. Merging start news l o new) (sym tail) (subst (λ k. Merging start news (x ∷ drop (old + new) es) o k) (sym en) after),
      )

  pub merge_step_new : (d : Entry) → 0 < new → Lacks (hashes (take len all)) (slice_index news (new - 1)) → (0 < old → (get_or es (old - 1) d).hash ≤ slice_index news (new - 1))
      → (take old (slice_set es (old + new - 1) (record { hash = slice_index news (new - 1); slot = Vacant })) ≡ take old all)
      × Merging (take len all) news (drop (old + (new - 1)) (slice_set es (old + new - 1) (record { hash = slice_index news (new - 1); slot = Vacant }))) old (new - 1)
  merge_step_new d some lacks least =
      let start = take len all in
      let n = new - 1 in
      let h = slice_index news n in
      let x : Entry = record { hash = h; slot = Vacant } in
      let en : new ≡ n + 1 = omega arith in
      let before : Merging start news (drop (old + new) es) old (n + 1) = subst (λ k. Merging start news (drop (old + new) es) old k) en merging in
      let within : old ≤ length start = merging.old_within in
      let lengths : length (hashes start) ≡ length start = length-hashes start in
      let below : (k : ℕ) → k < old → slice_index (hashes start) k < h = λ k lt.
      let place = old - 1 in
      let there : slice_index (hashes start) place ≡ (get_or es place d).hash = hash_at start place d (omega arith) ∙ ap (λ e. e.hash) (sym (read_front place d (omega arith))) in
      let le : (get_or es place d).hash ≤ h = least (omega arith) in
      let ne : slice_index (hashes start) place ≢ h = λ e. lacks place (index_got (hashes start) place h (omega arith) e) in
      all_below (hashes start) place h up (omega arith) (omega arith) k (omega arith) in
      let after : Merging start news (x ∷ drop (old + new) es) old n = merge-new start news (drop (old + new) es) old n h up ascend before refl below in
      let place : old + (new - 1) ≡ old + new - 1 = omega arith in
      let tail : drop (old + (new - 1)) (slice_set es (old + new - 1) x) ≡ x ∷ drop (old + new) es = ap (λ k. drop k (slice_set es (old + new - 1) x)) place ∙ tail_is x (omega arith) in
      (take-written es (old + new - 1) old x (omega arith) ∙ front, subst (λ l. Merging start news l old n) (sym tail) after)

  -- at the end all entries are those left in front and those merged
  pub merge_all : new ≤ 0 → (es ≡ take old (take len all) ++ drop (old + new) es) × Merging (take len all) news (drop (old + new) es) old 0
  merge_all none =
      let zero_left : new ≡ 0 = omega arith in
      let here : old ≡ old + new = omega arith in (
        sym (take-append-drop old es) ∙ (λ i. front i ++ drop (here i) es) ∙ ap (λ l. l ++ drop (old + new) es) (sym (take-shorter old len all old_fits)),
        subst (λ k. Merging (take len all) news (drop (old + new) es) old k) zero_left merging,
      )

pub merge_begins : (all : List Entry) (news : List ℕ) (len : ℕ) → length all ≡ len + length news → Merging (take len all) news (drop (len + length news) all) len (length news)
merge_begins all news len room =
    let start = take len all in
    let lengths : length start ≡ len = length-take-le len all (omega arith) in
    let none : drop (len + length news) all ≡ [] = nothing_behind all (len + length news) (omega arith) in
    subst (λ k. Merging start news (drop (len + length news) all) k (length news)) lengths (merge-none start news (drop (len + length news) all) none)
  where
    nothing_behind : (xs : List Entry) (k : ℕ) → length xs ≤ k → drop k xs ≡ []
    nothing_behind [] zero le = refl
    nothing_behind [] (suc k) le = refl
    nothing_behind (x ∷ xs) zero le = absurd (omega arith)
    nothing_behind (x ∷ xs) (suc k) le = nothing_behind xs k (omega arith)
