-- Clean blocks and waiting flushers, as the model has them.
use Rattle.std.proofs.Common.{◌≡◌, ℕ, zero, suc, ◌+◌, ◌<◌, ◌≤◌, ◌==◌, nat_lt, Bool, true, false, not, ◌||◌, if◌then◌else◌, List, [], ◌∷◌, length, drop, Some, None, slice_index, refl, sym, ap, subst, ◌∙◌, arith}
use Rattle.std.specs.List.{list_any, filter, remove, items_where_true}
use Rattle.std.specs.List.Retain.{ReturnsInTurn, IsFiltered}
use Rattle.std.proofs.lemmas.Bool.{eqb-true, eqb-false, eq-eqb, ne_eqb}
use Rattle.std.proofs.lemmas.Bool.Decides.{nat_tests}
use Rattle.std.proofs.lemmas.List.{at_drop_more, at_drop_all}
use Rattle.foyer_core_model.specs.Flush.{first_usable}
use Rattle.foyer_core_model.specs.Ids.{is_id_in, without_id, AreDistinct}
use Rattle.foyer_core_model.specs.Numbers.{last_number}
use Rattle.foyer_core_model.proofs.Ids.{not_in_cases, same_in, later_in, in_not_in}

-- the first of a list, tested
usable_now : (F : ℕ → ℕ) (x : ℕ) (xs : List ℕ) → F x < last_number → first_usable F (x ∷ xs) ≡ Some x
usable_now F x xs lt = go (nat_lt (F x) last_number) refl
  where
    go : (t : Bool) → nat_lt (F x) last_number ≡ t → (if t then Some x else first_usable F xs) ≡ Some x
    go true e = refl
    go false e = absurd (grind (arith, nat_tests))

usable_later : (F : ℕ → ℕ) (x : ℕ) (xs : List ℕ) → last_number ≤ F x → first_usable F (x ∷ xs) ≡ first_usable F xs
usable_later F x xs le = go (nat_lt (F x) last_number) refl
  where
    go : (t : Bool) → nat_lt (F x) last_number ≡ t → (if t then Some x else first_usable F xs) ≡ first_usable F xs
    go true e = absurd (grind (arith, nat_tests))
    go false e = refl

-- one step of the walk over the clean blocks
pub usable_here : (F : ℕ → ℕ) (xs : List ℕ) (i : ℕ) → i < length xs → first_usable F xs ≡ first_usable F (drop i xs)
    → nat_lt (F (slice_index xs i)) last_number ≡ true → first_usable F xs ≡ Some (slice_index xs i)
usable_here F xs i lt walked test =
    walked ∙ at_drop_more (first_usable F) xs i 0 lt ∙ usable_now F (slice_index xs i) (drop (i + 1) xs) (grind (arith, nat_tests))

pub usable_further : (F : ℕ → ℕ) (xs : List ℕ) (i : ℕ) → i < length xs → first_usable F xs ≡ first_usable F (drop i xs)
    → nat_lt (F (slice_index xs i)) last_number ≡ false → first_usable F xs ≡ first_usable F (drop (i + 1) xs)
usable_further F xs i lt walked test =
    walked ∙ at_drop_more (first_usable F) xs i 0 lt ∙ usable_later F (slice_index xs i) (drop (i + 1) xs) (grind (arith, nat_tests))

pub none_usable : (F : ℕ → ℕ) (xs : List ℕ) (i : ℕ) → length xs ≤ i → first_usable F xs ≡ first_usable F (drop i xs) → first_usable F xs ≡ None
none_usable F xs i le walked = walked ∙ at_drop_all (first_usable F) xs i le

-- a list without an id that it doesn't have
not_there : (x : ℕ) (xs : List ℕ) → is_id_in x xs ≡ false → without_id x xs ≡ xs
not_there x [] is = refl
not_there x (y ∷ ys) is =
    let r : (x ≡ y → ⊥) × (is_id_in x ys ≡ false) = not_in_cases x y ys is in
    ap (λ t. if t then without_id x ys else y ∷ without_id x ys) (ne_eqb x y r.0) ∙ ap (λ l. y ∷ l) (not_there x ys r.1)

is_in_list : (xs : List ℕ) (i : ℕ) → i < length xs → is_id_in (slice_index xs i) xs ≡ true
is_in_list [] i lt = absurd (omega arith)
is_in_list (x ∷ xs) zero lt = same_in x xs
is_in_list (x ∷ xs) (suc i) lt = later_in (slice_index xs i) x xs (is_in_list xs i (omega arith))

-- if no id is in the list twice, an id leaves with its position
pub removed_is : (xs : List ℕ) (i : ℕ) → i < length xs → AreDistinct xs → remove xs i ≡ without_id (slice_index xs i) xs
removed_is [] i lt once = absurd (omega arith)
removed_is (x ∷ xs) zero lt once =
    sym (ap (λ t. if t then without_id x xs else x ∷ without_id x xs) (eq-eqb x x refl) ∙ not_there x xs once.0)
removed_is (x ∷ xs) (suc i) lt once =
    let there : is_id_in (slice_index xs i) xs ≡ true = is_in_list xs i (omega arith) in
    let ne : slice_index xs i ≡ x → ⊥ = λ e. in_not_in x xs (subst (λ k. is_id_in k xs ≡ true) e there) once.0 in
    ap (λ l. x ∷ l) (removed_is xs i (omega arith) once.1)
    ∙ sym (ap (λ t. if t then without_id (slice_index xs i) xs else x ∷ without_id (slice_index xs i) xs) (ne_eqb (slice_index xs i) x ne))

other_way : (x y : ℕ) → (x == y) ≡ (y == x)
other_way x y = go (x == y) refl
  where
    go : (t : Bool) → (x == y) ≡ t → t ≡ (y == x)
    go true e = sym (eq-eqb y x (sym (eqb-true x y e)))
    go false e = sym (ne_eqb y x (λ is. eqb-false x y e (sym is)))

-- the waiters by the tests of the code
pub is_id_in_any : (x : ℕ) (xs : List ℕ) → is_id_in x xs ≡ list_any (λ y. y == x) xs
is_id_in_any x [] = refl
is_id_in_any x (y ∷ ys) = ap (λ t. t || is_id_in x ys) (other_way x y) ∙ ap (λ t. (y == x) || t) (is_id_in_any x ys)

pub without_id_filter : (x : ℕ) (xs : List ℕ) → filter (λ y. not (y == x)) xs ≡ without_id x xs
without_id_filter x [] = refl
without_id_filter x (y ∷ ys) = go (y == x) (other_way x y) (without_id_filter x ys)
  where
    go : (t : Bool) → (x == y) ≡ t → filter (λ y. not (y == x)) ys ≡ without_id x ys
        → (if not t then y ∷ filter (λ y. not (y == x)) ys else filter (λ y. not (y == x)) ys) ≡ (if x == y then without_id x ys else y ∷ without_id x ys)
    go true e rest = rest ∙ sym (ap (λ t. if t then without_id x ys else y ∷ without_id x ys) e)
    go false e rest = ap (λ l. y ∷ l) rest ∙ sym (ap (λ t. if t then without_id x ys else y ∷ without_id x ys) e)

-- what a test leaves that stays the same in one regard
module _ {X P : Type 0} (R : P → X → Bool → P → Type 0) (test : X → Bool) (I : P → Type 0)
    (says : (p : P) (x : X) (b : Bool) (q : P) → I p → R p x b q → (b ≡ test x) × I q) where
  chosen : (p q : P) (bs : List Bool) (xs : List X) → I p → length bs ≡ length xs → ReturnsInTurn R p bs xs q
      → items_where_true bs xs ≡ filter test xs
  chosen p q [] [] i e h = refl
  chosen p q [] (x ∷ xs) i e h = absurd (omega arith)
  chosen p q (b ∷ bs) [] i e h = absurd h
  chosen p q (b ∷ bs) (x ∷ xs) i e h =
      let s : (b ≡ test x) × I h.0 = says p x b h.0 i h.1 in
      ap (λ c. items_where_true (c ∷ bs) (x ∷ xs)) s.0 ∙ go (test x) (chosen h.0 q bs xs s.1 (omega arith) h.2)
    where
      go : (c : Bool) → items_where_true bs xs ≡ filter test xs
          → items_where_true (c ∷ bs) (x ∷ xs) ≡ (if c then x ∷ filter test xs else filter test xs)
      go true rest = ap (λ l. x ∷ l) rest
      go false rest = rest

  pub filtered_is : (p : P) (xs ys : List X) → I p → IsFiltered R p xs ys → ys ≡ filter test xs
  filtered_is p xs ys i h = h.4 ∙ chosen p h.1 h.0 xs i h.2 h.3
