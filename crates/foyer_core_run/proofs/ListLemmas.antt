-- Places of lists.
use Rattle.std.proofs.Common.{◌≡◌, ℕ, ◌^◌, Bor, true, false, nat_lt, sym, zero, suc, ◌+◌, ◌<◌, ◌≤◌, List, [], ◌∷◌, ◌++◌, ◌⊎◌, inl, inr, drop, length, replicate, Option, Some, None, slice_get, refl, ap, ◌∙◌, arith}
use Rattle.std.proofs.lemmas.Bool.Decides.{nat_tests}
use Rattle.std.proofs.lemmas.Option.{slice_get_past}
use Rattle.std.specs.Prelude.{IfSome, MatchOption, is_some, slice_index_or}
use Rattle.foyer_block_index.proofs.Found.{slice_get_at}
use Rattle.foyer_core_steps.proofs.ListLemmas.{some_is}
use Rattle.foyer_core_run.specs.Running.{at}

module _ {X : Type 0} where
  pub get_left : (xs ys : List X) (i : ℕ) (x : X) → slice_get xs i ≡ Some x → slice_get (xs ++ ys) i ≡ Some x
  get_left [] ys zero x e = absurd (let f : None ≡ Some x = e in cc)
  get_left [] ys (suc i) x e = absurd (let f : None ≡ Some x = e in cc)
  get_left (y ∷ xs) ys zero x e = e
  get_left (y ∷ xs) ys (suc i) x e = get_left xs ys i x e

  pub get_here : (xs : List X) (y : X) → slice_get (xs ++ y ∷ []) (length xs) ≡ Some y
  get_here [] y = refl
  get_here (x ∷ xs) y = get_here xs y

  pub get_pushed : (xs : List X) (y : X) (n : ℕ) (x : X) → slice_get (xs ++ y ∷ []) n ≡ Some x
      → ((slice_get xs n ≡ Some x) × (n < length xs)) ⊎ ((n ≡ length xs) × (y ≡ x))
  get_pushed [] y zero x e = inr (refl, some_is e)
  get_pushed [] y (suc n) x e = absurd (let f : None ≡ Some x = e in cc)
  get_pushed (z ∷ xs) y zero x e = inl (e, omega arith)
  get_pushed (z ∷ xs) y (suc n) x e = elim (get_pushed xs y n x e) [
    | inl old ↦ inl (old.0, (let lt : n < length xs = old.1 in omega arith))
    | inr new ↦ inr (ap suc new.0, new.1)
  ]

  pub pushed_count : (xs : List X) (y : X) → length (xs ++ y ∷ []) ≡ length xs + 1
  pushed_count [] y = refl
  pushed_count (x ∷ xs) y = let e : length (xs ++ y ∷ []) ≡ length xs + 1 = pushed_count xs y in omega arith

  pub drop_at : (xs : List X) (n : ℕ) (x : X) → slice_get xs n ≡ Some x → drop n xs ≡ x ∷ drop (n + 1) xs
  drop_at [] zero x e = absurd (let f : None ≡ Some x = e in cc)
  drop_at [] (suc n) x e = absurd (let f : None ≡ Some x = e in cc)
  drop_at (y ∷ xs) zero x e = ap (λ z. z ∷ xs) (some_is e)
  drop_at (y ∷ xs) (suc n) x e =
      let same : suc (n + 1) ≡ suc n + 1 = omega arith in drop_at xs n x e ∙ ap (λ k. x ∷ drop k (y ∷ xs)) same

  pub drop_past : (xs : List X) (n : ℕ) → slice_get xs n ≡ None → drop n xs ≡ []
  drop_past [] zero e = refl
  drop_past [] (suc n) e = refl
  drop_past (y ∷ xs) zero e = absurd (let f : Some y ≡ None = e in cc)
  drop_past (y ∷ xs) (suc n) e = drop_past xs n e

  pub append_none : (xs : List X) → xs ++ [] ≡ xs
  append_none [] = refl
  append_none (x ∷ xs) = ap (λ ys. x ∷ ys) (append_none xs)

  pub past_end : (xs : List X) (n : ℕ) → slice_get xs n ≡ None → length xs ≤ n
  past_end [] n e = omega arith
  past_end (y ∷ xs) zero e = absurd (let f : Some y ≡ None = e in cc)
  past_end (y ∷ xs) (suc n) e = let le : length xs ≤ n = past_end xs n e in omega arith

  pub at_is : (o : Option (Option X)) (x : X) → at o ≡ Some x → o ≡ Some (Some x)
  at_is None x e = absurd (let f : None ≡ Some x = e in cc)
  at_is (Some y) x e = ap Some e

  pub append_twice : (xs ys zs : List X) → (xs ++ ys) ++ zs ≡ xs ++ (ys ++ zs)
  append_twice [] ys zs = refl
  append_twice (x ∷ xs) ys zs = ap (λ us. x ∷ us) (append_twice xs ys zs)

  pub found_at : (xs : List X) (i : ℕ) (x : X) → true ≡ nat_lt i (length xs) → x ≡ slice_index_or xs i x → slice_get xs i ≡ Some x
  found_at xs i x some is = slice_get_at xs i x (let e : nat_lt i (length xs) ≡ true = sym some in grind (arith, nat_tests)) is

  -- what a look into a list gives
  pub looked : (xs : List X) (i : ℕ) (o : Option (Bor X)) → is_some o ≡ nat_lt i (length xs) → IfSome o (λ x. x.now ≡ slice_index_or xs i x.now)
      → MatchOption o (slice_get xs i ≡ None) (λ x. slice_get xs i ≡ Some x.now)
  looked xs i None none is = slice_get_past xs i (let e : nat_lt i (length xs) ≡ false = sym none in grind (arith, nat_tests))
  looked xs i (Some x) some is = slice_get_at xs i x.now (let e : nat_lt i (length xs) ≡ true = sym some in grind (arith, nat_tests)) is

  -- the place behind one that is in a list has a number too
  pub has_room : (n i : ℕ) (o : Option (Bor X)) → is_some o ≡ nat_lt i n → n < 2 ^ 64 → IfSome o (λ _. i + 1 < 2 ^ 64)
  has_room n i None none small = tt
  has_room n i (Some x) some small = let e : nat_lt i n ≡ true = sym some in let lt : i < n = grind (arith, nat_tests) in omega arith

  pub empty_is : (xs : List X) → length xs ≡ 0 → xs ≡ []
  empty_is [] e = refl
  empty_is (x ∷ xs) e = absurd (omega arith)

  -- a list whose places have the same
  pub all_same : (xs : List X) (x : X) → ((i : ℕ) → i < length xs → slice_get xs i ≡ Some x) → xs ≡ replicate (length xs) x
  all_same [] x are = refl
  all_same (y ∷ xs) x are =
      ap (λ z. z ∷ xs) (some_is (are 0 (omega arith))) ∙ ap (λ zs. x ∷ zs) (all_same xs x (λ i lt. are (suc i) (omega (arith, lt))))
