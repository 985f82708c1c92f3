-- The number that digits write, one digit at a time.
use Rattle.std.proofs.Common.{◌≡◌, ℕ, ◌+◌, ◌-◌, ◌*◌, ◌^◌, ◌<◌, ◌≤◌, Bool, true, false, cond, List, [], ◌∷◌, length, get_or, drop, drop_of_length-le, Option, Some, None, refl, sym, ap, ◌∙◌, arith}
use Rattle.std.specs.Char.{is_ascii_digit}
use Rattle.std.proofs.lemmas.Bool.{le-ltb, lt-ltb}
use Rattle.std.proofs.lemmas.List.{drop_more}
use Rattle.foyer_memcached.specs.Words.{decimal_after, in_64_bits, number_of}
use Rattle.foyer_memcached.proofs.Options.{some_is, none_not}

module _ (digits : List ℕ) (i : ℕ) (within : i < length digits) (value : ℕ) (so_far : decimal_after value (drop i digits) ≡ decimal_after 0 digits) where
  next : decimal_after value (get_or digits i 0 ∷ drop (i + 1) digits) ≡ decimal_after 0 digits
  next = ap (decimal_after value) (sym (drop_more digits i 0 within)) ∙ so_far

  pub one_more : (more : ℕ) → is_ascii_digit (get_or digits i 0) ≡ true → more ≡ value * 10 + (get_or digits i 0 - 48) → decimal_after more (drop (i + 1) digits) ≡ decimal_after 0 digits
  unfolding decimal_after
  one_more more digit e =
      ap (λ (n : ℕ). decimal_after n (drop (i + 1) digits)) e ∙ sym (ap (λ (t : Bool). cond t (decimal_after (value * 10 + (get_or digits i 0 - 48)) (drop (i + 1) digits)) None) digit) ∙ next

  pub no_digit : is_ascii_digit (get_or digits i 0) ≡ false → decimal_after 0 digits ≡ None
  unfolding decimal_after
  no_digit other = sym next ∙ ap (λ (t : Bool). cond t (decimal_after (value * 10 + (get_or digits i 0 - 48)) (drop (i + 1) digits)) None) other

-- more digits don't make a number smaller
grows : (ds : List ℕ) (n m : ℕ) → decimal_after n ds ≡ Some m → n ≤ m
unfolding decimal_after
grows [] n m e = omega (arith, some_is n m e)
grows (d ∷ ds) n m e = go (is_ascii_digit d) (λ e. grows ds (n * 10 + (d - 48)) m e) e
  where
    go : (t : Bool) → (decimal_after (n * 10 + (d - 48)) ds ≡ Some m → n * 10 + (d - 48) ≤ m) → cond t (decimal_after (n * 10 + (d - 48)) ds) None ≡ Some m → n ≤ m
    go true more e = omega (arith, more e)
    go false more e = absurd (none_not m e)

pub number_none : (digits : List ℕ) → decimal_after 0 digits ≡ None → number_of digits ≡ None
unfolding number_of
number_none [] e = refl
number_none (d ∷ ds) e = ap in_64_bits e

pub number_empty : (digits : List ℕ) → length digits ≡ 0 → number_of digits ≡ None
unfolding number_of
number_empty [] e = refl
number_empty (d ∷ ds) e = absurd (omega (arith, e))

-- a number that grew too large
pub too_large : (digits ds : List ℕ) (n : ℕ) → decimal_after n ds ≡ decimal_after 0 digits → 2 ^ 64 ≤ n → number_of digits ≡ None
unfolding number_of
too_large [] ds n e large = refl
too_large (d ∷ es) ds n e large = go (decimal_after 0 (d ∷ es)) refl
  where
    go : (o : Option ℕ) → decimal_after 0 (d ∷ es) ≡ o → in_64_bits (decimal_after 0 (d ∷ es)) ≡ None
    go None is = ap in_64_bits is
    go (Some m) is =
        let more : n ≤ m = grows ds n m (e ∙ is) in
        ap in_64_bits is ∙ (rw (le-ltb m (2 ^ 64) (omega arith)) refl)

pub number_is : (digits : List ℕ) (i n : ℕ) → 0 < length digits → length digits ≤ i → decimal_after n (drop i digits) ≡ decimal_after 0 digits → n < 2 ^ 64 → number_of digits ≡ Some n
unfolding number_of decimal_after
number_is [] i n some past e small = absurd (omega (arith, some))
number_is (d ∷ ds) i n some past e small =
    let end : decimal_after 0 (d ∷ ds) ≡ Some n = sym e ∙ ap (decimal_after n) (drop_of_length-le (d ∷ ds) past) in
    ap in_64_bits end ∙ (rw (lt-ltb n (2 ^ 64) small) refl)
