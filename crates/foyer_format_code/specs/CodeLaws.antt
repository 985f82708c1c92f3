-- What is encoded is an encoding, a encoding is of one value, and a value with a encoding can be encoded.
use Rattle.std.specs.Prelude.{◌≡◌, ℕ, ◌≤◌, ◌<◌, ◌^◌, Bool, List, [], take, drop, length, nat_lt, true, false, refl, if◌then◌else◌}
use Rattle.std.specs.Cmp.{first_so, second_so}
use Rattle.std.specs.Cmp.Derive.{both_true}
use Rattle.std.specs.Int.{Width, w8, w16, w32, w64, w128, byte_len, to_le_bytes, from_le_bytes}
use Rattle.std.proofs.Common.{sym, ◌∙◌, ap, subst, arith, get_or, length-append}
use Rattle.std.proofs.Math.Nat.{le-add_right}
use Rattle.std.proofs.lemmas.Bool.{le-leb, eq-eqb, lt-ltb, eqb-true, ltb-true}
use Rattle.std.proofs.lemmas.Nat.{from_le_bytes-to_le_bytes_8}
use borrow.Author.Tests.{both_ways}
use mir.Val.{bits}
use Rattle.foyer_format_code.specs.Bytes.{read_written, written_read}
use Rattle.foyer_format_code.specs.Codes.{number_bytes, is_number, counted, is_counted, is_sized_text, is_counted_text}

pub bytes_of_fitting : (w : Width) (n : ℕ) → n < 2 ^ bits w → number_bytes w n ≡ to_le_bytes w n
unfolding number_bytes
bytes_of_fitting w n fits =
    ap (λ (b : Bool). if b then to_le_bytes w n else []) (lt-ltb n (2 ^ bits w) fits)

pub full_length : (w : Width) (n : ℕ) → is_number w (to_le_bytes w n) ≡ true
full_length w8 n = refl
full_length w16 n = refl
full_length w32 n = refl
full_length w64 n = refl
full_length w128 n = refl

pub not_empty : (w : Width) → is_number w [] ≡ false
not_empty w8 = refl
not_empty w16 = refl
not_empty w32 = refl
not_empty w64 = refl
not_empty w128 = refl

pub number_length : (w : Width) (n : ℕ) → n < 2 ^ bits w → length (number_bytes w n) ≡ byte_len w
number_length w n fits = ap length (bytes_of_fitting w n fits) ∙ eqb-true _ _ (full_length w n)

pub sized_number : (n m : ℕ) → n < m → nat_lt n m ≡ true
sized_number n m less = lt-ltb n m less

pub number_size : (w : Width) (n : ℕ) → nat_lt n (2 ^ bits w) ≡ true → length (number_bytes w n) ≡ byte_len w
number_size w n fits = number_length w n (ltb-true n (2 ^ bits w) fits)

pub ruleset numbers = (bytes_of_fitting, number_length, sized_number, number_size)

pub number_encoded : (w : Width) (n : ℕ) → nat_lt n (2 ^ bits w) ≡ true → is_number w (number_bytes w n) ≡ true
number_encoded w n fits =
    ap (is_number w) (bytes_of_fitting w n (ltb-true n (2 ^ bits w) fits)) ∙ full_length w n

-- what is encoded by no bytes unless it fits, and is encoded, fits
pub fits_if : (p : List ℕ → Bool) (bytes : List ℕ) (b : Bool) → p [] ≡ false
    → p (if b then bytes else []) ≡ true → b ≡ true
fits_if p bytes true none is = refl
fits_if p bytes false none is = absurd (both_ways (p []) none is)

pub number_coded : (w : Width) (n : ℕ) → is_number w (number_bytes w n) ≡ true → nat_lt n (2 ^ bits w) ≡ true
unfolding number_bytes
number_coded w n is =
    fits_if (is_number w) (to_le_bytes w n) (nat_lt n (2 ^ bits w)) (not_empty w) is

pub number_again : (w : Width) (n : ℕ) → n < 2 ^ bits w → from_le_bytes w (number_bytes w n) ≡ n
number_again w n fits = ap (from_le_bytes w) (bytes_of_fitting w n fits) ∙ read_written w n fits

pub one_number : (w : Width) (n m : ℕ) → nat_lt n (2 ^ bits w) ≡ true → nat_lt m (2 ^ bits w) ≡ true
    → number_bytes w n ≡ number_bytes w m → n ≡ m
one_number w n m a b same =
    sym (number_again w n (ltb-true n (2 ^ bits w) a)) ∙ ap (from_le_bytes w) same
    ∙ number_again w m (ltb-true m (2 ^ bits w) b)

-- what was read is encoded as the bytes that it was read from
pub number_found : (w : Width) (bytes : List ℕ) (n : ℕ) → length bytes ≡ byte_len w
    → ((i : ℕ) → get_or bytes i 0 < 256) → n < 2 ^ bits w → n ≡ from_le_bytes w bytes
    → number_bytes w n ≡ bytes
number_found w bytes n full small fits is =
    bytes_of_fitting w n fits ∙ written_read w bytes n full small is

before : (bytes : List ℕ) → length bytes < 2 ^ 64
    → from_le_bytes w64 (take 8 (counted bytes)) ≡ length bytes
before bytes fits = from_le_bytes-to_le_bytes_8 (length bytes) fits

counted_long : (bytes : List ℕ) → 8 ≤ length (counted bytes)
counted_long bytes =
    let P : ℕ → Type 0 = λ n. 8 ≤ n in
    subst P (sym (length-append (to_le_bytes w64 (length bytes)) bytes)) (le-add_right 8 (length bytes))

pub counted_encoded : (bytes : List ℕ) → length bytes < 2 ^ 64 → is_counted (counted bytes) ≡ true
counted_encoded bytes fits =
    both_true (le-leb 8 (length (counted bytes)) (counted_long bytes)) (eq-eqb _ _ (before bytes fits))

pub one_list : (a b : List ℕ) → counted a ≡ counted b → a ≡ b
one_list a b same = ap (drop 8) same

bounded : (n : ℕ) → from_le_bytes w64 (to_le_bytes w64 n) < 2 ^ 64
bounded n = omega arith

sized : (bytes : List ℕ) → is_counted (counted bytes) ≡ true → length bytes < 2 ^ 64
sized bytes is =
    let given : from_le_bytes w64 (to_le_bytes w64 (length bytes)) ≡ length bytes = eqb-true _ _ (second_so _ _ is) in
    let P : ℕ → Type 0 = λ n. n < 2 ^ 64 in
    subst P given (bounded (length bytes))

pub bytes_encoded : (bytes : List ℕ) → nat_lt (length bytes) (2 ^ 64) ≡ true → is_counted (counted bytes) ≡ true
bytes_encoded bytes fits = counted_encoded bytes (ltb-true (length bytes) (2 ^ 64) fits)

pub bytes_coded : (bytes : List ℕ) → is_counted (counted bytes) ≡ true → nat_lt (length bytes) (2 ^ 64) ≡ true
bytes_coded bytes is = lt-ltb (length bytes) (2 ^ 64) (sized bytes is)

pub text_encoded : (bytes : List ℕ) → is_sized_text bytes ≡ true → is_counted_text (counted bytes) ≡ true
text_encoded bytes text =
    both_true (bytes_encoded bytes (first_so _ _ text)) (second_so _ _ text)

pub text_coded : (bytes : List ℕ) → is_counted_text (counted bytes) ≡ true → is_sized_text bytes ≡ true
text_coded bytes is =
    both_true (bytes_coded bytes (first_so _ _ is)) (second_so _ _ is)
