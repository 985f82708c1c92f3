-- Whether counted bytes are text; and what encodings read as.
use Rattle.std.proofs.Common.{◌≡◌, ◌<◌, ◌^◌, ℕ, List, ◌&&◌, drop, length, true, false, refl, ap}
use Rattle.std.specs.Cmp.Derive.{both_true}
use Rattle.std.specs.Int.{Width, w8, w16, w32, w64, w128}
use Rattle.std.specs.Int.RustNames.{FitsSigned}
use Rattle.std.specs.Prelude.{Bool, ℤ, Some, nat_lt}
use Rattle.std.proofs.lemmas.Bool.{lt-ltb}
use Rattle.std.specs.Str.{IsUtf8, is_utf8}
use Rattle.std.proofs.lemmas.Str.{is_utf8-from_IsUtf8, IsUtf8-from_is_utf8}
use mir.Val.{bits}
use Rattle.foyer_format_code.specs.CodeLaws.{number_encoded, number_again, bytes_encoded, text_encoded}
use Rattle.foyer_format_code.specs.Codes.{number_bytes, number_read, int_bytes, int_read, flag_bytes, flag_read, counted, is_counted, is_sized_text, is_counted_text, bytes_read, text_read}
use Rattle.foyer_format_code.specs.IntLaws.{does_fit, int_encoded, int_again}

not_true : (a b : Bool) → (b ≡ true → ⊥) → (a && b) ≡ false
not_true a true isnt = absurd (isnt refl)
not_true true false isnt = refl
not_true false false isnt = refl

pub not_text : (b : List ℕ) → (IsUtf8 (drop 8 b) → ⊥) → is_counted_text b ≡ false
not_text b isnt = not_true (is_counted b) (is_utf8 (drop 8 b)) (λ e. isnt (IsUtf8-from_is_utf8 (drop 8 b) e))

pub is_text : (b : List ℕ) → is_counted b ≡ true → IsUtf8 (drop 8 b) → is_counted_text b ≡ true
is_text b count text = both_true count (is_utf8-from_IsUtf8 (drop 8 b) text)

pub sized_text : (b : List ℕ) → length b < 2 ^ 64 → IsUtf8 b → is_sized_text b ≡ true
sized_text b fits text = both_true (lt-ltb (length b) (2 ^ 64) fits) (is_utf8-from_IsUtf8 b text)

pub ruleset text_lemmas = (not_text, is_text, sized_text)

number_read_back : (w : Width) (n : ℕ) → n < 2 ^ bits w → number_read w (number_bytes w n) ≡ Some n
number_read_back w n fits =
    rw (number_encoded w n (lt-ltb n (2 ^ bits w) fits)) (ap (λ (m : ℕ). Some m) (number_again w n fits))

int_read_back : (w : Width) (z : ℤ) → FitsSigned w z → int_read w (int_bytes w z) ≡ Some z
int_read_back w z fits =
    rw (int_encoded w z (does_fit w z fits)) (ap (λ (y : ℤ). Some y) (int_again w z fits))

pub number_read_back_8 : (n : ℕ) → n < 2 ^ 8 → number_read w8 (number_bytes w8 n) ≡ Some n
number_read_back_8 = number_read_back w8

pub number_read_back_16 : (n : ℕ) → n < 2 ^ 16 → number_read w16 (number_bytes w16 n) ≡ Some n
number_read_back_16 = number_read_back w16

pub number_read_back_32 : (n : ℕ) → n < 2 ^ 32 → number_read w32 (number_bytes w32 n) ≡ Some n
number_read_back_32 = number_read_back w32

pub number_read_back_64 : (n : ℕ) → n < 2 ^ 64 → number_read w64 (number_bytes w64 n) ≡ Some n
number_read_back_64 = number_read_back w64

pub number_read_back_128 : (n : ℕ) → n < 2 ^ 128 → number_read w128 (number_bytes w128 n) ≡ Some n
number_read_back_128 = number_read_back w128

pub int_read_back_8 : (z : ℤ) → FitsSigned w8 z → int_read w8 (int_bytes w8 z) ≡ Some z
int_read_back_8 = int_read_back w8

pub int_read_back_16 : (z : ℤ) → FitsSigned w16 z → int_read w16 (int_bytes w16 z) ≡ Some z
int_read_back_16 = int_read_back w16

pub int_read_back_32 : (z : ℤ) → FitsSigned w32 z → int_read w32 (int_bytes w32 z) ≡ Some z
int_read_back_32 = int_read_back w32

pub int_read_back_64 : (z : ℤ) → FitsSigned w64 z → int_read w64 (int_bytes w64 z) ≡ Some z
int_read_back_64 = int_read_back w64

pub int_read_back_128 : (z : ℤ) → FitsSigned w128 z → int_read w128 (int_bytes w128 z) ≡ Some z
int_read_back_128 = int_read_back w128

pub flag_read_back : (b : Bool) → flag_read (flag_bytes b) ≡ Some b
flag_read_back false = refl
flag_read_back true = refl

pub bytes_read_back : (bytes : List ℕ) → nat_lt (length bytes) (2 ^ 64) ≡ true
    → bytes_read (counted bytes) ≡ Some bytes
bytes_read_back bytes fits = rw (bytes_encoded bytes fits) refl

pub text_read_back : (bytes : List ℕ) → is_sized_text bytes ≡ true → text_read (counted bytes) ≡ Some bytes
text_read_back bytes sized = rw (text_encoded bytes sized) refl
