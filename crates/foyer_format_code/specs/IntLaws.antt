-- What a signed number is encoded as is an encoding, of no other number, and a number with a encoding fits.
use Rattle.std.specs.Prelude.{◌≡◌, ℕ, ℤ, pos, negsuc, ◌<◌, ◌^◌, Bool, List, [], length, true, if◌then◌else◌}
use Rattle.std.specs.Int.{Width, byte_len, to_le_bytes, from_le_bytes, cast_signed, cast_unsigned}
use Rattle.std.specs.Int.RustNames.{FitsSigned}
use Rattle.std.proofs.Common.{sym, ◌∙◌, ap, get_or}
use Rattle.std.proofs.Math.Facts.{Fits-of_z}
use Rattle.std.proofs.lemmas.Bool.{lt-ltb, ltb-true, eqb-true}
use Rattle.std.proofs.lemmas.Int.{to_z-of_z, of_z-to_z}
use mir.Val.{hbits}
use Rattle.foyer_format_code.specs.Bytes.{read_written, written_read, read_fits}
use Rattle.foyer_format_code.specs.CodeLaws.{full_length, not_empty, fits_if}
use Rattle.foyer_format_code.specs.Codes.{int_fits, int_bytes, is_number}

pub does_fit : (w : Width) (z : ℤ) → FitsSigned w z → int_fits w z ≡ true
does_fit w (pos n) fits = lt-ltb n (2 ^ hbits w) fits.sfits
does_fit w (negsuc n) fits = lt-ltb n (2 ^ hbits w) fits.sfits

so_fits : (w : Width) (z : ℤ) → int_fits w z ≡ true → FitsSigned w z
so_fits w (pos n) is = record { sfits = ltb-true n (2 ^ hbits w) is }
so_fits w (negsuc n) is = record { sfits = ltb-true n (2 ^ hbits w) is }

pub bytes_of_int : (w : Width) (z : ℤ) → FitsSigned w z
    → int_bytes w z ≡ to_le_bytes w (cast_unsigned w z)
unfolding int_bytes
bytes_of_int w z fits =
    ap (λ (b : Bool). if b then to_le_bytes w (cast_unsigned w z) else []) (does_fit w z fits)

pub int_length : (w : Width) (z : ℤ) → FitsSigned w z → length (int_bytes w z) ≡ byte_len w
int_length w z fits =
    ap length (bytes_of_int w z fits) ∙ eqb-true _ _ (full_length w (cast_unsigned w z))

pub int_size : (w : Width) (z : ℤ) → int_fits w z ≡ true → length (int_bytes w z) ≡ byte_len w
int_size w z fits = int_length w z (so_fits w z fits)

pub ruleset ints = (bytes_of_int, int_length, does_fit, int_size)

pub int_encoded : (w : Width) (z : ℤ) → int_fits w z ≡ true → is_number w (int_bytes w z) ≡ true
int_encoded w z fits =
    ap (is_number w) (bytes_of_int w z (so_fits w z fits)) ∙ full_length w (cast_unsigned w z)

pub int_coded : (w : Width) (z : ℤ) → is_number w (int_bytes w z) ≡ true → int_fits w z ≡ true
unfolding int_bytes
int_coded w z is =
    fits_if (is_number w) (to_le_bytes w (cast_unsigned w z)) (int_fits w z) (not_empty w) is

pub int_again : (w : Width) (z : ℤ) → FitsSigned w z
    → cast_signed w (from_le_bytes w (int_bytes w z)) ≡ z
int_again w z fits =
    let below = Fits-of_z {w = w} {z = z} fits in
    ap (λ b. cast_signed w (from_le_bytes w b)) (bytes_of_int w z fits)
    ∙ ap (cast_signed w) (read_written w (cast_unsigned w z) below.fits) ∙ to_z-of_z w z fits

pub one_int : (w : Width) (z y : ℤ) → int_fits w z ≡ true → int_fits w y ≡ true
    → int_bytes w z ≡ int_bytes w y → z ≡ y
one_int w z y a b same =
    sym (int_again w z (so_fits w z a)) ∙ ap (λ bytes. cast_signed w (from_le_bytes w bytes)) same
    ∙ int_again w y (so_fits w y b)

-- what was read is encoded as the bytes that it was read from
pub int_found : (w : Width) (bytes : List ℕ) (z : ℤ) → length bytes ≡ byte_len w
    → ((i : ℕ) → get_or bytes i 0 < 256) → FitsSigned w z
    → z ≡ cast_signed w (from_le_bytes w bytes) → int_bytes w z ≡ bytes
int_found w bytes z full small fits is =
    bytes_of_int w z fits
    ∙ written_read w bytes (cast_unsigned w z) full small
    (ap (cast_unsigned w) is ∙ of_z-to_z w (from_le_bytes w bytes) (read_fits w bytes small))
