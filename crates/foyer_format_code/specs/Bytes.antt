-- At each width a number's bytes give it back, and bytes are those of the number that they encode.
use Rattle.std.specs.Prelude.{◌≡◌, ℕ, ◌%◌, ◌<◌, ◌^◌, List, [], ◌∷◌, length}
use Rattle.std.specs.Int.{Width, w8, w16, w32, w64, w128, byte_len, to_le_bytes, from_le_bytes}
use Rattle.std.proofs.Common.{arith, ap, get_or}
use Rattle.std.proofs.lemmas.Nat.{le_bytes_2, le_bytes_4, le_bytes_8, from_le_bytes-to_le_bytes_2, from_le_bytes-to_le_bytes_4, from_le_bytes-to_le_bytes_8}
use mir.Val.{bits}
use Rattle.foyer_format_code.specs.WideBytes.{read_written_16, written_read_16}

pub read_written : (w : Width) (n : ℕ) → n < 2 ^ bits w → from_le_bytes w (to_le_bytes w n) ≡ n
read_written w8 n fits = omega arith
read_written w16 n fits = from_le_bytes-to_le_bytes_2 n fits
read_written w32 n fits = from_le_bytes-to_le_bytes_4 n fits
read_written w64 n fits = from_le_bytes-to_le_bytes_8 n fits
read_written w128 n fits = read_written_16 n fits

written_read_1 : (bs : List ℕ) (n : ℕ) → length bs ≡ 1 → ((i : ℕ) → get_or bs i 0 < 256)
    → n ≡ from_le_bytes w8 bs → to_le_bytes w8 n ≡ bs
written_read_1 [] n one small is = absurd (omega arith)
written_read_1 (b ∷ []) n one small is =
    let below : b < 256 = small 0 in
    let low : n % 256 ≡ b = omega arith in
    ap (λ m. m ∷ []) low
written_read_1 (b ∷ c ∷ bs) n one small is = absurd (omega arith)

pub written_read : (w : Width) (bs : List ℕ) (n : ℕ) → length bs ≡ byte_len w
    → ((i : ℕ) → get_or bs i 0 < 256) → n ≡ from_le_bytes w bs → to_le_bytes w n ≡ bs
written_read w8 = written_read_1
written_read w16 = le_bytes_2
written_read w32 = le_bytes_4
written_read w64 = le_bytes_8
written_read w128 = written_read_16

-- what bytes encode fits
pub read_fits : (w : Width) (bs : List ℕ) → ((i : ℕ) → get_or bs i 0 < 256) → from_le_bytes w bs < 2 ^ bits w
read_fits w8 bs small = small 0
read_fits w16 bs small = omega (arith, small 0, small 1)
read_fits w32 bs small = omega (arith, small 0, small 1, small 2, small 3)
read_fits w64 bs small =
    omega (arith, small 0, small 1, small 2, small 3, small 4, small 5, small 6, small 7)
read_fits w128 bs small =
    omega (
      arith,
      small 0,
      small 1,
      small 2,
      small 3,
      small 4,
      small 5,
      small 6,
      small 7,
      small 8,
      small 9,
      small 10,
      small 11,
      small 12,
      small 13,
      small 14,
      small 15,
    )
