-- A number of 128 bits and its sixteen bytes: each gives the other back.
use Rattle.std.specs.Prelude.{◌≡◌, ℕ, ◌+◌, ◌*◌, ◌/◌, ◌%◌, ◌<◌, ◌^◌, List, [], ◌∷◌, length, refl}
use Rattle.std.specs.Int.{w128, to_le_bytes, from_le_bytes}
use Rattle.std.proofs.Common.{arith, ap, sym, ◌∙◌, get_or}
use Rattle.std.proofs.Math.Nat.{div-div-eq-div-mul}

-- the sum of the bytes at their places, and the same from the highest byte down
nested : (b0 b1 b2 b3 b4 b5 b6 b7 b8 b9 b10 b11 b12 b13 b14 b15 : ℕ)
    → b0 + b1 * 256 + b2 * 65536 + b3 * 16777216 + b4 * 4294967296 + b5 * 1099511627776
    + b6 * 281474976710656 + b7 * 72057594037927936 + b8 * 18446744073709551616
    + b9 * 4722366482869645213696 + b10 * 1208925819614629174706176
    + b11 * 309485009821345068724781056 + b12 * 79228162514264337593543950336
    + b13 * 20282409603651670423947251286016 + b14 * 5192296858534827628530496329220096
    + b15 * 1329227995784915872903807060280344576
    ≡ b0 + (b1 + (b2 + (b3 + (b4 + (b5 + (b6 + (b7 + (b8 + (b9 + (b10 + (b11 + (b12 + (b13 + (b14 + b15 * 256) * 256) * 256) * 256) * 256) * 256) * 256) * 256) * 256) * 256) * 256) * 256) * 256) * 256) * 256
nested b0 b1 b2 b3 b4 b5 b6 b7 b8 b9 b10 b11 b12 b13 b14 b15 = omega arith

byte_and_rest : (n p : ℕ) → n / p ≡ n / p % 256 + n / (p * 256) * 256
byte_and_rest n p = omega (arith, div-div-eq-div-mul n p 256)

-- one byte more on top of what is above it
onto : (n p rest : ℕ) → n / (p * 256) ≡ rest → n / p ≡ n / p % 256 + rest * 256
onto n p rest is = byte_and_rest n p ∙ ap (λ r. n / p % 256 + r * 256) is

pub read_written_16 : (n : ℕ) → n < 2 ^ 128 → from_le_bytes w128 (to_le_bytes w128 n) ≡ n
read_written_16 n fits =
    let at_15 : n / 1329227995784915872903807060280344576 ≡ n / 1329227995784915872903807060280344576 % 256 = omega arith in
    let at_14 = onto n 5192296858534827628530496329220096 _ at_15 in
    let at_13 = onto n 20282409603651670423947251286016 _ at_14 in
    let at_12 = onto n 79228162514264337593543950336 _ at_13 in
    let at_11 = onto n 309485009821345068724781056 _ at_12 in
    let at_10 = onto n 1208925819614629174706176 _ at_11 in
    let at_9 = onto n 4722366482869645213696 _ at_10 in
    let at_8 = onto n 18446744073709551616 _ at_9 in
    let at_7 = onto n 72057594037927936 _ at_8 in
    let at_6 = onto n 281474976710656 _ at_7 in
    let at_5 = onto n 1099511627776 _ at_6 in
    let at_4 = onto n 4294967296 _ at_5 in
    let at_3 = onto n 16777216 _ at_4 in
    let at_2 = onto n 65536 _ at_3 in
    let at_1 = onto n 256 _ at_2 in
    let at_0 : n ≡ n % 256 + n / 256 * 256 = omega arith in
    nested (n % 256) (n / 256 % 256) (n / 65536 % 256) (n / 16777216 % 256) (n / 4294967296 % 256) (n / 1099511627776 % 256) (n / 281474976710656 % 256) (n / 72057594037927936 % 256) (n / 18446744073709551616 % 256) (n / 4722366482869645213696 % 256) (n / 1208925819614629174706176 % 256) (n / 309485009821345068724781056 % 256) (n / 79228162514264337593543950336 % 256) (n / 20282409603651670423947251286016 % 256) (n / 5192296858534827628530496329220096 % 256) (n / 1329227995784915872903807060280344576 % 256)
    ∙ ap (λ r. n % 256 + r * 256) (sym at_1) ∙ sym at_0

low_byte : (t b rest : ℕ) → t ≡ b + rest * 256 → b < 256 → (t % 256 ≡ b) × (t / 256 ≡ rest)
low_byte t b rest is small = (omega arith, omega arith)

next_byte : (n p t b rest : ℕ) → n / p ≡ t → t ≡ b + rest * 256 → b < 256
    → (n / p % 256 ≡ b) × (n / (p * 256) ≡ rest)
next_byte n p t b rest at is small =
    let low = low_byte t b rest is small in
    (ap (λ m. m % 256) at ∙ low.0, sym (div-div-eq-div-mul n p 256) ∙ ap (λ m. m / 256) at ∙ low.1)

bytes_16 : (b0 b1 b2 b3 b4 b5 b6 b7 b8 b9 b10 b11 b12 b13 b14 b15 n : ℕ)
    → b0 < 256 → b1 < 256 → b2 < 256 → b3 < 256 → b4 < 256 → b5 < 256 → b6 < 256 → b7 < 256
    → b8 < 256 → b9 < 256 → b10 < 256 → b11 < 256 → b12 < 256 → b13 < 256 → b14 < 256
    → b15 < 256
    → n ≡ b0 + b1 * 256 + b2 * 65536 + b3 * 16777216 + b4 * 4294967296 + b5 * 1099511627776
    + b6 * 281474976710656 + b7 * 72057594037927936 + b8 * 18446744073709551616
    + b9 * 4722366482869645213696 + b10 * 1208925819614629174706176
    + b11 * 309485009821345068724781056 + b12 * 79228162514264337593543950336
    + b13 * 20282409603651670423947251286016 + b14 * 5192296858534827628530496329220096
    + b15 * 1329227995784915872903807060280344576
    → to_le_bytes w128 n ≡ b0 ∷ b1 ∷ b2 ∷ b3 ∷ b4 ∷ b5 ∷ b6 ∷ b7 ∷ b8 ∷ b9 ∷ b10 ∷ b11 ∷ b12 ∷ b13 ∷ b14 ∷ b15 ∷ []
bytes_16 b0 b1 b2 b3 b4 b5 b6 b7 b8 b9 b10 b11 b12 b13 b14 b15 n b0' b1' b2' b3' b4' b5' b6' b7' b8' b9' b10' b11' b12' b13' b14' b15' is =
    let from_15 : ℕ = b15 in
    let from_14 : ℕ = b14 + from_15 * 256 in
    let from_13 : ℕ = b13 + from_14 * 256 in
    let from_12 : ℕ = b12 + from_13 * 256 in
    let from_11 : ℕ = b11 + from_12 * 256 in
    let from_10 : ℕ = b10 + from_11 * 256 in
    let from_9 : ℕ = b9 + from_10 * 256 in
    let from_8 : ℕ = b8 + from_9 * 256 in
    let from_7 : ℕ = b7 + from_8 * 256 in
    let from_6 : ℕ = b6 + from_7 * 256 in
    let from_5 : ℕ = b5 + from_6 * 256 in
    let from_4 : ℕ = b4 + from_5 * 256 in
    let from_3 : ℕ = b3 + from_4 * 256 in
    let from_2 : ℕ = b2 + from_3 * 256 in
    let from_1 : ℕ = b1 + from_2 * 256 in
    let byte_0 = low_byte n b0 from_1 (is ∙ nested b0 b1 b2 b3 b4 b5 b6 b7 b8 b9 b10 b11 b12 b13 b14 b15) b0' in
    let byte_1 = next_byte n 256 from_1 b1 from_2 byte_0.1 refl b1' in
    let byte_2 = next_byte n 65536 from_2 b2 from_3 byte_1.1 refl b2' in
    let byte_3 = next_byte n 16777216 from_3 b3 from_4 byte_2.1 refl b3' in
    let byte_4 = next_byte n 4294967296 from_4 b4 from_5 byte_3.1 refl b4' in
    let byte_5 = next_byte n 1099511627776 from_5 b5 from_6 byte_4.1 refl b5' in
    let byte_6 = next_byte n 281474976710656 from_6 b6 from_7 byte_5.1 refl b6' in
    let byte_7 = next_byte n 72057594037927936 from_7 b7 from_8 byte_6.1 refl b7' in
    let byte_8 = next_byte n 18446744073709551616 from_8 b8 from_9 byte_7.1 refl b8' in
    let byte_9 = next_byte n 4722366482869645213696 from_9 b9 from_10 byte_8.1 refl b9' in
    let byte_10 = next_byte n 1208925819614629174706176 from_10 b10 from_11 byte_9.1 refl b10' in
    let byte_11 = next_byte n 309485009821345068724781056 from_11 b11 from_12 byte_10.1 refl b11' in
    let byte_12 = next_byte n 79228162514264337593543950336 from_12 b12 from_13 byte_11.1 refl b12' in
    let byte_13 = next_byte n 20282409603651670423947251286016 from_13 b13 from_14 byte_12.1 refl b13' in
    let byte_14 = next_byte n 5192296858534827628530496329220096 from_14 b14 from_15 byte_13.1 refl b14' in
    let byte_15 : n / 1329227995784915872903807060280344576 % 256 ≡ b15 = ap (λ m. m % 256) byte_14.1 ∙ (low_byte b15 b15 0 (omega arith) b15').0 in
    λ i. byte_0.0 i ∷ byte_1.0 i ∷ byte_2.0 i ∷ byte_3.0 i ∷ byte_4.0 i ∷ byte_5.0 i ∷ byte_6.0 i ∷ byte_7.0 i ∷ byte_8.0 i ∷ byte_9.0 i ∷ byte_10.0 i ∷ byte_11.0 i ∷ byte_12.0 i ∷ byte_13.0 i ∷ byte_14.0 i ∷ byte_15 i ∷ []

each_16 : (bs : List ℕ) → length bs ≡ 16
    → get_or bs 0 0 ∷ get_or bs 1 0 ∷ get_or bs 2 0 ∷ get_or bs 3 0 ∷ get_or bs 4 0 ∷ get_or bs 5 0 ∷ get_or bs 6 0 ∷ get_or bs 7 0 ∷ get_or bs 8 0 ∷ get_or bs 9 0 ∷ get_or bs 10 0 ∷ get_or bs 11 0 ∷ get_or bs 12 0 ∷ get_or bs 13 0 ∷ get_or bs 14 0 ∷ get_or bs 15 0 ∷ [] ≡ bs
each_16 [] l = absurd (omega arith)
each_16 (b0 ∷ []) l = absurd (omega arith)
each_16 (b0 ∷ b1 ∷ []) l = absurd (omega arith)
each_16 (b0 ∷ b1 ∷ b2 ∷ []) l = absurd (omega arith)
each_16 (b0 ∷ b1 ∷ b2 ∷ b3 ∷ []) l = absurd (omega arith)
each_16 (b0 ∷ b1 ∷ b2 ∷ b3 ∷ b4 ∷ []) l = absurd (omega arith)
each_16 (b0 ∷ b1 ∷ b2 ∷ b3 ∷ b4 ∷ b5 ∷ []) l = absurd (omega arith)
each_16 (b0 ∷ b1 ∷ b2 ∷ b3 ∷ b4 ∷ b5 ∷ b6 ∷ []) l = absurd (omega arith)
each_16 (b0 ∷ b1 ∷ b2 ∷ b3 ∷ b4 ∷ b5 ∷ b6 ∷ b7 ∷ []) l = absurd (omega arith)
each_16 (b0 ∷ b1 ∷ b2 ∷ b3 ∷ b4 ∷ b5 ∷ b6 ∷ b7 ∷ b8 ∷ []) l = absurd (omega arith)
each_16 (b0 ∷ b1 ∷ b2 ∷ b3 ∷ b4 ∷ b5 ∷ b6 ∷ b7 ∷ b8 ∷ b9 ∷ []) l = absurd (omega arith)
each_16 (b0 ∷ b1 ∷ b2 ∷ b3 ∷ b4 ∷ b5 ∷ b6 ∷ b7 ∷ b8 ∷ b9 ∷ b10 ∷ []) l = absurd (omega arith)
each_16 (b0 ∷ b1 ∷ b2 ∷ b3 ∷ b4 ∷ b5 ∷ b6 ∷ b7 ∷ b8 ∷ b9 ∷ b10 ∷ b11 ∷ []) l = absurd (omega arith)
each_16 (b0 ∷ b1 ∷ b2 ∷ b3 ∷ b4 ∷ b5 ∷ b6 ∷ b7 ∷ b8 ∷ b9 ∷ b10 ∷ b11 ∷ b12 ∷ []) l = absurd (omega arith)
each_16 (b0 ∷ b1 ∷ b2 ∷ b3 ∷ b4 ∷ b5 ∷ b6 ∷ b7 ∷ b8 ∷ b9 ∷ b10 ∷ b11 ∷ b12 ∷ b13 ∷ []) l = absurd (omega arith)
each_16 (b0 ∷ b1 ∷ b2 ∷ b3 ∷ b4 ∷ b5 ∷ b6 ∷ b7 ∷ b8 ∷ b9 ∷ b10 ∷ b11 ∷ b12 ∷ b13 ∷ b14 ∷ []) l = absurd (omega arith)
each_16 (b0 ∷ b1 ∷ b2 ∷ b3 ∷ b4 ∷ b5 ∷ b6 ∷ b7 ∷ b8 ∷ b9 ∷ b10 ∷ b11 ∷ b12 ∷ b13 ∷ b14 ∷ b15 ∷ []) l = refl
each_16 (b0 ∷ b1 ∷ b2 ∷ b3 ∷ b4 ∷ b5 ∷ b6 ∷ b7 ∷ b8 ∷ b9 ∷ b10 ∷ b11 ∷ b12 ∷ b13 ∷ b14 ∷ b15 ∷ x ∷ bs) l = absurd (omega arith)

pub written_read_16 : (bs : List ℕ) (n : ℕ) → length bs ≡ 16 → ((i : ℕ) → get_or bs i 0 < 256)
    → n ≡ from_le_bytes w128 bs → to_le_bytes w128 n ≡ bs
written_read_16 bs n l small is =
    bytes_16 _ _ _ _ _ _ _ _ _ _ _ _ _ _ _ _ n (small 0) (small 1) (small 2) (small 3) (small 4) (small 5) (small 6) (small 7) (small 8) (small 9) (small 10) (small 11) (small 12) (small 13) (small 14) (small 15) is
    ∙ each_16 bs l
