-- How values are encoded. A number is the bytes of its width, the lowest first. For a negative
-- number, these are the bytes of its sum with 2 to the power of the width's bits. A flag is one
-- byte, 0 or 1. Bytes and texts are their length, encoded as a number of 64 bits, and themselves.
use Rattle.std.specs.Prelude.{ℕ, ℤ, pos, negsuc, ◌^◌, ◌==◌, ◌&&◌, nat_le, nat_lt, Bool, true, false, List, [], ◌∷◌, ◌++◌, length, take, drop, Option, Some, None, if◌then◌else◌}
use Rattle.std.specs.Int.{Width, w64, byte_len, to_le_bytes, from_le_bytes, cast_signed, cast_unsigned}
use Rattle.std.specs.Str.{is_utf8}
use mir.Val.{bits, hbits}

-- the bytes of a number of this width; no bytes if it doesn't fit
unfoldable pub number_bytes : Width → ℕ → List ℕ
number_bytes w n = if nat_lt n (2 ^ bits w) then to_le_bytes w n else []

abbrev pub is_number : Width → List ℕ → Bool
is_number w b = length b == byte_len w

-- the number that the bytes encode
abbrev pub number_read : Width → List ℕ → Option ℕ
number_read w b = if is_number w b then Some (from_le_bytes w b) else None

-- from minus half of the width's numbers up to, and without, half of them
abbrev pub int_fits : Width → ℤ → Bool
int_fits w (pos n) = nat_lt n (2 ^ hbits w)
int_fits w (negsuc n) = nat_lt n (2 ^ hbits w)

-- the bytes of a signed number of this width; no bytes if it doesn't fit
unfoldable pub int_bytes : Width → ℤ → List ℕ
int_bytes w z = if int_fits w z then to_le_bytes w (cast_unsigned w z) else []

-- the signed number that the bytes encode
abbrev pub int_read : Width → List ℕ → Option ℤ
int_read w b = if is_number w b then Some (cast_signed w (from_le_bytes w b)) else None

abbrev pub flag_bytes : Bool → List ℕ
flag_bytes false = 0 ∷ []
flag_bytes true = 1 ∷ []

-- the flag that the bytes encode
abbrev pub flag_read : List ℕ → Option Bool
flag_read (b ∷ []) = if b == 0 then Some false else if b == 1 then Some true else None
flag_read _ = None

abbrev pub is_flag : List ℕ → Bool
is_flag (b ∷ []) = nat_lt b 2
is_flag _ = false

-- eight bytes of length, and the bytes
abbrev pub counted : List ℕ → List ℕ
counted bytes = to_le_bytes w64 (length bytes) ++ bytes

-- the length, and as many bytes behind it
abbrev pub is_counted : List ℕ → Bool
is_counted b = nat_le 8 (length b) && (from_le_bytes w64 (take 8 b) == length (drop 8 b))

-- the bytes that are encoded so
abbrev pub bytes_read : List ℕ → Option (List ℕ)
bytes_read b = if is_counted b then Some (drop 8 b) else None

abbrev pub is_counted_text : List ℕ → Bool
is_counted_text b = is_counted b && is_utf8 (drop 8 b)

-- a text whose length has 64 bits
abbrev pub is_sized_text : List ℕ → Bool
is_sized_text bytes = nat_lt (length bytes) (2 ^ 64) && is_utf8 bytes

-- the text that the bytes encode
abbrev pub text_read : List ℕ → Option (List ℕ)
text_read b = if is_counted_text b then Some (drop 8 b) else None
