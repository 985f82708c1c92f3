-- Worked examples: the encodings of numbers, of flags and of a text.
use Rattle.std.specs.Prelude.{◌≡◌, [], ◌∷◌, negsuc, true, false, codes}
use Rattle.std.specs.Int.{w16, w64}
use Rattle.foyer_format_code.specs.Codes.{number_bytes, int_bytes, flag_bytes, counted}

abbrev pub NumberVector : Type 0
NumberVector = number_bytes w64 0x0102030405060708 ≡ 8 ∷ 7 ∷ 6 ∷ 5 ∷ 4 ∷ 3 ∷ 2 ∷ 1 ∷ []

-- -2 in 16 bits
abbrev pub IntVector : Type 0
IntVector = int_bytes w16 (negsuc 1) ≡ 0xfe ∷ 0xff ∷ []

abbrev pub FlagVector : Type 0
FlagVector = (flag_bytes false ≡ 0 ∷ []) × (flag_bytes true ≡ 1 ∷ [])

abbrev pub TextVector : Type 0
TextVector =
    counted (codes "abc") ≡ 3 ∷ 0 ∷ 0 ∷ 0 ∷ 0 ∷ 0 ∷ 0 ∷ 0 ∷ 0x61 ∷ 0x62 ∷ 0x63 ∷ []
