-- What a flag is encoded as is an encoding, and of no other flag.
use Rattle.std.specs.Prelude.{◌≡◌, Bool, true, false, refl}
use Rattle.foyer_format_code.specs.Codes.{flag_bytes, is_flag}

pub flag_encoded : (b : Bool) → is_flag (flag_bytes b) ≡ true
flag_encoded false = refl
flag_encoded true = refl

pub one_flag : (a b : Bool) → flag_bytes a ≡ flag_bytes b → a ≡ b
one_flag false false same = refl
one_flag false true same = cc
one_flag true false same = cc
one_flag true true same = refl
