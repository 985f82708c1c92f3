-- The key under which an item is kept.
use Rattle.std.specs.Prelude.{ℕ, Bool, true, false, List, Option, Some}
use Rattle.base64.specs.Engines.{standard}
use Rattle.base64.specs.GeneralPurpose.{decoded_of}

-- what a key writes in base64, or the key itself
abbrev pub key_for : Bool → List ℕ → Option (List ℕ)
key_for true key = decoded_of standard key
key_for false key = Some key
