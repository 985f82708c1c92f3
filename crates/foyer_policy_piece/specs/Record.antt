-- What contracts see of a piece.
use Rattle.std.specs.Prelude.{ℕ}

-- an entry with its key's hash and its properties
pub record Record (K V P : Type 0) : Type 0 where
  pub key : K
  pub value : V
  pub hash : ℕ
  pub properties : P

abbrev pub record_of : {K V P : Type 0} → K → V → ℕ → P → Record K V P
record_of key value hash properties =
    record { key = key; value = value; hash = hash; properties = properties }
