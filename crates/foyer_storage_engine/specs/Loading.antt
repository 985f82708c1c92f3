-- What there is in the answer to a load.
use Rattle.std.specs.Prelude.{Bool, true, false, Option, Some, None}
use Rattle.foyer_storage_engine.specs.declared.load.Load.{Load}
use Rattle.foyer_storage_engine.specs.declared.load.Load.TheVariants as load
use Rattle.foyer_storage_engine.specs.declared.load.Populated.{Populated}

abbrev pub entry_of : {K V P A : Type 0} → Load K V P A → Option (K × V × Populated)
entry_of (load.Entry key value populated) = Some (key, value, populated)
entry_of (load.Piece piece populated) = None
entry_of load.Throttled = None
entry_of load.Miss = None

abbrev pub kv_of : {K V P A : Type 0} → Load K V P A → Option (K × V)
kv_of (load.Entry key value populated) = Some (key, value)
kv_of (load.Piece piece populated) = None
kv_of load.Throttled = None
kv_of load.Miss = None

abbrev pub is_miss : {K V P A : Type 0} → Load K V P A → Bool
is_miss (load.Entry key value populated) = false
is_miss (load.Piece piece populated) = false
is_miss load.Throttled = false
is_miss load.Miss = true

abbrev pub is_throttled : {K V P A : Type 0} → Load K V P A → Bool
is_throttled (load.Entry key value populated) = false
is_throttled (load.Piece piece populated) = false
is_throttled load.Throttled = true
is_throttled load.Miss = false

-- the key that it has, if any, is equal to this one
abbrev pub is_of : {K V P A : Type 0} → (K → K → Bool) → K → Load K V P A → Bool
is_of eq key (load.Entry own value populated) = eq own key
is_of eq key (load.Piece piece populated) = eq piece.key key
is_of eq key load.Throttled = true
is_of eq key load.Miss = true
