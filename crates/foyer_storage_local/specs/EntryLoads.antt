-- What there is in the answer to a load.
use Rattle.std.specs.Prelude.{Bool, true, false, Option, Some, None, Result, Ok, Err, if◌then◌else◌}
use Rattle.foyer_device_page.specs.declared.error.Error.{Error}
use Rattle.foyer_storage_local.specs.declared.load.Load.{Load}
use Rattle.foyer_storage_local.specs.declared.load.Load.TheVariants as load
use Rattle.foyer_storage_local.specs.declared.load.Populated.{Populated}

module _ {K V : Type 0} where
  abbrev pub entry_of : Load K V → Option (K × V × Populated)
  entry_of (load.Entry key value populated) = Some (key, value, populated)
  entry_of load.Throttled = None
  entry_of load.Miss = None

  abbrev pub kv_of : Load K V → Option (K × V)
  kv_of (load.Entry key value populated) = Some (key, value)
  kv_of load.Throttled = None
  kv_of load.Miss = None

  abbrev pub is_miss : Load K V → Bool
  is_miss (load.Entry key value populated) = false
  is_miss load.Throttled = false
  is_miss load.Miss = true

  abbrev pub is_throttled : Load K V → Bool
  is_throttled (load.Entry key value populated) = false
  is_throttled load.Throttled = true
  is_throttled load.Miss = false

  -- what is answered of a key whose hash has this: another key's entry is a miss
  abbrev pub of_key : (K → K → Bool) → K → Load K V → Load K V
  of_key eq key (load.Entry own value populated) = if eq own key then load.Entry own value populated else load.Miss
  of_key eq key load.Throttled = load.Throttled
  of_key eq key load.Miss = load.Miss

  -- and what a call answers of it
  abbrev pub answer_of_key : (K → K → Bool) → K → Result (Load K V) Error → Result (Load K V) Error
  answer_of_key eq key (Ok found) = Ok (of_key eq key found)
  answer_of_key eq key (Err e) = Err e
