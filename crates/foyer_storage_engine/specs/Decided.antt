-- What a store's load gives, of the keeper's piece and the engine's answer.
use Rattle.std.specs.Prelude.{Bool, Option, Some, None, if◌then◌else◌}
use Rattle.foyer_format_record.specs.declared.serde.ages.Age.TheVariants as age
use Rattle.foyer_policy_piece.specs.Record.{Record}
use Rattle.foyer_storage_engine.specs.declared.load.Load.{Load}
use Rattle.foyer_storage_engine.specs.declared.load.Load.TheVariants as load
use Rattle.foyer_storage_engine.specs.Loading.{is_of}

-- the keeper's piece, else the engine's answer, of which one with another key is a miss
abbrev pub decided_load : {K V P A : Type 0}
    → (K → K → Bool) → K → Option (Record K V P) → Load K V P A → Load K V P A
decided_load eq key (Some piece) answer = load.Piece piece (record { age = age.Young })
decided_load eq key None answer = if is_of eq key answer then answer else load.Miss
