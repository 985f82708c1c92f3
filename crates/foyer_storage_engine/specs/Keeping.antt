-- What an enqueue beside a keeper makes of its shard, and answers.
use Rattle.std.specs.Prelude.{◌≡◌, ◌⊎◌, Bool, Result, Ok, Err, Some}
use Rattle.foyer_core_shared.specs.Sessions.{SessionState}
use Rattle.foyer_core_shared.specs.declared.brief.StepBrief.{StepBrief}
use Rattle.foyer_device_page.specs.declared.error.Error.{Error}
use Rattle.foyer_device_page.specs.declared.error.Error.TheVariants as error
use Rattle.foyer_policy_keeper.specs.PieceMap.{PieceMap, ChangesAt, HoldsSame}
use Rattle.foyer_policy_piece.specs.Referred.{Referred}
use Rattle.foyer_storage_engine.specs.Answering.{IsAnsweredAs, enqueued_as}
use Rattle.foyer_storage_engine.specs.declared.engine.Enqueued.{Enqueued}
use Rattle.foyer_storage_engine.specs.declared.engine.Enqueued.TheVariants as enqueued

-- The piece is put into the map under its number if it is queued. Else the map stays.
abbrev pub IsKeptWhereQueued : {K V P : Type 0} → (K → K → Bool) → PieceMap K V P → PieceMap K V P → Referred K V P → Result Enqueued Error → Type 0
IsKeptWhereQueued eq old new held (Ok enqueued.Queued) = ChangesAt eq old new held.piece.hash held.piece.key (Some held)
IsKeptWhereQueued eq old new held answered = HoldsSame eq old new

-- The call made one step, as others do; or the keeper has no room or no number for the piece, and no step was made.
abbrev pub IsAnsweredUnlessFull : (keeps : Bool) → SessionState → SessionState → StepBrief → Result Enqueued Error → Type 0
IsAnsweredUnlessFull keeps old new given answered =
    IsAnsweredAs keeps enqueued_as old new given answered
    ⊎ ((new ≡ old) × ((answered ≡ Err error.Memory) ⊎ (answered ≡ Err error.SequenceEnd)))
