-- What an enqueue makes of a keeper's shard.
use Rattle.std.specs.Prelude.{ℕ, Bool, Some}
use Rattle.foyer_core_shared.specs.Reply.{Reply}
use Rattle.foyer_core_shared.specs.Reply.TheVariants as reply
use Rattle.foyer_policy_keeper.specs.PieceMap.{PieceMap, ChangesAt, HoldsSame}
use Rattle.foyer_policy_piece.specs.Record.{Record}
use Rattle.foyer_policy_piece.specs.Referred.{Referred}

-- a piece under a number
abbrev pub reference_of : {K V P : Type 0} → Record K V P → ℕ → Referred K V P
reference_of piece number = record { piece = piece; number = number }

-- The piece is put into the map under its number if it is queued. Else the map stays.
abbrev pub IsPutWhereQueued : {K V P A : Type 0} → (K → K → Bool) → PieceMap K V P → PieceMap K V P → Referred K V P → Reply K V P A → Type 0
IsPutWhereQueued eq old new held (reply.Queued sequence) = ChangesAt eq old new held.piece.hash held.piece.key (Some held)
IsPutWhereQueued eq old new held answer = HoldsSame eq old new
