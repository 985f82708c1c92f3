-- The mark of a delete.
use Rattle.std.specs.Prelude.{ℕ, ◌+◌}
use Rattle.foyer_core_model.specs.Index.{inserted}
use Rattle.foyer_core_model.specs.Numbers.{put}
use Rattle.foyer_core_model.specs.Queue.{invalidated_by, queued}
use Rattle.foyer_core_model.specs.Record.{Mark}
use Rattle.foyer_core_model.specs.Rules.{Rules, flusher_of}
use Rattle.foyer_core_model.specs.State.{Remove, State}

-- a state with the mark of a hash in its index and in the queue of its flusher
abbrev pub marked : {C : Type 0} → Rules C → State C → (hash sequence : ℕ) → State C
marked rules it hash sequence =
    record (queued rules it (flusher_of rules hash) (Remove hash sequence (invalidated_by rules sequence (it.index hash)))) {
      next = sequence + 1;
      index = put it.index hash (inserted (it.index hash) (Mark sequence));
    }
