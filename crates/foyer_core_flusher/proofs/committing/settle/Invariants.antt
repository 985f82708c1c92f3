use Rattle.std.proofs.Common.{◌≡◌, map, take, drop, ◌++◌}
use Rattle.foyer_core_flusher.specs.FlusherSteps.{settled}
use Rattle.foyer_core_flusher.proofs.committing.settle.Given as goal

abbrev pub invariant-loop-record : goal.invariant-loop-record
invariant-loop-record g l =
    l.record-items ≡ map (settled l.block l.filling) (take l.record-index l.fn.records.items) ++ drop l.record-index l.fn.records.items
