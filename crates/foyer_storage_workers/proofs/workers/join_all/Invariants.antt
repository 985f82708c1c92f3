use Rattle.std.specs.Prelude.{◌≡◌, ◌+◌, vec_len}
use Rattle.foyer_storage_engine.specs.Ending.{HoldsNamed}
use Rattle.foyer_storage_workers.proofs.workers.join_all.Given as goal

abbrev pub invariant-loop-thread : goal.invariant-loop-thread
invariant-loop-thread g l = (l.all.shares.parts + vec_len l.threads ≡ l.initial.all.shares.parts + vec_len l.initial.threads)
    × HoldsNamed l.initial.all l.all × (l.all.newest ≡ l.initial.all.newest) × (l.all.before ≡ l.initial.all.before)

abbrev pub decreases-loop-thread : goal.decreases-loop-thread
decreases-loop-thread g l = vec_len l.threads
