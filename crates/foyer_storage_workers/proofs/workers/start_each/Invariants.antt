use Rattle.std.specs.Prelude.{◌≡◌, ◌+◌, ◌<◌, vec_len}
use Rattle.foyer_storage_workers.proofs.workers.start_each.Given as goal

abbrev pub invariant-loop-worker : goal.invariant-loop-worker
invariant-loop-worker g l = (l.session.shares.parts + vec_len l.running ≡ l.fn.session.shares.parts + vec_len l.fn.running)
    × (vec_len l.left < l.session.shares.parts) × (vec_len l.running + vec_len l.left ≡ vec_len l.fn.running + vec_len l.fn.workers)

abbrev pub decreases-loop-worker : goal.decreases-loop-worker
decreases-loop-worker g l = vec_len l.left
