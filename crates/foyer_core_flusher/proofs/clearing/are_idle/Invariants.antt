use Rattle.std.proofs.Common.{◌≡◌, drop}
use Rattle.foyer_core_flusher.specs.Cleared.{are_still}
use Rattle.foyer_core_flusher.proofs.clearing.are_idle.Given as goal

-- all depends on those that are left
abbrev pub invariant-each_flusher : goal.invariant-each_flusher
invariant-each_flusher g l = are_still l.flushers ≡ are_still (drop l.flusher-index l.flushers)
