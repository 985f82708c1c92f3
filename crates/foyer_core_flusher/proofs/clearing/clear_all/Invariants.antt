use Rattle.std.proofs.Common.{◌≡◌, map, take, drop, ◌++◌}
use Rattle.foyer_core_flusher.specs.Cleared.{cleared}
use Rattle.foyer_core_flusher.specs.Seen.{seen}
use Rattle.foyer_core_flusher.proofs.clearing.clear_all.Given as goal

abbrev pub invariant-each_flusher : goal.invariant-each_flusher
invariant-each_flusher g l = map seen l.flushers ≡ map cleared (take l.flusher-index (map seen l.fn.flushers)) ++ drop l.flusher-index (map seen l.fn.flushers)
