use Rattle.std.proofs.Common.{◌≡◌, map}
use Rattle.std.specs.Prelude.{replicate, vec_len}
use Rattle.foyer_core_flusher.specs.Idle.{idle}
use Rattle.foyer_core_flusher.specs.Seen.{seen}
use Rattle.foyer_core_steps.proofs.open.idle_flushers.Given as goal

abbrev pub invariant-each_flusher : goal.invariant-each_flusher
invariant-each_flusher g l = record {
  count : vec_len l.flushers ≡ l.counter;
  idle : map seen l.flushers.items ≡ replicate l.counter (idle l.fn.settings);
}
