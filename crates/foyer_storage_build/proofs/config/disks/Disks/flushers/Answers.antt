use Rattle.std.proofs.Common.{arith}
use Rattle.std.proofs.lemmas.Grind.{common_steps}
use Rattle.foyer_storage_build.proofs.NumberingLemmas.{numbers_more}
use Rattle.foyer_storage_build.proofs.config.disks.Disks.flushers.Goals as goal

pub loop-flusher-preserved : goal.loop-flusher-preserved
loop-flusher-preserved g c = record {
  count = grind (arith, common_steps);
  seats = omega (arith, c.in_ok-flusher.ensures.seats, c.loop-flusher.invariant.seats);
  numbers = grind (arith, common_steps, numbers_more);
  blocks = grind (arith, common_steps);
}
