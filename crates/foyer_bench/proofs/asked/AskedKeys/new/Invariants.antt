use Rattle.std.proofs.Common.{◌<◌, length}
use Rattle.foyer_bench.proofs.asked.AskedKeys.new.Given as goal

abbrev pub invariant-loop : goal.invariant-loop
invariant-loop l = 0 < length l.marks.items
