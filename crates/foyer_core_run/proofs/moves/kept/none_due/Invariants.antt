use Rattle.std.proofs.Common.{◌≡◌, None, replicate}
use Rattle.foyer_core_run.proofs.moves.kept.none_due.Given as goal

abbrev pub invariant-each_place : goal.invariant-each_place
invariant-each_place g l = l.list.items ≡ replicate l.counter None
