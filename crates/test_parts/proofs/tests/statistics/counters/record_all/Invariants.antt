use Rattle.std.proofs.Common.{◌≡◌}
use Rattle.test_parts.proofs.tests.statistics.counters.record_all.Given as goal

abbrev pub invariant-each : goal.invariant-each
invariant-each l = (l.seat.table ≡ l.statistics.table) × (l.seat.view.parts ≡ l.fn.seat.view.parts)
