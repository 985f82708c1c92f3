use Rattle.std.specs.Prelude.{◌≡◌}
use Rattle.foyer_storage_workers.proofs.workers.reading.read_again.Given as goal

abbrev pub invariant-loop : goal.invariant-loop
invariant-loop g l = (g.O.Disk.is_known l.fn.disk → g.O.Disk.is_known l.disk) × (g.O.Disk.byte_at l.disk ≡ g.O.Disk.byte_at l.fn.disk)
