use Rattle.std.specs.Prelude.{◌≡◌}
use Rattle.foyer_core_shared.specs.Sessions.{SessionState}
use Rattle.foyer_storage_engine.specs.Ending.{HoldsNamed}
use Rattle.foyer_storage_workers.specs.WorkerSteps.{AreReadFrom, first_part}
use Rattle.foyer_storage_workers.proofs.workers.reading.read_block.Given as goal

abbrev pub invariant-loop : goal.invariant-loop
invariant-loop g l = record {
  parts : l.session.shares.parts ≡ l.fn.session.shares.parts;
  named : HoldsNamed l.fn.session l.session;
  known : g.O.Disk.is_known l.fn.parts.disk → g.O.Disk.is_known l.parts.disk;
  same : g.O.Disk.byte_at l.parts.disk ≡ g.O.Disk.byte_at l.fn.parts.disk;
  all : g.O.Disk.is_known l.fn.parts.disk → (last : SessionState) → AreReadFrom g.row.A.Denot l.block (g.O.Disk.byte_at l.fn.parts.disk) last l.part
      → AreReadFrom g.row.A.Denot l.block (g.O.Disk.byte_at l.fn.parts.disk) last (first_part l.engine.settings.blob_index_size);
}
