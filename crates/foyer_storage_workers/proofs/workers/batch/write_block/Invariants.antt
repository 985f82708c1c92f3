use Rattle.std.specs.Prelude.{◌≡◌}
use Rattle.foyer_storage_engine.specs.Ending.{HoldsNamed}
use Rattle.foyer_storage_engine.specs.Issuing.{written_bytes}
use Rattle.foyer_storage_workers.proofs.WorkerStepLemmas.{GoesOn, ReportsSoMany}
use Rattle.foyer_storage_workers.proofs.workers.batch.write_block.Given as goal

abbrev pub invariant-writes : goal.invariant-writes
invariant-writes g l = record {
  parts : l.session.shares.parts ≡ l.fn.session.shares.parts;
  named : HoldsNamed l.fn.session l.session;
  known : g.O.Disk.is_known l.fn.disk → g.O.Disk.is_known l.disk;
  reported : g.O.Disk.is_known l.fn.disk → ReportsSoMany l.flusher l.write-index l.session;
  so_far : g.O.Disk.is_known l.fn.disk
      → GoesOn (λ w. w.offset) (λ w. written_bytes w.bytes) l.flusher l.block l.writes l.write-index (g.O.Disk.byte_at l.fn.disk) (g.O.Disk.byte_at l.disk);
}
