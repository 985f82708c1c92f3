use Rattle.std.proofs.Common.{◌≡◌, ◌≤◌, ℕ, drop}
use Rattle.foyer_core_laws.specs.Content.{meaning}
use Rattle.foyer_core_run.specs.AtRest.{KeepsOthers, Leads}
use Rattle.foyer_core_run.proofs.AccessLemmas.{AreWritten}
use Rattle.foyer_core_run.proofs.WriteRuns.{WritesSoFar}
use Rattle.foyer_core_run.proofs.accesses.write_block.Given as goal

abbrev pub invariant-writes : goal.invariant-writes
invariant-writes g l = record {
  known : g.D.Disk.is_known l.fn.disk → g.D.Disk.is_known l.disk;
  has : (b o n : ℕ) → g.D.Disk.surely_has l.fn.disk b o n → g.D.Disk.surely_has l.disk b o n;
  lies : (b o n : ℕ) → g.D.Disk.surely_lies l.fn.disk b o n → g.D.Disk.surely_lies l.disk b o n;
  counted : g.D.Disk.faults l.fn.disk ≤ g.D.Disk.faults l.disk;
  still : l.core.index ≡ l.fn.core.index;
  written : g.D.Disk.is_known l.fn.disk
      → AreWritten (meaning g.K.Code.encoding g.V.Code.encoding g.K.Code.is_encodable g.V.Code.is_encodable g.K.Code.is_decodable g.V.Code.is_decodable g.P.Properties.age)
      l.flusher l.block l.write-index l.write-items l.fn.core l.core (g.D.Disk.byte_at l.fn.disk) (g.D.Disk.byte_at l.disk);
  so_far : g.D.Disk.is_known l.fn.disk
      → WritesSoFar (meaning g.K.Code.encoding g.V.Code.encoding g.K.Code.is_encodable g.V.Code.is_encodable g.K.Code.is_decodable g.V.Code.is_decodable g.P.Properties.age)
      l.flusher l.block (drop l.write-index l.write-items) l.fn.core l.core (g.D.Disk.byte_at l.fn.disk) (g.D.Disk.byte_at l.disk);
  leads : Leads (meaning g.K.Code.encoding g.V.Code.encoding g.K.Code.is_encodable g.V.Code.is_encodable g.K.Code.is_decodable g.V.Code.is_decodable g.P.Properties.age)
      (KeepsOthers l.flusher) l.fn.core l.core;
  lent : (l.env.reinsertion ≡ l.fn.env.reinsertion) × (l.env.io ≡ l.fn.env.io);
}
