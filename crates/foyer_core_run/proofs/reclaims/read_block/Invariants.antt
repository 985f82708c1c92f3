use Rattle.std.proofs.Common.{◌≡◌, ◌≤◌, ℕ, Some}
use Rattle.foyer_core_laws.specs.Content.{meaning}
use Rattle.foyer_core_run.specs.AtRest.{Leads, Without}
use Rattle.foyer_core_run.specs.Reclaims.{KeepsUnread, Reads}
use Rattle.foyer_core_run.proofs.reclaims.read_block.Given as goal

abbrev pub invariant-parts : goal.invariant-parts
invariant-parts g l = record {
  known : g.D.Disk.is_known l.fn.disk → g.D.Disk.is_known l.disk;
  lies : (b o n : ℕ) → g.D.Disk.surely_lies l.fn.disk b o n → g.D.Disk.surely_lies l.disk b o n;
  counted : g.D.Disk.faults l.fn.disk ≤ g.D.Disk.faults l.disk;
  same : g.D.Disk.byte_at l.disk ≡ g.D.Disk.byte_at l.fn.disk;
  reads : g.D.Disk.is_known l.fn.disk → Reads (meaning g.K.Code.encoding g.V.Code.encoding g.K.Code.is_encodable g.V.Code.is_encodable g.K.Code.is_decodable g.V.Code.is_decodable g.P.Properties.age)
      l.block (Some l.fn.first) (Some l.part) l.fn.core l.core (g.D.Disk.byte_at l.fn.disk);
  leads : Leads (meaning g.K.Code.encoding g.V.Code.encoding g.K.Code.is_encodable g.V.Code.is_encodable g.K.Code.is_decodable g.V.Code.is_decodable g.P.Properties.age)
      (Without l.fn.env.reinsertion (KeepsUnread l.block)) l.fn.core l.core;
  lent : (l.env.reinsertion ≡ l.fn.env.reinsertion) × (l.env.io ≡ l.fn.env.io);
}
