use Rattle.std.specs.Prelude.{◌≡◌, IfSome}
use Rattle.foyer_core_laws.specs.Content.{meaning}
use Rattle.foyer_core_run.specs.Causes.{HasCome}
use Rattle.foyer_core_run.specs.Destroys.{ClearsUpTo}
use Rattle.foyer_storage_local.specs.EntryCalls.{IsCleanFault, KeepsLies}
use Rattle.foyer_storage_local.proofs.engine.LocalEngine.clear_blocks.Given as goal

abbrev pub invariant-each_block : goal.invariant-each_block
invariant-each_block g l = record {
  clears : g.D.Disk.is_known l.fn.self.disk
      → ClearsUpTo (meaning g.K.Code.encoding g.V.Code.encoding g.K.Code.is_encodable g.V.Code.is_encodable g.K.Code.is_decodable g.V.Code.is_decodable g.P.Properties.age)
      (HasCome g.D.Disk.surely_lies g.D.Disk.faults l.fn.self.disk l.self.disk) l.block l.last l.fn.self.core l.self.core (g.D.Disk.byte_at l.fn.self.disk) (g.D.Disk.byte_at l.self.disk);
  known : g.D.Disk.is_known l.fn.self.disk → g.D.Disk.is_known l.self.disk;
  fault : IfSome l.first (IsCleanFault g.D.Disk.surely_lies g.D.Disk.faults g.D.Disk.may_answer l.fn.self.disk);
  lent : (l.self.env.reinsertion ≡ l.fn.self.env.reinsertion) × (l.self.env.io ≡ l.fn.self.env.io);
  hasher : l.self.hasher ≡ l.fn.self.hasher;
  counts : KeepsLies g.D.Disk.surely_lies g.D.Disk.faults l.fn.self.disk l.self.disk;
}
