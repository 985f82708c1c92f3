use Rattle.std.specs.Prelude.{◌≡◌, ◌≤◌, ℕ}
use Rattle.foyer_core_laws.specs.Content.{meaning}
use Rattle.foyer_core_run.specs.Causes.{HasCome}
use Rattle.foyer_core_run.specs.Destroys.{ClearsUpTo}
use Rattle.foyer_core_run.proofs.destroys.clear_blocks.Given as goal

abbrev pub invariant-each_block : goal.invariant-each_block
invariant-each_block g l = record {
  known : g.D.Disk.is_known l.fn.disk → g.D.Disk.is_known l.disk;
  lies : (b o n : ℕ) → g.D.Disk.surely_lies l.fn.disk b o n → g.D.Disk.surely_lies l.disk b o n;
  counted : g.D.Disk.faults l.fn.disk ≤ g.D.Disk.faults l.disk;
  clears : g.D.Disk.is_known l.fn.disk
      → ClearsUpTo (meaning g.K.Code.encoding g.V.Code.encoding g.K.Code.is_encodable g.V.Code.is_encodable g.K.Code.is_decodable g.V.Code.is_decodable g.P.Properties.age)
      (HasCome g.D.Disk.surely_lies g.D.Disk.faults l.fn.disk l.disk) l.block l.last l.fn.core l.core (g.D.Disk.byte_at l.fn.disk) (g.D.Disk.byte_at l.disk);
  lent : (l.env.reinsertion ≡ l.fn.env.reinsertion) × (l.env.io ≡ l.fn.env.io);
}
