use Rattle.std.proofs.Common.{◌≡◌}
use Rattle.foyer_core_laws.specs.Content.{meaning}
use Rattle.foyer_storage_local.specs.EntryCalls.{KeepsLies}
use Rattle.foyer_storage_local.proofs.LocalRuns.{Waited}
use Rattle.foyer_storage_local.proofs.engine.LocalEngine.keep_clean.Given as goal

abbrev pub invariant-loop : goal.invariant-loop
invariant-loop g l = Waited (meaning g.K.Code.encoding g.V.Code.encoding g.K.Code.is_encodable g.V.Code.is_encodable g.K.Code.is_decodable g.V.Code.is_decodable g.P.Properties.age) g.D.Disk.is_known g.D.Disk.byte_at g.D.Disk.surely_lies g.D.Disk.faults l.fn.self l.self
    × (l.self.env.reinsertion ≡ l.fn.self.env.reinsertion) × (l.self.env.io ≡ l.fn.self.env.io) × (l.self.hasher ≡ l.fn.self.hasher) × KeepsLies g.D.Disk.surely_lies g.D.Disk.faults l.fn.self.disk l.self.disk
