use Rattle.std.proofs.Common.{sym}
use Rattle.foyer_io_disk.specs.Disk.{SurelyCame}
use Rattle.foyer_block_recover.specs.Recovery.{marks_of}
use Rattle.foyer_core_run.proofs.OpenedRuns.{begun}
use Rattle.foyer_core_laws.specs.Content.{meaning}
use Rattle.foyer_storage_local.proofs.engine.LocalEngine.with_log.Goals as goal

pub returns-clause-begins : goal.returns-clause-begins
returns-clause-begins g c = λ sound.
    let m = meaning g.K.Code.encoding g.V.Code.encoding g.K.Code.is_encodable g.V.Code.is_encodable g.K.Code.is_decodable g.V.Code.is_decodable g.P.Properties.age in
    begun m c.args.settings sound c.in_ok-core.core (g.D.Disk.byte_at c.args.disk) (g.D.Disk.byte_at c.open.new.disk) (SurelyCame (g.D.Disk.surely_has c.args.disk) (g.D.Disk.surely_lies c.args.disk) (g.D.Disk.faults c.args.disk) (g.D.Disk.faults c.open.new.disk)) c.args.mode (marks_of c.args.marks.now) _
    c.in_ok-core.ensures.opened (sym c.open.ensures.same)
