use Rattle.std.proofs.Common.{inr, sym}
use Rattle.foyer_io_disk.specs.Disk.{SurelyCame}
use Rattle.foyer_core_laws.specs.Content.{meaning}
use Rattle.foyer_core_run.specs.Causes.{HasCome}
use Rattle.foyer_core_run.proofs.StoppedRuns.{over_zeros}
use Rattle.foyer_core_run.proofs.stopped.run_over_zeros.Goals as goal

pub returns-clause-runs : goal.returns-clause-runs
returns-clause-runs g c = λ sound.
    let m = meaning g.K.Code.encoding g.V.Code.encoding g.K.Code.is_encodable g.V.Code.is_encodable g.K.Code.is_decodable g.V.Code.is_decodable g.P.Properties.age in
    over_zeros m c.args.settings sound c.in_ok-core.core c.run_noted.new.core (g.D.Disk.byte_at c.args.disk.now) (g.D.Disk.byte_at c.open.new.disk) (g.D.Disk.byte_at c.run_noted.new.disk)
    (SurelyCame (g.D.Disk.surely_has c.args.disk.now) (g.D.Disk.surely_lies c.args.disk.now) (g.D.Disk.faults c.args.disk.now) (g.D.Disk.faults c.open.new.disk)) _ (inr c.requires.known) c.in_ok-core.ensures.opened (sym c.open.ensures.same) c.requires.zeros
    c.args.moves.items c.in_ok-kept.kept.replies.items (HasCome g.D.Disk.surely_lies g.D.Disk.faults c.open.new.disk c.run_noted.new.disk) c.in_ok-kept.kept.has_failed (c.in_ok-kept.ensures.runs (c.open.ensures.known c.requires.known))
