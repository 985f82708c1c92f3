use Rattle.std.proofs.Common.{inr, sym, ap, ◌∙◌, ℕ}
use Rattle.foyer_io_disk.specs.Disk.{SurelyCame}
use Rattle.foyer_io_disk.proofs.FaultLemmas.{came_before}
use Rattle.foyer_block_recover.specs.Recovery.{marks_of}
use Rattle.foyer_core_laws.specs.Content.{meaning}
use Rattle.foyer_core_run.proofs.OpenedRuns.{lawful_from, opened_with_fewer}
use Rattle.foyer_core_run.proofs.opened.open_and_run.Goals as goal

pub returns-clause-lawful : goal.returns-clause-lawful
returns-clause-lawful g c = λ known sound bytes same.
    let m = meaning g.K.Code.encoding g.V.Code.encoding g.K.Code.is_encodable g.V.Code.is_encodable g.K.Code.is_decodable g.V.Code.is_decodable g.P.Properties.age in
    lawful_from m c.args.settings sound c.in_ok-core.core bytes (g.D.Disk.byte_at c.args.disk.now) (SurelyCame (g.D.Disk.surely_has c.args.disk.now) (g.D.Disk.surely_lies c.args.disk.now) (g.D.Disk.faults c.args.disk.now) (g.D.Disk.faults c.run.new.disk)) c.args.mode (marks_of c.args.marks.now) _ (inr known)
    (opened_with_fewer c.args.settings (g.D.Disk.byte_at c.args.disk.now) (SurelyCame (g.D.Disk.surely_has c.args.disk.now) (g.D.Disk.surely_lies c.args.disk.now) (g.D.Disk.faults c.args.disk.now) (g.D.Disk.faults c.open.new.disk)) (SurelyCame (g.D.Disk.surely_has c.args.disk.now) (g.D.Disk.surely_lies c.args.disk.now) (g.D.Disk.faults c.args.disk.now) (g.D.Disk.faults c.run.new.disk)) c.args.mode (marks_of c.args.marks.now) _ c.in_ok-core.core
    (came_before (g.D.Disk.surely_has c.args.disk.now) (g.D.Disk.surely_lies c.args.disk.now) (g.D.Disk.faults c.args.disk.now) (g.D.Disk.faults c.open.new.disk) (g.D.Disk.faults c.run.new.disk) c.open.ensures.counted c.run.ensures.counted)
    c.in_ok-core.ensures.opened)
    c.args.moves.items c.in_ok-replies.replies.items c.run.new.core (g.D.Disk.byte_at c.open.new.disk) (g.D.Disk.byte_at c.run.new.disk)
    (λ b o. same b o ∙ ap (λ (f : ℕ → ℕ → ℕ). f b o) (sym c.open.ensures.same))
    (c.in_ok-replies.ensures.runs (c.open.ensures.known known))
