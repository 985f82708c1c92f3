use Rattle.std.proofs.Common.{false, inl, inr, IfOk, IfErr}
use Rattle.foyer_io_disk.specs.Disk.{SurelyCame}
use Rattle.foyer_block_recover.specs.Recovery.{sizes_of, marks_of, opened_of, IsRecovered, IsRefused}
use Rattle.foyer_block_recover.proofs.SourcesLemmas.{none_listed, sure_of_none}
use Rattle.foyer_block_recover.proofs.block.recover.RecoverRunner.run.Goals as goal

pub returns-clause-recovered : goal.returns-clause-recovered
returns-clause-recovered g c = λ seen.
    let r = c.args.self.now in
    let B = g.D.Disk.byte_at c.args.disk.now in
    let S = SurelyCame (g.D.Disk.surely_has c.args.disk.now) (g.D.Disk.surely_lies c.args.disk.now) (g.D.Disk.faults c.args.disk.now) (g.D.Disk.faults c.run_with.new.disk) in
    sure_of_none (sizes_of r) c.none-none.result.slots.items c.none-none.ensures S
    (λ Q. IfOk c.run_with.result (λ recovered. IsRecovered (sizes_of r) r.blocks B Q r.mode (marks_of c.args.marks.now) (opened_of recovered)))
    (c.run_with.ensures.recovered B (λ b p. false)
    (elim seen [ inl none ↦ inl none | inr known ↦ inr (known, none_listed (sizes_of r) r.blocks B c.none-none.result.slots.items c.none-none.ensures) ]))

pub returns-clause-refused : goal.returns-clause-refused
returns-clause-refused g c = λ seen.
    let r = c.args.self.now in
    let B = g.D.Disk.byte_at c.args.disk.now in
    let S = SurelyCame (g.D.Disk.surely_has c.args.disk.now) (g.D.Disk.surely_lies c.args.disk.now) (g.D.Disk.faults c.args.disk.now) (g.D.Disk.faults c.run_with.new.disk) in
    sure_of_none (sizes_of r) c.none-none.result.slots.items c.none-none.ensures S
    (λ Q. IfErr c.run_with.result (IsRefused (sizes_of r) r.blocks B Q r.mode (marks_of c.args.marks.now)))
    (c.run_with.ensures.refused B (λ b p. false)
    (elim seen [ inl none ↦ inl none | inr known ↦ inr (known, none_listed (sizes_of r) r.blocks B c.none-none.result.slots.items c.none-none.ensures) ]))
