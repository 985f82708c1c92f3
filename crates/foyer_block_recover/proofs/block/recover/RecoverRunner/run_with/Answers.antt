use Rattle.std.proofs.Common.{◌+◌, ◌<◌, ◌≤◌, ◌^◌, refl, arith}
use Rattle.std.proofs.lemmas.Result.{err_from_is_err_and}
use Rattle.foyer_io_disk.specs.Disk.{SurelyCame}
use Rattle.foyer_block_recover.specs.Recovery.{sizes_of, marks_of}
use Rattle.foyer_block_recover.specs.Sources.{sure_of}
use Rattle.foyer_block_recover.specs.declared.block.recover.Recovered.{Recovered}
use Rattle.foyer_block_recover.proofs.OpeningLemmas.{opens, some_opening, at_end, before_marks}
use Rattle.foyer_block_recover.proofs.block.recover.RecoverRunner.run_with.Goals as goal

pub returns-clause-recovered : goal.returns-clause-recovered
returns-clause-recovered g c = λ bytes failed seen.
    let r = c.args.self.now in
    let after = c.take_marks.new.self in
    let opened : Recovered g.row.A.Denot = record { index = after.index; next = c.in-Some.next; clean = after.clean } in
    opens (sizes_of r) r.blocks bytes (sure_of (sizes_of r) c.args.listings.slots.items failed (SurelyCame (g.D.Disk.surely_has c.args.disk.now) (g.D.Disk.surely_lies c.args.disk.now) (g.D.Disk.faults c.args.disk.now) (g.D.Disk.faults c.read.new.disk))) r.mode (marks_of c.args.marks.now) c.in_ok-read.read after
    (c.in_ok-read.ensures.kept bytes failed seen) c.take_marks.ensures.taken c.take_marks.ensures.clean opened refl c.in-Some.ensures.1 c.in-Some.ensures.0 refl

pub returns-in_default-clause-refused : goal.returns-in_default-clause-refused
returns-in_default-clause-refused g c = λ bytes failed seen.
    let r = c.args.self.now in
    let after = c.take_marks.new.self in
    let no_more : after.greatest + 1 < 2 ^ 64 → ⊥ = c.in_default.ensures in
    let last : 2 ^ 64 ≤ after.greatest + 1 = omega arith in
    at_end (sizes_of r) r.blocks bytes (sure_of (sizes_of r) c.args.listings.slots.items failed (SurelyCame (g.D.Disk.surely_has c.args.disk.now) (g.D.Disk.surely_lies c.args.disk.now) (g.D.Disk.faults c.args.disk.now) (g.D.Disk.faults c.read.new.disk))) r.mode (marks_of c.args.marks.now) c.in_ok-read.read after
    (c.in_ok-read.ensures.kept bytes failed seen) c.take_marks.ensures.taken c.take_marks.ensures.clean last

pub returns-clause-some : goal.returns-clause-some
returns-clause-some g c =
    let r = c.args.self.now in
    let after = c.take_marks.new.self in
    let opened : Recovered g.row.A.Denot = record { index = after.index; next = c.in-Some.next; clean = after.clean } in
    some_opening (sizes_of r) r.blocks (marks_of c.args.marks.now) c.in_ok-read.read after c.in_ok-read.ensures.some
    c.take_marks.ensures.taken c.take_marks.ensures.clean opened refl c.in-Some.ensures.1 c.in-Some.ensures.0 refl

pub returns-in_err-read-clause-refused : goal.returns-in_err-read-clause-refused
returns-in_err-read-clause-refused g c = λ bytes failed seen.
    let r = c.args.self.now in
    let p = err_from_is_err_and c.from_residual.result c.from_residual.ensures.1 in
    before_marks (sizes_of r) r.blocks bytes (sure_of (sizes_of r) c.args.listings.slots.items failed (SurelyCame (g.D.Disk.surely_has c.args.disk.now) (g.D.Disk.surely_lies c.args.disk.now) (g.D.Disk.faults c.args.disk.now) (g.D.Disk.faults c.read.new.disk))) r.mode (marks_of c.args.marks.now)
    c.from_residual.result p.0 c.in_err-read.field-0.0 p.1 p.2 c.in_err-read.ensures.refusals (c.in_err-read.ensures.refused bytes failed seen)
