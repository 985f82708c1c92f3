use Rattle.std.proofs.Common.{◌≡◌, ◌-◌, ◌<◌, true, subst, arith}
use Rattle.foyer_storage_engine.specs.Accessing.{IsCleanedBy}
use Rattle.foyer_storage_engine.specs.Answering.{is_draw_error}
use Rattle.foyer_storage_engine.specs.Ending.{EndsWithClean, IsUnbegun, is_late_error}
use Rattle.foyer_storage_engine.proofs.EndingLemmas.{ends_with, refused_or, unbegun_or, well_or}
use Rattle.foyer_storage_engine.proofs.engine.BlockEngine.destroy.Goals as goal

pub returns-clause-cleaned : goal.returns-clause-cleaned
returns-clause-cleaned g c =
    let all : c.loop-block.block ≡ c.args.self.now.settings.blocks = omega (arith, c.loop-block-test.false, c.loop-block.auto.block-end) in
    let came = IsCleanedBy g.D.Disk.is_known g.D.Disk.byte_at g.D.Disk.surely_has g.D.Disk.surely_lies g.D.Disk.faults in
    let ends : 0 < c.args.self.now.settings.blocks → EndsWithClean came (c.args.self.now.settings.blocks - 1) c.loop-block.session c.unwrap_or.result =
    subst (λ n. 0 < n → EndsWithClean came (n - 1) c.loop-block.session c.unwrap_or.result) all
    (λ some. ends_with came (c.loop-block.block - 1) c.loop-block.session c.loop-block.ended c.unwrap_or.result (c.loop-block.invariant.1 some) c.unwrap_or.ensures) in
    well_or c.unwrap_or.result ends

pub returns-clause-refused : goal.returns-clause-refused
returns-clause-refused g c =
    let all : c.loop-block.block ≡ c.args.self.now.settings.blocks = omega (arith, c.loop-block-test.false, c.loop-block.auto.block-end) in
    let came = IsCleanedBy g.D.Disk.is_known g.D.Disk.byte_at g.D.Disk.surely_has g.D.Disk.surely_lies g.D.Disk.faults in
    let ends : 0 < c.args.self.now.settings.blocks → EndsWithClean came (c.args.self.now.settings.blocks - 1) c.loop-block.session c.unwrap_or.result =
    subst (λ n. 0 < n → EndsWithClean came (n - 1) c.loop-block.session c.unwrap_or.result) all
    (λ some. ends_with came (c.loop-block.block - 1) c.loop-block.session c.loop-block.ended c.unwrap_or.result (c.loop-block.invariant.1 some) c.unwrap_or.ensures) in
    refused_or c.unwrap_or.result (λ e. is_draw_error e ≡ true) ends

pub returns-clause-unbegun : goal.returns-clause-unbegun
returns-clause-unbegun g c =
    let all : c.loop-block.block ≡ c.args.self.now.settings.blocks = omega (arith, c.loop-block-test.false, c.loop-block.auto.block-end) in
    let came = IsCleanedBy g.D.Disk.is_known g.D.Disk.byte_at g.D.Disk.surely_has g.D.Disk.surely_lies g.D.Disk.faults in
    let ends : 0 < c.args.self.now.settings.blocks → EndsWithClean came (c.args.self.now.settings.blocks - 1) c.loop-block.session c.unwrap_or.result =
    subst (λ n. 0 < n → EndsWithClean came (n - 1) c.loop-block.session c.unwrap_or.result) all
    (λ some. ends_with came (c.loop-block.block - 1) c.loop-block.session c.loop-block.ended c.unwrap_or.result (c.loop-block.invariant.1 some) c.unwrap_or.ensures) in
    unbegun_or c.unwrap_or.result (λ e. is_late_error e ≡ true) (λ e. IsUnbegun g.N.Noting.keeps c.loop-block.session e) ends
