use Rattle.std.proofs.Common.{◌≡◌, ◌⊎◌, ◌+◌, ◌<◌, inl, inr, sym, ap, subst, ◌∙◌, arith, []}
use Rattle.foyer_core_model.specs.Ids.{is_id_in, AreDistinct}
use Rattle.foyer_block_recover.proofs.CleanLemmas.{clean_once, clean_below}
use Rattle.foyer_block_recover.proofs.EmptyLemmas.{none_at_end}
use Rattle.foyer_block_recover.proofs.OpeningLemmas.{ok_weakens}
use Rattle.foyer_block_recover.specs.Placed.{IsOpening}
use Rattle.foyer_block_recover.specs.Recovery.{IsRecovered, IsRefused, MayRefuse, marks_of, opened_of, sizes_of}
use Rattle.foyer_block_recover.specs.declared.block.recover.RecoverMode.TheVariants as recover_mode
use Rattle.foyer_block_recover.specs.declared.block.recover.RecoverRunner.{RecoverRunner}
use Rattle.foyer_device_page.specs.declared.error.Error.TheVariants as error
use Rattle.foyer_core_flusher.specs.Sizes.{sizes_in}
use Rattle.foyer_io_disk.specs.Disk.{SurelyCame}
use Rattle.foyer_core_steps.specs.Opened.{IsOpenedFrom}
use Rattle.foyer_core_steps.proofs.state.Core.open.Goals as goal

pub returns-clause-unsound : goal.returns-clause-unsound
returns-clause-unsound g c = λ bad. absurd (bad c.in_ok-runner.ensures.sound)

pub returns-in-Err-clause-unsound : goal.returns-in-Err-clause-unsound
returns-in-Err-clause-unsound g c = λ bad. absurd (bad c.in_ok-runner.ensures.sound)

pub begin-requires-clause-once : goal.begin-requires-clause-once
begin-requires-clause-once g c =
    let is = subst (λ (r : RecoverRunner). IsOpening (sizes_of r) r.blocks (marks_of c.args.marks.now) (opened_of c.in-Ok.recovered)) c.in_ok-runner.ensures.runner c.in-Ok.ensures.some in
    subst AreDistinct (sym is.clean) (clean_once is.keeps c.args.settings.blocks 0)

pub begin-requires-clause-there : goal.begin-requires-clause-there
begin-requires-clause-there g c = λ b among.
    let is = subst (λ (r : RecoverRunner). IsOpening (sizes_of r) r.blocks (marks_of c.args.marks.now) (opened_of c.in-Ok.recovered)) c.in_ok-runner.ensures.runner c.in-Ok.ensures.some in
    let lt : b < 0 + c.args.settings.blocks = clean_below is.keeps c.args.settings.blocks 0 b (ap (is_id_in b) (sym is.clean) ∙ among) in
    omega arith

pub returns-in-Err-clause-cause : goal.returns-in-Err-clause-cause
returns-in-Err-clause-cause g c = λ valid seen.
    let came = SurelyCame (g.D.Disk.surely_has c.args.disk.now) (g.D.Disk.surely_lies c.args.disk.now) (g.D.Disk.faults c.args.disk.now) (g.D.Disk.faults c.run.new.disk) in
    subst (λ (r : RecoverRunner). (r.mode ≡ recover_mode.None) ⊎ g.D.Disk.is_known c.args.disk.now
    → IsRefused (sizes_of r) r.blocks (g.D.Disk.byte_at c.args.disk.now) came r.mode (marks_of c.args.marks.now) c.in-Err.error) c.in_ok-runner.ensures.runner c.in-Err.ensures.refused seen

pub returns-in-Err-clause-refused : goal.returns-in-Err-clause-refused
returns-in-Err-clause-refused g c =
    let s = c.args.settings in
    let B = g.D.Disk.byte_at c.args.disk.now in
    let came = SurelyCame (g.D.Disk.surely_has c.args.disk.now) (g.D.Disk.surely_lies c.args.disk.now) (g.D.Disk.faults c.args.disk.now) (g.D.Disk.faults c.run.new.disk) in
    elim (subst (λ (r : RecoverRunner). MayRefuse r.mode c.in-Err.error) c.in_ok-runner.ensures.runner c.in-Err.ensures.refusals) [
      | inl memory ↦ inl memory
      | inr (inl recover) ↦ inr (inr (inl recover))
      | inr (inr end) ↦ inr (inr (inr (
        end,
        λ none unmarked.
            let refused = subst (λ (r : RecoverRunner). (r.mode ≡ recover_mode.None) ⊎ g.D.Disk.is_known c.args.disk.now
            → IsRefused (sizes_of r) r.blocks B came r.mode (marks_of c.args.marks.now) c.in-Err.error) c.in_ok-runner.ensures.runner c.in-Err.ensures.refused (inl none) in
            let some = subst (λ e. IsRefused (sizes_in s) s.blocks B came c.args.mode (marks_of c.args.marks.now) e) end refused in
            let at = subst (λ l. IsRefused (sizes_in s) s.blocks B came c.args.mode l error.SequenceEnd) (ap marks_of unmarked) some in
            let empty = subst (λ m. IsRefused (sizes_in s) s.blocks B came m [] error.SequenceEnd) none at in
            none_at_end (sizes_in s) s.blocks B empty.0 empty.2,
      )))
    ]

pub returns-clause-opened : goal.returns-clause-opened
returns-clause-opened g c =
    let s = c.args.settings in
    let B = g.D.Disk.byte_at c.args.disk.now in
    let marks = marks_of c.args.marks.now in
    let found = opened_of c.in-Ok.recovered in
    let came = SurelyCame (g.D.Disk.surely_has c.args.disk.now) (g.D.Disk.surely_lies c.args.disk.now) (g.D.Disk.faults c.args.disk.now) (g.D.Disk.faults c.run.new.disk) in
    let opening = subst (λ (r : RecoverRunner). IsOpening (sizes_of r) r.blocks marks found) c.in_ok-runner.ensures.runner c.in-Ok.ensures.some in
    let recovered = subst (λ (r : RecoverRunner). (r.mode ≡ recover_mode.None) ⊎ g.D.Disk.is_known c.args.disk.now → IsRecovered (sizes_of r) r.blocks B came r.mode marks found)
    c.in_ok-runner.ensures.runner c.in-Ok.ensures.recovered in
    ok_weakens c.begin.result _ (IsOpenedFrom s B came c.args.mode marks ((c.args.mode ≡ recover_mode.None) ⊎ g.D.Disk.is_known c.args.disk.now))
    (λ core is. record { found = found; opening = opening; recovered = recovered; opened = is }) c.begin.ensures.opened
