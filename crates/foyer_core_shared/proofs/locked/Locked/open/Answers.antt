use Rattle.std.proofs.Common.{IfErr, ap, sym, subst, ◌∙◌}
use Rattle.std.proofs.lemmas.Result.{err_from_is_err_and}
use Rattle.foyer_block_recover.specs.Recovery.{IsRefused, marks_of}
use Rattle.foyer_block_recover.specs.Sources.{sure_of}
use Rattle.foyer_core_steps.specs.Sizes.{sizes_in}
use Rattle.foyer_io_disk.specs.Disk.{SurelyCame}
use Rattle.std.specs.Option.{is_some}
use Rattle.foyer_core_steps.specs.Content.{meaning}
use Rattle.foyer_core_shared.specs.Behind.{kept_notes}
use Rattle.foyer_core_shared.proofs.HistoryLemmas.{begins_with, noted_first, some_first}
use Rattle.foyer_core_shared.proofs.locked.Locked.open.Goals as goal

pub invariant_of-noted : goal.invariant_of-noted
invariant_of-noted g c = (
  noted_first (meaning g.K.Code.encoding g.V.Code.encoding g.K.Code.is_encodable g.V.Code.is_encodable g.K.Code.is_decodable g.V.Code.is_decodable g.P.Properties.age)
      c.args.settings _ _ _ _ _ c.in_ok-core.core c.keeps.result (kept_notes c.in_ok-notes.notes) c.open-calls.result.0
      c.in_ok-core.ensures.sound c.in_ok-core.ensures.some c.in_ok-notes.ensures.none c.open-calls.ensures.book,
  ap is_some c.in_ok-notes.ensures.none ∙ some_first c.keeps.result ∙ c.keeps.ensures,
)

pub returns-clause-begins : goal.returns-clause-begins
returns-clause-begins g c = λ bytes failed sources.
    begins_with (meaning g.K.Code.encoding g.V.Code.encoding g.K.Code.is_encodable g.V.Code.is_encodable g.K.Code.is_decodable g.V.Code.is_decodable g.P.Properties.age)
    c.args.settings _ _ _ _ _ c.in_ok-core.core c.in_ok-core.ensures.sound (c.in_ok-core.ensures.opened bytes failed sources)

pub returns-in_err-core-clause-cause : goal.returns-in_err-core-clause-cause
returns-in_err-core-clause-cause g c = λ bytes failed valid seen sources.
    let s = c.args.settings in
    let p = err_from_is_err_and c.from_residual-in_err-core.result c.from_residual-in_err-core.ensures.1 in
    let P = IsRefused (sizes_in s) s.blocks bytes (sure_of (sizes_in s) c.args.listings.slots.items failed
    (SurelyCame (g.D.Disk.surely_has c.args.disk.now) (g.D.Disk.surely_lies c.args.disk.now) (g.D.Disk.faults c.args.disk.now) (g.D.Disk.faults c.open_with.new.disk)))
    c.args.mode (marks_of c.args.marks.now) in
    subst (λ o. IfErr o P) (sym p.1) (subst P (sym p.2) (c.in_err-core.ensures.cause bytes failed valid seen sources))
