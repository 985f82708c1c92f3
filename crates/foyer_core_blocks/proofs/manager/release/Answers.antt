use Rattle.std.proofs.Common.{◌≡◌, ℕ, Option, Some, true, false, IsTrue, sym, subst}
use Rattle.foyer_core_model.specs.Flush.{released}
use Rattle.foyer_core_model.specs.State as model_state
use Rattle.foyer_block_manager.specs.BlockSets.{Stands}
use Rattle.foyer_block_manager.specs.Shown.{AreShownAll, written_of}
use Rattle.foyer_block_manager.proofs.ClearingLemmas.{written_as}
use Rattle.foyer_block_manager.proofs.ShownLemmas.{not_writing, shown_none, shown_one}
use Rattle.foyer_core_blocks.proofs.SetsLemmas.{written_in, unknown_set}
use Rattle.foyer_core_blocks.proofs.manager.release.Goals as goal

pub returns-then-not-is_written-clause-released : goal.returns-then-not-is_written-clause-released
returns-then-not-is_written-clause-released g c = λ s f st owned.
    let manager = c.args.manager.now in
    let own : c.args.own.now ≡ Some c.in-Some.block = cc in
    subst (λ (o : Option ℕ). Stands manager (record s { block_set = released o s.block_set })) (sym own)
    (unknown_set manager s c.in-Some.block model_state.Evictable st
    (λ lt.
    let yes : IsTrue c.is_written.result = c.is_written.ensures.1 (written_in manager s c.in-Some.block f st (owned c.in-Some.block own) lt) in
    let no_one : IsTrue false = subst IsTrue c.if-not-is_written.true yes in absurd (let clash : false ≡ true = no_one in cc)))

pub returns-clause-released : goal.returns-clause-released
returns-clause-released g c = λ s f st owned.
    let own : c.args.own.now ≡ Some c.in-Some.block = cc in
    subst (λ (o : Option ℕ). Stands c.on_writing_finish.new.self (record s { block_set = released o s.block_set })) (sym own)
    (c.on_writing_finish.ensures.left s st)

pub returns-then-not-is_written-clause-shown : goal.returns-then-not-is_written-clause-shown
returns-then-not-is_written-clause-shown g c =
    let own : c.args.own.now ≡ Some c.in-Some.block = cc in
    subst (λ (o : Option ℕ). AreShownAll g.P.EvictionPicker.learns (written_of (c.args.manager.now).blocks o) c.args.pickers.now c.args.pickers.now) (sym own)
    (shown_none g.P.EvictionPicker.learns (c.args.manager.now).blocks c.in-Some.block c.args.pickers.now
    (not_writing c.args.manager.now c.in-Some.block c.is_written.result c.is_written.ensures.1 c.if-not-is_written.true))

pub returns-clause-shown : goal.returns-clause-shown
returns-clause-shown g c =
    let own : c.args.own.now ≡ Some c.in-Some.block = cc in
    subst (λ (o : Option ℕ). AreShownAll g.P.EvictionPicker.learns (written_of (c.args.manager.now).blocks o) c.args.pickers.now c.on_writing_finish.new.pickers) (sym own)
    (shown_one g.P.EvictionPicker.learns (c.args.manager.now).blocks c.in-Some.block _ c.args.pickers.now c.on_writing_finish.new.pickers
    ((written_as c.args.manager.now c.in-Some.block).1 (c.is_written.ensures.0 c.if-not-is_written.false)) c.on_writing_finish.ensures.shown)
