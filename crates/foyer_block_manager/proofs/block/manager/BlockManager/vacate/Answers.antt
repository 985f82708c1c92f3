use Rattle.std.proofs.Common.{◌≡◌, IsTrue, true, false, subst}
use Rattle.foyer_block_manager.specs.Managed.{IsWritten}
use Rattle.foyer_block_manager.proofs.ClearingLemmas.{stays_vacant, becomes_vacant, written_as}
use Rattle.foyer_block_manager.proofs.ShownLemmas.{not_writing, shown_none, shown_one}
use Rattle.foyer_block_manager.proofs.block.manager.BlockManager.vacate.Goals as goal

pub returns-then-not-is_written-clause-vacated : goal.returns-then-not-is_written-clause-vacated
returns-then-not-is_written-clause-vacated g c = λ s st.
    stays_vacant c.args.self.now s c.args.block st c.requires
    (λ is. let yes : IsTrue c.is_written.result = c.is_written.ensures.1 is in let no_one : IsTrue false = subst IsTrue c.if-not-is_written.true yes in absurd (let clash : false ≡ true = no_one in cc))

pub returns-clause-vacated : goal.returns-clause-vacated
returns-clause-vacated g c = λ s st.
    let is : IsWritten c.args.self.now c.args.block = c.is_written.ensures.0 c.if-not-is_written.false in
    becomes_vacant c.args.self.now c.on_writing_finish.new.self s c.args.block st is (c.on_writing_finish.ensures.left s st)

pub returns-then-not-is_written-clause-shown : goal.returns-then-not-is_written-clause-shown
returns-then-not-is_written-clause-shown g c =
    shown_none g.P.EvictionPicker.learns (c.args.self.now).blocks c.args.block c.args.pickers.now (not_writing c.args.self.now c.args.block c.is_written.result c.is_written.ensures.1 c.if-not-is_written.true)

pub returns-clause-shown : goal.returns-clause-shown
returns-clause-shown g c =
    shown_one g.P.EvictionPicker.learns (c.args.self.now).blocks c.args.block _ c.args.pickers.now c.on_writing_finish.new.pickers ((written_as c.args.self.now c.args.block).1 (c.is_written.ensures.0 c.if-not-is_written.false))
    c.on_writing_finish.ensures.shown
