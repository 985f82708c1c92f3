use Rattle.std.proofs.Common.{sym, subst, ◌∙◌}
use Rattle.foyer_block_manager.specs.BlockSets.{Stands}
use Rattle.foyer_core_blocks.proofs.InvalidLemmas.{counted_one, left_one}
use Rattle.foyer_core_blocks.specs.Addresses.{invalid_of}
use Rattle.foyer_core_blocks.proofs.manager.invalidate.Goals as goal

pub returns-then-still_has-clause-invalidated : goal.returns-then-still_has-clause-invalidated
returns-then-still_has-clause-invalidated g c = λ s st.
    subst (Stands c.invalidate.new.self) (counted_one c.args.manager.now s st (invalid_of c.args.invalid.now) (sym c.still_has.ensures ∙ c.if-still_has.true))
    (c.invalidate.ensures.invalid s st)

pub returns-else-still_has-clause-invalidated : goal.returns-else-still_has-clause-invalidated
returns-else-still_has-clause-invalidated g c = λ s st.
    left_one c.args.manager.now s st (invalid_of c.args.invalid.now) (sym c.still_has.ensures ∙ c.if-still_has.false)
