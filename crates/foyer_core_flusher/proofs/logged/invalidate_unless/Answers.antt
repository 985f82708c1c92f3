use Rattle.std.proofs.Common.{Bool, Option, Some, map, sym, ap, subst, ◌∙◌}
use Rattle.foyer_core_model.specs.Flush.{invalidated_unless}
use Rattle.foyer_block_manager.specs.BlockSets.{Stands}
use Rattle.foyer_core_blocks.specs.Addresses.{invalid_of}
use Rattle.foyer_core_flusher.proofs.logged.invalidate_unless.Goals as goal

pub returns-in-None-clause-invalidated : goal.returns-in-None-clause-invalidated
returns-in-None-clause-invalidated g c = λ s st.
    subst (λ (o : Option Bool). Stands c.invalidate_all.new.manager (record s { stats = invalidated_unless s.block_set s.filling o (map invalid_of c.args.invalid.now) s.stats }))
    (sym c.in-None.is) (c.invalidate_all.ensures.invalidated s st)

pub returns-in-Some-true-clause-invalidated : goal.returns-in-Some-true-clause-invalidated
returns-in-Some-true-clause-invalidated g c = λ s st.
    subst (λ (o : Option Bool). Stands c.invalidate_all-in-Some-true.new.manager (record s { stats = invalidated_unless s.block_set s.filling o (map invalid_of c.args.invalid.now) s.stats }))
    (sym (c.in-Some-true.is ∙ ap Some c.in-Some-true.field-0-test)) (c.invalidate_all-in-Some-true.ensures.invalidated s st)
