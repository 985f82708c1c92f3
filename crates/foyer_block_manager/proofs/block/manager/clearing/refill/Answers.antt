use Rattle.std.proofs.Common.{ℕ, List, false, slice_index_or, refl, ap, arith}
use Rattle.foyer_block_manager.specs.Clearing.{with_next_filling}
use Rattle.foyer_block_manager.specs.declared.block.states.BlockState.{BlockState}
use Rattle.foyer_block_manager.specs.declared.block.states.BlockSet.TheVariants.{Clean}
use Rattle.foyer_block_manager.proofs.ClearingLemmas.{mapped_next, written_back}
use Rattle.foyer_block_manager.proofs.block.manager.clearing.refill.Goals as goal

pub each_block-preserved : goal.each_block-preserved
each_block-preserved g c =
    let items : List BlockState = c.each_block.state-items in
    let i : ℕ = c.each_block.state-index in
    let d : BlockState = record { block_set = Clean; filling = 0; statistics = record { invalid = 0; access = 0; probation = false } } in
    let x : BlockState = slice_index_or items i d in
    mapped_next with_next_filling c.deref_mut-state-items.result.now items i x d (record { block_set = x.block_set; filling = c.next_filling-state.result; statistics = x.statistics })
    c.each_block-test.true c.each_block.invariant refl
    (ap (λ (n : ℕ). let y : BlockState = record { block_set = x.block_set; filling = n; statistics = x.statistics } in y) c.next_filling-state.ensures)

pub returns : goal.returns
returns g c =
    written_back with_next_filling c.deref_mut-state-items.result.now c.args.blocks.now.items c.each_block.state-items c.each_block.state-index c.args.blocks.now.len
    c.each_block.invariant c.deref_mut-state-items.ensures.value c.each_block-test.false (omega (arith, c.args.blocks.now.ok.0))
