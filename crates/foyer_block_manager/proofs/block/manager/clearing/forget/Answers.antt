use Rattle.std.proofs.Common.{ℕ, List, Option, None, slice_index_or, refl, arith}
use Rattle.foyer_block_manager.proofs.ClearingLemmas.{mapped_next, written_back}
use Rattle.foyer_block_manager.proofs.block.manager.clearing.forget.Goals as goal

no_block : Option ℕ → Option ℕ
no_block o = None

pub each_flusher-preserved : goal.each_flusher-preserved
unfolding no_block
each_flusher-preserved g c =
    let items : List (Option ℕ) = c.each_flusher.given-items in
    let i : ℕ = c.each_flusher.given-index in
    mapped_next no_block c.deref_mut-given-items.result.now items i (slice_index_or items i None) None None c.each_flusher-test.true c.each_flusher.invariant refl refl

pub returns : goal.returns
unfolding no_block
returns g c =
    written_back no_block c.deref_mut-given-items.result.now c.args.ready.now.items c.each_flusher.given-items c.each_flusher.given-index c.args.ready.now.len
    c.each_flusher.invariant c.deref_mut-given-items.ensures.value c.each_flusher-test.false (omega (arith, c.args.ready.now.ok.0))
