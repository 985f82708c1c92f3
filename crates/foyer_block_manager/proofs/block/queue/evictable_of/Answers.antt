use Rattle.std.proofs.Common.{◌≡◌, ◌<◌, ◌∙◌, true, length, take, slice_index, ap, subst, arith}
use Rattle.std.proofs.lemmas.List.{get_or_read}
use Rattle.std.specs.List.{filter}
use Rattle.foyer_block_manager.specs.Pickers.{is_evictable_in}
use Rattle.foyer_block_manager.proofs.QueueLemmas.{found_fits, found_more}
use Rattle.foyer_block_manager.proofs.block.queue.evictable_of.Goals as goal

pub add_if_evictable-requires : goal.add_if_evictable-requires
add_if_evictable-requires c = λ is.
    let ids = c.args.ids.now in
    let blocks = c.args.blocks.now in
    let lt : c.loop-index.index < length ids.items = omega (arith, c.requires.within) in
    let at : c.index.result.now ≡ slice_index ids.items c.loop-index.index = get_or_read ids.items c.loop-index.index c.index.result.now lt c.index.ensures 0 in
    let fits : length (filter (is_evictable_in blocks) (take c.loop-index.index ids.items)) < length blocks =
    found_fits blocks ids.items c.loop-index.index c.requires.once lt (subst (λ k. is_evictable_in blocks k ≡ true) at is) in
    let found : length c.loop-index.found.items ≡ length (filter (is_evictable_in blocks) (take c.loop-index.index ids.items)) = ap length c.loop-index.invariant.0 in
    omega (arith, c.loop-index.found.ok.0, c.loop-index.invariant.1, c.requires.room)

pub loop-index-preserved : goal.loop-index-preserved
loop-index-preserved c =
    let ids = c.args.ids.now in
    let lt : c.loop-index.index < length ids.items = omega (arith, c.requires.within) in
    let at : c.index.result.now ≡ slice_index ids.items c.loop-index.index = get_or_read ids.items c.loop-index.index c.index.result.now lt c.index.ensures 0 in (
      found_more (is_evictable_in c.args.blocks.now) ids.items c.loop-index.index c.index.result.now c.loop-index.found.items c.add_if_evictable.new.found.items lt at
          c.loop-index.invariant.0 c.add_if_evictable.ensures.found,
      c.add_if_evictable.ensures.room ∙ c.loop-index.invariant.1,
    )
