use Rattle.std.proofs.Common.{◌≡◌, ◌<◌, ◌≤◌, ◌+◌, ◌∙◌, ℕ, List, length, slice_index, drop, nat_lt, if◌then◌else◌, ap, arith}
use Rattle.std.proofs.lemmas.List.{get_or_read}
use Rattle.foyer_core_model.specs.Flush.{usable_count}
use Rattle.foyer_core_model.specs.Numbers.{last_number}
use Rattle.foyer_block_manager.specs.Managed.{filling_in}
use Rattle.foyer_block_manager.proofs.BlockStateLemmas.{usable_at_most}
use Rattle.foyer_block_manager.proofs.ClearingLemmas.{counted_more, counted_all}
use Rattle.foyer_block_manager.proofs.block.manager.clearing.usable_of.Goals as goal

pub one_more-usable-requires : goal.one_more-usable-requires
one_more-usable-requires g c =
    let xs : List ℕ = c.args.clean.now.items in
    let F : ℕ → ℕ = filling_in c.args.blocks.now.items in
    let most : usable_count F xs ≤ length xs = usable_at_most F xs in
    omega (arith, c.each_index.invariant, c.requires)

pub each_index-preserved : goal.each_index-preserved
each_index-preserved g c =
    let xs : List ℕ = c.args.clean.now.items in
    let F : ℕ → ℕ = filling_in c.args.blocks.now.items in
    let i : ℕ = c.each_index.index in
    let lt : i < length xs = omega (arith, c.args.clean.now.ok.0) in
    let at : c.index.result.now ≡ slice_index xs i = get_or_read xs i c.index.result.now lt c.index.ensures 0 in
    ap (λ k. k + usable_count F (drop (i + 1) xs)) (c.one_more-usable.ensures ∙ ap (λ v. c.each_index.usable + (if nat_lt v last_number then 1 else 0)) c.filling_of.ensures)
    ∙ counted_more F xs i c.index.result.now c.each_index.usable lt at c.each_index.invariant

pub returns : goal.returns
returns g c = counted_all (filling_in c.args.blocks.now.items) c.args.clean.now.items c.each_index.index c.each_index.usable (omega (arith, c.args.clean.now.ok.0)) c.each_index.invariant
