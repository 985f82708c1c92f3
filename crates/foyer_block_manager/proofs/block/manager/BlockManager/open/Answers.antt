use Rattle.std.proofs.Common.{◌≡◌, ◌≤◌, ℕ, length, replicate, vec_capacity, rules, arith}
use Rattle.std.specs.VecDeque.{deque_capacity}
use Rattle.foyer_block_manager.specs.Initial.{new_block}
use Rattle.foyer_block_manager.proofs.InitialLemmas.{kept_new}
use Rattle.foyer_block_manager.proofs.block.manager.BlockManager.open.Goals as goal

pub invariant_of-result : goal.invariant_of-result
invariant_of-result g c =
    let n : ℕ = c.args.config.blocks in
    let blocks = c.in_ok-blocks.blocks in
    let are : blocks.items ≡ replicate n new_block = c.in_ok-blocks.ensures.items_if_clones_equal (λ y is. search rules) in
    let size : length blocks.items ≡ n = omega (arith, c.in_ok-blocks.ensures.len, blocks.ok.0) in
    let room : n ≤ deque_capacity c.in_ok-clean.clean = omega (arith, c.in_ok-clean.ensures.exact) in
    let waits : length c.in_ok-ready.ready.items ≤ vec_capacity c.in_ok-waiting.waiting =
    omega (arith, c.in_ok-ready.ensures.len, c.in_ok-ready.ready.ok.0, c.in_ok-waiting.ensures.exact) in
    kept_new n c.in_ok-clean.clean.items c.in_ok-waiting.waiting.items c.in_ok-ready.ready.items blocks.items c.in_ok-evictable.evictable (deque_capacity c.in_ok-clean.clean) (vec_capacity c.in_ok-waiting.waiting)
    (omega arith) are c.in_ok-clean.ensures.items c.in_ok-waiting.ensures.items size c.in_ok-evictable.ensures.all c.in_ok-evictable.ensures.bound room waits
