use Rattle.std.proofs.Common.{◌≡◌, ◌<◌, ◌≤◌, length, arith}
use Rattle.foyer_block_manager.proofs.ShownLemmas.{changed_next, changed_all}
use Rattle.foyer_block_manager.proofs.block.eviction.init_all.Goals as goal

pub each_picker-preserved : goal.each_picker-preserved
each_picker-preserved g c =
    changed_next (λ p q. g.P.EvictionPicker.begins p c.args.blocks.now c.args.block_size q) c.args.pickers.now c.each_picker.pickers c.each_picker.picker-index c.picker-item.result
    c.init.new.self
    (let same : length c.each_picker.pickers ≡ length c.args.pickers.now = c.each_picker.auto.pickers in let lt : c.each_picker.picker-index < length c.args.pickers.now = c.each_picker-test.true in omega arith) c.each_picker.invariant c.in_ok-init.ensures.begins

pub returns-clause-begun : goal.returns-clause-begun
returns-clause-begun g c =
    let over : length c.each_picker.pickers ≤ c.each_picker.picker-index =
    (let same : length c.each_picker.pickers ≡ length c.args.pickers.now = c.each_picker.auto.pickers in omega (arith, c.each_picker-test.false)) in
    changed_all (λ p q. g.P.EvictionPicker.begins p c.args.blocks.now c.args.block_size q) c.args.pickers.now c.each_picker.pickers c.each_picker.picker-index over c.each_picker.invariant
