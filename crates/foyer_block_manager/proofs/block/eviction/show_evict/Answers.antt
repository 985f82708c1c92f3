use Rattle.std.proofs.Common.{◌≡◌, ◌<◌, ◌≤◌, length, arith}
use Rattle.foyer_block_manager.specs.Pickers.{Info, picker_info}
use Rattle.foyer_block_manager.proofs.ShownLemmas.{changed_next, changed_all}
use Rattle.foyer_block_manager.proofs.block.eviction.show_evict.Goals as goal

pub each_picker-preserved : goal.each_picker-preserved
each_picker-preserved g c =
    let info : Info = picker_info c.args.info.blocks.now c.args.info.evictable.now c.args.info.clean in
    changed_next (λ p q. g.P.EvictionPicker.forgets p info c.args.id q) c.args.pickers.now c.each_picker.pickers c.each_picker.picker-index c.picker-item.result
    c.on_block_evict.new.self
    (let same : length c.each_picker.pickers ≡ length c.args.pickers.now = c.each_picker.auto.pickers in let lt : c.each_picker.picker-index < length c.args.pickers.now = c.each_picker-test.true in omega arith) c.each_picker.invariant c.on_block_evict.ensures.forgets

pub returns : goal.returns
returns g c =
    let info : Info = picker_info c.args.info.blocks.now c.args.info.evictable.now c.args.info.clean in
    let over : length c.each_picker.pickers ≤ c.each_picker.picker-index =
    (let same : length c.each_picker.pickers ≡ length c.args.pickers.now = c.each_picker.auto.pickers in omega (arith, c.each_picker-test.false)) in
    changed_all (λ p q. g.P.EvictionPicker.forgets p info c.args.id q) c.args.pickers.now c.each_picker.pickers c.each_picker.picker-index over c.each_picker.invariant
