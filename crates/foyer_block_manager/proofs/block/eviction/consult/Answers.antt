use Rattle.std.proofs.Common.{◌++◌, sym, ap, ◌∙◌}
use Rattle.foyer_block_manager.specs.Pickers.{picker_info}
use Rattle.foyer_block_manager.proofs.ConsultLemmas.{begins, next, last, none_left}
use Rattle.foyer_block_manager.proofs.block.eviction.consult.Goals as goal

pub each_picker-init : goal.each_picker-init
each_picker-init g c = begins g.P.EvictionPicker.answer g.P.EvictionPicker.marks (picker_info c.args.info.blocks.now c.args.info.evictable.now c.args.info.clean) c.args.info.blocks.now c.args.pickers.now c.args.answers.now.items c.args.probation.now.items c.requires.0 c.requires.1

pub each_picker-preserved : goal.each_picker-preserved
each_picker-preserved g c = next g.P.EvictionPicker.answer g.P.EvictionPicker.marks (picker_info c.args.info.blocks.now c.args.info.evictable.now c.args.info.clean) c.args.info.blocks.now c.args.pickers.now
    c.each_picker.picker-index c.picker-item.result c.each_picker-test.true c.picker-item.is c.each_picker.answers.items c.each_picker.probation.items c.each_picker.invariant
    c.push.new.self.items c.extend_from_slice.new.self.items c.pick-answer.result c.pick-answer.new.probation.items
    c.in_ok-push.ensures.items (c.in_ok-extend_from_slice.ensures.items ∙ ap (λ l. c.each_picker.probation.items ++ l) c.deref.ensures.value)
    c.pick-answer.ensures.answer c.pick-answer.ensures.marks (sym c.is_pick.ensures ∙ c.if-is_pick.false)

pub returns-then-is_pick-clause-answers : goal.returns-then-is_pick-clause-answers
returns-then-is_pick-clause-answers g c = (last g.P.EvictionPicker.answer g.P.EvictionPicker.marks (picker_info c.args.info.blocks.now c.args.info.evictable.now c.args.info.clean) c.args.info.blocks.now c.args.pickers.now
    c.each_picker.picker-index c.picker-item.result c.each_picker-test.true c.picker-item.is c.each_picker.answers.items c.each_picker.probation.items c.each_picker.invariant
    c.push.new.self.items c.extend_from_slice.new.self.items c.pick-answer.result c.pick-answer.new.probation.items
    c.in_ok-push.ensures.items (c.in_ok-extend_from_slice.ensures.items ∙ ap (λ l. c.each_picker.probation.items ++ l) c.deref.ensures.value)
    c.pick-answer.ensures.answer c.pick-answer.ensures.marks (sym c.is_pick.ensures ∙ c.if-is_pick.true)).0

pub returns-then-is_pick-clause-probation : goal.returns-then-is_pick-clause-probation
returns-then-is_pick-clause-probation g c = (last g.P.EvictionPicker.answer g.P.EvictionPicker.marks (picker_info c.args.info.blocks.now c.args.info.evictable.now c.args.info.clean) c.args.info.blocks.now c.args.pickers.now
    c.each_picker.picker-index c.picker-item.result c.each_picker-test.true c.picker-item.is c.each_picker.answers.items c.each_picker.probation.items c.each_picker.invariant
    c.push.new.self.items c.extend_from_slice.new.self.items c.pick-answer.result c.pick-answer.new.probation.items
    c.in_ok-push.ensures.items (c.in_ok-extend_from_slice.ensures.items ∙ ap (λ l. c.each_picker.probation.items ++ l) c.deref.ensures.value)
    c.pick-answer.ensures.answer c.pick-answer.ensures.marks (sym c.is_pick.ensures ∙ c.if-is_pick.true)).1

pub returns-then-is_pick-clause-picked : goal.returns-then-is_pick-clause-picked
returns-then-is_pick-clause-picked g c = (last g.P.EvictionPicker.answer g.P.EvictionPicker.marks (picker_info c.args.info.blocks.now c.args.info.evictable.now c.args.info.clean) c.args.info.blocks.now c.args.pickers.now
    c.each_picker.picker-index c.picker-item.result c.each_picker-test.true c.picker-item.is c.each_picker.answers.items c.each_picker.probation.items c.each_picker.invariant
    c.push.new.self.items c.extend_from_slice.new.self.items c.pick-answer.result c.pick-answer.new.probation.items
    c.in_ok-push.ensures.items (c.in_ok-extend_from_slice.ensures.items ∙ ap (λ l. c.each_picker.probation.items ++ l) c.deref.ensures.value)
    c.pick-answer.ensures.answer c.pick-answer.ensures.marks (sym c.is_pick.ensures ∙ c.if-is_pick.true)).2

pub returns-clause-answers : goal.returns-clause-answers
returns-clause-answers g c = (none_left g.P.EvictionPicker.answer g.P.EvictionPicker.marks (picker_info c.args.info.blocks.now c.args.info.evictable.now c.args.info.clean) c.args.info.blocks.now c.args.pickers.now c.each_picker.picker-index c.each_picker.answers.items c.each_picker.probation.items c.each_picker-test.false c.each_picker.invariant).0

pub returns-clause-probation : goal.returns-clause-probation
returns-clause-probation g c = (none_left g.P.EvictionPicker.answer g.P.EvictionPicker.marks (picker_info c.args.info.blocks.now c.args.info.evictable.now c.args.info.clean) c.args.info.blocks.now c.args.pickers.now c.each_picker.picker-index c.each_picker.answers.items c.each_picker.probation.items c.each_picker-test.false c.each_picker.invariant).1

pub returns-clause-picked : goal.returns-clause-picked
returns-clause-picked g c = (none_left g.P.EvictionPicker.answer g.P.EvictionPicker.marks (picker_info c.args.info.blocks.now c.args.info.evictable.now c.args.info.clean) c.args.info.blocks.now c.args.pickers.now c.each_picker.picker-index c.each_picker.answers.items c.each_picker.probation.items c.each_picker-test.false c.each_picker.invariant).2
