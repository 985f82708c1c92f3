use Rattle.std.proofs.Common.{◌≡◌, subst}
use Rattle.foyer_block_manager.specs.Pickers.{picker_info}
use Rattle.foyer_block_manager.proofs.block.picker.AnyPickerEvictionPicker.pick.Goals as goal

pub returns-in-Boxed-clause-answer : goal.returns-in-Boxed-clause-answer
returns-in-Boxed-clause-answer g c = let info = picker_info c.args.info.blocks.now c.args.info.evictable.now c.args.info.clean in rw c.in-Boxed.is (subst (λ n. c.pick-in-Boxed.result ≡ (goal.EvictionPicker-dyn g n).answer n.1 info) c.deref_box-1.ensures.1 c.pick-in-Boxed.ensures.0)

pub returns-in-Boxed-clause-marks : goal.returns-in-Boxed-clause-marks
returns-in-Boxed-clause-marks g c = let info = picker_info c.args.info.blocks.now c.args.info.evictable.now c.args.info.clean in rw c.in-Boxed.is (subst (λ n. c.pick-in-Boxed.new.probation.items ≡ (goal.EvictionPicker-dyn g n).marks n.1 info) c.deref_box-1.ensures.1 c.pick-in-Boxed.ensures.1)
