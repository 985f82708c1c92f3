use Rattle.std.proofs.Common.{◌≡◌, ◌<◌, Bool, Some, length, false, if◌then◌else◌, slice_get, slice_set, refl, sym, ap, ◌∙◌, arith}
use Rattle.std.proofs.lemmas.Option.{slice_get_read}
use Rattle.foyer_block_manager.specs.Managed.{is_evictable_set}
use Rattle.foyer_block_manager.specs.Picks.{with_mark_at, on_probation}
use Rattle.foyer_block_manager.specs.declared.block.states.BlockState.{BlockState}
use Rattle.foyer_block_manager.proofs.MarkLemmas.{set_as_was}
use Rattle.foyer_block_manager.proofs.block.manager.mark_one.Goals as goal

pub returns-else-is_evictable : goal.returns-else-is_evictable
returns-else-is_evictable g c =
    let blocks = c.args.blocks.now in
    let it : BlockState = c.in-Some.state.now in
    let lt : c.args.id < length blocks.items = omega (arith, blocks.ok.0, c.in-Some.ensures.variant.0 refl) in
    let at : slice_get blocks.items c.args.id ≡ Some it = slice_get_read blocks.items (length blocks.items) c.args.id it refl lt c.in-Some.ensures.value in
    let not : is_evictable_set it.block_set ≡ false = sym c.is_evictable.ensures ∙ c.if-is_evictable.false in
    set_as_was blocks.items c.args.id it at ∙ sym (ap (λ o. with_mark_at o c.args.id blocks.items) at ∙ ap (λ (t : Bool). if t then slice_set blocks.items c.args.id (on_probation it) else blocks.items) not)
