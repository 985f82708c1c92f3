use Rattle.std.proofs.Common.{◌≡◌, ◌<◌, ℕ, List, length, slice_index, slice_index_or, refl, sym, ap, subst, arith}
use Rattle.std.proofs.lemmas.List.{get_or_read}
use Rattle.std.proofs.lemmas.Option.{slice_get_read}
use Rattle.foyer_core_model.specs.Numbers.{last_number}
use Rattle.foyer_block_manager.specs.Managed.{filling_of, filling_in, IsFirstUsable}
use Rattle.foyer_block_manager.specs.declared.block.states.BlockState.{BlockState}
use Rattle.foyer_block_manager.proofs.ManagedLemmas.{usable_there}
use Rattle.foyer_block_manager.proofs.block.manager.hand_out.Goals as goal

-- the block that was removed is the first usable one
at : (items : List ℕ) (i b : ℕ) (blocks : List BlockState) → IsFirstUsable items blocks i → b ≡ slice_index_or items i b → b ≡ slice_index items i
at items i b blocks first is = get_or_read items i b first.within is 0

there : (items : List ℕ) (i b : ℕ) (blocks : List BlockState) → IsFirstUsable items blocks i → b ≡ slice_index_or items i b → b < length blocks
there items i b blocks first is =
    usable_there blocks b (subst (λ k. filling_in blocks k < last_number) (sym (at items i b blocks first is)) first.below)

low : (items : List ℕ) (i b : ℕ) (blocks : List BlockState) (it : BlockState) → IsFirstUsable items blocks i → b ≡ slice_index_or items i b
    → it ≡ slice_index_or blocks b it → it.filling < last_number
low items i b blocks it first is read =
    subst (λ n. n < last_number) (ap filling_of (slice_get_read blocks (length blocks) b it refl (there items i b blocks first is) read))
    (subst (λ k. filling_in blocks k < last_number) (sym (at items i b blocks first is)) first.below)

pub index_mut-state-requires : goal.index_mut-state-requires
index_mut-state-requires g c =
    let blocks = c.args.blocks.now in
    let lt : c.in-Some.block < length blocks.items =
    there c.args.clean.now.items c.args.index c.in-Some.block blocks.items c.requires c.in-Some.ensures.value in
    omega (arith, blocks.ok.0)

pub overflow_add-state : goal.overflow_add-state
overflow_add-state g c =
    let lt : c.index_mut-state.result.now.filling < last_number =
    low c.args.clean.now.items c.args.index c.in-Some.block c.args.blocks.now.items c.index_mut-state.result.now c.requires
    c.in-Some.ensures.value c.index_mut-state.ensures.value in
    omega arith

pub returns-clause-taken : goal.returns-clause-taken
returns-clause-taken g c =
    let items = c.args.clean.now.items in
    let blocks = c.args.blocks.now.items in
    let lt : c.in-Some.block < length blocks = there items c.args.index c.in-Some.block blocks c.requires c.in-Some.ensures.value in
    record {
      index = c.args.index;
      first = c.requires;
      is = at items c.args.index c.in-Some.block blocks c.requires c.in-Some.ensures.value;
      before = c.index_mut-state.result.now;
      was = slice_get_read blocks (length blocks) c.in-Some.block c.index_mut-state.result.now refl lt c.index_mut-state.ensures.value;
      blocks_are = refl;
      clean_are = c.in-Some.ensures.items;
    }
