-- Bytes that become invalid count for the filling that had them.
use Rattle.std.proofs.Common.{◌≡◌, ◌==◌, ◌&&◌, Bool, true, false, if◌then◌else◌, Option, Some, None, refl, sym, ap, subst, ◌∙◌}
use Rattle.std.specs.Prelude.{slice_get}
use Rattle.foyer_core_model.specs.Flush.{may_hold, still_has, one_invalidated}
use Rattle.foyer_core_model.specs.Numbers.{put, plus}
use Rattle.foyer_core_model.specs.State.{Invalidated, Stats}
use Rattle.foyer_core_model.proofs.Basics.{put_at}
use Rattle.foyer_block_manager.specs.BlockSets.{BlockSets, Stands, IsBlockAs}
use Rattle.foyer_block_manager.specs.Managed.{Managed}
use Rattle.foyer_block_manager.specs.declared.block.states.BlockState.{BlockState}
use Rattle.foyer_core_blocks.specs.Addresses.{state_has}

module _ (m : Managed) (s : BlockSets) (st : Stands m s) (i : Invalidated) where
  abbrev more : Stats
  more = record (s.stats i.block) { invalid = plus (s.stats i.block).invalid i.bytes }

  -- what is known of a block says whether it still has the filling
  still_is : (it : BlockState) → slice_get m.blocks i.block ≡ Some it → still_has s.block_set s.filling i ≡ state_has (Some it) i.filling
  still_is it at =
      let k : IsBlockAs it (s.block_set i.block) (s.filling i.block) (s.stats i.block) = st.blocks i.block it at in
      λ t. (k.filling t == i.filling) && may_hold (k.block_set t)

  -- of a block that isn't there nothing is said
  beside : slice_get m.blocks i.block ≡ None → Stands m (record s { stats = put s.stats i.block more })
  beside none = record {
    blocks = λ b it at. let k : IsBlockAs it (s.block_set b) (s.filling b) (s.stats b) = st.blocks b it at in record {
      block_set = k.block_set;
      filling = k.filling;
      stats = put_at (λ (z : Stats). z ≡ record { invalid = it.statistics.invalid; access = it.statistics.access; probation = it.statistics.probation }) s.stats i.block more b
          (λ same. absurd (let z : Some it ≡ None = sym at ∙ ap (slice_get m.blocks) same ∙ none in cc)) (λ _. k.stats);
    };
    clean = st.clean;
    waiting = st.waiting;
    ready = st.ready;
    is_cleaning = st.is_cleaning;
  }

  pub counted_one : state_has (slice_get m.blocks i.block) i.filling ≡ true
      → record s { stats = put s.stats i.block more } ≡ record s { stats = one_invalidated s.block_set s.filling i s.stats }
  counted_one has = go (slice_get m.blocks i.block) refl has
    where
      go : (o : Option BlockState) → slice_get m.blocks i.block ≡ o → state_has o i.filling ≡ true
          → record s { stats = put s.stats i.block more } ≡ record s { stats = one_invalidated s.block_set s.filling i s.stats }
      go None at has = absurd (let z : false ≡ true = has in cc)
      go (Some it) at has = sym (ap (λ (b : Bool). record s { stats = if b then put s.stats i.block more else s.stats }) (still_is it at ∙ has))

  pub left_one : state_has (slice_get m.blocks i.block) i.filling ≡ false → Stands m (record s { stats = one_invalidated s.block_set s.filling i s.stats })
  left_one lacks = go (slice_get m.blocks i.block) refl lacks
    where
      go : (o : Option BlockState) → slice_get m.blocks i.block ≡ o → state_has o i.filling ≡ false → Stands m (record s { stats = one_invalidated s.block_set s.filling i s.stats })
      go None at lacks = either (still_has s.block_set s.filling i)
        where
          either : (b : Bool) → Stands m (record s { stats = if b then put s.stats i.block more else s.stats })
          either true = beside at
          either false = st
      go (Some it) at lacks = subst (λ (b : Bool). Stands m (record s { stats = if b then put s.stats i.block more else s.stats })) (sym (still_is it at ∙ lacks)) st
