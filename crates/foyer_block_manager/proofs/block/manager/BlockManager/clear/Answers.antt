use Rattle.std.proofs.Common.{◌∙◌, ℕ, length, true, Option, None, refl, sym, ap, subst}
use Rattle.foyer_core_model.specs.Destroy.{vacated}
use Rattle.foyer_block_manager.specs.BlockSets.{BlockSets, Stands, HasSameRules}
use Rattle.foyer_block_manager.specs.Clearing.{with_next_filling}
use Rattle.foyer_block_manager.specs.Managed.{Managed}
use Rattle.foyer_block_manager.proofs.ClearingLemmas.{kept_refilled, clean_few, stands_cleared, mapped_count}
use Rattle.foyer_block_manager.proofs.InitialLemmas.{same_rules}
use Rattle.foyer_block_manager.proofs.block.manager.BlockManager.clear.Goals as goal

pub usable_of-self-inside-requires : goal.usable_of-self-inside-requires
usable_of-self-inside-requires g c = clean_few c.self.invariant

no_block : Option ℕ → Option ℕ
no_block o = None

pub invariant_of-self : goal.invariant_of-self
unfolding no_block
invariant_of-self g c =
    kept_refilled c.self.invariant c.refill.new.blocks.items c.forget.new.ready.items c.usable_of-self-inside.result c.refill.ensures c.usable_of-self-inside.ensures
    (ap length c.forget.ensures ∙ mapped_count no_block c.self.inside.ready.items)

pub returns-clause-same : goal.returns-clause-same
unfolding no_block
returns-clause-same g c =
    let m = c.self.inside in
    let old : Managed = record { blocks = m.blocks.items; clean = m.clean.items; evictable = m.evictable.ids; waiting = m.waiting.items; ready = m.ready.items; reclaimers = m.reclaimers; clean_threshold = m.clean_threshold; block_size = m.block_size; is_cleaning = m.is_cleaning } in
    let new : Managed = record old { blocks = c.refill.new.blocks.items; ready = c.forget.new.ready.items; is_cleaning = true } in
    same_rules c.args.self.now c.vacate_all.new.self new c.vacate_all.ensures.same
    (subst (λ (w : Managed). HasSameRules w new) c.self.view_is
    (record {
      blocks = ap length c.refill.ensures ∙ mapped_count with_next_filling m.blocks.items;
      flushers = ap length c.forget.ensures ∙ mapped_count no_block m.ready.items;
      reclaimers = refl;
      clean_threshold = refl;
      block_size = refl;
    }))

pub returns-clause-cleared : goal.returns-clause-cleared
returns-clause-cleared g c = λ s st.
    let m = c.self.inside in
    let old : Managed = record { blocks = m.blocks.items; clean = m.clean.items; evictable = m.evictable.ids; waiting = m.waiting.items; ready = m.ready.items; reclaimers = m.reclaimers; clean_threshold = m.clean_threshold; block_size = m.block_size; is_cleaning = m.is_cleaning } in
    let sets : BlockSets = record s { block_set = λ b. vacated (s.block_set b) } in
    let stood : Stands old sets = subst (λ (w : Managed). Stands w sets) (sym c.self.view_is) (c.vacate_all.ensures.vacated s st) in
    stands_cleared old s c.refill.new.blocks.items c.forget.new.ready.items (length (c.args.self.now).blocks) stood c.refill.ensures c.forget.ensures
    (sym (ap (λ (w : Managed). length w.blocks) c.self.view_is ∙ (c.vacate_all.ensures.same).blocks))
