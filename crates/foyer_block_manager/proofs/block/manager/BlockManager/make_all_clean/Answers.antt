use Rattle.std.proofs.Common.{◌<◌, ◌∙◌, ℕ, List, length, take, slice_index, refl, ap, subst}
use Rattle.foyer_block_manager.specs.BlockSets.{Stands}
use Rattle.foyer_block_manager.specs.Initial.{with_clean}
use Rattle.foyer_block_manager.specs.Managed.{is_evictable}
use Rattle.foyer_block_manager.proofs.InitialLemmas.{clean_none, clean_more, to_come, come_later, same_rules, take_all}
use Rattle.foyer_block_manager.proofs.block.manager.BlockManager.make_all_clean.Goals as goal

pub each_id-init : goal.each_id-init
each_id-init g c = (
  record { blocks = refl; flushers = refl; reclaimers = refl; clean_threshold = refl; block_size = refl },
  λ s st. clean_none c.args.self.now s st,
  λ b is. (c.requires).evictable b is,
)

pub make_clean-requires : goal.make_clean-requires
make_clean-requires g c =
    let clean : List ℕ = c.args.clean.now in
    let i : ℕ = c.each_id.id-index in
    c.each_id.invariant.2 (slice_index clean i) (to_come clean i (slice_index clean i) c.each_id-test.true refl)

pub each_id-preserved : goal.each_id-preserved
each_id-preserved g c =
    let clean : List ℕ = c.args.clean.now in
    let i : ℕ = c.each_id.id-index in
    let lt : i < length clean = c.each_id-test.true in (
      same_rules c.args.self.now c.each_id.self c.make_clean.new.self c.each_id.invariant.0 c.make_clean.ensures.same,
      λ s st. clean_more c.make_clean.new.self s clean i (slice_index clean i) lt refl (c.make_clean.ensures.clean (with_clean s (take i clean)) (c.each_id.invariant.1 s st)),
      λ b is.
          let r = come_later clean i (slice_index clean i) b (c.requires).once lt refl is in
          ap is_evictable (c.make_clean.ensures.others b r.1) ∙ c.each_id.invariant.2 b r.0,
    )

pub returns-clause-clean : goal.returns-clause-clean
returns-clause-clean g c = λ s st.
    subst (λ l. Stands c.each_id.self (with_clean s l)) (take_all c.each_id.id-index c.args.clean.now c.each_id-test.false) (c.each_id.invariant.1 s st)
