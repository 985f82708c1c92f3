use Rattle.std.proofs.Common.{◌≡◌, ◌∙◌, length, refl, subst, arith}
use Rattle.foyer_block_manager.specs.Clearing.{vacated_below}
use Rattle.foyer_block_manager.proofs.ClearingLemmas.{vacant_none, vacant_more, vacant_all}
use Rattle.foyer_block_manager.proofs.InitialLemmas.{same_rules}
use Rattle.foyer_block_manager.specs.Shown.{AreShownAll, written_below}
use Rattle.foyer_block_manager.proofs.ShownLemmas.{shown_below}
use Rattle.foyer_block_manager.proofs.block.manager.BlockManager.vacate_all.Goals as goal

pub each_block-init : goal.each_block-init
each_block-init g c = (
  record { blocks = refl; flushers = refl; reclaimers = refl; clean_threshold = refl; block_size = refl },
  λ s st. vacant_none c.args.self.now s st,
  refl,
  λ q le. refl,
)

pub each_block-preserved : goal.each_block-preserved
each_block-preserved g c = (
  same_rules c.args.self.now c.each_block.self c.vacate.new.self c.each_block.invariant.0 c.vacate.ensures.same,
  λ s st. vacant_more c.vacate.new.self s c.each_block.index (c.vacate.ensures.vacated (record s { block_set = vacated_below c.each_block.index s.block_set }) (c.each_block.invariant.1 s st)),
  shown_below g.P.EvictionPicker.learns (c.args.self.now).blocks (c.each_block.self).blocks c.each_block.index c.args.pickers.now c.each_block.pickers c.vacate.new.pickers
      (c.each_block.invariant.3 c.each_block.index (omega arith)) c.each_block.invariant.2 c.vacate.ensures.shown,
  λ q le. c.vacate.ensures.others q (λ e. omega arith) ∙ c.each_block.invariant.3 q (omega arith),
)

pub returns-clause-vacated : goal.returns-clause-vacated
returns-clause-vacated g c = λ s st.
    let size : length (c.each_block.self).blocks ≡ length (c.args.self.now).blocks = (c.each_block.invariant.0).blocks in
    vacant_all c.each_block.self s c.each_block.index (omega (arith, c.blocks-count.ensures.count)) (c.each_block.invariant.1 s st)

pub returns-clause-shown : goal.returns-clause-shown
returns-clause-shown g c =
    let all : c.each_block.index ≡ length (c.args.self.now).blocks = omega (arith, c.blocks-count.ensures.count) in
    subst (λ n. AreShownAll g.P.EvictionPicker.learns (written_below (c.args.self.now).blocks n) c.args.pickers.now c.each_block.pickers) all c.each_block.invariant.2
