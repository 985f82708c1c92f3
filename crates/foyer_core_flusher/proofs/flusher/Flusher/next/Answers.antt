use Rattle.std.proofs.Common.{ℕ, Option, Some, map, sym, ap, subst, ◌∙◌}
use Rattle.foyer_core_model.specs.Flush.{released}
use Rattle.foyer_core_model.specs.Reply as model_reply
use Rattle.foyer_core_model.specs.Step as model_step
use Rattle.foyer_core_flusher.specs.FlusherSteps.{FlusherStep}
use Rattle.foyer_core_flusher.specs.Issued.{IssuesFirst}
use Rattle.foyer_core_flusher.specs.Issuing.{write_of}
use Rattle.foyer_core_flusher.specs.Seen.{seen}
use Rattle.foyer_core_blocks.specs.CoreRules.{machine}
use Rattle.foyer_core_blocks.proofs.LawLemmas.{are_rules}
use Rattle.foyer_block_manager.specs.BlockSets.{HasSameRules, HandsOut}
use Rattle.foyer_block_manager.specs.Managed.{Managed}
use Rattle.foyer_core_blocks.specs.Standing.{sets_of}
use Rattle.foyer_core_flusher.proofs.IssueLemmas.{issues_as_model}
use Rattle.foyer_core_flusher.proofs.NextLemmas.{next_own, next_given, next_none}
use Rattle.foyer_core_flusher.proofs.flusher.Flusher.next.Goals as goal

-- one change of the manager after another
both : (old now new : Managed) → HasSameRules old now → HasSameRules now new → HasSameRules old new
both old now new one two = record {
  blocks = two.blocks ∙ one.blocks;
  flushers = two.flushers ∙ one.flushers;
  reclaimers = two.reclaimers ∙ one.reclaimers;
  clean_threshold = two.clean_threshold ∙ one.clean_threshold;
  block_size = two.block_size ∙ one.block_size;
}

pub returns-in-None-clause-done : goal.returns-in-None-clause-done
returns-in-None-clause-done g c = λ m s sound it slots stands.
    let self = c.args.self.now in
    let f = c.args.number in
    let left = c.release.ensures.released (sets_of it) f (stands.manager).sets (λ b own. (stands.has).own b ((stands.flusher).own ∙ own)) in
    subst (λ (o : Option ℕ). FlusherStep m s sound (model_step.FlushBlock f) f it model_reply.NoBlock (record (seen self) { own = o; batch = Some c.in-Some.batch })
    slots c.get_clean_block.new.self) (sym c.release.ensures.left)
    (next_none m s sound f it (seen self) slots c.args.manager.now stands c.in-Some.batch c.in-Some.is
    c.get_clean_block.new.self c.in_default-goes_on_with.ensures
    (both c.args.manager.now c.release.new.manager c.get_clean_block.new.self c.release.ensures.same c.get_clean_block.ensures.same)
    (c.in-None.ensures.handed (record (sets_of it) { block_set = released self.own it.place }) left))

pub returns-in-Some-goes_on_with-clause-done : goal.returns-in-Some-goes_on_with-clause-done
returns-in-Some-goes_on_with-clause-done g c = λ m s sound it slots stands.
    let self = c.args.self.now in
    let f = c.args.number in
    let b = c.in-Some-goes_on_with.block in
    subst (λ (o : Option ℕ). FlusherStep m s sound (model_step.FlushBlock f) f it (model_reply.Written b (map write_of c.issue.result.items))
    (record (seen self) { own = o; batch = Some c.issue.new.self }) slots c.args.manager.now)
    (sym c.in-Some-goes_on_with.ensures.1)
    (next_own m s sound f it (seen self) slots c.args.manager.now stands c.in-Some.batch c.in-Some.is
    c.issue.new.self b c.issue.result.items c.in-Some-goes_on_with.ensures.0 c.in-Some-goes_on_with.ensures.1
    (λ own p are lt. issues_as_model m (machine m s sound) s own b c.in-Some.batch c.issue.new.self c.issue.result.items p (are_rules m.is_key m.is_value s sound) sound.offsets_fit lt are
    (subst (λ k. IssuesFirst b k c.in-Some.batch c.issue.new.self c.issue.result.items) (c.block_size-block_size.ensures ∙ ap (λ z. z.block) (stands.flusher).sizes) c.issue.ensures)))

pub returns-in-Some-get_clean_block-clause-done : goal.returns-in-Some-get_clean_block-clause-done
returns-in-Some-get_clean_block-clause-done g c = λ m s sound it slots stands.
    let self = c.args.self.now in
    let f = c.args.number in
    let b = c.id-block.result in
    let left = c.release.ensures.released (sets_of it) f (stands.manager).sets (λ b own. (stands.has).own b ((stands.flusher).own ∙ own)) in
    next_given m s sound f it (seen self) slots c.args.manager.now stands c.in-Some.batch c.in-Some.is
    c.issue-in-Some-get_clean_block.new.self b c.issue-in-Some-get_clean_block.result.items c.get_clean_block.new.self
    c.in_default-goes_on_with.ensures
    (both c.args.manager.now c.release.new.manager c.get_clean_block.new.self c.release.ensures.same c.get_clean_block.ensures.same)
    (subst (λ (k : ℕ). HandsOut (record (sets_of it) { block_set = released self.own it.place }) f (Some k) c.get_clean_block.new.self) (sym c.id-block.ensures)
    (c.in-Some-get_clean_block.ensures.handed (record (sets_of it) { block_set = released self.own it.place }) left))
    (λ own p are lt. issues_as_model m (machine m s sound) s own b c.in-Some.batch c.issue-in-Some-get_clean_block.new.self c.issue-in-Some-get_clean_block.result.items p (are_rules m.is_key m.is_value s sound) sound.offsets_fit lt are
    (subst (λ k. IssuesFirst b k c.in-Some.batch c.issue-in-Some-get_clean_block.new.self c.issue-in-Some-get_clean_block.result.items) (c.block_size-block_size.ensures ∙ ap (λ z. z.block) (stands.flusher).sizes) c.issue-in-Some-get_clean_block.ensures))
