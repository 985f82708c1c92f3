-- A flusher's step in the whole core.
use Rattle.std.proofs.Common.{◌≡◌, ◌≢◌, ℕ, ◌+◌, ◌-◌, ◌*◌, ◌^◌, ◌<◌, ◌≤◌, ◌⊎◌, Bool, false, List, [], ◌∷◌, length, map, slice_set, slice_index_or, Option, Some, None, IsSome, IsSomeAnd, Result, Ok, Err, is_ok, inl, inr, refl, sym, ap, subst, ◌∙◌, arith}
use Rattle.std.specs.Prelude.{MatchOption}
use Rattle.foyer_block_index.specs.Index.{IndexMap}
use Rattle.foyer_device_page.specs.declared.error.Error.{Error}
use Rattle.foyer_core_model.specs.Flush.{Describes}
use Rattle.foyer_core_model.specs.InTurn as model
use Rattle.foyer_core_model.specs.Numbers.{put, last_number}
use Rattle.foyer_core_model.specs.Refusal.{Draws, Allocates}
use Rattle.foyer_core_model.specs.Reply as model_reply
use Rattle.foyer_core_model.specs.State as model_state
use Rattle.foyer_core_model.specs.Step as model_step
use Rattle.foyer_core_steps.specs.Asked.{went_well, step_of}
use Rattle.foyer_core_flusher.specs.FlusherSteps.{StandsAt, FlusherStep}
use Rattle.foyer_core_flusher.specs.Content.{Content, Meaning}
use Rattle.foyer_core_flusher.specs.Flushing.{AreWriting, AreBatched}
use Rattle.foyer_core_flusher.specs.CoreRules.{machine}
use Rattle.foyer_core_steps.specs.Destroying.{IsDestroyAs}
use Rattle.foyer_core_steps.specs.Reclaiming.{reclaim_at, KeepsReclaim, AreReclaimAs}
use Rattle.foyer_core_steps.specs.Refines.{IsRefinedUncounted}
use Rattle.foyer_core_flusher.specs.Sizes.{AreValid}
use Rattle.foyer_core_steps.specs.StateOf.{IsStateOf, AreFlushersAs, size_of_all}
use Rattle.foyer_core_flusher.specs.Taking.{size_in}
use Rattle.foyer_core_flusher.specs.FlushInTurn.{HasBlock}
use Rattle.foyer_core_flusher.specs.Seen.{seen}
use Rattle.foyer_core_steps.specs.Unchanged.{IsUnchanged}
use Rattle.foyer_core_flusher.proofs.FlushLemmas.{none_laid, none_written}
use Rattle.foyer_format_buffer.specs.Layout.{parts_of}
use Rattle.foyer_format_buffer.specs.declared.split.Block.{Block}
use Rattle.foyer_core_flusher.specs.Bridge.{AreBlocksAs as AreLaidOutAs}
use Rattle.foyer_core_flusher.proofs.NextLemmas.{would_issue}
use Rattle.foyer_core_steps.proofs.ReclaimLemmas.{reclaim_kept}
use Rattle.foyer_core_steps.proofs.StateLemmas.{flushers_count, flusher_at, flusher_put, size_put, unchanged_stands}
use Rattle.foyer_core_flusher.specs.declared.batch.Batch.{Batch}
use Rattle.foyer_core_flusher.specs.declared.flusher.Flusher.{Flusher}
use Rattle.foyer_core_flusher.specs.declared.batch.Writing.{Writing}
use Rattle.foyer_core_steps.specs.declared.reply.Reply.TheVariants as reply
use Rattle.foyer_core_flusher.specs.Settings.{Settings}
use Rattle.foyer_block_manager.specs.Managed.{Managed}
use Rattle.foyer_core_flusher.specs.Standing.{HasItsBlocks}
use Rattle.foyer_core_flusher.proofs.SetsLemmas.{blocks_put}
use Rattle.foyer_core_steps.specs.declared.state.Core.{Core}
use Rattle.foyer_core_steps.specs.declared.step.Step.{Step}

pub went_is : {X : Type 0} (r : Result X Error) → is_ok r ≡ went_well r
went_is (Ok x) = refl
went_is (Err e) = refl

-- if there is a log, it has answered
has_answered : (has_log : Bool) (answer logged : Option Bool) → logged ≡ answer → (has_log ≡ false) ⊎ IsSome answer
    → (has_log ≡ false) ⊎ ((ok : Bool) × (logged ≡ Some ok))
has_answered has_log answer logged is (inl none) = inl none
has_answered has_log None logged is (inr some) = absurd (cc)
has_answered has_log (Some ok) logged is (inr some) = inr (ok, is)

had_answered : (has_log : Bool) (answer logged : Option Bool) → logged ≡ answer → (has_log ≡ false) ⊎ ((ok : Bool) × (logged ≡ Some ok))
    → (has_log ≡ false) ⊎ IsSome answer
had_answered has_log answer logged is (inl none) = inl none
had_answered has_log answer logged is (inr some) = inr (subst IsSome (sym some.1 ∙ is) refl)

module _ {K V P A : Type 0} (m : Meaning K V P) (s : Settings) where
  -- a flusher of a core that stands for a state of the model
  pub stands_at : (core : Core K V P A) (it : model_state.State Content) (f : ℕ) (φ : Flusher K V P A) → IsStateOf m s core it
      → f < length core.flushers.items → φ ≡ slice_index_or core.flushers.items f φ
      → StandsAt m s f it (seen φ) core.index.slots core.manager
  stands_at core it f φ stands lt is = record {
    flusher = flusher_at m s core.flushers.items it.flushers f φ stands.flushers lt is;
    index = stands.index;
    manager = stands.manager;
    has = stands.has f;
  }

  pub flusher_there : (core : Core K V P A) (it : model_state.State Content) (f : ℕ) → IsStateOf m s core it → f < length core.flushers.items → f < s.flushers
  flusher_there core it f stands lt = let count : length core.flushers.items ≡ s.flushers = flushers_count m s core.flushers.items it.flushers stands.flushers in omega arith

  -- what it did and left, in the whole core
  pub core_stands : (sound : AreValid s) (old new : Core K V P A) (it : model_state.State Content) (f : ℕ) (ψ : Flusher K V P A) (given : model_step.Step Content) (answer : model_reply.Reply Content)
      → IsStateOf m s old it → f < length old.flushers.items
      → (done : FlusherStep m s sound given f it answer (seen ψ) new.index.slots new.manager)
      → new.flushers.items ≡ slice_set old.flushers.items f ψ
      → new.settings ≡ old.settings → new.next ≡ old.next → new.steps ≡ old.steps → new.closed ≡ old.closed → new.queued ≡ old.queued → KeepsReclaim old.reclaims new.reclaims → new.destroy ≡ old.destroy
      → IsStateOf m s new done.after
  core_stands sound old new it f ψ given answer stands lt done items settings next counted closed queued reclaims destroy =
      let there : f < s.flushers = flusher_there old it f stands lt in
      let put_is : AreFlushersAs m s (map seen new.flushers.items) (put it.flushers f done.flusher) =
      subst (λ xs. AreFlushersAs m s (map seen xs) (put it.flushers f done.flusher)) (sym items)
      (flusher_put m s old.flushers.items it.flushers f ψ done.flusher stands.flushers lt done.it) in
      let same : size_in (done.flusher).queue ≡ size_in (it.flushers f).queue = ap size_in done.queue in
      let all : size_of_all s.flushers (put it.flushers f done.flusher) ≡ size_of_all s.flushers it.flushers =
      let e : size_of_all s.flushers (put it.flushers f done.flusher) + size_in (it.flushers f).queue ≡ size_of_all s.flushers it.flushers + size_in (done.flusher).queue =
      size_put s.flushers it.flushers f done.flusher there in omega arith in
      let after_all : size_of_all s.flushers (done.after).flushers ≡ size_of_all s.flushers it.flushers = ap (size_of_all s.flushers) done.flushers ∙ all in
      record {
        sizes = settings ∙ stands.sizes;
        index = done.index;
        next = done.next ∙ stands.next ∙ sym next;
        steps = done.steps ∙ stands.steps ∙ sym counted;
        closed = done.closed ∙ stands.closed ∙ sym closed;
        flushers = subst (λ its. AreFlushersAs m s (map seen new.flushers.items) its) (sym done.flushers) put_is;
        queued = record {
          sum = queued ∙ (stands.queued).sum ∙ sym after_all;
          bound = subst (λ n. n ≤ new.next * 2 ^ 64) (sym queued) (subst (λ k. old.queued ≤ k * 2 ^ 64) (sym next) (stands.queued).bound);
        };
        manager = done.manager;
        has = λ g. subst (λ (φs : ℕ → model_state.Flusher Content). HasItsBlocks s (done.after).place (done.after).waiting g (φs g)) (sym done.flushers)
            (blocks_put s f it (done.after).place (done.after).waiting done.flusher done.others done.has stands.has g);
        reclaims = λ b.
            subst (λ (r : ℕ → Option model_state.Reclaim). AreReclaimAs s b ((done.after).place b) ((done.after).filling b) (reclaim_at new.reclaims b) (r b)) (sym done.reclaims)
            (subst (λ o. AreReclaimAs s b ((done.after).place b) ((done.after).filling b) o (it.reclaims b)) (sym (reclaims b))
            (reclaim_kept s b (it.place b) ((done.after).place b) (it.filling b) ((done.after).filling b) ((done.kept).sets b) ((done.kept).fillings b) (reclaim_at old.reclaims b) (it.reclaims b) (stands.reclaims b)));
        destroy = subst (λ d. IsDestroyAs s.blocks d (done.after).destroy) (sym destroy) (subst (IsDestroyAs s.blocks old.destroy) (sym done.destroy) stands.destroy);
      }

  none_laid_here : (xs : List (Block A)) → AreLaidOutAs {C = Content} (map parts_of xs) [] → xs ≡ []
  none_laid_here [] are = refl
  none_laid_here (x ∷ xs) are = absurd are

  none_written_here : (o : Option (Writing A)) → AreWriting s o None → o ≡ None
  none_written_here None are = refl
  none_written_here (Some w) are = absurd are

  -- whether there is a log
  pub log_is : (core : Core K V P A) (it : model_state.State Content) → IsStateOf m s core it → core.settings.tombstone_log ≡ s.tombstone_log
  log_is core it stands = ap (λ (sizes : Settings). sizes.tombstone_log) stands.sizes

  -- what is in turn for a flusher, and for the model's
  pub has_block : (own : Option ℕ) (o : Option (Batch K V P A)) (p : Option (model_state.Batch Content)) → AreBatched m s own o p
      → IsSomeAnd o (λ batch. (batch.writing ≡ None) × (batch.blocks.items ≢ [])) → model.WantsBlock p
  has_block own (Some batch) (Some it) are has = (
    λ none. has.1 (none_laid_here batch.blocks.items (subst (λ layouts. AreLaidOutAs (map parts_of batch.blocks.items) layouts) none are.blocks)),
    none_written m s batch.writing it.writing are.writing has.0,
  )
  has_block own (Some batch) None are has = absurd are
  has_block own None p are has = absurd has

  pub wants_block : (own : Option ℕ) (o : Option (Batch K V P A)) (p : Option (model_state.Batch Content)) → AreBatched m s own o p
      → model.WantsBlock p → IsSomeAnd o (λ batch. (batch.writing ≡ None) × (batch.blocks.items ≢ []))
  wants_block own (Some batch) (Some it) are wants = (
    none_written_here batch.writing (subst (λ v. AreWriting s batch.writing v) wants.1 are.writing),
    λ none. wants.0 (none_laid batch.blocks.items it.blocks are.blocks none),
  )
  wants_block own o None are wants = absurd wants
  wants_block own None (Some it) are wants = absurd are

  some_writing : (o : Option (Writing A)) (v : Option (model_state.Writing Content)) → AreWriting s o v → IsSome o
      → (w : model_state.Writing Content) × (v ≡ Some w)
  some_writing None v are is = absurd (cc)
  some_writing (Some w) None are is = absurd are
  some_writing (Some w) (Some v) are is = (v, refl)

  writing_some : (o : Option (Writing A)) (v : Option (model_state.Writing Content)) → AreWriting s o v
      → (w : model_state.Writing Content) → v ≡ Some w → IsSome o
  writing_some None None are w is = absurd (cc)
  writing_some None (Some v) are w is = absurd are
  writing_some (Some o) v are w is = refl

  pub is_writing : (own : Option ℕ) (o : Option (Batch K V P A)) (p : Option (model_state.Batch Content)) → AreBatched m s own o p
      → IsSomeAnd o (λ batch. IsSome batch.writing) → model.IsWriting p
  is_writing own (Some batch) (Some it) are has = some_writing batch.writing it.writing are.writing has
  is_writing own (Some batch) None are has = absurd are
  is_writing own None p are has = absurd has

  pub must_write : (own : Option ℕ) (o : Option (Batch K V P A)) (p : Option (model_state.Batch Content)) → AreBatched m s own o p
      → model.IsWriting p → IsSomeAnd o (λ batch. IsSome batch.writing)
  must_write own (Some batch) (Some it) are is = writing_some batch.writing it.writing are.writing is.0 is.1
  must_write own o None are is = absurd is
  must_write own None (Some it) are is = absurd are

  -- the log hasn't answered for a flusher's batch exactly if it hasn't for the model's
  pub is_unlogged : (own : Option ℕ) (o : Option (Batch K V P A)) (p : Option (model_state.Batch Content)) → AreBatched m s own o p
      → IsSomeAnd o (λ batch. batch.logged ≡ None) → model.IsUnlogged p
  is_unlogged own (Some batch) (Some it) are none = are.logged ∙ none
  is_unlogged own (Some batch) None are none = absurd are
  is_unlogged own None p are none = absurd none

  pub was_unlogged : (own : Option ℕ) (o : Option (Batch K V P A)) (p : Option (model_state.Batch Content)) → AreBatched m s own o p
      → model.IsUnlogged p → IsSomeAnd o (λ batch. batch.logged ≡ None)
  was_unlogged own (Some batch) (Some it) are none = sym are.logged ∙ none
  was_unlogged own o None are none = absurd none
  was_unlogged own None (Some it) are none = absurd are

  pub is_written : (has_log : Bool) (own : Option ℕ) (o : Option (Batch K V P A)) (p : Option (model_state.Batch Content)) → AreBatched m s own o p
      → IsSomeAnd o (λ batch. (batch.writing ≡ None) × (batch.blocks.items ≡ []) × ((has_log ≡ false) ⊎ IsSome batch.logged)) → model.IsWritten has_log p
  is_written has_log own (Some batch) (Some it) are has = (
    none_laid batch.blocks.items it.blocks are.blocks has.1,
    none_written m s batch.writing it.writing are.writing has.0,
    has_answered has_log batch.logged it.logged are.logged has.2,
  )
  is_written has_log own (Some batch) None are has = absurd are
  is_written has_log own None p are has = absurd has

  pub was_written : (has_log : Bool) (own : Option ℕ) (o : Option (Batch K V P A)) (p : Option (model_state.Batch Content)) → AreBatched m s own o p
      → model.IsWritten has_log p → IsSomeAnd o (λ batch. (batch.writing ≡ None) × (batch.blocks.items ≡ []) × ((has_log ≡ false) ⊎ IsSome batch.logged))
  was_written has_log own (Some batch) (Some it) are is = (
    none_written_here batch.writing (subst (λ v. AreWriting s batch.writing v) is.1 are.writing),
    none_laid_here batch.blocks.items (subst (λ layouts. AreLaidOutAs (map parts_of batch.blocks.items) layouts) is.0 are.blocks),
    had_answered has_log batch.logged it.logged are.logged is.2,
  )
  was_written has_log own o None are is = absurd is
  was_written has_log own None (Some it) are is = absurd are

  -- a step that isn't in turn
  pub not_now : (sound : AreValid s) (old new : Core K V P A) (it : model_state.State Content) (given : Step K V P A) → IsUnchanged old new → IsStateOf m s old it
      → old.steps < 2 ^ 64 - 1 → (Draws (step_of m given) → ⊥) → (model.InTurn (machine m s sound) it (step_of m given) → ⊥)
      → IsRefinedUncounted m s sound given (reply.NotNow given) new it
  not_now sound old new it given same stands few draws out =
      let counted : it.steps ≡ old.steps = stands.steps in
      let early : it.steps < last_number = omega arith in
      record {
        after = it;
        it = model_reply.NotNow (step_of m given);
        stands = unchanged_stands m s old new it same stands;
        reply = refl;
        turns = (refl, (early, (λ d. absurd (draws d)), out), refl);
      }

  -- a flusher that demands a block would get some reply, whatever memory there is
  pub would_answer : (sound : AreValid s) (it : model_state.State Content) (f : ℕ) (φ : Flusher K V P A) (slots : IndexMap) (blocks : Managed)
      → StandsAt m s f it (seen φ) slots blocks → HasBlock φ
      → (answer : model_reply.Reply Content) × (new : model_state.State Content)
      × Describes (machine m s sound) it f (it.flushers f).batch answer new × Allocates {C = Content} (model_step.FlushBlock f) answer
  would_answer sound it f φ slots blocks stands has = go φ.batch refl has
    where
      go : (o : Option (Batch K V P A)) → φ.batch ≡ o → IsSomeAnd o (λ batch. (batch.writing ≡ None) × (batch.blocks.items ≢ []))
          → (answer : model_reply.Reply Content) × (new : model_state.State Content)
          × Describes (machine m s sound) it f (it.flushers f).batch answer new × Allocates {C = Content} (model_step.FlushBlock f) answer
      go None e has = absurd has
      go (Some batch) e has = would_issue m s sound f it (seen φ) slots blocks stands batch e has.1

  -- as many blocks as the batch that began has
  pub begun_count : (o : Option (Batch K V P A)) (batch : Batch K V P A) (n : ℕ) → o ≡ Some batch
      → MatchOption o (n ≡ 0) (λ x. n ≡ length x.blocks.items) → length batch.blocks.items ≡ n
  begun_count None batch n is count = absurd (cc)
  begun_count (Some x) batch n is count = let same : x ≡ batch = cc in sym (count ∙ ap (λ (y : Batch K V P A). length y.blocks.items) same)
