-- What a step of a flush works on, and what it leaves.
use Rattle.std.specs.Prelude.{◌≡◌, ℕ, false, List, [], map, None, Some}
use Rattle.foyer_block_index.specs.Index.{IndexMap}
use Rattle.foyer_block_index.specs.declared.indexer.HashedEntryAddress.{HashedEntryAddress}
use Rattle.foyer_core_model.specs.Changes.{Changes}
use Rattle.foyer_core_model.specs.Numbers.{put}
use Rattle.foyer_core_model.specs.Reply as model_reply
use Rattle.foyer_core_model.specs.Rules.{first_position}
use Rattle.foyer_core_model.specs.State as model_state
use Rattle.foyer_core_model.specs.Step as model_step
use Rattle.foyer_policy_piece.specs.Referred.{Referred}
use Rattle.foyer_core_blocks.specs.Content.{Content, Meaning, content_of, contents_of}
use Rattle.foyer_core_blocks.specs.CoreRules.{layout, machine}
use Rattle.foyer_core_blocks.specs.Sizes.{AreValid}
use Rattle.foyer_core_blocks.specs.Settings.{Settings}
use Rattle.foyer_block_manager.specs.Managed.{Managed}
use Rattle.foyer_core_blocks.specs.Standing.{IsIndexedAs, sets_of, IsManagedAs, HasItsBlocks, LeavesOthers, KeepsReclaims}
use Rattle.foyer_core_flusher.specs.Flushing.{IsFlusherAs}
use Rattle.foyer_core_flusher.specs.Seen.{Seen}
use Rattle.foyer_core_flusher.specs.Issuing.{write_of}
use Rattle.foyer_core_flusher.specs.declared.batch.Next.{Next}
use Rattle.foyer_core_flusher.specs.declared.batch.Next.TheVariants as next
use Rattle.foyer_core_flusher.specs.declared.batch.Wrote.{Wrote}
use Rattle.foyer_core_flusher.specs.declared.batch.Wrote.TheVariants as wrote

-- a flusher of a state of the model, with what a flush changes beside it
pub record StandsAt {K V P A : Type 0} (m : Meaning K V P) (s : Settings) (f : ℕ) (it : model_state.State Content)
    (φ : Seen K V P A) (slots : IndexMap) (blocks : Managed) : Type 0 where
  pub flusher : IsFlusherAs m s φ (it.flushers f)
  pub index : IsIndexedAs s slots it.index
  pub manager : IsManagedAs s blocks (sets_of it)
  pub has : HasItsBlocks s it.place it.waiting f (it.flushers f)

-- The model does this step with this reply, and leaves this flusher and these beside it, and the rest as it was: the
-- other flushers have the blocks that they had, and so have the reclaims.
pub record FlusherStep {K V P A : Type 0} (m : Meaning K V P) (s : Settings) (sound : AreValid s) (given : model_step.Step Content) (f : ℕ)
    (old : model_state.State Content) (answer : model_reply.Reply Content)
    (φ : Seen K V P A) (slots : IndexMap) (blocks : Managed) : Type 0 where
  pub after : model_state.State Content
  pub does : Changes (machine m s sound) (layout s) old given answer after
  pub flusher : model_state.Flusher Content
  pub flushers : after.flushers ≡ put old.flushers f flusher
  pub it : IsFlusherAs m s φ flusher
  pub queue : flusher.queue ≡ (old.flushers f).queue
  pub index : IsIndexedAs s slots after.index
  pub manager : IsManagedAs s blocks (sets_of after)
  pub has : HasItsBlocks s after.place after.waiting f flusher
  pub others : LeavesOthers f old.place old.waiting after.place after.waiting
  pub kept : KeepsReclaims old.place old.filling after.place after.filling
  pub next : after.next ≡ old.next
  pub steps : after.steps ≡ old.steps
  pub closed : after.closed ≡ old.closed
  pub reclaims : after.reclaims ≡ old.reclaims
  pub destroy : after.destroy ≡ old.destroy

-- the reply to the demand for a block
abbrev pub issued_next : {A : Type 0} → Next A → model_reply.Reply Content
issued_next next.NoBlock = model_reply.NoBlock
issued_next (next.Block block writes) = model_reply.Written block (map write_of writes.items)

-- the reply to the report of a write
abbrev pub issued_wrote : Wrote → model_reply.Reply Content
issued_wrote wrote.Next = model_reply.Next
issued_wrote (wrote.Committed n) = model_reply.Committed n
issued_wrote wrote.Failed = model_reply.Failed

-- the batch ended with this reply, and the rest is left so: the model's pieces have their sequences
abbrev pub HasEnded : {K V P A : Type 0} → Meaning K V P → (s : Settings) → AreValid s → ℕ → model_state.State Content
    → (pieces : List (Referred K V P)) → (waits : List ℕ) → Seen K V P A → IndexMap → Managed → Type 0
HasEnded m s sound f it pieces waits φ slots blocks =
    (ps : List (ℕ × Content)) × (contents_of ps ≡ map (content_of m) pieces)
    × FlusherStep m s sound (model_step.FlushEnd f) f it (model_reply.Ended ps waits) φ slots blocks

-- the record of a block, once the block is known
abbrev pub settled : (block filling : ℕ) → HashedEntryAddress → HashedEntryAddress
settled block filling e = record e { address = record e.address { block = block; filling = filling } }

-- a flusher whose batch failed: the rest is dropped, and its splitter is fresh
abbrev pub failed_batch : {K V P : Type 0} → Meaning K V P → (s : Settings) → AreValid s → model_state.Flusher Content → model_state.Batch Content → model_state.Flusher Content
failed_batch m s sound it batch =
    record it {
      own = None;
      context = first_position (machine m s sound);
      batch = Some (record batch { blocks = []; continues_own_block = false; writing = None });
    }
