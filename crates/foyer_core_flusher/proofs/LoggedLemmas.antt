-- The outcome of the log of deletes, as the model notes it.
use Rattle.std.proofs.Common.{◌≡◌, ℕ, Bool, Option, Some, refl, sym, subst}
use Rattle.foyer_block_index.specs.Index.{IndexMap}
use Rattle.foyer_format_layout.specs.Each.{Each}
use Rattle.foyer_core_model.specs.Flush.{Logs}
use Rattle.foyer_core_model.specs.Receive.{turned}
use Rattle.foyer_core_model.specs.Reply as model_reply
use Rattle.foyer_core_model.specs.State as model_state
use Rattle.foyer_core_model.specs.Step as model_step
use Rattle.foyer_core_blocks.specs.Content.{Content, Meaning}
use Rattle.foyer_core_blocks.specs.CoreRules.{machine}
use Rattle.foyer_core_blocks.specs.Sizes.{AreValid}
use Rattle.foyer_core_blocks.specs.Settings.{Settings}
use Rattle.foyer_block_manager.specs.Managed.{Managed}
use Rattle.foyer_core_blocks.proofs.SetsLemmas.{managed_kept, same_blocks, leaves_all, reclaims_all}
use Rattle.foyer_core_flusher.specs.FlusherSteps.{StandsAt, FlusherStep}
use Rattle.foyer_core_flusher.specs.Flushing.{IsBatchAs}
use Rattle.foyer_core_flusher.specs.Offsets.{BlockFits}
use Rattle.foyer_core_flusher.specs.Seen.{Seen}
use Rattle.foyer_core_flusher.specs.declared.batch.Batch.{Batch}
use Rattle.foyer_core_flusher.proofs.FlushLemmas.{batched}
use Rattle.foyer_core_flusher.proofs.WroteLemmas.{batch_put}

module _ {K V P A : Type 0} (m : Meaning K V P) (s : Settings) where
  -- the log's answer is this one
  answer_put : (own : Option ℕ) (batch : Batch K V P A) (p : model_state.Batch Content) (answer : Option Bool) (fits : Each BlockFits batch.blocks.items)
      → IsBatchAs m s own batch p → IsBatchAs m s own (record batch { logged = answer; fits = fits }) (record p { logged = answer })
  answer_put own batch p answer fits are = record {
    blocks = are.blocks;
    within = are.within;
    given = are.given;
    continues_own_block = are.continues_own_block;
    owned = are.owned;
    writing = are.writing;
    marks = are.marks;
    invalidated = are.invalidated;
    pieces = are.pieces;
    waits = are.waits;
    logged = refl;
  }

  -- a batch's outcome is noted
  pub noted : (sound : AreValid s) (f : ℕ) (it : model_state.State Content) (φ : Seen K V P A) (slots : IndexMap) (blocks : Managed) → StandsAt m s f it φ slots blocks
      → (batch : Batch K V P A) → φ.batch ≡ Some batch → (ok : Bool) → (fits : Each BlockFits batch.blocks.items)
      → FlusherStep m s sound (model_step.LogWrote f ok) f it model_reply.Done (record φ { batch = Some (record batch { logged = Some ok; fits = fits }) }) slots blocks
  noted sound f it φ slots blocks stands batch is ok fits =
      let got = batched m s φ.own φ.batch (it.flushers f).batch (stands.flusher).batch batch is in
      let p : model_state.Batch Content = record got.0 { logged = Some ok } in
      let after : model_state.Flusher Content = record (it.flushers f) { batch = Some p } in
      record {
        after = turned (machine m s sound) it f after;
        does = subst (λ q. Logs (machine m s sound) it f ok q model_reply.Done (turned (machine m s sound) it f after)) (sym got.1) refl;
        flusher = after;
        flushers = refl;
        it = batch_put m s φ (it.flushers f) (record batch { logged = Some ok; fits = fits }) p stands.flusher (answer_put φ.own batch got.0 (Some ok) fits got.2);
        queue = refl;
        index = stands.index;
        manager = managed_kept s f it blocks after (record { own = refl; ready = refl }) stands.manager;
        has = same_blocks s f it.place it.waiting (it.flushers f) after (record { own = refl; ready = refl }) stands.has;
        others = leaves_all f it.place it.waiting;
        kept = reclaims_all it.place it.filling;
        next = refl;
        steps = refl;
        closed = refl;
        reclaims = refl;
        destroy = refl;
      }
