-- The demand for the next block of a batch, as the model answers it.
use Rattle.std.proofs.Common.{◌≡◌, ◌≢◌, ℕ, ◌+◌, ◌<◌, Bool, true, false, List, [], ◌∷◌, map, length, Option, Some, None, inl, inr, refl, sym, ap, subst, ◌∙◌, arith}
use Rattle.foyer_block_index.specs.Index.{IndexMap}
use Rattle.foyer_core_model.specs.Position.{BlockLayout, records_in}
use Rattle.foyer_core_model.specs.Flush.{writing_of, block_issued, waits_for_block, clean_block, released, Describes}
use Rattle.foyer_core_model.specs.Ids.{is_id_in, without_id, with_id}
use Rattle.foyer_core_model.specs.Numbers.{put}
use Rattle.foyer_core_model.specs.Layout.{writes_in}
use Rattle.foyer_core_model.specs.Refusal.{Allocates}
use Rattle.foyer_core_model.specs.Reply as model_reply
use Rattle.foyer_core_model.specs.State as model_state
use Rattle.foyer_core_model.specs.Step as model_step
use Rattle.foyer_core_flusher.specs.FlusherSteps.{StandsAt, FlusherStep}
use Rattle.foyer_core_flusher.specs.BlockIssued.{IsIssued}
use Rattle.foyer_core_blocks.specs.Content.{Content, Meaning}
use Rattle.foyer_core_flusher.specs.Flushing.{IsBatchAs, AreBatched, HasOwn, IsThere, IsFlusherAs}
use Rattle.foyer_core_blocks.specs.CoreRules.{machine}
use Rattle.foyer_core_flusher.specs.Issuing.{write_of}
use Rattle.foyer_core_blocks.specs.Sizes.{AreValid}
use Rattle.foyer_block_manager.specs.BlockSets.{Stands, HasSameRules, HandsOut, with_ready, after_hand_out}
use Rattle.foyer_block_manager.specs.Managed.{Managed}
use Rattle.foyer_core_blocks.specs.Standing.{sets_of, HasItsBlocks}
use Rattle.foyer_core_blocks.proofs.SetsLemmas.{ready_same, without_absent, reclaims_all, releases, hands_out}
use Rattle.foyer_core_model.proofs.Basics.{put_at, put_same, put_other}
use Rattle.foyer_core_model.proofs.Ids.{in_with, in_without}
use Rattle.foyer_core_flusher.specs.Seen.{Seen}
use Rattle.foyer_core_flusher.proofs.FlushLemmas.{batched, some_laid}
use Rattle.foyer_core_flusher.specs.declared.batch.Batch.{Batch}
use Rattle.foyer_core_flusher.specs.declared.batch.Write.{Write}
use Rattle.foyer_core_blocks.specs.Settings.{Settings}

module _ {K V P : Type 0} (m : Meaning K V P) (s : Settings) (sound : AreValid s) where
  -- a flusher whose next block is issued
  abbrev issued_flusher : model_state.Flusher Content → ℕ → model_state.Batch Content → BlockLayout Content → List (BlockLayout Content) → model_state.Flusher Content
  issued_flusher φ b batch spread rest =
      record φ {
        own = Some b;
        ready = None;
        batch = Some (record batch {
          blocks = rest;
          continues_own_block = false;
          writing = writing_of b (writes_in (machine m s sound) spread.parts) (records_in spread.parts);
        });
      }

module _ (s : Settings) (f : ℕ) (it : model_state.State Content) where
  -- a flusher that has a block wasn't given another
  ready_none : HasItsBlocks s it.place it.waiting f (it.flushers f) → (b : ℕ) → (it.flushers f).own ≡ Some b → (it.flushers f).ready ≡ None
  ready_none has b own = go (it.flushers f).ready refl
    where
      go : (r : Option ℕ) → (it.flushers f).ready ≡ r → r ≡ None
      go None e = refl
      go (Some c) e = absurd (let clash : Some b ≡ None = sym own ∙ (has.ready c e).2 in cc)

  -- the other flushers' blocks stay in their sets if this flusher leaves its own block
  pub released_others : (own : Option ℕ) → ((b : ℕ) → own ≡ Some b → it.place b ≡ model_state.Writes f) → (g c : ℕ) → (g ≡ f → ⊥)
      → it.place c ≡ model_state.Writes g → released own it.place c ≡ model_state.Writes g
  released_others None mine g c ne is = is
  released_others (Some b) mine g c ne is =
      put_at (λ p. p ≡ model_state.Writes g) it.place b model_state.Evictable c
      (λ at. absurd (ne (let same : model_state.Writes g ≡ model_state.Writes f = sym is ∙ ap it.place at ∙ mine b refl in cc))) (λ _. is)

  -- and so does a list of those that wait
  waits_less : (g : ℕ) → is_id_in g (without_id f it.waiting) ≡ true → is_id_in g it.waiting ≡ true
  waits_less g is = (in_without g f it.waiting is).0

not_going_on : (continues_own_block : Bool) (own : Option ℕ) → (continues_own_block ≡ true → HasOwn own) → (continues_own_block ≡ true → own ≡ None) → continues_own_block ≡ false
not_going_on true own has none = absurd (subst HasOwn (none refl) (has refl))
not_going_on false own has none = refl

module _ {K V P A : Type 0} (m : Meaning K V P) (s : Settings) (sound : AreValid s) (f : ℕ) (it : model_state.State Content) where
  issued_is : (φ : Seen K V P A) (left : Batch K V P A) (b : ℕ) (batch : model_state.Batch Content) (written : List (Write A))
      → IsFlusherAs m s φ (it.flushers f) → b < s.blocks → (t : IsIssued m (machine m s sound) s b written left batch)
      → IsFlusherAs m s (record φ { own = Some b; batch = Some left }) (issued_flusher m s sound (it.flushers f) b batch t.spread t.rest)
  issued_is φ left b batch written stands lt t = record {
    queue = stands.queue;
    buffer = stands.buffer;
    room = stands.room;
    greatest = stands.greatest;
    given = stands.given;
    marks = stands.marks;
    invalidated = stands.invalidated;
    waits = stands.waits;
    own = refl;
    there = lt;
    sizes = stands.sizes;
    context = stands.context;
    goes_on = stands.goes_on;
    batch = t.it;
  }

  module _ (φ : Seen K V P A) (slots : IndexMap) (blocks : Managed) (stands : StandsAt m s f it φ slots blocks)
      (batch : Batch K V P A) (is : φ.batch ≡ Some batch) where
    -- the flusher goes on with its own block
    pub next_own : (left : Batch K V P A) (b : ℕ) (written : List (Write A)) → batch.continues_own_block ≡ true → φ.own ≡ Some b
        → ((own : Option ℕ) (p : model_state.Batch Content) → IsBatchAs m s own batch p → b < s.blocks → IsIssued m (machine m s sound) s b written left p)
        → FlusherStep m s sound (model_step.FlushBlock f) f it (model_reply.Written b (map write_of written)) (record φ { own = Some b; batch = Some left }) slots blocks
    next_own left b written goes own issues =
        let got = batched m s φ.own φ.batch (it.flushers f).batch (stands.flusher).batch batch is in
        let lt : b < s.blocks = subst (IsThere s.blocks) own (stands.flusher).there in
        let t = issues φ.own got.0 got.2 lt in
        let mine : (it.flushers f).own ≡ Some b = (stands.flusher).own ∙ own in
        let none : (it.flushers f).ready ≡ None = ready_none s f it stands.has b mine in
        let still : without_id f it.waiting ≡ it.waiting = without_absent f it.waiting
        (λ waits. let clash : Some b ≡ None = sym mine ∙ ((stands.has).waits waits).0 in cc) in
        let given = issued_flusher m s sound (it.flushers f) b got.0 t.spread t.rest in
        record {
          after = block_issued (machine m s sound) it f b got.0 t.spread t.rest;
          does = subst (λ p. Describes (machine m s sound) it f p (model_reply.Written b (map write_of written)) (block_issued (machine m s sound) it f b got.0 t.spread t.rest))
              (sym got.1)
              (t.spread, t.rest, t.first, t.writes, inl ((got.2).continues_own_block ∙ goes, mine, refl));
          flusher = given;
          flushers = refl;
          it = issued_is φ left b got.0 written stands.flusher lt t;
          queue = refl;
          index = stands.index;
          manager = record {
            blocks = (stands.manager).blocks;
            flushers = (stands.manager).flushers;
            reclaimers = (stands.manager).reclaimers;
            clean_threshold = (stands.manager).clean_threshold;
            sets = subst (λ w. Stands blocks (record (sets_of it) { waiting = w; ready = λ g. (put it.flushers f given g).ready })) (sym still)
                (ready_same blocks (sets_of it) (λ g. (put it.flushers f given g).ready) (stands.manager).sets
                (λ g. put_at (λ (ψ : model_state.Flusher Content). ψ.ready ≡ (it.flushers g).ready) it.flushers f given g
                (λ at. sym (ap (λ k. (it.flushers k).ready) at ∙ none)) (λ _. refl)));
          };
          has = record {
            own = λ c e. let same : b ≡ c = cc in ap it.place (sym same) ∙ (stands.has).own b mine;
            ready = λ c e. absurd (let clash : None ≡ Some c = e in cc);
            waits = λ e. absurd ((in_without f f it.waiting e).1 refl);
          };
          others = record { block_set = λ g c ne e. e; waits = λ g ne e. waits_less s f it g e };
          kept = reclaims_all it.place it.filling;
          next = refl;
          steps = refl;
          closed = refl;
          reclaims = refl;
          destroy = refl;
        }

    -- it gets the block that it was given while it waited
    next_ready : (left : Batch K V P A) (b : ℕ) (written : List (Write A)) (new : Managed) → (batch.continues_own_block ≡ true → φ.own ≡ None)
        → HasSameRules blocks new → (it.flushers f).ready ≡ Some b → Stands new (with_ready (record (sets_of it) { block_set = released φ.own it.place }) f)
        → ((own : Option ℕ) (p : model_state.Batch Content) → IsBatchAs m s own batch p → b < s.blocks → IsIssued m (machine m s sound) s b written left p)
        → FlusherStep m s sound (model_step.FlushBlock f) f it (model_reply.Written b (map write_of written)) (record φ { own = Some b; batch = Some left }) slots new
    next_ready left b written new goes same ready sets issues =
        let got = batched m s φ.own φ.batch (it.flushers f).batch (stands.flusher).batch batch is in
        let mine = (stands.has).ready b ready in
        let none : φ.own ≡ None = sym (stands.flusher).own ∙ mine.2 in
        let t = issues φ.own got.0 got.2 mine.1 in
        let given = issued_flusher m s sound (it.flushers f) b got.0 t.spread t.rest in
        record {
          after = block_issued (machine m s sound) it f b got.0 t.spread t.rest;
          does = subst (λ p. Describes (machine m s sound) it f p (model_reply.Written b (map write_of written)) (block_issued (machine m s sound) it f b got.0 t.spread t.rest))
              (sym got.1)
              (t.spread, t.rest, t.first, t.writes, inr (inl ((got.2).continues_own_block ∙ not_going_on batch.continues_own_block φ.own (got.2).owned goes, ready, refl)));
          flusher = given;
          flushers = refl;
          it = issued_is φ left b got.0 written stands.flusher mine.1 t;
          queue = refl;
          index = stands.index;
          manager = record {
            blocks = same.blocks ∙ (stands.manager).blocks;
            flushers = same.flushers ∙ (stands.manager).flushers;
            reclaimers = same.reclaimers ∙ (stands.manager).reclaimers;
            clean_threshold = same.clean_threshold ∙ (stands.manager).clean_threshold;
            sets = ready_same new (with_ready (sets_of it) f) (λ g. (put it.flushers f given g).ready)
                (subst (λ (o : Option ℕ). Stands new (with_ready (record (sets_of it) { block_set = released o it.place }) f)) none sets)
                (λ g. put_at (λ (ψ : model_state.Flusher Content). ψ.ready ≡ put (λ q. (it.flushers q).ready) f None g) it.flushers f given g
                (λ at. sym (ap (put (λ q. (it.flushers q).ready) f None) at ∙ put_same (λ q. (it.flushers q).ready) f None))
                (λ ne. sym (put_other (λ q. (it.flushers q).ready) f None g ne)));
          };
          has = record {
            own = λ c e. let same : b ≡ c = cc in ap it.place (sym same) ∙ mine.0;
            ready = λ c e. absurd (let clash : None ≡ Some c = e in cc);
            waits = λ e. absurd ((in_without f f it.waiting e).1 refl);
          };
          others = record { block_set = λ g c ne e. e; waits = λ g ne e. waits_less s f it g e };
          kept = reclaims_all it.place it.filling;
          next = refl;
          steps = refl;
          closed = refl;
          reclaims = refl;
          destroy = refl;
        }

    -- it gets the block that has been clean longest
    next_clean : (left : Batch K V P A) (b : ℕ) (written : List (Write A)) (new : Managed) → (batch.continues_own_block ≡ true → φ.own ≡ None)
        → HasSameRules blocks new → (it.flushers f).ready ≡ None → clean_block (machine m s sound) it ≡ Some b → released φ.own it.place b ≡ model_state.Clean → b < length new.blocks
        → Stands new (after_hand_out (record (sets_of it) { block_set = released φ.own it.place }) f b)
        → ((own : Option ℕ) (p : model_state.Batch Content) → IsBatchAs m s own batch p → b < s.blocks → IsIssued m (machine m s sound) s b written left p)
        → FlusherStep m s sound (model_step.FlushBlock f) f it (model_reply.Written b (map write_of written)) (record φ { own = Some b; batch = Some left }) slots new
    next_clean left b written new goes same ready clean was there sets issues =
        let got = batched m s φ.own φ.batch (it.flushers f).batch (stands.flusher).batch batch is in
        let size : length new.blocks ≡ s.blocks = same.blocks ∙ (stands.manager).blocks in
        let lt : b < s.blocks = omega arith in
        let t = issues φ.own got.0 got.2 lt in
        let given = issued_flusher m s sound (it.flushers f) b got.0 t.spread t.rest in
        let own : (it.flushers f).own ≡ φ.own = (stands.flusher).own in
        let after : model_state.State Content =
        record (block_issued (machine m s sound) it f b got.0 t.spread t.rest) {
          filling = put it.filling b (it.filling b + 1);
          clean = without_id b it.clean;
          place = put (released (it.flushers f).own it.place) b (model_state.Writes f);
        } in
        record {
          after = after;
          does = subst (λ p. Describes (machine m s sound) it f p (model_reply.Written b (map write_of written)) after) (sym got.1) (
            t.spread,
            t.rest,
            t.first,
            t.writes,
            inr (inr ((got.2).continues_own_block ∙ not_going_on batch.continues_own_block φ.own (got.2).owned goes, ready, clean, refl)),
          );
          flusher = given;
          flushers = refl;
          it = issued_is φ left b got.0 written stands.flusher lt t;
          queue = refl;
          index = stands.index;
          manager = record {
            blocks = size;
            flushers = same.flushers ∙ (stands.manager).flushers;
            reclaimers = same.reclaimers ∙ (stands.manager).reclaimers;
            clean_threshold = same.clean_threshold ∙ (stands.manager).clean_threshold;
            sets = ready_same new (after_hand_out (record (sets_of it) { block_set = released (it.flushers f).own it.place }) f b) (λ g. (put it.flushers f given g).ready)
                (subst (λ (o : Option ℕ). Stands new (after_hand_out (record (sets_of it) { block_set = released o it.place }) f b)) (sym own) sets)
                (λ g. put_at (λ (ψ : model_state.Flusher Content). ψ.ready ≡ (it.flushers g).ready) it.flushers f given g
                (λ at. sym (ap (λ k. (it.flushers k).ready) at ∙ ready)) (λ _. refl));
          };
          has = record {
            own = λ c e. let same : b ≡ c = cc in subst (λ k. put (released (it.flushers f).own it.place) b (model_state.Writes f) k ≡ model_state.Writes f) same
                (put_same (released (it.flushers f).own it.place) b (model_state.Writes f));
            ready = λ c e. absurd (let clash : None ≡ Some c = e in cc);
            waits = λ e. absurd ((in_without f f it.waiting e).1 refl);
          };
          others = record {
            block_set = λ g c ne e.
                let stays : released (it.flushers f).own it.place c ≡ model_state.Writes g = released_others s f it (it.flushers f).own (stands.has).own g c ne e in
                let clean_was : released (it.flushers f).own it.place b ≡ model_state.Clean = subst (λ o. released o it.place b ≡ model_state.Clean) (sym own) was in
                put_other (released (it.flushers f).own it.place) b (model_state.Writes f) c
                (λ at. let clash : model_state.Writes g ≡ model_state.Clean = sym stays ∙ ap (released (it.flushers f).own it.place) at ∙ clean_was in cc) ∙ stays;
            waits = λ g ne e. waits_less s f it g e;
          };
          kept = hands_out it.place it.filling f (it.flushers f).own (stands.has).own b (it.filling b + 1)
              (subst (λ o. released o it.place b ≡ model_state.Clean) (sym own) was);
          next = refl;
          steps = refl;
          closed = refl;
          reclaims = refl;
          destroy = refl;
        }

    -- it gets a block that isn't its own
    pub next_given : (left : Batch K V P A) (b : ℕ) (written : List (Write A)) (new : Managed) → (batch.continues_own_block ≡ true → φ.own ≡ None)
        → HasSameRules blocks new → HandsOut (record (sets_of it) { block_set = released φ.own it.place }) f (Some b) new
        → ((own : Option ℕ) (p : model_state.Batch Content) → IsBatchAs m s own batch p → b < s.blocks → IsIssued m (machine m s sound) s b written left p)
        → FlusherStep m s sound (model_step.FlushBlock f) f it (model_reply.Written b (map write_of written)) (record φ { own = Some b; batch = Some left }) slots new
    next_given left b written new goes same handed issues = elim handed [
      | inl r ↦ next_ready left b written new goes same r.0 r.1 issues
      | inr r ↦ next_clean left b written new goes same r.0 r.1 r.2 r.3 r.4 issues
    ]

    -- none is clean, and it waits
    pub next_none : (new : Managed) → (batch.continues_own_block ≡ true → φ.own ≡ None)
        → HasSameRules blocks new → HandsOut (record (sets_of it) { block_set = released φ.own it.place }) f None new
        → FlusherStep m s sound (model_step.FlushBlock f) f it model_reply.NoBlock (record φ { own = None; batch = Some batch }) slots new
    next_none new goes same handed =
        let got = batched m s φ.own φ.batch (it.flushers f).batch (stands.flusher).batch batch is in
        let own : (it.flushers f).own ≡ φ.own = (stands.flusher).own in
        record {
          after = waits_for_block (machine m s sound) it f;
          does = subst (λ p. Describes (machine m s sound) it f p model_reply.NoBlock (waits_for_block (machine m s sound) it f)) (sym got.1)
              ((got.2).continues_own_block ∙ not_going_on batch.continues_own_block φ.own (got.2).owned goes, handed.0, handed.1, refl);
          flusher = record (it.flushers f) { own = None };
          flushers = refl;
          it = record {
            queue = (stands.flusher).queue;
            buffer = (stands.flusher).buffer;
            room = (stands.flusher).room;
            greatest = (stands.flusher).greatest;
            given = (stands.flusher).given;
            marks = (stands.flusher).marks;
            invalidated = (stands.flusher).invalidated;
            waits = (stands.flusher).waits;
            own = refl;
            there = tt;
            sizes = (stands.flusher).sizes;
            context = (stands.flusher).context;
            goes_on = (stands.flusher).goes_on;
            batch = subst (λ p. AreBatched m s None (Some batch) p) (sym got.1) (record {
              blocks = (got.2).blocks;
              within = (got.2).within;
              given = (got.2).given;
              continues_own_block = (got.2).continues_own_block;
              owned = λ e. let clash : true ≡ false = sym e ∙ not_going_on batch.continues_own_block φ.own (got.2).owned goes in absurd cc;
              writing = (got.2).writing;
              marks = (got.2).marks;
              invalidated = (got.2).invalidated;
              pieces = (got.2).pieces;
              waits = (got.2).waits;
              logged = (got.2).logged;
            });
          };
          queue = refl;
          index = stands.index;
          manager = record {
            blocks = same.blocks ∙ (stands.manager).blocks;
            flushers = same.flushers ∙ (stands.manager).flushers;
            reclaimers = same.reclaimers ∙ (stands.manager).reclaimers;
            clean_threshold = same.clean_threshold ∙ (stands.manager).clean_threshold;
            sets = ready_same new (record (sets_of it) { block_set = released (it.flushers f).own it.place; waiting = with_id f it.waiting })
                (λ g. (put it.flushers f (record (it.flushers f) { own = None }) g).ready)
                (subst (λ (o : Option ℕ). Stands new (record (sets_of it) { block_set = released o it.place; waiting = with_id f it.waiting })) (sym own) handed.2)
                (λ g. put_at (λ (ψ : model_state.Flusher Content). ψ.ready ≡ (it.flushers g).ready) it.flushers f (record (it.flushers f) { own = None }) g
                (λ at. sym (ap (λ k. (it.flushers k).ready) at)) (λ _. refl));
          };
          has = record {
            own = λ c e. absurd (let clash : None ≡ Some c = e in cc);
            ready = λ c e. absurd (let clash : None ≡ Some c = sym handed.0 ∙ e in cc);
            waits = λ e. (refl, handed.0);
          };
          others = record {
            block_set = λ g c ne e. released_others s f it (it.flushers f).own (stands.has).own g c ne e;
            waits = λ g ne e. elim (in_with g f it.waiting e) [ inl there ↦ there | inr at ↦ absurd (ne at) ];
          };
          kept = releases it.place it.filling f (it.flushers f).own (stands.has).own;
          next = refl;
          steps = refl;
          closed = refl;
          reclaims = refl;
          destroy = refl;
        }

    -- the step would have some reply, whatever memory there is
    pub would_issue : (batch.blocks.items ≢ []) → (answer : model_reply.Reply Content) × (new : model_state.State Content)
        × Describes (machine m s sound) it f (it.flushers f).batch answer new × Allocates {C = Content} (model_step.FlushBlock f) answer
    would_issue some =
        subst (λ p. (answer : model_reply.Reply Content) × (new : model_state.State Content) × Describes (machine m s sound) it f p answer new × Allocates {C = Content} (model_step.FlushBlock f) answer)
        (sym got.1) (go got.0 (got.2) (some_laid batch.blocks.items (got.0).blocks (got.2).blocks some))
      where
        got : (p : model_state.Batch Content) × ((it.flushers f).batch ≡ Some p) × IsBatchAs m s φ.own batch p
        got = batched m s φ.own φ.batch (it.flushers f).batch (stands.flusher).batch batch is

        clean : (p : model_state.Batch Content) (spread : BlockLayout Content) (rest : List (BlockLayout Content)) → p.blocks ≡ spread ∷ rest → p.continues_own_block ≡ false → (it.flushers f).ready ≡ None
            → (o : Option ℕ) → clean_block (machine m s sound) it ≡ o
            → (answer : model_reply.Reply Content) × (new : model_state.State Content) × Describes (machine m s sound) it f (Some p) answer new × Allocates {C = Content} (model_step.FlushBlock f) answer
        clean p spread rest first goes ready None e =
            (model_reply.NoBlock, waits_for_block (machine m s sound) it f, (goes, ready, e, refl), tt)
        clean p spread rest first goes ready (Some b) e = (
          model_reply.Written b (writes_in (machine m s sound) spread.parts),
          record (block_issued (machine m s sound) it f b p spread rest) {
            filling = put it.filling b (it.filling b + 1);
            clean = without_id b it.clean;
            place = put (released (it.flushers f).own it.place) b (model_state.Writes f);
          },
          (spread, rest, first, refl, inr (inr (goes, ready, e, refl))),
          tt,
        )

        given : (p : model_state.Batch Content) (spread : BlockLayout Content) (rest : List (BlockLayout Content)) → p.blocks ≡ spread ∷ rest → p.continues_own_block ≡ false
            → (o : Option ℕ) → (it.flushers f).ready ≡ o
            → (answer : model_reply.Reply Content) × (new : model_state.State Content) × Describes (machine m s sound) it f (Some p) answer new × Allocates {C = Content} (model_step.FlushBlock f) answer
        given p spread rest first goes None e = clean p spread rest first goes e (clean_block (machine m s sound) it) refl
        given p spread rest first goes (Some b) e = (
          model_reply.Written b (writes_in (machine m s sound) spread.parts),
          block_issued (machine m s sound) it f b p spread rest,
          (spread, rest, first, refl, inr (inl (goes, e, refl))),
          tt,
        )

        owned : (p : model_state.Batch Content) (spread : BlockLayout Content) (rest : List (BlockLayout Content)) → p.blocks ≡ spread ∷ rest → p.continues_own_block ≡ true → (o : Option ℕ) → (it.flushers f).own ≡ o → HasOwn o
            → (answer : model_reply.Reply Content) × (new : model_state.State Content) × Describes (machine m s sound) it f (Some p) answer new × Allocates {C = Content} (model_step.FlushBlock f) answer
        owned p spread rest first goes None e has = absurd has
        owned p spread rest first goes (Some b) e has = (
          model_reply.Written b (writes_in (machine m s sound) spread.parts),
          block_issued (machine m s sound) it f b p spread rest,
          (spread, rest, first, refl, inl (goes, e, refl)),
          tt,
        )

        go : (p : model_state.Batch Content) → IsBatchAs m s φ.own batch p → (spread : BlockLayout Content) × (rest : List (BlockLayout Content)) × (p.blocks ≡ spread ∷ rest)
            → (answer : model_reply.Reply Content) × (new : model_state.State Content) × Describes (machine m s sound) it f (Some p) answer new × Allocates {C = Content} (model_step.FlushBlock f) answer
        go p are first = ways (batch.continues_own_block) refl
          where
            ways : (t : Bool) → batch.continues_own_block ≡ t
                → (answer : model_reply.Reply Content) × (new : model_state.State Content) × Describes (machine m s sound) it f (Some p) answer new × Allocates {C = Content} (model_step.FlushBlock f) answer
            ways true e = owned p first.0 first.1 first.2 (are.continues_own_block ∙ e) φ.own (stands.flusher).own (are.owned e)
            ways false e = given p first.0 first.1 first.2 (are.continues_own_block ∙ e) (it.flushers f).ready refl
