-- The report of a write, and the end of a batch, as the model takes them.
use Rattle.std.proofs.Common.{◌≡◌, ℕ, ◌-◌, ◌<◌, ◌≤◌, Bool, true, false, List, [], ◌∷◌, map, length, Option, Some, None, refl, sym, ap, subst, ◌∙◌, arith}
use Rattle.std.specs.declared.vec.Vec.{Vec}
use Rattle.foyer_block_index.specs.Index.{IndexMap}
use Rattle.foyer_block_index.specs.declared.indexer.EntryAddress.{EntryAddress}
use Rattle.foyer_block_index.specs.declared.indexer.HashedEntryAddress.{HashedEntryAddress}
use Rattle.foyer_block_index.specs.Committing.{committed_all, put_count}
use Rattle.foyer_block_index.specs.Removal.{without_marks}
use Rattle.foyer_core_model.specs.Commit.{commit_of}
use Rattle.foyer_format_layout.specs.BlockBytes.{Write}
use Rattle.foyer_core_model.specs.Flush.{released, invalidated_unless, commit_in, write_done, block_done, batch_failed, Wrote, Finishes}
use Rattle.foyer_core_model.specs.Index.{unmarked}
use Rattle.foyer_core_model.specs.Numbers.{put}
use Rattle.foyer_core_model.specs.Reply as model_reply
use Rattle.foyer_core_model.specs.State as model_state
use Rattle.foyer_core_model.specs.Step as model_step
use Rattle.foyer_core_flusher.specs.FlusherSteps.{StandsAt, FlusherStep, settled, failed_batch, issued_wrote, HasEnded}
use Rattle.foyer_core_blocks.specs.Content.{Content, Meaning}
use Rattle.foyer_core_flusher.specs.Flushing.{AreEntering, AreFrom, IsWritingAs, AreWriting, IsBatchAs, IsFlusherAs}
use Rattle.foyer_core_blocks.specs.Addresses.{invalid_of}
use Rattle.foyer_block_manager.specs.BlockSets.{Stands, HasSameRules}
use Rattle.foyer_block_manager.specs.Managed.{Managed, filling_in}
use Rattle.foyer_core_blocks.specs.CoreRules.{machine}
use Rattle.foyer_core_blocks.specs.Addresses.{mark_of}
use Rattle.foyer_core_blocks.specs.Sizes.{AreValid}
use Rattle.foyer_core_blocks.specs.Standing.{IsIndexedAs, sets_of}
use Rattle.foyer_core_flusher.specs.Seen.{Seen}
use Rattle.foyer_core_blocks.proofs.SetsLemmas.{filling_at, managed_kept, same_blocks, leaves_all, reclaims_all, releases, ready_same}
use Rattle.foyer_core_flusher.proofs.NextLemmas.{released_others}
use Rattle.foyer_core_model.proofs.Basics.{put_at}
use Rattle.foyer_core_flusher.proofs.FlushLemmas.{batched, written}
use Rattle.foyer_core_flusher.proofs.CommitLemmas.{committed, puts_all}
use Rattle.foyer_core_blocks.proofs.IndexLemmas.{unmarked_is}
use Rattle.foyer_core_flusher.specs.declared.batch.Wrote.{Wrote as Answer}
use Rattle.foyer_core_flusher.specs.declared.batch.Wrote.TheVariants as answers
use Rattle.foyer_core_flusher.specs.declared.batch.Batch.{Batch}
use Rattle.foyer_core_flusher.specs.declared.batch.Writing.{Writing}
use Rattle.foyer_core_blocks.specs.Settings.{Settings}

first_left : (ws : List Write) → 0 < length ws → (first : Write) × (rest : List Write) × (ws ≡ first ∷ rest)
first_left [] some = absurd (omega arith)
first_left (w ∷ ws) some = (w, ws, refl)

two_left : (ws : List Write) → 1 < length ws → (first second : Write) × (rest : List Write) × (ws ≡ first ∷ second ∷ rest)
two_left [] some = absurd (omega arith)
two_left (w ∷ []) some = absurd (omega arith)
two_left (w ∷ v ∷ ws) some = (w, v, ws, refl)

last_left : (first : Write) (rest ws : List Write) → ws ≡ first ∷ rest → length ws ≤ 1 → rest ≡ []
last_left first [] ws is few = refl
last_left first (w ∷ rest) ws is few = let two : length ws ≡ length (first ∷ w ∷ rest) = ap length is in absurd (omega arith)

module _ {K V P A : Type 0} (m : Meaning K V P) (s : Settings) where
  -- another batch in a flusher
  pub batch_put : (φ : Seen K V P A) (it : model_state.Flusher Content) (batch : Batch K V P A) (p : model_state.Batch Content) → IsFlusherAs m s φ it
      → IsBatchAs m s φ.own batch p → IsFlusherAs m s (record φ { batch = Some batch }) (record it { batch = Some p })
  batch_put φ it batch p stands are = record {
    queue = stands.queue;
    buffer = stands.buffer;
    room = stands.room;
    greatest = stands.greatest;
    given = stands.given;
    marks = stands.marks;
    invalidated = stands.invalidated;
    waits = stands.waits;
    own = stands.own;
    there = stands.there;
    sizes = stands.sizes;
    context = stands.context;
    goes_on = stands.goes_on;
    batch = are;
  }

  -- the block that is written is another, or none
  writing_put : (own : Option ℕ) (batch : Batch K V P A) (p : model_state.Batch Content) (w : Option (Writing A)) (v : Option (model_state.Writing Content)) → IsBatchAs m s own batch p
      → AreWriting s w v → IsBatchAs m s own (record batch { writing = w }) (record p { writing = v })
  writing_put own batch p w v are new = record {
    blocks = are.blocks;
    within = are.within;
    given = are.given;
    continues_own_block = are.continues_own_block;
    owned = are.owned;
    writing = new;
    marks = are.marks;
    invalidated = are.invalidated;
    pieces = are.pieces;
    waits = are.waits;
    logged = are.logged;
  }

module _ {K V P A : Type 0} (m : Meaning K V P) (s : Settings) (sound : AreValid s) (f : ℕ) (it : model_state.State Content)
    (φ : Seen K V P A) (slots : IndexMap) (blocks : Managed) (stands : StandsAt m s f it φ slots blocks)
    (batch : Batch K V P A) (is : φ.batch ≡ Some batch) (w : Writing A) (writes : batch.writing ≡ Some w) where
  pub got : (p : model_state.Batch Content) × ((it.flushers f).batch ≡ Some p) × IsBatchAs m s φ.own batch p
  got = batched m s φ.own φ.batch (it.flushers f).batch (stands.flusher).batch batch is

  at : (v : model_state.Writing Content) × ((got.0).writing ≡ Some v) × IsWritingAs s w v
  at = written m s batch.writing (got.0).writing ((got.2).writing) w writes

  -- another write is left
  pub wrote_next : (u : Writing A) → 1 < w.left → u.left ≡ w.left - 1 → u.block ≡ w.block → u.records ≡ w.records → u.sources ≡ w.sources
      → FlusherStep m s sound (model_step.FlushWrote f true) f it model_reply.Next (record φ { batch = Some (record batch { writing = Some u }) }) slots blocks
  wrote_next u more less same_block same_records same_sources =
      let two = two_left (at.0).left (let e : length (at.0).left ≡ w.left = (at.2).left in omega arith) in
      let v : model_state.Writing Content = record at.0 { left = two.1 ∷ two.2 } in
      let p : model_state.Batch Content = record got.0 { writing = Some v } in
      record {
        after = write_done (machine m s sound) it f got.0 at.0 (two.1 ∷ two.2);
        does = subst (λ q. Wrote (machine m s sound) it f true q model_reply.Next (write_done (machine m s sound) it f got.0 at.0 (two.1 ∷ two.2))) (sym got.1)
            (at.0, two.0, two.1, two.2, at.1, two.3, refl);
        flusher = record (it.flushers f) { batch = Some p };
        flushers = refl;
        it = batch_put m s φ (it.flushers f) (record batch { writing = Some u }) p stands.flusher
            (writing_put m s φ.own batch got.0 (Some u) (Some v) got.2 (record {
              records = subst (λ (es : Vec HashedEntryAddress A). AreEntering es.items (at.0).records) (sym same_records) (at.2).records;
              given = subst (λ (os : Vec (Option EntryAddress) A). AreFrom os.items (map (λ p. p.1) (at.0).records)) (sym same_sources) (at.2).given;
              within = (at.2).within;
              block = (at.2).block ∙ sym same_block;
              there = subst (λ k. k < s.blocks) (sym same_block) (at.2).there;
              left = let e : length (at.0).left ≡ w.left = (at.2).left in let k : length (at.0).left ≡ length (two.0 ∷ two.1 ∷ two.2) = ap length two.3 in omega arith;
              some = omega arith;
            }));
        queue = refl;
        index = stands.index;
        manager = managed_kept s f it blocks (record (it.flushers f) { batch = Some p }) (record { own = refl; ready = refl }) stands.manager;
        has = same_blocks s f it.place it.waiting (it.flushers f) (record (it.flushers f) { batch = Some p }) (record { own = refl; ready = refl }) stands.has;
        others = leaves_all f it.place it.waiting;
        kept = reclaims_all it.place it.filling;
        next = refl;
        steps = refl;
        closed = refl;
        reclaims = refl;
        destroy = refl;
      }

  -- no block is being written
  idle_is : IsFlusherAs m s (record φ { batch = Some (record batch { writing = None }) }) (record (it.flushers f) { batch = Some (record got.0 { writing = None }) })
  idle_is = batch_put m s φ (it.flushers f) (record batch { writing = None }) (record got.0 { writing = None }) stands.flusher
      (writing_put m s φ.own batch got.0 None None got.2 tt)

  -- the block's records enter the index
  pub wrote_last : (n filling : ℕ) (slots' : IndexMap) → w.left ≤ 1 → filling ≡ filling_in blocks.blocks w.block
      → n ≡ put_count slots (map (settled w.block filling) w.records.items) w.sources.items
      → slots' ≡ committed_all slots (map (settled w.block filling) w.records.items) w.sources.items
      → FlusherStep m s sound (model_step.FlushWrote f true) f it (model_reply.Committed n) (record φ { batch = Some (record batch { writing = None }) }) slots' blocks
  wrote_last n filling slots' few read count new =
      let size : length blocks.blocks ≡ s.blocks = (stands.manager).blocks in
      let there : w.block < s.blocks = (at.2).there in
      let fill : filling ≡ it.filling w.block = read ∙ filling_at blocks (sets_of it) w.block (stands.manager).sets (omega arith) in
      let one = first_left (at.0).left (let e : length (at.0).left ≡ w.left = (at.2).left in let k : 0 < w.left = (at.2).some in omega arith) in
      let last : one.1 ≡ [] = last_left one.0 one.1 (at.0).left one.2 (let e : length (at.0).left ≡ w.left = (at.2).left in omega arith) in
      let block : (at.0).block ≡ w.block = (at.2).block in
      let commits : commit_of (at.0).block (it.filling (at.0).block) (at.0).records it.index ≡ commit_of w.block filling (at.0).records it.index =
      (λ i. commit_of (block i) (it.filling (block i)) (at.0).records it.index) ∙ ap (λ k. commit_of w.block k (at.0).records it.index) (sym fill) in
      record {
        after = block_done (machine m s sound) it f got.0 at.0;
        does = subst (λ q. Wrote (machine m s sound) it f true q (model_reply.Committed n) (block_done (machine m s sound) it f got.0 at.0)) (sym got.1) (
          at.0,
          one.0,
          at.1,
          one.2 ∙ ap (λ l. one.0 ∷ l) last,
          count ∙ puts_all s w.block filling (at.2).there w.records.items w.sources.items (at.0).records slots it.index (at.2).records (at.2).given stands.index ∙ ap (λ k. length k.puts) (sym commits),
          refl,
        );
        flusher = record (it.flushers f) { batch = Some (record got.0 { writing = None }) };
        flushers = refl;
        it = idle_is;
        queue = refl;
        index = subst (λ k. IsIndexedAs s k (commit_in it at.0).index) (sym new)
            (subst (λ k. IsIndexedAs s (committed_all slots (map (settled w.block filling) w.records.items) w.sources.items) k.index) (sym commits)
            (committed s w.block filling (at.2).there w.records.items w.sources.items (at.0).records slots it.index (at.2).records (at.2).given stands.index));
        manager = managed_kept s f it blocks (record (it.flushers f) { batch = Some (record got.0 { writing = None }) }) (record { own = refl; ready = refl }) stands.manager;
        has = same_blocks s f it.place it.waiting (it.flushers f) (record (it.flushers f) { batch = Some (record got.0 { writing = None }) }) (record { own = refl; ready = refl }) stands.has;
        others = leaves_all f it.place it.waiting;
        kept = reclaims_all it.place it.filling;
        next = refl;
        steps = refl;
        closed = refl;
        reclaims = refl;
        destroy = refl;
      }

  -- the rest of the batch is dropped
  wrote_failed : (ok : Bool) (ψ : Seen K V P A) (new : Managed) → (ok ≡ true → w.left ≤ 1)
      → IsFlusherAs m s ψ (failed_batch m s sound (record (it.flushers f) { batch = Some (record got.0 { writing = None }) }) (record got.0 { writing = None }))
      → HasSameRules blocks new → Stands new (record (sets_of it) { block_set = released φ.own it.place })
      → FlusherStep m s sound (model_step.FlushWrote f ok) f it model_reply.Failed ψ slots new
  wrote_failed ok ψ new few left same sets =
      let one = first_left (at.0).left (let e : length (at.0).left ≡ w.left = (at.2).left in let k : 0 < w.left = (at.2).some in omega arith) in
      let last : ok ≡ true → one.1 ≡ [] = (λ yes. last_left one.0 one.1 (at.0).left one.2 (let e : length (at.0).left ≡ w.left = (at.2).left in let k : w.left ≤ 1 = few yes in omega arith)) in
      let own : (it.flushers f).own ≡ φ.own = (stands.flusher).own in
      let failed : model_state.Flusher Content = failed_batch m s sound (record (it.flushers f) { batch = Some (record got.0 { writing = None }) }) (record got.0 { writing = None }) in
      record {
        after = batch_failed (machine m s sound) it f got.0;
        does = subst (λ q. Wrote (machine m s sound) it f ok q model_reply.Failed (batch_failed (machine m s sound) it f got.0)) (sym got.1)
            (fails ok (batch_failed (machine m s sound) it f got.0) one.0 one.1 one.2 last refl);
        flusher = failed;
        flushers = refl;
        it = left;
        queue = refl;
        index = stands.index;
        manager = record {
          blocks = same.blocks ∙ (stands.manager).blocks;
          flushers = same.flushers ∙ (stands.manager).flushers;
          reclaimers = same.reclaimers ∙ (stands.manager).reclaimers;
          clean_threshold = same.clean_threshold ∙ (stands.manager).clean_threshold;
          sets = ready_same new (record (sets_of it) { block_set = released (it.flushers f).own it.place }) (λ g. (put it.flushers f failed g).ready)
              (subst (λ (o : Option ℕ). Stands new (record (sets_of it) { block_set = released o it.place })) (sym own) sets)
              (λ g. put_at (λ (χ : model_state.Flusher Content). χ.ready ≡ (it.flushers g).ready) it.flushers f failed g
              (λ at. sym (ap (λ k. (it.flushers k).ready) at)) (λ _. refl));
        };
        has = record {
          own = λ c e. absurd (let clash : None ≡ Some c = e in cc);
          ready = λ c e. let r = (stands.has).ready c e in
              (subst (λ (o : Option ℕ). released o it.place c ≡ model_state.Writes f) (sym r.2) r.0, r.1, refl);
          waits = λ e. (refl, ((stands.has).waits e).1);
        };
        others = record {
          block_set = λ g c ne e. released_others s f it (it.flushers f).own (stands.has).own g c ne e;
          waits = λ g ne e. e;
        };
        kept = releases it.place it.filling f (it.flushers f).own (stands.has).own;
        next = refl;
        steps = refl;
        closed = refl;
        reclaims = refl;
        destroy = refl;
      }
    where
      fails : (ok : Bool) (new : model_state.State Content) (x : Write) (rest : List Write) → (at.0).left ≡ x ∷ rest → (ok ≡ true → rest ≡ []) → new ≡ batch_failed (machine m s sound) it f got.0
          → Wrote (machine m s sound) it f ok (Some got.0) model_reply.Failed new
      fails true new x rest e last is = (at.0, x, rest, at.1, e, last, is)
      fails false new x rest e last is = (at.0, x, rest, at.1, e, last, is)

  -- and so it is if the code fails the batch after it took the block that was written
  pub wrote_fails : (ok : Bool) (ψ : Seen K V P A) (new : Managed) (idle : Batch K V P A) (answer : Answer) (slots' : IndexMap)
      → idle ≡ record batch { writing = None } → (ok ≡ true → w.left ≤ 1)
      → ((φ' : model_state.Flusher Content) (p : model_state.Batch Content) → IsFlusherAs m s (record φ { batch = Some idle }) φ'
      → φ'.batch ≡ Some p → IsFlusherAs m s ψ (failed_batch m s sound φ' p))
      → HasSameRules blocks new → Stands new (record (sets_of it) { block_set = released φ.own it.place }) → answer ≡ answers.Failed → slots' ≡ slots
      → FlusherStep m s sound (model_step.FlushWrote f ok) f it (issued_wrote answer) ψ slots' new
  wrote_fails ok ψ new idle answer slots' idle_as few fails rules sets failed same =
      let as_idle : IsFlusherAs m s (record φ { batch = Some idle }) (record (it.flushers f) { batch = Some (record got.0 { writing = None }) }) =
      subst (λ b. IsFlusherAs m s (record φ { batch = Some b }) (record (it.flushers f) { batch = Some (record got.0 { writing = None }) })) (sym idle_as) idle_is in
      subst (λ a. FlusherStep m s sound (model_step.FlushWrote f ok) f it (issued_wrote a) ψ slots' new) (sym failed)
      (subst (λ k. FlusherStep m s sound (model_step.FlushWrote f ok) f it model_reply.Failed ψ k new) (sym same)
      (wrote_failed ok ψ new few
      (fails (record (it.flushers f) { batch = Some (record got.0 { writing = None }) }) (record got.0 { writing = None }) as_idle refl) rules sets))

-- a batch ends
pub ended : {K V P A : Type 0} (m : Meaning K V P) (s : Settings) (sound : AreValid s) (f : ℕ) (it : model_state.State Content)
    (φ : Seen K V P A) (slots : IndexMap) (blocks : Managed) → StandsAt m s f it φ slots blocks
    → (batch : Batch K V P A) → φ.batch ≡ Some batch → (slots' : IndexMap) (blocks' : Managed)
    → slots' ≡ without_marks slots batch.marks.items → HasSameRules blocks blocks'
    → Stands blocks' (record (sets_of it) { stats = invalidated_unless it.place it.filling batch.logged (map invalid_of batch.invalid.items) it.stats })
    → HasEnded m s sound f it batch.pieces.items batch.waits.items (record φ { batch = None }) slots' blocks'
ended m s sound f it φ slots blocks stands batch is slots' blocks' gone rules sets =
    let got = batched m s φ.own φ.batch (it.flushers f).batch (stands.flusher).batch batch is in
    let φs = stands.flusher in
    let new : model_state.State Content =
    record it {
      flushers = put it.flushers f (record (it.flushers f) { batch = None });
      index = unmarked (got.0).marks it.index;
      stats = invalidated_unless it.place it.filling (got.0).logged (got.0).invalidated it.stats;
    } in (
      (got.0).pieces,
      (got.2).pieces,
      record {
        after = new;
        does = subst (λ q. Finishes (machine m s sound) it f q (model_reply.Ended (got.0).pieces batch.waits.items) new) (sym got.1)
            (refl, sym (got.2).waits, refl);
        flusher = record (it.flushers f) { batch = None };
        flushers = refl;
        it = record {
          queue = φs.queue;
          buffer = φs.buffer;
          room = φs.room;
          greatest = φs.greatest;
          given = φs.given;
          marks = φs.marks;
          invalidated = φs.invalidated;
          waits = φs.waits;
          own = φs.own;
          there = φs.there;
          sizes = φs.sizes;
          context = φs.context;
          goes_on = φs.goes_on;
          batch = tt;
        };
        queue = refl;
        index = subst (λ k. IsIndexedAs s slots' (unmarked k it.index)) (sym (got.2).marks)
            (subst (λ k. IsIndexedAs s k (unmarked (map mark_of batch.marks.items) it.index)) (sym gone) (unmarked_is s slots it.index batch.marks.items stands.index));
        manager = record {
          blocks = rules.blocks ∙ (stands.manager).blocks;
          flushers = rules.flushers ∙ (stands.manager).flushers;
          reclaimers = rules.reclaimers ∙ (stands.manager).reclaimers;
          clean_threshold = rules.clean_threshold ∙ (stands.manager).clean_threshold;
          sets = ready_same blocks' (record (sets_of it) { stats = invalidated_unless it.place it.filling (got.0).logged (got.0).invalidated it.stats }) (λ g. (new.flushers g).ready)
              (subst (λ o. Stands blocks' (record (sets_of it) { stats = invalidated_unless it.place it.filling o (got.0).invalidated it.stats })) (sym (got.2).logged)
              (subst (λ k. Stands blocks' (record (sets_of it) { stats = invalidated_unless it.place it.filling batch.logged k it.stats })) (sym (got.2).invalidated) sets))
              (λ g. put_at (λ (χ : model_state.Flusher Content). χ.ready ≡ (it.flushers g).ready) it.flushers f (record (it.flushers f) { batch = None }) g
              (λ at. sym (ap (λ k. (it.flushers k).ready) at)) (λ _. refl));
        };
        has = same_blocks s f it.place it.waiting (it.flushers f) (record (it.flushers f) { batch = None }) (record { own = refl; ready = refl }) stands.has;
        others = leaves_all f it.place it.waiting;
        kept = reclaims_all it.place it.filling;
        next = refl;
        steps = refl;
        closed = refl;
        reclaims = refl;
        destroy = refl;
      },
    )
