-- The step that brings a record for a reclaim: it is queued for reinsertion.
use Rattle.std.proofs.Common.{◌≡◌, ℕ, suc, ◌+◌, ◌*◌, ◌^◌, ◌<◌, ◌≤◌, ◌%◌, Bool, false, if◌then◌else◌, List, [], ◌∷◌, ◌++◌, Option, Some, None, option_map, map, take, length, refl, sym, ap, subst, ◌∙◌, arith}
use Rattle.std.proofs.lemmas.Bool.{eq-eqb}
use Rattle.foyer_block_index.specs.declared.indexer.HashedEntryAddress.{HashedEntryAddress}
use Rattle.foyer_core_model.specs.InTurn.{InTurn}
use Rattle.foyer_core_model.specs.Numbers.{put}
use Rattle.foyer_core_model.specs.Reclaim.{issued_at, stage_after, Scanned, Rereads}
use Rattle.foyer_core_model.specs.Refusal.{NeedsMemory}
use Rattle.foyer_core_model.specs.State as model_state
use Rattle.foyer_core_model.specs.Step.{Bytes, ReclaimRead}
use Rattle.foyer_core_flusher.specs.Content.{Content, Meaning}
use Rattle.foyer_core_flusher.specs.CoreRules.{machine, layout}
use Rattle.foyer_core_flusher.specs.Sizes.{AreValid, sizes_in}
use Rattle.foyer_core_flusher.specs.Settings.{Settings}
use Rattle.foyer_block_scan.specs.Scan.{next_blob}
use Rattle.foyer_core_flusher.proofs.SetsLemmas.{managed_kept, blocks_kept}
use Rattle.foyer_core_flusher.specs.Addresses.{address_of, listed_of}
use Rattle.foyer_core_flusher.specs.Standing.{IsIndexedAs, IsManagedAs, sets_of}
use Rattle.foyer_core_flusher.specs.Seen.{seen}
use Rattle.foyer_core_steps.specs.Destroying.{IsDestroyAs}
use Rattle.foyer_core_steps.specs.Reclaiming.{Reclaiming, ChangesReclaim, IsReclaimAs, IsStageAs, IsAtRead, reclaim_at, awaited, after_record, requeue_first}
use Rattle.foyer_core_steps.specs.Replied.{IsReply}
use Rattle.foyer_core_steps.specs.Scanning.{scan_reply}
use Rattle.foyer_core_steps.specs.StateOf.{IsStateOf, AreFlushersAs, IsSizedAs}
use Rattle.foyer_core_steps.specs.declared.state.Core.{Core}
use Rattle.foyer_core_steps.proofs.QueueLemmas.{with_queued, size_grown}
use Rattle.foyer_core_steps.proofs.ReclaimCame.{goes_on}
use Rattle.foyer_core_steps.proofs.ReclaimLemmas.{listed_one, one_more, stage_read}
use Rattle.foyer_core_steps.proofs.ReclaimReads.{stages}
use Rattle.foyer_core_steps.proofs.ReclaimStages.{ReadsRecord, reads_record_for}
use Rattle.foyer_core_steps.proofs.ReclaimSteps.{reclaims_put}

module _ {K V P : Type 0} (m : Meaning K V P) (s : Settings) (sound : AreValid s) (it : model_state.State Content) (b : ℕ) (o : Option Reclaiming) (e : HashedEntryAddress) (bytes : List ℕ)
    (reads : ReadsRecord m s sound b (it.place b) (it.filling b) o (it.reclaims b) e) where
  -- what is queued, and where
  abbrev pub reinserted : model_state.Submission Content
  reinserted = model_state.Reinsert e.hash (take (e.address).len bytes) (address_of e.address)

  abbrev pub turn_of : ℕ
  turn_of = length (reads.model).requeued % s.flushers

  -- the model's reclaim behind it
  abbrev pub next_reclaim : model_state.Reclaim
  next_reclaim = record reads.model {
    stage = stage_after (machine m s sound) it (map listed_of reads.others) reads.behind;
    requeued = listed_of e ∷ (reads.model).requeued;
  }

  abbrev pub requeued_state : model_state.State Content
  requeued_state = record it {
    flushers = put it.flushers turn_of (with_queued (it.flushers turn_of) reinserted);
    reclaims = put it.reclaims b (Some next_reclaim);
  }

  pub record_turn : length bytes ≡ (e.address).len → InTurn (machine m s sound) it (ReclaimRead b (Bytes bytes))
  record_turn long = ((reads.stands_as).there, reads_record_for m s sound b (it.place b) (it.filling b) o (it.reclaims b) e bytes reads long)

  pub rereads : Rereads (machine m s sound) it b (it.reclaims b) (Bytes bytes) (issued_at (machine m s sound) it b next_reclaim.stage []) requeued_state
  rereads =
      subst (λ k. Rereads (machine m s sound) it b k (Bytes bytes) (issued_at (machine m s sound) it b next_reclaim.stage []) requeued_state) (sym reads.is)
      (subst (λ k. Scanned (machine m s sound) it b reads.model k (Bytes bytes) (issued_at (machine m s sound) it b next_reclaim.stage []) requeued_state) (sym reads.stage) (refl, refl))

  -- memory may be refused for it
  pub would_requeue : length bytes ≡ (e.address).len
      → InTurn (machine m s sound) it (ReclaimRead b (Bytes bytes)) × NeedsMemory (machine m s sound) (layout s) it (ReclaimRead b (Bytes bytes))
  would_requeue long = (record_turn long, (issued_at (machine m s sound) it b next_reclaim.stage [], requeued_state, rereads, tt))

  -- a core's reclaim behind it
  pub next_is : after_record reads.ours ≡ record reads.ours { admitted = reads.others; requeued = (reads.ours).requeued ++ e ∷ [] }
  next_is = ap (λ es. requeue_first es reads.ours) reads.admitted

  pub next_as : IsReclaimAs s b (it.filling b) (after_record reads.ours) next_reclaim
  next_as = subst (λ k. IsReclaimAs s b (it.filling b) k next_reclaim) (sym next_is) (record {
    there = (reads.stands_as).there;
    scan = (reads.stands_as).scan;
    stage = subst (λ t. IsStageAs t (sizes_in s) (reads.ours).scan.blob_offset reads.others next_reclaim.stage) (sym reads.unforgotten)
        (subst (λ p. IsAtRead (sizes_in s) p reads.others next_reclaim.stage) (sym reads.offset)
        (subst (λ k. IsAtRead (sizes_in s) (next_blob (sizes_in s) reads.behind) reads.others k) (stages m s sound it (map listed_of reads.others) reads.behind) (stage_read s reads.others reads.behind)));
    listed = λ un. (reads.stands_as).listed reads.unforgotten;
    requeued = λ p. listed_one p e (reads.model).requeued (reads.ours).requeued (reads.stands_as).requeued;
    count = ap (λ n. suc n) (reads.stands_as).count ∙ sym (one_more (reads.ours).requeued e);
  })

  pub next_unforgotten : (after_record reads.ours).is_forgotten ≡ false
  next_unforgotten = ap (λ (k : Reclaiming). k.is_forgotten) next_is ∙ reads.unforgotten

module _ {K V P A : Type 0} (m : Meaning K V P) (s : Settings) (sound : AreValid s) (core : Core K V P A) (it : model_state.State Content) (stands : IsStateOf m s core it)
    (b : ℕ) (e : HashedEntryAddress) (bytes : List ℕ) (reads : ReadsRecord m s sound b (it.place b) (it.filling b) (reclaim_at core.reclaims b) (it.reclaims b) e) where
  -- a core that has the same beside its flushers and its reclaims
  pub record SameButQueue (new : Core K V P A) : Type 0 where
    pub index : new.index.slots ≡ core.index.slots
    pub settings : new.settings ≡ core.settings
    pub next : new.next ≡ core.next
    pub steps : new.steps ≡ core.steps
    pub closed : new.closed ≡ core.closed
    pub queued : new.queued ≡ core.queued
    pub manager : new.manager ≡ core.manager
    pub destroy : new.destroy ≡ core.destroy

  -- what is left, and what is answered
  pub record HasQueued (new : Core K V P A) : Type 0 where
    pub stand : IsStateOf m s new (requeued_state m s sound it b (reclaim_at core.reclaims b) e bytes reads)
    pub reply : IsReply m (scan_reply {K = K} {V = V} {P = P} {A = A} b s.blob_index_size (awaited (reclaim_at new.reclaims b)) None)
        (issued_at (machine m s sound) it b (next_reclaim m s sound it b (reclaim_at core.reclaims b) e bytes reads).stage [])

  pub has_queued : (new : Core K V P A) → SameButQueue new
      → turn_of m s sound it b (reclaim_at core.reclaims b) e bytes reads < s.flushers
      → AreFlushersAs m s (map seen new.flushers.items)
      (put it.flushers (turn_of m s sound it b (reclaim_at core.reclaims b) e bytes reads)
      (with_queued (it.flushers (turn_of m s sound it b (reclaim_at core.reclaims b) e bytes reads)) (reinserted m s sound it b (reclaim_at core.reclaims b) e bytes reads)))
      → ChangesReclaim core.reclaims new.reclaims b (option_map after_record (reclaim_at core.reclaims b)) → HasQueued new
  has_queued new same within flushers changed =
      let o = reclaim_at core.reclaims b in
      let f = turn_of m s sound it b o e bytes reads in
      let x = reinserted m s sound it b o e bytes reads in
      let its = next_reclaim m s sound it b o e bytes reads in
      let ours = after_record reads.ours in
      let changes : ChangesReclaim core.reclaims new.reclaims b (Some ours) = subst (λ (k : Option Reclaiming). ChangesReclaim core.reclaims new.reclaims b (option_map after_record k)) reads.mine changed in
      let as_next : IsReclaimAs s b (it.filling b) ours its = next_as m s sound it b o e bytes reads in
      let here : reclaim_at new.reclaims b ≡ Some ours = changes b ∙ ap (λ (t : Bool). if t then Some ours else reclaim_at core.reclaims b) (eq-eqb b b refl) in
      let bound : core.queued ≤ core.next * 2 ^ 64 = (stands.queued).bound in
      let more : core.queued ≡ core.queued + 0 = omega arith in
      record {
        stand = record {
          sizes = same.settings ∙ stands.sizes;
          index = subst (λ k. IsIndexedAs s k it.index) (sym same.index) stands.index;
          next = stands.next ∙ sym same.next;
          steps = stands.steps ∙ sym same.steps;
          closed = stands.closed ∙ sym same.closed;
          flushers = flushers;
          queued = subst (λ n. IsSizedAs s new.queued n (put it.flushers f (with_queued (it.flushers f) x))) (sym same.next)
              (subst (λ q. IsSizedAs s q core.next (put it.flushers f (with_queued (it.flushers f) x))) (sym same.queued)
              (size_grown s it.flushers f x core.queued core.next core.queued core.next stands.queued within more bound));
          manager = subst (λ k. IsManagedAs s k (sets_of (requeued_state m s sound it b o e bytes reads))) (sym same.manager)
              (managed_kept s f it core.manager (with_queued (it.flushers f) x) (record { own = refl; ready = refl }) stands.manager);
          has = blocks_kept s f it (with_queued (it.flushers f) x) (record { own = refl; ready = refl }) stands.has;
          reclaims = reclaims_put m s core it stands b new.reclaims (Some ours) (Some its) it.place it.filling changes (λ q ne. refl) (λ q ne. refl) (reads.set, as_next);
          destroy = subst (λ d. IsDestroyAs s.blocks d it.destroy) (sym same.destroy) stands.destroy;
        };
        reply = subst (λ k. IsReply m (scan_reply {K = K} {V = V} {P = P} {A = A} b s.blob_index_size (awaited k) None) (issued_at (machine m s sound) it b its.stage [])) (sym here)
            (goes_on {K = K} {V = V} {P = P} {A = A} m s sound it b (it.filling b) ours its None as_next (next_unforgotten m s sound it b o e bytes reads));
      }
