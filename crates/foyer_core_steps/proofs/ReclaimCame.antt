-- The step that brings an index for a reclaim.
use Rattle.std.proofs.Common.{◌≡◌, ℕ, Bool, false, if◌then◌else◌, List, [], ◌∷◌, Option, Some, None, option_map, length, refl, sym, ap, subst, ◌∙◌}
use Rattle.std.proofs.lemmas.Bool.{eq-eqb}
use Rattle.std.specs.Prelude.{IfSome}
use Rattle.std.specs.declared.vec.Vec.{Vec}
use Rattle.foyer_block_index.specs.declared.indexer.HashedEntryAddress.{HashedEntryAddress}
use Rattle.foyer_policy_filter.specs.declared.verdict.StorageFilterResult.{StorageFilterResult}
use Rattle.foyer_core_model.specs.InTurn.{InTurn}
use Rattle.foyer_core_model.specs.Reclaim.{issued_at, reclaiming, Lists, Scanned, Rereads}
use Rattle.foyer_core_model.specs.Refusal.{NeedsMemory}
use Rattle.foyer_core_model.specs.Reply as model_reply
use Rattle.foyer_core_model.specs.State as model_state
use Rattle.foyer_core_model.specs.Step.{Bytes, ReclaimRead}
use Rattle.foyer_core_flusher.specs.Content.{Content, Meaning}
use Rattle.foyer_core_flusher.specs.CoreRules.{machine, layout}
use Rattle.foyer_core_flusher.specs.Sizes.{AreValid, sizes_in}
use Rattle.foyer_core_flusher.specs.Settings.{Settings}
use Rattle.foyer_core_flusher.specs.Standing.{IsIndexedAs}
use Rattle.foyer_device_statistics.specs.declared.state.IoState.{IoState}
use Rattle.foyer_core_steps.specs.Reclaiming.{Reclaiming, ChangesReclaim, IsReclaimAs, IsStageAs, IsAtRead, IsReread, reclaim_at, awaited, read_of, after_index, index_infos, verdict_list, verdicts_of}
use Rattle.foyer_core_steps.specs.Refines.{FollowsUncounted}
use Rattle.foyer_core_steps.specs.Replied.{IsReply}
use Rattle.foyer_core_steps.specs.Scanning.{scan_reply}
use Rattle.foyer_core_steps.specs.StateOf.{IsStateOf}
use Rattle.foyer_core_steps.specs.declared.state.Core.{Core}
use Rattle.foyer_core_steps.proofs.ReclaimReads.{FitsList, IsListed, bools, bools_are, lists, reread_fits, would_list}
use Rattle.foyer_core_steps.proofs.ReclaimStages.{Reads, reads_for}
use Rattle.foyer_core_steps.proofs.ReclaimSteps.{SameBeside, reclaim_stands}

module _ {K V P : Type 0} (m : Meaning K V P) (s : Settings) (sound : AreValid s) (it : model_state.State Content) (b : ℕ) (o : Option Reclaiming) (at : ℕ) (bytes : List ℕ)
    (reads : Reads m s sound b (it.place b) (it.filling b) o (it.reclaims b) at) where
  -- what is listed is what the step does
  reread : (answer : model_reply.Reply Content) (new : model_state.State Content)
      → Lists (machine m s sound) it b reads.model at ((machine m s sound).entries_of at bytes) answer new → Rereads (machine m s sound) it b (it.reclaims b) (Bytes bytes) answer new
  reread answer new listed =
      subst (λ k. Rereads (machine m s sound) it b k (Bytes bytes) answer new) (sym reads.is)
      (subst (λ k. Scanned (machine m s sound) it b reads.model k (Bytes bytes) answer new) (sym reads.stage) listed)

  pub read_turn : length bytes ≡ s.blob_index_size → InTurn (machine m s sound) it (ReclaimRead b (Bytes bytes))
  read_turn long = ((reads.stands_as).there, reads_for m s sound b (it.place b) (it.filling b) o (it.reclaims b) at (Bytes bytes) reads long)

  -- memory may be refused for it
  pub would_read : length bytes ≡ s.blob_index_size
      → InTurn (machine m s sound) it (ReclaimRead b (Bytes bytes)) × NeedsMemory (machine m s sound) (layout s) it (ReclaimRead b (Bytes bytes))
  would_read long =
      let w = would_list m s sound it b at reads.ours reads.model reads.stands_as reads.unforgotten reads.none reads.offset bytes in (
        read_turn long,
        (
          issued_at (machine m s sound) it b ((w.1).after).stage (bools w.0),
          reclaiming (machine m s sound) it b (w.1).after,
          reread (issued_at (machine m s sound) it b ((w.1).after).stage (bools w.0)) (reclaiming (machine m s sound) it b (w.1).after) (w.1).does,
          tt,
        ),
      )

-- a read that was issued is an answer that follows, and so is the end of the listing
pub follows_at : {K V P : Type 0} (m : Meaning K V P) (s : Settings) (sound : AreValid s) (it : model_state.State Content) (b : ℕ) (bytes : List ℕ) (stage : model_state.Stage) (vs : List Bool)
    (new : model_state.State Content) → InTurn (machine m s sound) it (ReclaimRead b (Bytes bytes))
    → Rereads (machine m s sound) it b (it.reclaims b) (Bytes bytes) (issued_at (machine m s sound) it b stage vs) new
    → FollowsUncounted (machine m s sound) (layout s) it (ReclaimRead b (Bytes bytes)) (issued_at (machine m s sound) it b stage vs) new
follows_at m s sound it b bytes (model_state.AtIndex p) vs new turn does = (turn, does)
follows_at m s sound it b bytes (model_state.AtRecord h a rest p) vs new turn does = (turn, does)
follows_at m s sound it b bytes model_state.AllListed vs new turn does = (turn, does)
follows_at m s sound it b bytes model_state.ToClean vs new turn does = (turn, does)

-- what the model issues at a stage is what a core answers there
pub scan_is : {K V P A : Type 0} (m : Meaning K V P) (s : Settings) (sound : AreValid s) (it : model_state.State Content) (b : ℕ) (es : List HashedEntryAddress) (o : Option ℕ) (stage : model_state.Stage)
    (v : Option (Vec Bool A)) → IsAtRead (sizes_in s) o es stage
    → IsReply m (scan_reply {K = K} {V = V} {P = P} {A = A} b s.blob_index_size (read_of es o) v) (issued_at (machine m s sound) it b stage (verdicts_of v))
scan_is m s sound it b [] None stage v at = ap (λ k. issued_at (machine m s sound) it b k (verdicts_of v)) at
scan_is m s sound it b [] (Some p) stage v at = ap (λ k. issued_at (machine m s sound) it b k (verdicts_of v)) at
scan_is m s sound it b (e ∷ es) o stage v at = ap (λ k. issued_at (machine m s sound) it b k (verdicts_of v)) at.is

-- and so of a reclaim that reads on
pub goes_on : {K V P A : Type 0} (m : Meaning K V P) (s : Settings) (sound : AreValid s) (it : model_state.State Content) (b n : ℕ) (r : Reclaiming) (its : model_state.Reclaim)
    (v : Option (Vec Bool A)) → IsReclaimAs s b n r its → r.is_forgotten ≡ false
    → IsReply m (scan_reply {K = K} {V = V} {P = P} {A = A} b s.blob_index_size (awaited (Some r)) v) (issued_at (machine m s sound) it b its.stage (verdicts_of v))
goes_on {K = K} {V = V} {P = P} {A = A} m s sound it b n r its v same un =
    subst (λ t. IsReply m (scan_reply {K = K} {V = V} {P = P} {A = A} b s.blob_index_size (if t then None else read_of r.admitted r.scan.blob_offset) v) (issued_at (machine m s sound) it b its.stage (verdicts_of v))) (sym un)
    (scan_is {K = K} {V = V} {P = P} {A = A} m s sound it b r.admitted r.scan.blob_offset its.stage v (subst (λ t. IsStageAs t (sizes_in s) r.scan.blob_offset r.admitted its.stage) un same.stage))

module _ {K V P A : Type 0} (m : Meaning K V P) (s : Settings) (sound : AreValid s) (core : Core K V P A) (it : model_state.State Content) (stands : IsStateOf m s core it)
    (b : ℕ) (at : ℕ) (bytes : List ℕ) (reads : Reads m s sound b (it.place b) (it.filling b) (reclaim_at core.reclaims b) (it.reclaims b) at)
    (v : Option (Vec Bool A)) where
  -- what it leaves, and what is answered
  pub record HasRead (new : Core K V P A) : Type 0 where
    pub after : model_state.State Content
    pub answer : model_reply.Reply Content
    pub stand : IsStateOf m s new after
    pub follows : InTurn (machine m s sound) it (ReclaimRead b (Bytes bytes)) → FollowsUncounted (machine m s sound) (layout s) it (ReclaimRead b (Bytes bytes)) answer after
    pub reply : IsReply m (scan_reply {K = K} {V = V} {P = P} {A = A} b s.blob_index_size (awaited (reclaim_at new.reclaims b)) v) answer

  pub reads_listed : {Q : Type 0} (new : Core K V P A) (may : Q → IoState → ℕ → ℕ → StorageFilterResult → Type 0) (filter : Option (List Q)) (io : IoState) → SameBeside m s core it stands b new → new.manager ≡ core.manager → new.index.slots ≡ core.index.slots
      → ChangesReclaim core.reclaims new.reclaims b (option_map (after_index bytes (verdict_list v)) (reclaim_at core.reclaims b))
      → IfSome (reclaim_at core.reclaims b) (λ x. IsReread may filter io (index_infos bytes x) (verdict_list v)) → HasRead new
  reads_listed new may filter io same manager index changed verdicts =
      let r = reads.ours in
      let judged : IsReread may filter io (index_infos bytes r) (verdict_list v) =
      subst (λ (k : Option Reclaiming). IfSome k (λ x. IsReread may filter io (index_infos bytes x) (verdict_list v))) reads.mine verdicts in
      let fits : FitsList (index_infos bytes r) (verdict_list v) = reread_fits may filter io (index_infos bytes r) (verdict_list v) judged in
      let changes : ChangesReclaim core.reclaims new.reclaims b (Some (after_index bytes (verdict_list v) r)) =
      subst (λ (k : Option Reclaiming). ChangesReclaim core.reclaims new.reclaims b (option_map (after_index bytes (verdict_list v)) k)) reads.mine changed in
      let l : IsListed m s sound it b at r reads.model reads.stands_as reads.unforgotten reads.none reads.offset bytes (verdict_list v) =
      lists m s sound it b at r reads.model reads.stands_as reads.unforgotten reads.none reads.offset bytes (verdict_list v) fits in
      let here : reclaim_at new.reclaims b ≡ Some (after_index bytes (verdict_list v) r) =
      changes b ∙ ap (λ (t : Bool). if t then Some (after_index bytes (verdict_list v) r) else reclaim_at core.reclaims b) (eq-eqb b b refl) in
      record {
        after = reclaiming (machine m s sound) it b l.after;
        answer = issued_at (machine m s sound) it b (l.after).stage (verdicts_of v);
        stand = reclaim_stands m s core it stands b new it.index (Some (after_index bytes (verdict_list v) r)) (Some l.after) same manager (subst (λ k. IsIndexedAs s k it.index) (sym index) stands.index) changes
            (reads.set, l.stands_as);
        follows = λ turn. follows_at m s sound it b bytes (l.after).stage (verdicts_of v) (reclaiming (machine m s sound) it b l.after) turn
            (reread m s sound it b (reclaim_at core.reclaims b) at bytes reads (issued_at (machine m s sound) it b (l.after).stage (verdicts_of v)) (reclaiming (machine m s sound) it b l.after)
            (subst (λ w. Lists (machine m s sound) it b reads.model at ((machine m s sound).entries_of at bytes) (issued_at (machine m s sound) it b (l.after).stage w) (reclaiming (machine m s sound) it b l.after))
            (bools_are v) l.does));
        reply = subst (λ k. IsReply m (scan_reply {K = K} {V = V} {P = P} {A = A} b s.blob_index_size (awaited k) v) (issued_at (machine m s sound) it b (l.after).stage (verdicts_of v))) (sym here)
            (goes_on {K = K} {V = V} {P = P} {A = A} m s sound it b (it.filling b) (after_index bytes (verdict_list v) r) l.after v l.stands_as reads.unforgotten);
      }
