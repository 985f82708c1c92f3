-- The verdicts with which a reclaim's read is answered.
use Rattle.std.proofs.Common.{◌≡◌, ℕ, Bool, List, Option, Some, None, Ok, refl, sym, subst}
use Rattle.std.specs.Prelude.{IfSome, Result}
use Rattle.std.specs.declared.vec.Vec.{Vec}
use Rattle.foyer_block_index.specs.declared.indexer.HashedEntryAddress.{HashedEntryAddress}
use Rattle.foyer_device_page.specs.declared.error.Error.{Error}
use Rattle.foyer_policy_filter.specs.declared.verdict.StorageFilterResult.{StorageFilterResult}
use Rattle.foyer_device_statistics.specs.declared.state.IoState.{IoState}
use Rattle.foyer_core_steps.specs.Reclaiming.{IsReread, Reclaiming, awaited, index_infos, reclaim_at, verdict_list}
use Rattle.foyer_core_steps.specs.Scanning.{AreOn, HasJudged, HasNoVerdicts, IsJudged, scan_reply}
use Rattle.foyer_core_steps.specs.declared.block.reclaimer.Wanted.{Wanted}
use Rattle.foyer_core_steps.specs.declared.block.reclaimer.Wanted.TheVariants as wanted
use Rattle.foyer_core_steps.specs.declared.reply.Reply.{Reply}
use Rattle.foyer_core_steps.specs.declared.reply.Reply.TheVariants as reply
use Rattle.foyer_core_steps.specs.declared.state.Core.{Core}

-- whatever is wanted next
pub scan_unjudged : (K V P A : Type 0) (b n : ℕ) (w : Option Wanted) → HasNoVerdicts {K = K} {V = V} {P = P} {A = A} (scan_reply b n w None)
scan_unjudged K V P A b n None = refl
scan_unjudged K V P A b n (Some (wanted.Index place)) = refl
scan_unjudged K V P A b n (Some (wanted.Record e)) = refl

module _ {Q : Type 0} (may : Q → IoState → ℕ → ℕ → StorageFilterResult → Type 0) (filter : Option (List Q)) (io : IoState) where
  -- whatever is wanted next
  pub judged_scan : {K V P A : Type 0} (core : Core K V P A) (b c n : ℕ) (came : Result (Vec ℕ A) Error) (w : Option Wanted) (vs : Option (Vec Bool A))
      → HasJudged may filter io came (reclaim_at core.reclaims b) (verdict_list vs) → IsJudged may filter io b came (scan_reply {K = K} {V = V} {P = P} c n w vs) core
  judged_scan core b c n came None vs has = has
  judged_scan core b c n came (Some (wanted.Index place)) vs has = has
  judged_scan core b c n came (Some (wanted.Record e)) vs has = has

  -- an index was read
  pub index_judged : {A : Type 0} (bytes : Vec ℕ A) (o : Option Reclaiming) (place : ℕ) (vs : Option (List Bool))
      → awaited o ≡ Some (wanted.Index place) → IfSome o (λ k. IsReread may filter io (index_infos bytes.items k) vs) → HasJudged may filter io (Ok bytes) o vs
  index_judged bytes None place vs is reread = absurd (let clash : None ≡ Some (wanted.Index place) = is in cc)
  index_judged bytes (Some r) place vs is reread = subst (λ w. AreOn may filter io bytes.items r w vs) (sym is) reread

  -- a record was read
  pub record_judged : {A : Type 0} (bytes : Vec ℕ A) (o : Option Reclaiming) (e : HashedEntryAddress) → awaited o ≡ Some (wanted.Record e) → HasJudged may filter io (Ok bytes) o None
  record_judged bytes None e is = absurd (let clash : None ≡ Some (wanted.Record e) = is in cc)
  record_judged bytes (Some r) e is = subst (λ w. AreOn may filter io bytes.items r w None) (sym is) refl

  -- what is answered then
  pub unjudged_judged : {K V P A : Type 0} (core : Core K V P A) (b : ℕ) (bytes : Vec ℕ A) (e : HashedEntryAddress) (answer : Reply K V P A)
      → awaited (reclaim_at core.reclaims b) ≡ Some (wanted.Record e) → HasNoVerdicts answer → IsJudged may filter io b (Ok bytes) answer core
  unjudged_judged core b bytes e (reply.Scan c offset len vs) is has =
      subst (λ v. HasJudged may filter io (Ok bytes) (reclaim_at core.reclaims b) (verdict_list v)) (sym has) (record_judged bytes (reclaim_at core.reclaims b) e is)
  unjudged_judged core b bytes e (reply.Listed vs) is has =
      subst (λ v. HasJudged may filter io (Ok bytes) (reclaim_at core.reclaims b) (verdict_list v)) (sym has) (record_judged bytes (reclaim_at core.reclaims b) e is)
  unjudged_judged core b bytes e answer is has = tt
