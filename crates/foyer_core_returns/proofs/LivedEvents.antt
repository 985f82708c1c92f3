-- Each step and each access keeps what is true of the life of a block.
use Rattle.std.proofs.Common.{◌≡◌, ◌≢◌, ℕ, ◌+◌, ◌<◌, ◌==◌, nat_lt, Bool, true, false, if◌then◌else◌, Option, Some, None, List, [], ◌∷◌, ◌++◌, length, take, inl, inr, refl, sym, ap, subst, ◌∙◌, arith}
use Rattle.std.proofs.lemmas.Bool.{eqb-true, eqb-false}
use Rattle.std.proofs.lemmas.Bool.Decides.{nat_tests}
use Rattle.foyer_format_layout.specs.BlockBytes.{laid}
use Rattle.foyer_format_layout.proofs.BlockBytesLaws.{laid_beside}
use Rattle.foyer_core_model.specs.Access.{BlockWrites, Idle, Issued, InFlight, CleanState, CleanIdle, CleanIssued, CleanInFlight, CleanDone, writes_begun, writes_ended, bytes_ended, clean_begun, clean_ended, bytes_cleaned, cleaned_page, IsTorn}
use Rattle.foyer_core_model.specs.Changes.{Changes}
use Rattle.foyer_core_model.specs.Destroy.{first_fault, issued_after_clean, after_clean, BeginsDestroy, Clears, CleansOne}
use Rattle.foyer_core_model.specs.Flush.{is_cleaning}
use Rattle.foyer_core_model.specs.Follows.{Follows}
use Rattle.foyer_core_model.specs.Ids.{ids, without_id}
use Rattle.foyer_core_model.specs.InTurn.{IsAt, MayClear, InTurn}
use Rattle.foyer_core_model.specs.Kind.{Kind}
use Rattle.foyer_core_model.specs.Laws.{Demands}
use Rattle.foyer_core_model.specs.Numbers.{put, page}
use Rattle.foyer_core_model.specs.Position.{Position}
use Rattle.foyer_core_model.specs.Queue.{queued}
use Rattle.foyer_core_model.specs.Reclaim.{addresses, Picks, stage_after, issued_at, reclaiming, stage_behind, Lists, Scanned, Rereads, Forgets, Cleaned}
use Rattle.foyer_core_model.specs.Record.{IndexEntry, Record}
use Rattle.foyer_core_model.specs.Reply.{Reply, NotNow, Refused, Done, Answer, Picked, Listed, Cleans, Destroying, Cleared}
use Rattle.foyer_core_model.specs.Rules.{Rules, flusher_of, first_position, Splitting}
use Rattle.foyer_core_model.specs.State.{Remove, Reinsert, Clean, Writes, Stage, AtIndex, AtRecord, AllListed, ToClean, Reclaim, Destroy, NoDestroy, Begun, Cleaning, no_stats, State}
use Rattle.foyer_core_model.specs.Step.{ReadResult, Bytes, Fault, Step, Enqueue, Delete, Wait, MayContains, LoadBegin, LoadEnd, Receive, FlushBegin, FlushBlock, FlushWrote, LogWrote, FlushEnd, ReclaimBegin, ReclaimRead, ReclaimForget, ReclaimCleaned, ReclaimIdle, DestroyBegin, DestroyClear, DestroyCleaned, Close}
use Rattle.foyer_core_model.specs.Widths.{StateHasWidths}
use Rattle.foyer_core_model.specs.World.{is_none, World, WorldEvent, Applies, ReadBegins, ReadEnds, ScanBegins, ScanEnds, WriteBegins, WriteEnds, CleanBegins, CleanEnds, IsFed, after, after_all, MayHappen, MayAllHappen}
use Rattle.foyer_core_model.proofs.Basics.{put_at, put_other}
use Rattle.foyer_core_model.proofs.FlushEnds.{put_self}
use Rattle.foyer_core_model.proofs.Served.{IsServed, event_served}
use Rattle.foyer_core_model.proofs.SoundKept.{IsKnown, known_keeps}
use Rattle.foyer_core_model.proofs.Widths.{event_wide}
use Rattle.foyer_core_restart.specs.Real.{IsReal}
use Rattle.foyer_core_restart.proofs.Owned.{IsOwned, owned_of, alive}
use Rattle.foyer_core_restart.proofs.Safe.{sight_of}
use Rattle.foyer_core_returns.specs.Lives.{Life, cleaned_life, after_begin, after_clean as life_cleaned, life_after, life_from}
use Rattle.foyer_core_returns.proofs.LifeWrites.{in_beside}
use Rattle.foyer_core_returns.proofs.Lived.{scene_of, IsClear, AreLeft, IsLived, write_began, writes_else, write_ended, clean_ended as block_cleaned, clean_failed, cleans_else, unowned}
use Rattle.foyer_core_returns.proofs.Lived as lived
use Rattle.foyer_core_returns.proofs.LivedCleans as cleans
use Rattle.foyer_core_returns.proofs.LivedSteps.{Lived, LivedAt, enqueue_lived, delete_lived, wait_lived, look_lived, end_lived, take_lived, begin_lived, log_lived, finish_lived, wrote_lived, issue_lived}

module _ (A : Type 0) {C : Type 0} (rules : Rules C) (Splits : Splitting C) (is_value : C → Type 0) (demands : Demands rules Splits is_value) (real : IsReal A rules Splits) (b : ℕ) (B : ℕ → ℕ) (Empty : Type 0) where
  abbrev L : World C → Life C → Type 0
  L w l = Lived A rules Splits is_value demands real b B Empty w l

  abbrev At : World C → Life C → Step C → Reply C → State C → Type 0
  At w l step reply new = LivedAt A rules Splits is_value demands real b B Empty w l step reply new

  abbrev Knows : World C → Type 0
  Knows = IsKnown rules Splits is_value demands

  abbrev AllServed : World C → Type 0
  AllServed w = (f : ℕ) → IsServed rules Splits (w.core.flushers f)

  -- reclaims

  pick_lived : (w : World C) (l : Life C) (reply : Reply C) (new : State C) → is_cleaning w.core.destroy ≡ false → Picks rules w.core reply new → Knows w → L w l → At w l ReclaimBegin reply new
  pick_lived w l (Picked c answers probation) new quiet ok known k =
      subst (At w l ReclaimBegin (Picked c answers probation)) (sym ok.4)
      (cleans.picked A rules b B Empty (scene_of w) l c _ ok.1 quiet (λ q is. (owned_of rules Splits is_value demands w known).reclaims b q is) k)
  pick_lived w l reply new quiet ok known k = absurd ok

  -- what a reclaim is to read next doesn't matter
  next_lived : (w : World C) (l : Life C) (c : ℕ) (came : ReadResult) (stage : Stage) (verdicts : List Bool) (new : State C)
      → IsLived A rules b B Empty (record (scene_of w) { flushers = new.flushers; place = new.place; reclaims = new.reclaims; destroy = new.destroy }) l
      → At w l (ReclaimRead c came) (issued_at rules w.core c stage verdicts) new
  next_lived w l c came (AtIndex p) verdicts new k = k
  next_lived w l c came (AtRecord h a rest p) verdicts new k = k
  next_lived w l c came AllListed verdicts new k = k
  next_lived w l c came ToClean verdicts new k = k

  lists_lived : (w : World C) (l : Life C) (c p : ℕ) (came : ReadResult) (r : Reclaim) (es : Option (List IndexEntry)) (reply : Reply C) (new : State C) → w.core.reclaims c ≡ Some r → (r.stage ≡ ToClean → ⊥)
      → Lists rules w.core c r p es reply new → L w l → At w l (ReclaimRead c came) reply new
  lists_lived w l c p came r None reply new is not ok k =
      subst (λ q. At w l (ReclaimRead c came) q new) (sym ok.0)
      (subst (At w l (ReclaimRead c came) (Listed [])) (sym ok.1) (cleans.reread A rules b B Empty (scene_of w) l c r _ is not k))
  lists_lived w l c p came r (Some es) reply new is not (verdicts, count, issued, eq) k =
      subst (λ q. At w l (ReclaimRead c came) q new) (sym issued)
      (subst (At w l (ReclaimRead c came) (issued_at rules w.core c (stage_behind rules w.core c p es verdicts) verdicts)) (sym eq)
      (next_lived w l c came (stage_behind rules w.core c p es verdicts) verdicts
      (reclaiming rules w.core c (record r { stage = stage_behind rules w.core c p es verdicts; listed = addresses c (w.core.filling c) p es ++ r.listed }))
      (cleans.reread A rules b B Empty (scene_of w) l c r _ is not k)))

  scan_lived : (w : World C) (l : Life C) (c : ℕ) (r : Reclaim) (stage : Stage) (came : ReadResult) (reply : Reply C) (new : State C) → w.core.reclaims c ≡ Some r → r.stage ≡ stage
      → Scanned rules w.core c r stage came reply new → L w l → At w l (ReclaimRead c came) reply new
  scan_lived w l c r (AtIndex p) Fault reply new is at ok k =
      subst (λ q. At w l (ReclaimRead c Fault) q new) (sym ok.0)
      (subst (At w l (ReclaimRead c Fault) (Listed [])) (sym ok.1) (cleans.reread A rules b B Empty (scene_of w) l c r _ is (λ e. let x : AtIndex p ≡ ToClean = sym at ∙ e in cc) k))
  scan_lived w l c r (AtRecord h a rest p) Fault reply new is at ok k =
      subst (λ q. At w l (ReclaimRead c Fault) q new) (sym ok.0)
      (subst (At w l (ReclaimRead c Fault) (Listed [])) (sym ok.1) (cleans.reread A rules b B Empty (scene_of w) l c r _ is (λ e. let x : AtRecord h a rest p ≡ ToClean = sym at ∙ e in cc) k))
  scan_lived w l c r (AtIndex p) (Bytes bs) reply new is at ok k =
      lists_lived w l c p (Bytes bs) r (rules.entries_of p bs) reply new is (λ e. let x : AtIndex p ≡ ToClean = sym at ∙ e in cc) ok k
  scan_lived w l c r (AtRecord h a rest p) (Bytes bs) reply new is at ok k =
      subst (λ q. At w l (ReclaimRead c (Bytes bs)) q new) (sym ok.0)
      (subst (At w l (ReclaimRead c (Bytes bs)) (issued_at rules w.core c (stage_after rules w.core rest p) [])) (sym ok.1)
      (next_lived w l c (Bytes bs) (stage_after rules w.core rest p) []
      (record (queued rules w.core flusher (Reinsert h (take a.len bs) a)) { reclaims = put w.core.reclaims c (Some (record r { stage = stage_after rules w.core rest p; requeued = (h, a) ∷ r.requeued })) })
      (cleans.reread A rules b B Empty
      (record (scene_of w) { flushers = put w.core.flushers flusher (record (w.core.flushers flusher) { queue = (w.core.flushers flusher).queue ++ Reinsert h (take a.len bs) a ∷ [] }) })
      l c r _ is (λ e. let x : AtRecord h a rest p ≡ ToClean = sym at ∙ e in cc)
      (lived.pushed A rules b B Empty (scene_of w) l flusher _ k refl refl refl))))
    where
      flusher : ℕ
      flusher = flusher_of rules (length r.requeued)
  scan_lived w l c r stage came reply new is at ok k = absurd ok

  reread_lived : (w : World C) (l : Life C) (c : ℕ) (r : Option Reclaim) (came : ReadResult) (reply : Reply C) (new : State C) → w.core.reclaims c ≡ r → Rereads rules w.core c r came reply new → L w l → At w l (ReclaimRead c came) reply new
  reread_lived w l c None came reply new is ok k = absurd ok
  reread_lived w l c (Some r) came reply new is ok k = scan_lived w l c r r.stage came reply new is refl ok k

  forget_lived : (w : World C) (l : Life C) (c : ℕ) (r : Option Reclaim) (reply : Reply C) (new : State C) → w.core.reclaims c ≡ r → Forgets rules w.core c r reply new → L w l → At w l (ReclaimForget c) reply new
  forget_lived w l c (Some r) (Cleans d) new is ok k =
      subst (At w l (ReclaimForget c) (Cleans d)) (sym ok.1) (cleans.forgot A rules b B Empty (scene_of w) l c r _ is refl k)
  forget_lived w l c r reply new is ok k = absurd ok

  clean_lived : (w : World C) (l : Life C) (c : ℕ) (good : Bool) (r : Option Reclaim) (reply : Reply C) (new : State C) → w.core.reclaims c ≡ r → IsAt ToClean r → w.clean_states c ≡ CleanDone good → Cleaned rules w.core c reply new → Knows w → L w l → At w l (ReclaimCleaned c good) reply new
  clean_lived w l c good None reply new is at came ok known k = absurd at
  clean_lived w l c good (Some r) Done new is at came ok known k =
      elim ok [
        | inl (f, others, waits, room, eq) ↦ subst (At w l (ReclaimCleaned c good) Done) (sym eq)
            (cleans.handed A rules b B Empty (scene_of w) l c f r good (filled' (put w.core.filling c (w.core.filling c + 1))) is ((owned_of rules Splits is_value demands w known).reclaims c r is) came
            (λ q d owns. (owned_of rules Splits is_value demands w known).place q d owns) (far (put w.core.filling c (w.core.filling c + 1))) k)
        | inr (nobody, eq) ↦ subst (At w l (ReclaimCleaned c good) Done) (sym eq)
            (subst (λ g. IsLived A rules b B Empty (record (scene_of w) { place = put w.core.place c Clean; reclaims = put w.core.reclaims c None; clean_states = put w.clean_states c CleanIdle; filled = g }) l) (sym same)
            (cleans.cleaned A rules b B Empty (scene_of w) l c r good is came k))
      ]
    where
      filled' : (ℕ → ℕ) → ℕ → Position
      filled' filling = if filling c == w.core.filling c then w.filled else put w.filled c (first_position rules)

      far : (filling : ℕ → ℕ) (d : ℕ) → (d ≡ c → ⊥) → filled' filling d ≡ w.filled d
      far filling d ne = go (filling c == w.core.filling c)
        where
          go : (t : Bool) → (if t then w.filled else put w.filled c (first_position rules)) d ≡ w.filled d
          go true = refl
          go false = put_other w.filled c (first_position rules) d ne

      same : filled' w.core.filling ≡ w.filled
      same = go (w.core.filling c == w.core.filling c) refl
        where
          go : (t : Bool) → (w.core.filling c == w.core.filling c) ≡ t → (if t then w.filled else put w.filled c (first_position rules)) ≡ w.filled
          go true e = refl
          go false e = absurd (eqb-false (w.core.filling c) (w.core.filling c) e refl)
  clean_lived w l c good (Some r) reply new is at came ok known k = absurd ok

  -- destroys

  destroying_lived : (w : World C) (l : Life C) (reply : Reply C) (new : State C) → w.core.destroy ≡ NoDestroy → BeginsDestroy rules w.core reply new → L w l → At w l DestroyBegin reply new
  destroying_lived w l (Destroying n) new none ok k =
      subst (At w l DestroyBegin (Destroying n)) (sym ok.3)
      (cleans.destroying A rules b B Empty (record (scene_of w) { flushers = put w.core.flushers (flusher_of rules 0) (record (w.core.flushers (flusher_of rules 0)) { queue = (w.core.flushers (flusher_of rules 0)).queue ++ Remove 0 n [] ∷ [] }) }) l none
      (lived.pushed A rules b B Empty (scene_of w) l (flusher_of rules 0) _ k refl refl refl))
  destroying_lived w l reply new none ok k = absurd ok

  clear_lived : (w : World C) (l : Life C) (reply : Reply C) (new : State C) → MayClear w.core → Clears rules w.core reply new → L w l → At w l DestroyClear reply new
  clear_lived w l (Cleared bs) new turn ok k =
      subst (λ q. At w l DestroyClear (Cleared q) new) (sym ok.0)
      (subst (At w l DestroyClear (Cleared (ids rules.blocks))) (sym ok.1)
      (cleans.cleared A rules b B Empty (scene_of w) l turn.0 (λ f. (turn.1 f).4) turn.2 k))
  clear_lived w l reply new turn ok k = absurd ok

  destroyed_lived : (w : World C) (l : Life C) (c : ℕ) (good : Option Kind) (d : Destroy) (reply : Reply C) (new : State C) → w.core.destroy ≡ d → w.clean_states c ≡ CleanDone (is_none good) → CleansOne rules w.core c good d reply new → L w l → At w l (DestroyCleaned c good) reply new
  destroyed_lived w l c good (Cleaning left failed) reply new is came ok k =
      subst (λ q. At w l (DestroyCleaned c good) q new) (sym ok.0)
      (subst (At w l (DestroyCleaned c good) (issued_after_clean (without_id c left) (first_fault failed good))) (sym ok.1) (go (without_id c left) refl))
    where
      done : IsLived A rules b B Empty (record (scene_of w) { destroy = after_clean (without_id c left) (first_fault failed good); clean_states = put w.clean_states c CleanIdle }) l
      done = cleans.destroyed A rules b B Empty (scene_of w) l c left failed good is came k

      go : (m : List ℕ) → without_id c left ≡ m
          → At w l (DestroyCleaned c good) (issued_after_clean m (first_fault failed good)) (record w.core { destroy = after_clean (without_id c left) (first_fault failed good); stats = put w.core.stats c no_stats })
      go [] e = done
      go (x ∷ xs) e = done
  destroyed_lived w l c good NoDestroy reply new is came ok k = absurd ok
  destroyed_lived w l c good Begun reply new is came ok k = absurd ok

  -- steps

  does_lived : (w : World C) (l : Life C) (step : Step C) (reply : Reply C) (new : State C) → IsFed rules Splits is_value w step → InTurn rules w.core step → Changes rules Splits w.core step reply new → Knows w → AllServed w → L w l → At w l step reply new
  does_lived w l (Enqueue h n age c) reply new fed turn ok known served k = enqueue_lived A rules Splits is_value demands real b B Empty w l h n age c reply new ok k
  does_lived w l (Delete h) reply new fed turn ok known served k = delete_lived A rules Splits is_value demands real b B Empty w l h reply new ok k
  does_lived w l (Wait f i) reply new fed turn ok known served k = wait_lived A rules Splits is_value demands real b B Empty w l f i reply new ok k
  does_lived w l (MayContains h) reply new fed turn ok known served k =
      subst (λ r. At w l (MayContains h) r new) (sym ok.0) (subst (At w l (MayContains h) (Answer (Rattle.foyer_core_model.specs.Index.is_address (w.core.index h)))) (sym ok.1) k)
  does_lived w l (LoadBegin h throttled) reply new fed turn ok known served k = look_lived A rules Splits is_value demands real b B Empty w l h throttled (w.core.index h) reply new ok k
  does_lived w l (LoadEnd t came) reply new fed turn ok known served k = end_lived A rules Splits is_value demands real b B Empty w l t came reply new ok k
  does_lived w l (Receive f) reply new fed turn ok known served k = take_lived A rules Splits is_value demands real b B Empty w l f (w.core.flushers f).queue reply new ok k
  does_lived w l (FlushBegin f) reply new fed turn ok known served k = begin_lived A rules Splits is_value demands real b B Empty w l f reply new (served f).fit turn.1 ok known k
  does_lived w l (FlushBlock f) reply new fed turn ok known served k = issue_lived A rules Splits is_value demands real b B Empty w l f (w.core.flushers f).batch reply new refl turn.1 ok known k
  does_lived w l (FlushWrote f good) reply new fed turn ok known served k = wrote_lived A rules Splits is_value demands real b B Empty w l f good (w.core.flushers f).batch reply new refl ok k
  does_lived w l (LogWrote f good) reply new fed turn ok known served k = log_lived A rules Splits is_value demands real b B Empty w l f good (w.core.flushers f).batch reply new refl ok k
  does_lived w l (FlushEnd f) reply new fed turn ok known served k = finish_lived A rules Splits is_value demands real b B Empty w l f (w.core.flushers f).batch reply new ok k
  does_lived w l ReclaimBegin reply new fed turn ok known served k = pick_lived w l reply new turn.quiet ok known k
  does_lived w l (ReclaimRead c came) reply new fed turn ok known served k = reread_lived w l c (w.core.reclaims c) came reply new refl ok k
  does_lived w l (ReclaimForget c) reply new fed turn ok known served k = forget_lived w l c (w.core.reclaims c) reply new refl ok k
  does_lived w l (ReclaimCleaned c good) reply new fed turn ok known served k = clean_lived w l c good (w.core.reclaims c) reply new refl turn.1 fed ok known k
  does_lived w l ReclaimIdle reply new fed turn ok known served k =
      subst (λ r. At w l ReclaimIdle r new) (sym ok.0) (subst (At w l ReclaimIdle (Answer (Rattle.foyer_core_model.specs.Reclaim.running rules.blocks w.core.reclaims == 0))) (sym ok.1) k)
  does_lived w l DestroyBegin reply new fed turn ok known served k = destroying_lived w l reply new turn ok k
  does_lived w l DestroyClear reply new fed turn ok known served k = clear_lived w l reply new turn ok k
  does_lived w l (DestroyCleaned c good) reply new fed turn ok known served k = destroyed_lived w l c good w.core.destroy reply new refl fed ok k
  does_lived w l Close reply new fed turn ok known served k = subst (λ r. At w l Close r new) (sym ok.0) (subst (At w l Close Done) (sym ok.1) k)

  step_lived : (w : World C) (l : Life C) (step : Step C) (reply : Reply C) (new : State C) → IsFed rules Splits is_value w step → Follows rules Splits w.core step reply new → Knows w → AllServed w → L w l → At w l step reply new
  step_lived w l step (NotNow back) new fed ok known served k = subst (At w l step (NotNow back)) (sym ok.2) k
  step_lived w l step (Refused kind back) new fed ok known served k = subst (At w l step (Refused kind back)) (sym ok.2) k
  step_lived w l step reply new fed (few, turn, (state, does, eq)) known served k = subst (At w l step reply) (sym eq) (does_lived w l step reply state fed turn does known served k)

  -- accesses

  same_writes : (w : World C) (l : Life C) (f : ℕ) (pending : BlockWrites) → w.block_writes f ≡ pending → L w l → IsLived A rules b B Empty (record (scene_of w) { block_writes = put w.block_writes f pending }) l
  same_writes w l f pending is k = writes_else A rules b B Empty (scene_of w) l f pending (subst (AreLeft A rules b B Empty l) is (k.left f)) k

  begins_lived : (w : World C) (l : Life C) (f : ℕ) (pending : BlockWrites) → w.block_writes f ≡ pending → Knows w → L w l
      → IsLived A rules b B Empty (record (scene_of w) { block_writes = put w.block_writes f (writes_begun pending) }) (after_begin pending b l)
  begins_lived w l f Idle is known k = same_writes w l f Idle is k
  begins_lived w l f (Issued c rs []) is known k = same_writes w l f (Issued c rs []) is k
  begins_lived w l f (InFlight c rs x xs) is known k = same_writes w l f (InFlight c rs x xs) is k
  begins_lived w l f (Issued c rs (x ∷ xs)) is known k = go (c == b) refl
    where
      o : IsOwned rules (sight_of w)
      o = owned_of rules Splits is_value demands w known

      own : (w.core.flushers f).own ≡ Some c
      own = let j : (ps : List (ℕ × Record C)) × _ = o.issued f c rs (x ∷ xs) is in o.job f c j.0 j.1

      at : w.core.place c ≡ Writes f
      at = o.place f c own

      go : (t : Bool) → (c == b) ≡ t → IsLived A rules b B Empty (record (scene_of w) { block_writes = put w.block_writes f (InFlight c rs x xs) }) (if t then record l { writes = x ∷ l.writes } else l)
      go true e =
          let here : c ≡ b = eqb-true c b e in
          write_began A rules b B Empty (scene_of w) l f c rs x xs is here (k.owned f (ap w.core.place (sym here) ∙ at))
          (λ t. let z : None ≡ Some c = sym (k.idle t f).0 ∙ own in cc)
          (λ ok t. unowned A rules b B Empty (scene_of w) l k (λ z. let y : CleanDone ok ≡ CleanIdle = sym t ∙ z in cc) (λ soon q owns. alive rules (sight_of w) o q b (o.place q b owns) (inr soon)) f (own ∙ ap Some here)) k
      go false e = writes_else A rules b B Empty (scene_of w) l f (InFlight c rs x xs) (λ here. absurd (eqb-false c b e here)) k

  ends_lived : (w : World C) (l : Life C) (f : ℕ) (good : Bool) (g : ℕ → ℕ) (pending : BlockWrites) → w.block_writes f ≡ pending → IsTorn w.bytes pending g → L w l
      → IsLived A rules b B Empty (record (scene_of w) { block_writes = put w.block_writes f (writes_ended good pending); bytes = bytes_ended good g pending w.bytes }) l
  ends_lived w l f good g Idle is torn k = same_writes w l f Idle is k
  ends_lived w l f good g (Issued c rs ws) is torn k = same_writes w l f (Issued c rs ws) is k
  ends_lived w l f true g (InFlight c rs x xs) is torn k =
      write_ended A rules b B Empty (scene_of w) l f c rs (rs ++ true ∷ []) x xs xs (laid x (w.bytes c)) is (λ ok. ok) (λ o out. laid_beside x (w.bytes c) o (in_beside x o out)) k
  ends_lived w l f false g (InFlight c rs x xs) is torn k =
      write_ended A rules b B Empty (scene_of w) l f c rs (rs ++ false ∷ []) x xs [] g is (λ _. tt) (λ o out. torn o (in_beside x o out)) k

  cleans_lived : (w : World C) (l : Life C) (c : ℕ) (state : CleanState) → w.clean_states c ≡ state → L w l
      → IsLived A rules b B Empty (record (scene_of w) { clean_states = put w.clean_states c (clean_begun state) }) l
  cleans_lived w l c state is k =
      cleans_else A rules b B Empty (scene_of w) l w.bytes (put w.clean_states c (clean_begun state)) refl
      (put_at (λ x. x ≢ CleanIdle → w.clean_states b ≢ CleanIdle) w.clean_states c (clean_begun state) b (λ at e none. e (ap clean_begun (sym is ∙ ap w.clean_states (sym at) ∙ none))) (λ _ e. e))
      (λ ok. put_at (λ x. x ≡ CleanDone ok → w.clean_states b ≡ CleanDone ok) w.clean_states c (clean_begun state) b (λ at e. ap w.clean_states at ∙ is ∙ done state ok e) (λ _ e. e)) k
    where
      done : (state : CleanState) (ok : Bool) → clean_begun state ≡ CleanDone ok → state ≡ CleanDone ok
      done CleanIdle ok e = e
      done CleanIssued ok e = absurd (let z : CleanInFlight ≡ CleanDone ok = e in cc)
      done CleanInFlight ok e = e
      done (CleanDone was) ok e = e

  -- what doesn't end a clean changes nothing
  same_cleans : (w : World C) (l : Life C) (c : ℕ) (state : CleanState) → w.clean_states c ≡ state → L w l
      → IsLived A rules b B Empty (record (scene_of w) { clean_states = put w.clean_states c state }) l
  same_cleans w l c state is k = subst (λ x. IsLived A rules b B Empty (record (scene_of w) { clean_states = x }) l) (sym (ap (put w.clean_states c) (sym is) ∙ put_self w.clean_states c)) k

  same_life : (l : Life C) (good t : Bool) (state : CleanState) → (state ≡ CleanInFlight → ⊥) → (if t then life_cleaned good state l else l) ≡ l
  same_life l good false state not = refl
  same_life l false true CleanIdle not = refl
  same_life l false true CleanIssued not = refl
  same_life l false true (CleanDone ok) not = refl
  same_life l false true CleanInFlight not = absurd (not refl)
  same_life l true true CleanIdle not = refl
  same_life l true true CleanIssued not = refl
  same_life l true true (CleanDone ok) not = refl
  same_life l true true CleanInFlight not = absurd (not refl)

  cleaned_lived : (w : World C) (l : Life C) (c : ℕ) (good : Bool) (g : ℕ → ℕ) (state : CleanState) → w.clean_states c ≡ state → Knows w → L w l
      → IsLived A rules b B Empty (record (scene_of w) { clean_states = put w.clean_states c (clean_ended good state); bytes = bytes_cleaned good g c state w.bytes }) (if c == b then life_cleaned good state l else l)
  cleaned_lived w l c good g CleanIdle is known k = subst (IsLived A rules b B Empty _) (sym (same_life l good (c == b) CleanIdle (λ x. cc))) (same_cleans w l c CleanIdle is k)
  cleaned_lived w l c good g CleanIssued is known k = subst (IsLived A rules b B Empty _) (sym (same_life l good (c == b) CleanIssued (λ x. cc))) (same_cleans w l c CleanIssued is k)
  cleaned_lived w l c good g (CleanDone ok) is known k = subst (IsLived A rules b B Empty _) (sym (same_life l good (c == b) (CleanDone ok) (λ x. cc))) (same_cleans w l c (CleanDone ok) is k)
  cleaned_lived w l c good g CleanInFlight is known k = go (c == b) refl
    where
      o : IsOwned rules (sight_of w)
      o = owned_of rules Splits is_value demands w known

      page_zero : (h : ℕ → ℕ) (i : ℕ) → i < 4096 → cleaned_page h i ≡ 0
      page_zero h i lt = zero (nat_lt i page) refl
        where
          zero : (t : Bool) → nat_lt i page ≡ t → (if t then 0 else h i) ≡ 0
          zero true e = refl
          zero false e = absurd (grind (arith, nat_tests))

      here : (t : Bool) → c ≡ b → IsLived A rules b B Empty (record (scene_of w) { clean_states = put w.clean_states c (CleanDone t); bytes = put w.bytes c (if t then cleaned_page (w.bytes c) else g) }) (life_cleaned t CleanInFlight l)
      here true at =
          subst (λ d. IsLived A rules b B Empty (record (scene_of w) { clean_states = put w.clean_states d (CleanDone true); bytes = put w.bytes d (cleaned_page (w.bytes d)) }) cleaned_life) (sym at)
          (block_cleaned A rules b B Empty (scene_of w) l (cleaned_page (w.bytes b)) (ap w.clean_states (sym at) ∙ is) (page_zero (w.bytes b))
          (unowned A rules b B Empty (scene_of w) l k (λ e. let x : CleanInFlight ≡ CleanIdle = sym (ap w.clean_states (sym at) ∙ is) ∙ e in cc) (λ soon f owns. alive rules (sight_of w) o f b (o.place f b owns) (inr soon)))
          (λ f d rs ws e. let j : (ps : List (ℕ × Record C)) × _ = o.issued f d rs ws e in o.job f d j.0 j.1)
          (λ f d rs x ws e. let j : (ps : List (ℕ × Record C)) × _ = o.under f d rs x ws e in o.job f d j.0 j.1) k)
      here false at =
          subst (λ d. IsLived A rules b B Empty (record (scene_of w) { clean_states = put w.clean_states d (CleanDone false); bytes = put w.bytes d g }) (record l { has_failed = true })) (sym at)
          (clean_failed A rules b B Empty (scene_of w) l g (ap w.clean_states (sym at) ∙ is) k)

      go : (t : Bool) → (c == b) ≡ t → IsLived A rules b B Empty (record (scene_of w) { clean_states = put w.clean_states c (CleanDone good); bytes = put w.bytes c (if good then cleaned_page (w.bytes c) else g) }) (if t then life_cleaned good CleanInFlight l else l)
      go true e = here good (eqb-true c b e)
      go false e =
          let other : b ≡ c → ⊥ = λ at. eqb-false c b e (sym at) in
          cleans_else A rules b B Empty (scene_of w) l (put w.bytes c (if good then cleaned_page (w.bytes c) else g)) (put w.clean_states c (CleanDone good)) (put_other w.bytes c _ b other)
          (λ x y. x (put_other w.clean_states c (CleanDone good) b other ∙ y)) (λ ok x. sym (put_other w.clean_states c (CleanDone good) b other) ∙ x) k

  pub event_lived : (w : World C) (l : Life C) (e : WorldEvent C) → MayHappen rules Splits is_value w e → Knows w → AllServed w → L w l → L (after rules w e) (life_after w e b l)
  event_lived w l (Applies step reply new) ok known served k = step_lived w l step reply new ok.0 ok.1 known served k
  event_lived w l (ReadBegins n) ok known served k = k
  event_lived w l (ReadEnds n result) ok known served k = k
  event_lived w l (ScanBegins c) ok known served k = k
  event_lived w l (ScanEnds c result) ok known served k = k
  event_lived w l (WriteBegins f) ok known served k = begins_lived w l f (w.block_writes f) refl known k
  event_lived w l (WriteEnds f good g) ok known served k = ends_lived w l f good g (w.block_writes f) refl ok k
  event_lived w l (CleanBegins c) ok known served k = cleans_lived w l c (w.clean_states c) refl k
  event_lived w l (CleanEnds c good g) ok known served k = cleaned_lived w l c good g (w.clean_states c) refl known k

  pub all_lived : (w : World C) (l : Life C) (events : List (WorldEvent C)) → MayAllHappen rules Splits is_value w events → Knows w → StateHasWidths w.core → AllServed w → L w l → L (after_all rules w events) (life_from rules w events b l)
  all_lived w l [] ok known wide served k = k
  all_lived w l (e ∷ es) ok known wide served k =
      all_lived (after rules w e) (life_after w e b l) es ok.1 (known_keeps rules Splits is_value demands w e ok.0 known) (event_wide rules Splits is_value demands.places w e ok.0 wide) (event_served rules Splits is_value w e wide ok.0 served)
      (event_lived w l e ok.0 known served k)
