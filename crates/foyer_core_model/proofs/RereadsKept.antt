-- Each step and access keeps what is known of reinsertions.
use Rattle.std.proofs.Common.{◌≡◌, ℕ, ◌<◌, ◌≤◌, Bool, false, List, [], ◌∷◌, Option, Some, None, ◌⊎◌, inl, inr, refl, sym, subst, ◌∙◌, arith}
use Rattle.foyer_core_model.specs.Kind.{Kind}
use Rattle.foyer_core_model.specs.Destroy.{first_fault}
use Rattle.foyer_core_model.specs.Numbers.{last_number, page}
use Rattle.foyer_core_model.specs.Ids.{without_id}
use Rattle.foyer_core_model.specs.Record.{Address, Slot, Outcome}
use Rattle.foyer_core_model.specs.State.{BlockSet, Destroy, NoDestroy, Begun, Cleaning, State}
use Rattle.foyer_core_model.specs.Rules.{Rules, first_position, Splitting}
use Rattle.foyer_core_model.specs.Step.{ReadResult, Bytes, Fault, Step, Enqueue, Delete, Wait, MayContains, LoadBegin, LoadEnd, Receive, FlushBegin, FlushBlock, FlushWrote, LogWrote, FlushEnd, ReclaimBegin, ReclaimRead, ReclaimForget, ReclaimCleaned, ReclaimIdle, DestroyBegin, DestroyClear, DestroyCleaned, Close}
use Rattle.foyer_core_model.specs.Reply.{Reply, NotNow, Refused, Done, Destroyed}
use Rattle.foyer_format_layout.specs.BlockBytes.{read}
use Rattle.foyer_core_model.specs.Layout.{KeepsRecords}
use Rattle.foyer_core_model.specs.Destroy.{issued_after_clean, CleansOne}
use Rattle.foyer_core_model.specs.InTurn.{InTurn}
use Rattle.foyer_core_model.specs.Changes.{Changes}
use Rattle.foyer_core_model.specs.Follows.{Follows}
use Rattle.foyer_core_model.specs.Event.{Event}
use Rattle.foyer_core_model.specs.Access.{ReadState, ReadIssued, Reading, ReadDone, Scan, begun, read_torn, came, at_scan, will_cover, bytes_ended, clean_will_cover, bytes_cleaned, IsRead}
use Rattle.foyer_core_model.specs.World.{World, WorldEvent, Applies, ReadBegins, ReadEnds, ScanBegins, ScanEnds, WriteBegins, WriteEnds, CleanBegins, CleanEnds, covers, after, IsScanned, IsFed, MayHappen}
use Rattle.foyer_core_model.specs.Opened.{idle, IsOpened}
use Rattle.foyer_format_layout.proofs.BlockBytesLaws.{read_same}
use Rattle.foyer_core_model.proofs.Basics.{put_one}
use Rattle.foyer_core_model.proofs.Invariant.{ground_of, InPages, IsSolid, ReadStateHolds, WorldInvariant, AllWait}
use Rattle.foyer_core_model.proofs.GoodAddresses.{read_ended}
use Rattle.foyer_core_model.proofs.AccessEvents.{read_state_begun, read_state_came, read_state_torn, writes_will_spare, clean_will_spare, cleaned_behind}
use Rattle.foyer_core_model.proofs.FlushEnds.{failed}
use Rattle.foyer_core_model.proofs.Rereads.{ReclaimOk, IsAgainIn, still_of, IsAgain, reclaim_maps}
use Rattle.foyer_core_model.proofs.Sets.{AreSets, fillings_few, clean_is}
use Rattle.foyer_core_model.proofs.RereadFlushes.{issued_state, enqueue_goes, delete_goes, wait_goes, look_goes, end_goes, take_goes, begin_goes, issue_goes, wrote_goes, finish_goes, log_goes}
use Rattle.foyer_core_model.proofs.RereadReclaims.{pick_goes, forget_goes, clean_goes, clear_goes, cleaned_goes, destroying_goes, reread_goes}

module _ {C : Type 0} (rules : Rules C) where
  -- accesses

  scan_begins : (w : World C) (b : ℕ) → WorldInvariant rules w → IsAgain rules w → IsAgain rules (after rules w (ScanBegins b))
  scan_begins w b sound again =
      record {
        waits = again.waits;
        stages = put_one (λ c s. ReclaimOk rules w.core.index (still_of rules w) w.core.place c (w.core.reclaims c) s) w.scans b _
            (reclaim_maps rules w w.bytes b (begun (covers rules w)) (w.core.reclaims b) sound
            (λ h a s x is _ _ _ solid ok. subst (λ k. ReadStateHolds rules (still_of rules w) a (begun (covers rules w) k s.read_state)) is (read_state_begun rules w h a x s.read_state solid ok)) (again.stages b))
            (λ c _. again.stages c);
      }

  scan_ends : (w : World C) (b : ℕ) (result : ReadResult) → IsScanned (w.bytes b) (w.scans b) result → WorldInvariant rules w → IsAgain rules w → IsAgain rules (after rules w (ScanEnds b result))
  scan_ends w b result read_is sound again =
      record {
        waits = again.waits;
        stages = put_one (λ c s. ReclaimOk rules w.core.index (still_of rules w) w.core.place c (w.core.reclaims c) s) w.scans b _
            (reclaim_maps rules w w.bytes b (λ _. came result) (w.core.reclaims b) sound
            (λ h a s x is scanned at many solid ok.
            read_state_came rules (ground_of w) a s.read_state result
            (subst (λ k. IsRead (w.bytes k) a.offset a.len s.read_state result) (sym is)
            (subst (λ o. IsRead (w.bytes b) o a.len s.read_state result) at
            (subst (λ n. IsRead (w.bytes b) s.offset n s.read_state result) many (subst (λ o. IsScanned (w.bytes b) o result) scanned read_is)))) ok) (again.stages b))
            (λ c _. again.stages c);
      }

  invalidated : (w : World C) (over : ℕ → ℕ → Bool) → ((h : ℕ) (a : Address) (x : Outcome C) → IsSolid rules (ground_of w) w.block_writes h a x → (k : ℕ) → InPages rules a k → over a.block k ≡ false) → WorldInvariant rules w → IsAgain rules w
      → IsAgainIn rules w.core.index w.history (still_of rules w) w.core.place w.core.flushers w.core.reclaims (λ b. at_scan (read_torn over) b (w.scans b))
  invalidated w over clear sound again =
      record {
        waits = again.waits;
        stages = λ c. reclaim_maps rules w w.bytes c (read_torn over) (w.core.reclaims c) sound
            (λ h a s x is _ _ _ solid ok. subst (λ k. ReadStateHolds rules (still_of rules w) a (read_torn over k s.read_state)) is (read_state_torn rules (ground_of w) a over s.read_state (clear h a x solid) ok)) (again.stages c);
      }

  at_same : (b : ℕ) (scan : Option Scan) → at_scan (λ _ p. p) b scan ≡ scan
  at_same b None = refl
  at_same b (Some s) = refl

  rewrites : (w : World C) (bytes : ℕ → ℕ → ℕ) → ((h : ℕ) (a : Address) (x : Outcome C) → IsSolid rules (ground_of w) w.block_writes h a x → read (bytes a.block) a.offset a.len ≡ read (w.bytes a.block) a.offset a.len) → WorldInvariant rules w → IsAgain rules w
      → IsAgainIn rules w.core.index w.history (record { filled = λ b. first_position rules; filling = w.core.filling; bytes = bytes }) w.core.place w.core.flushers w.core.reclaims w.scans
  rewrites w bytes same sound again =
      record {
        waits = again.waits;
        stages = λ c. subst (ReclaimOk rules w.core.index (record { filled = λ b. first_position rules; filling = w.core.filling; bytes = bytes }) w.core.place c (w.core.reclaims c)) (at_same c (w.scans c))
            (reclaim_maps rules w bytes c (λ _ p. p) (w.core.reclaims c) sound (λ h a s x is _ _ _ solid. read_state h a x s.read_state solid) (again.stages c));
      }
    where
      read_state : (h : ℕ) (a : Address) (x : Outcome C) (p : ReadState) → IsSolid rules (ground_of w) w.block_writes h a x
          → ReadStateHolds rules (still_of rules w) a p → ReadStateHolds rules (record { filled = λ b. first_position rules; filling = w.core.filling; bytes = bytes }) a p
      read_state h a x ReadIssued g was = was
      read_state h a x (Reading seen) g was = was
      read_state h a x (ReadDone Fault) g was = was
      read_state h a x (ReadDone (Bytes bs)) g was = was ∙ sym (same h a x g)

  is_issued : (left : List ℕ) (failed : Option Kind) → (issued_after_clean {C = C} left failed ≡ Done) ⊎ ((well : Option Kind) × (issued_after_clean {C = C} left failed ≡ Destroyed well))
  is_issued [] failed = inr (failed, refl)
  is_issued (b ∷ bs) failed = inl refl

  destroyed_goes : (w : World C) (b : ℕ) (well : Option Kind) (d : Destroy) (reply : Reply C) (new : State C) → CleansOne rules w.core b well d reply new → IsAgain rules w
      → IsAgain rules (after rules w (Applies (DestroyCleaned b well) reply new))
  destroyed_goes w b well (Cleaning left failed) reply new ok again =
      subst (λ r. IsAgain rules (after rules w (Applies (DestroyCleaned b well) r new))) (sym ok.0)
      (elim (is_issued (without_id b left) (first_fault failed well)) [
        | inl e ↦ subst (λ r. IsAgain rules (after rules w (Applies (DestroyCleaned b well) r new))) (sym e) (cleaned_goes rules w b well (Cleaning left failed) reply new ok again)
        | inr e ↦ subst (λ r. IsAgain rules (after rules w (Applies (DestroyCleaned b well) r new))) (sym e.1) (cleaned_goes rules w b well (Cleaning left failed) reply new ok again)
      ])
  destroyed_goes w b well NoDestroy reply new ok again = absurd ok
  destroyed_goes w b well Begun reply new ok again = absurd ok

  -- each step
  does_goes : (Splits : Splitting C) (is_value : C → Type 0) → KeepsRecords rules Splits → (w : World C) (step : Step C) (reply : Reply C) (new : State C) → IsFed rules Splits is_value w step → InTurn rules w.core step → Changes rules Splits w.core step reply new → AreSets rules w.core → w.core.steps < last_number → WorldInvariant rules w → IsAgain rules w
      → IsAgain rules (after rules w (Applies step reply new))
  does_goes Splits is_value places w (Enqueue h n age c) reply new fed turn ok sets few sound again = enqueue_goes rules w h n age c reply new ok sound again
  does_goes Splits is_value places w (Delete h) reply new fed turn ok sets few sound again = delete_goes rules w h reply new ok sound again
  does_goes Splits is_value places w (Wait f i) reply new fed turn ok sets few sound again = wait_goes rules w f i reply new ok again
  does_goes Splits is_value places w (MayContains h) reply new fed turn ok sets few sound again = subst (λ r. IsAgain rules (after rules w (Applies (MayContains h) r new))) (sym ok.0) (issued_state rules w new w.core ok.1 again)
  does_goes Splits is_value places w (LoadBegin h throttled) reply new fed turn ok sets few sound again = look_goes rules w h throttled (w.core.index h) reply new ok again
  does_goes Splits is_value places w (LoadEnd t came) reply new fed turn ok sets few sound again = end_goes rules w t came reply new ok again
  does_goes Splits is_value places w (Receive f) reply new fed turn ok sets few sound again = take_goes rules w f (w.core.flushers f).queue reply new refl ok sound again
  does_goes Splits is_value places w (FlushBegin f) reply new fed turn ok sets few sound again = begin_goes rules Splits places w f reply new ok again
  does_goes Splits is_value places w (FlushBlock f) reply new fed turn ok sets few sound again = issue_goes rules w f (w.core.flushers f).batch reply new refl turn.1 (clean_is rules w.core sets) ok sound again
  does_goes Splits is_value places w (FlushWrote f good) reply new fed turn ok sets few sound again = wrote_goes rules w f good (w.core.flushers f).batch reply new refl ok sound again
  does_goes Splits is_value places w (LogWrote f well) reply new fed turn ok sets few sound again = log_goes rules w f well (w.core.flushers f).batch reply new refl ok again
  does_goes Splits is_value places w (FlushEnd f) reply new fed turn ok sets few sound again = finish_goes rules w f (w.core.flushers f).batch reply new ok again
  does_goes Splits is_value places w ReclaimBegin reply new fed turn ok sets few sound again = pick_goes rules w reply new ok again
  does_goes Splits is_value places w (ReclaimRead b came) reply new fed turn ok sets few sound again = reread_goes rules w b (w.core.reclaims b) came reply new refl fed ok sound again
  does_goes Splits is_value places w (ReclaimForget b) reply new fed turn ok sets few sound again = forget_goes rules w b (w.core.reclaims b) reply new refl ok again
  does_goes Splits is_value places w (ReclaimCleaned b well) reply new fed turn ok sets few sound again = clean_goes rules w b well reply new ok again
  does_goes Splits is_value places w ReclaimIdle reply new fed turn ok sets few sound again = subst (λ r. IsAgain rules (after rules w (Applies ReclaimIdle r new))) (sym ok.0) (issued_state rules w new w.core ok.1 again)
  does_goes Splits is_value places w DestroyBegin reply new fed turn ok sets few sound again = destroying_goes rules w reply new ok again
  does_goes Splits is_value places w DestroyClear reply new fed turn ok sets few sound again = clear_goes rules w reply new turn (fillings_few rules w.core sets few) ok again
  does_goes Splits is_value places w (DestroyCleaned b well) reply new fed turn ok sets few sound again = destroyed_goes w b well w.core.destroy reply new ok again
  does_goes Splits is_value places w Close reply new fed turn ok sets few sound again = subst (λ r. IsAgain rules (after rules w (Applies Close r new))) (sym ok.0) (issued_state rules w new _ ok.1 again)

  step_goes : (Splits : Splitting C) (is_value : C → Type 0) → KeepsRecords rules Splits → (w : World C) (step : Step C) (reply : Reply C) (new : State C) → IsFed rules Splits is_value w step → Follows rules Splits w.core step reply new
      → AreSets rules w.core → WorldInvariant rules w → IsAgain rules w → IsAgain rules (after rules w (Applies step reply new))
  step_goes Splits is_value places w step (NotNow back) new fed ok sets sound again = issued_state rules w new w.core ok.2 again
  step_goes Splits is_value places w step (Refused kind back) new fed ok sets sound again = issued_state rules w new w.core ok.2 again
  step_goes Splits is_value places w step reply new fed (few, turn, (state, does, eq)) sets sound again =
      subst (λ k. IsAgain rules (after rules w (Applies step reply k))) (sym eq) (does_goes Splits is_value places w step reply state fed turn does sets few sound again)

  pub event_goes : (Splits : Splitting C) (is_value : C → Type 0) → KeepsRecords rules Splits → (w : World C) (e : WorldEvent C) → MayHappen rules Splits is_value w e → AreSets rules w.core → WorldInvariant rules w → IsAgain rules w → IsAgain rules (after rules w e)
  event_goes Splits is_value places w (Applies step reply new) ok sets sound again = step_goes Splits is_value places w step reply new ok.0 ok.1 sets sound again
  event_goes Splits is_value places w (ReadBegins n) ok sets sound again = again
  event_goes Splits is_value places w (ReadEnds n result) ok sets sound again = again
  event_goes Splits is_value places w (ScanBegins b) ok sets sound again = scan_begins w b sound again
  event_goes Splits is_value places w (ScanEnds b result) ok sets sound again = scan_ends w b result ok sound again
  event_goes Splits is_value places w (WriteBegins f) ok sets sound again = invalidated w (will_cover (w.block_writes f)) (λ h a x solid k inside. writes_will_spare rules a (w.block_writes f) k (solid.spared f) inside) sound again
  event_goes Splits is_value places w (WriteEnds f good g) ok sets sound again = rewrites w (bytes_ended good g (w.block_writes f) w.bytes) (λ h a x solid. read_ended rules w.bytes (w.block_writes f) good g a ok (solid.spared f)) sound again
  event_goes Splits is_value places w (CleanBegins b) ok sets sound again = invalidated w (clean_will_cover b (w.clean_states b)) (λ h a x solid k inside. clean_will_spare rules b (w.clean_states b) a k solid.past inside) sound again
  event_goes Splits is_value places w (CleanEnds b good g) ok sets sound again =
      rewrites w (bytes_cleaned good g b (w.clean_states b) w.bytes) (λ h a x solid. read_same _ _ a.offset a.len (λ i low high. cleaned_behind rules w.bytes b (w.clean_states b) good g ok a.block i (let p : page ≤ a.offset = solid.past in omega arith))) sound again

  idle_waits : (m : ℕ → Option Slot) (H : List (Event C)) (place : ℕ → BlockSet) (filling : ℕ → ℕ) → AllWait rules m H place filling (idle rules)
  idle_waits m H place filling = record { batch = tt; buffer = tt; queue = tt }

  pub new_again : (w : World C) → IsOpened rules w → IsAgain rules w
  new_again w first =
      record {
        waits = λ f. subst (AllWait rules w.core.index w.history w.core.place w.core.filling) (sym (first.flushers f)) (idle_waits w.core.index w.history w.core.place w.core.filling);
        stages = λ b. subst (λ r. ReclaimOk rules w.core.index (still_of rules w) w.core.place b r (w.scans b)) (sym (first.reclaims b)) tt;
      }
