-- Each put is one that was recovered, or its content was queued under its sequence.
use Rattle.std.proofs.Common.{◌≡◌, ℕ, List, [], ◌∷◌, Some, None, ◌⊎◌, inl, inr, refl, sym, subst}
use Rattle.foyer_core_model.specs.Record.{Outcome}
use Rattle.foyer_core_model.specs.State.{Piece, State}
use Rattle.foyer_core_model.specs.Rules.{Rules, flusher_of, Splitting}
use Rattle.foyer_core_model.specs.Step.{Age, Step, Enqueue, Delete, Wait, MayContains, LoadBegin, LoadEnd, Receive, FlushBegin, FlushBlock, FlushWrote, LogWrote, FlushEnd, ReclaimBegin, ReclaimRead, ReclaimForget, ReclaimCleaned, ReclaimIdle, DestroyBegin, DestroyClear, DestroyCleaned, Close}
use Rattle.foyer_core_model.specs.Reply.{Reply, NotNow, Refused, Ignored, Queued, Dropped, Deleted, Received, Committed, Cleared}
use Rattle.foyer_core_model.specs.Queue.{Enqueues}
use Rattle.foyer_core_model.specs.InTurn.{InTurn}
use Rattle.foyer_core_model.specs.Changes.{Changes}
use Rattle.foyer_core_model.specs.Follows.{Follows}
use Rattle.foyer_core_model.specs.Event.{Event, Put, Deletion, Destruction, events_of}
use Rattle.foyer_core_model.specs.Access.{came}
use Rattle.foyer_core_model.specs.World.{World, WorldEvent, Applies, ReadBegins, ReadEnds, ScanBegins, ScanEnds, WriteBegins, WriteEnds, CleanBegins, CleanEnds, after, after_all, MayHappen, MayAllHappen}
use Rattle.foyer_core_model.specs.Laws.{Demands, WasQueued, IsAmong, PutsAreQueued}
use Rattle.foyer_format_layout.specs.Each.{Each}
use Rattle.foyer_core_model.proofs.RereadsKept.{new_again}
use Rattle.foyer_core_model.proofs.SoundKept.{IsKnown, known_keeps}
use Rattle.foyer_core_model.proofs.OpenedSound.{new_sound, new_sets}
use Rattle.foyer_core_model.proofs.Traced.{IsKnownPut, IsTracedAt, IsTracedIn, IsTraced, traced_more, pushed_traced, traced_as, deletes_traced, takes_traced, begins_traced, issues_traced, wrote_traced, logs_traced, finishes_traced, reads_traced, looks_traced, ends_traced, waits_traced, picks_traced, forgets_traced, cleaned_traced, destroys_traced, clears_traced, cleans_traced}

module _ {C : Type 0} (rules : Rules C) (Splits : Splitting C) (is_value : C → Type 0) (demands : Demands rules Splits is_value) (R : ℕ → ℕ → Outcome C → Type 0) where
  -- steps that give no event
  abbrev IsQuiet : Step C → Type 0
  IsQuiet (Enqueue h n age c) = ⊥
  IsQuiet (Delete h) = ⊥
  IsQuiet (Receive f) = ⊥
  IsQuiet (FlushWrote f ok) = ⊥
  IsQuiet DestroyClear = ⊥
  IsQuiet step = Unit {0}

  quiet : (old : State C) (H : List (Event C)) (reply : Reply C) (step : Step C) → IsQuiet step → events_of old reply step H ≡ H
  quiet old H (Deleted s) (Delete h) none = absurd none
  quiet old H (Deleted s) step none = refl
  quiet old H (Dropped d s) (Enqueue h n age c) none = absurd none
  quiet old H (Dropped d s) step none = refl
  quiet old H (Received (Some d)) (Receive f) none = absurd none
  quiet old H (Received None) step none = refl
  quiet old H (Received (Some d)) step none = refl
  quiet old H (Committed n) (FlushWrote f ok) none = absurd none
  quiet old H (Committed n) step none = refl
  quiet old H (Cleared bs) DestroyClear none = absurd none
  quiet old H (Cleared bs) step none = refl
  quiet old H reply step none = refl

  quietly : (K : ℕ → ℕ → C → Type 0) (w : World C) (step : Step C) (reply : Reply C) (new : State C) → IsQuiet step → IsTracedIn K R new.flushers w.history → IsTraced K R (after rules w (Applies step reply new))
  quietly K w step reply new none ok = subst (λ H. IsTracedIn K R new.flushers H) (sym (quiet w.core w.history reply step none)) ok

  -- what an event adds to what was queued
  abbrev More : (ℕ → ℕ → C → Type 0) → List (WorldEvent C) → ℕ → ℕ → C → Type 0
  More K events h s c = K h s c ⊎ WasQueued h s c events

  enqueues_traced : (K : ℕ → ℕ → C → Type 0) (w : World C) (h n : ℕ) (age : Age) (c : C) (reply : Reply C) (done new : State C) → Enqueues rules w.core h n age c reply done → IsTraced K R w
      → IsTraced (More K (Applies (Enqueue h n age c) reply new ∷ [])) R (after rules w (Applies (Enqueue h n age c) reply done))
  enqueues_traced K w h n age c (Dropped d s) done new ok traced =
      deletes_traced rules (More K (Applies (Enqueue h n age c) (Dropped d s) new ∷ [])) R w h (Deleted s) done ok.3 (traced_more K _ R (λ h s c k. inl k) w traced)
  enqueues_traced K w h n age c (Ignored d) done new ok traced =
      traced_as rules (More K (Applies (Enqueue h n age c) (Ignored d) new ∷ [])) R w.history done w.core ok.3 (traced_more K _ R (λ h s c k. inl k) w traced)
  enqueues_traced K w h n age c (Queued s) done new ok traced =
      traced_as rules (More K (Applies (Enqueue h n age c) (Queued s) new ∷ [])) R w.history done _ ok.4
      (pushed_traced rules (More K (Applies (Enqueue h n age c) (Queued s) new ∷ [])) R w (flusher_of rules h) (Piece h s n c) (inr (inl (refl, refl, refl))) (traced_more K _ R (λ h s c k. inl k) w traced))
  enqueues_traced K w h n age c reply done new ok traced = absurd ok

  does_traced : (K : ℕ → ℕ → C → Type 0) (w : World C) (step : Step C) (reply : Reply C) (done new : State C) → InTurn rules w.core step → Changes rules Splits w.core step reply done → IsKnown rules Splits is_value demands w → IsTraced K R w
      → IsTraced (More K (Applies step reply new ∷ [])) R (after rules w (Applies step reply done))
  does_traced K w (Enqueue h n age c) reply done new turn ok known traced = enqueues_traced K w h n age c reply done new ok traced
  does_traced K w (Delete h) reply done new turn ok known traced = deletes_traced rules _ R w h reply done ok (traced_more K _ R (λ h s c k. inl k) w traced)
  does_traced K w (Wait f i) reply done new turn ok known traced = quietly _ w (Wait f i) reply done tt (waits_traced rules _ R w f i reply done ok (traced_more K _ R (λ h s c k. inl k) w traced))
  does_traced K w (MayContains h) reply done new turn ok known traced = quietly _ w (MayContains h) reply done tt (traced_as rules _ R w.history done w.core ok.1 (traced_more K _ R (λ h s c k. inl k) w traced))
  does_traced K w (LoadBegin h throttled) reply done new turn ok known traced = looks_traced rules _ R w h throttled (w.core.index h) reply done ok (traced_more K _ R (λ h s c k. inl k) w traced)
  does_traced K w (LoadEnd t came) reply done new turn ok known traced = ends_traced rules _ R w t came reply done ok (traced_more K _ R (λ h s c k. inl k) w traced)
  does_traced K w (Receive f) reply done new turn ok known traced = takes_traced rules _ R w f (w.core.flushers f).queue reply done refl ok (traced_more K _ R (λ h s c k. inl k) w traced)
  does_traced K w (FlushBegin f) reply done new turn ok known traced = quietly _ w (FlushBegin f) reply done tt (begins_traced rules _ R Splits demands.places w f reply done ok (traced_more K _ R (λ h s c k. inl k) w traced))
  does_traced K w (FlushBlock f) reply done new turn ok known traced = quietly _ w (FlushBlock f) reply done tt (issues_traced rules _ R w f (w.core.flushers f).batch reply done refl turn.1 ok (traced_more K _ R (λ h s c k. inl k) w traced))
  does_traced K w (FlushWrote f good) reply done new turn ok known traced = wrote_traced rules _ R w f good (w.core.flushers f).batch reply done refl ok known.sound known.again (traced_more K _ R (λ h s c k. inl k) w traced)
  does_traced K w (LogWrote f well) reply done new turn ok known traced = quietly _ w (LogWrote f well) reply done tt (logs_traced rules _ R w f well (w.core.flushers f).batch reply done refl ok (traced_more K _ R (λ h s c k. inl k) w traced))
  does_traced K w (FlushEnd f) reply done new turn ok known traced = quietly _ w (FlushEnd f) reply done tt (finishes_traced rules _ R w f (w.core.flushers f).batch reply done ok (traced_more K _ R (λ h s c k. inl k) w traced))
  does_traced K w ReclaimBegin reply done new turn ok known traced = quietly _ w ReclaimBegin reply done tt (picks_traced rules _ R w reply done ok (traced_more K _ R (λ h s c k. inl k) w traced))
  does_traced K w (ReclaimRead b came) reply done new turn ok known traced = quietly _ w (ReclaimRead b came) reply done tt (reads_traced rules _ R w b (w.core.reclaims b) came reply done ok (traced_more K _ R (λ h s c k. inl k) w traced))
  does_traced K w (ReclaimForget b) reply done new turn ok known traced = quietly _ w (ReclaimForget b) reply done tt (forgets_traced rules _ R w b (w.core.reclaims b) reply done ok (traced_more K _ R (λ h s c k. inl k) w traced))
  does_traced K w (ReclaimCleaned b well) reply done new turn ok known traced = quietly _ w (ReclaimCleaned b well) reply done tt (cleaned_traced rules _ R w b reply done ok (traced_more K _ R (λ h s c k. inl k) w traced))
  does_traced K w ReclaimIdle reply done new turn ok known traced = quietly _ w ReclaimIdle reply done tt (traced_as rules _ R w.history done w.core ok.1 (traced_more K _ R (λ h s c k. inl k) w traced))
  does_traced K w DestroyBegin reply done new turn ok known traced = quietly _ w DestroyBegin reply done tt (destroys_traced rules _ R w reply done ok (traced_more K _ R (λ h s c k. inl k) w traced))
  does_traced K w DestroyClear reply done new turn ok known traced = clears_traced rules _ R w reply done ok (traced_more K _ R (λ h s c k. inl k) w traced)
  does_traced K w (DestroyCleaned b well) reply done new turn ok known traced = quietly _ w (DestroyCleaned b well) reply done tt (cleans_traced rules _ R w b well w.core.destroy reply done ok (traced_more K _ R (λ h s c k. inl k) w traced))
  does_traced K w Close reply done new turn ok known traced = quietly _ w Close reply done tt (traced_as rules _ R w.history done _ ok.1 (traced_more K _ R (λ h s c k. inl k) w traced))

  step_traced : (K : ℕ → ℕ → C → Type 0) (w : World C) (step : Step C) (reply : Reply C) (new : State C) → Follows rules Splits w.core step reply new → IsKnown rules Splits is_value demands w → IsTraced K R w
      → IsTraced (More K (Applies step reply new ∷ [])) R (after rules w (Applies step reply new))
  step_traced K w step (NotNow back) new ok known traced = traced_as rules _ R w.history new w.core ok.2 (traced_more K _ R (λ h s c k. inl k) w traced)
  step_traced K w step (Refused kind back) new ok known traced = traced_as rules _ R w.history new w.core ok.2 (traced_more K _ R (λ h s c k. inl k) w traced)
  step_traced K w step reply new (few, turn, (done, does, eq)) known traced =
      subst (λ k. IsTraced (More K (Applies step reply new ∷ [])) R (after rules w (Applies step reply k))) (sym eq) (does_traced K w step reply done new turn does known traced)

  event_traced : (K : ℕ → ℕ → C → Type 0) (w : World C) (e : WorldEvent C) → MayHappen rules Splits is_value w e → IsKnown rules Splits is_value demands w → IsTraced K R w
      → IsTraced (More K (e ∷ [])) R (after rules w e)
  event_traced K w (Applies step reply new) ok known traced = step_traced K w step reply new ok.1 known traced
  event_traced K w (ReadBegins n) ok known traced = traced_more K _ R (λ h s c k. inl k) w traced
  event_traced K w (ReadEnds n result) ok known traced = traced_more K _ R (λ h s c k. inl k) w traced
  event_traced K w (ScanBegins b) ok known traced = traced_more K _ R (λ h s c k. inl k) w traced
  event_traced K w (ScanEnds b result) ok known traced = traced_more K _ R (λ h s c k. inl k) w traced
  event_traced K w (WriteBegins f) ok known traced = traced_more K _ R (λ h s c k. inl k) w traced
  event_traced K w (WriteEnds f good g) ok known traced = traced_more K _ R (λ h s c k. inl k) w traced
  event_traced K w (CleanBegins b) ok known traced = traced_more K _ R (λ h s c k. inl k) w traced
  event_traced K w (CleanEnds b good g) ok known traced = traced_more K _ R (λ h s c k. inl k) w traced

  -- one event in front of the others
  queued_front : (h s : ℕ) (c : C) (e : WorldEvent C) (es : List (WorldEvent C)) → WasQueued h s c (e ∷ []) ⊎ WasQueued h s c es → WasQueued h s c (e ∷ es)
  queued_front h s c (Applies (Enqueue q n age d) (Queued u) new) es ok = elim ok [ inl one ↦ elim one [ inl is ↦ inl is | inr none ↦ absurd none ] | inr rest ↦ inr rest ]
  queued_front h s c e es ok = elim ok [ inl none ↦ absurd none | inr rest ↦ rest ]

  all_traced : (K : ℕ → ℕ → C → Type 0) (w : World C) (events : List (WorldEvent C)) → MayAllHappen rules Splits is_value w events → IsKnown rules Splits is_value demands w → IsTraced K R w
      → IsTraced (More K events) R (after_all rules w events)
  all_traced K w [] ok known traced = traced_more K _ R (λ h s c k. inl k) w traced
  all_traced K w (e ∷ es) ok known traced =
      traced_more (More (More K (e ∷ [])) es) (More K (e ∷ es)) R
      (λ h s c given. elim given [
        | inl before ↦ elim before [ inl k ↦ inl k | inr one ↦ inr (queued_front h s c e es (inl one)) ]
        | inr rest ↦ inr (queued_front h s c e es (inr rest))
      ])
      (after_all rules (after rules w e) es)
      (all_traced (More K (e ∷ [])) (after rules w e) es ok.1 (known_keeps rules Splits is_value demands w e ok.0 known) (event_traced K w e ok.0 known traced))

-- what is among the events is known of
known_among : {C : Type 0} (P : Event C → Type 0) (e : Event C) (H : List (Event C)) → Each P H → IsAmong e H → P e
known_among P e [] all is = absurd is
known_among P e (x ∷ H) all is = elim is [ inl same ↦ subst P (sym same) all.0 | inr later ↦ known_among P e H all.1 later ]

among_itself : {C : Type 0} (K : ℕ → ℕ → C → Type 0) (H tail : List (Event C)) → ((e : Event C) → IsAmong e tail → IsAmong e H) → Each (IsKnownPut K (λ h s x. IsAmong (Put h s x) H)) tail
among_itself K H [] back = tt
among_itself K H (Put h s x ∷ tail) back = (inl (back (Put h s x) (inl refl)), among_itself K H tail (λ e is. back e (inr is)))
among_itself K H (Deletion h s ∷ tail) back = (tt, among_itself K H tail (λ e is. back e (inr is)))
among_itself K H (Destruction ∷ tail) back = (tt, among_itself K H tail (λ e is. back e (inr is)))

pub puts_are_queued_lem : {C : Type 0} (rules : Rules C) (Splits : Splitting C) (is_value : C → Type 0) → PutsAreQueued rules Splits is_value
puts_are_queued_lem {C} rules Splits is_value first events h s x demands opened happened is =
    elim (known_among (IsKnownPut (λ q u c. ⊥ ⊎ WasQueued q u c events) (λ q u y. IsAmong (Put q u y) first.history)) (Put h s x) (after_all rules first events).history traced.puts is) [
      | inl old ↦ inl old
      | inr new ↦ inr (new.0, new.1, elim new.2 [ inl none ↦ absurd none | inr was ↦ was ])
    ]
  where
    traced : IsTraced (λ q u c. ⊥ ⊎ WasQueued q u c events) (λ q u y. IsAmong (Put q u y) first.history) (after_all rules first events)
    traced = all_traced rules Splits is_value demands (λ q u y. IsAmong (Put q u y) first.history) (λ q u c. ⊥) first events happened
        (record { sound = new_sound rules first opened; again = new_again rules first opened; sets = new_sets rules first opened })
        (record {
          at = λ f. subst (IsTracedAt (λ q u c. ⊥)) (sym (opened.flushers f)) (record { pieces = tt; received = tt; written = tt });
          puts = among_itself (λ q u c. ⊥) first.history first.history (λ e given. given);
        })
