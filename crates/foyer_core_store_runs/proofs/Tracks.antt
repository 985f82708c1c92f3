-- What is known of every piece that is queued stays known of every piece on its way to a block.
use Rattle.std.proofs.Common.{◌≡◌, ℕ, List, [], ◌∷◌, Some, None, inl, refl, sym, subst}
use Rattle.foyer_core_model.specs.Record.{Outcome}
use Rattle.foyer_core_model.specs.State.{Piece, State}
use Rattle.foyer_core_model.specs.Rules.{Rules, flusher_of, Splitting}
use Rattle.foyer_core_model.specs.Step.{Age, Step, Enqueue, Delete, Wait, MayContains, LoadBegin, LoadEnd, Receive, FlushBegin, FlushBlock, FlushWrote, LogWrote, FlushEnd, ReclaimBegin, ReclaimRead, ReclaimForget, ReclaimCleaned, ReclaimIdle, DestroyBegin, DestroyClear, DestroyCleaned, Close}
use Rattle.foyer_core_model.specs.Reply.{Reply, NotNow, Refused, Ignored, Queued, Dropped, Deleted, Received, Committed, Cleared}
use Rattle.foyer_core_model.specs.Queue.{Enqueues}
use Rattle.foyer_core_model.specs.InTurn.{InTurn}
use Rattle.foyer_core_model.specs.Changes.{Changes}
use Rattle.foyer_core_model.specs.Follows.{Follows}
use Rattle.foyer_core_model.specs.Event.{Event, Put, Deletion, Destruction, events_of}
use Rattle.foyer_core_model.specs.Access.{came}
use Rattle.foyer_core_model.specs.World.{World, WorldEvent, Applies, ReadBegins, ReadEnds, ScanBegins, ScanEnds, WriteBegins, WriteEnds, CleanBegins, CleanEnds, after, MayHappen}
use Rattle.foyer_core_model.specs.Laws.{Demands}
use Rattle.foyer_format_layout.specs.Each.{Each}
use Rattle.foyer_core_model.proofs.SoundKept.{IsKnown}
use Rattle.foyer_core_model.proofs.Traced.{IsKnownPut, IsTracedAt, IsTracedIn, IsTraced, pushed_traced, traced_as, deletes_traced, takes_traced, begins_traced, issues_traced, wrote_traced, logs_traced, finishes_traced, reads_traced, looks_traced, ends_traced, waits_traced, picks_traced, forgets_traced, cleaned_traced, destroys_traced, clears_traced, cleans_traced}

-- of a history nothing is asked
abbrev pub any_put : {C : Type 0} → ℕ → ℕ → Outcome C → Type 0
any_put h s x = Unit {0}

pub any_history : {C : Type 0} (K : ℕ → ℕ → C → Type 0) (H : List (Event C)) → Each (IsKnownPut K any_put) H
any_history K [] = tt
any_history K (Put h s x ∷ H) = (inl tt, any_history K H)
any_history K (Deletion h s ∷ H) = (tt, any_history K H)
any_history K (Destruction ∷ H) = (tt, any_history K H)

-- each piece that is queued, received or in a batch is known
abbrev pub AllKnown : {C : Type 0} → (ℕ → ℕ → C → Type 0) → World C → Type 0
AllKnown K w = (f : ℕ) → IsTracedAt K (w.core.flushers f)

-- so is one that an event queues
abbrev pub IsQueuedKnown : {C : Type 0} → (ℕ → ℕ → C → Type 0) → WorldEvent C → Type 0
IsQueuedKnown K (Applies (Enqueue h n age c) (Queued s) new) = K h s c
IsQueuedKnown K event = Unit {0}

module _ {C : Type 0} (rules : Rules C) (Splits : Splitting C) (is_value : C → Type 0) (demands : Demands rules Splits is_value) (K : ℕ → ℕ → C → Type 0) where
  -- steps that give no event
  abbrev pub IsQuiet : Step C → Type 0
  IsQuiet (Enqueue h n age c) = ⊥
  IsQuiet (Delete h) = ⊥
  IsQuiet (Receive f) = ⊥
  IsQuiet (FlushWrote f ok) = ⊥
  IsQuiet DestroyClear = ⊥
  IsQuiet step = Unit {0}

  pub quiet : (old : State C) (H : List (Event C)) (reply : Reply C) (step : Step C) → IsQuiet step → events_of old reply step H ≡ H
  quiet old H (Deleted s) (Delete h) none = absurd none
  quiet old H (Deleted s) step none = refl
  quiet old H (Dropped d s) (Enqueue h n age c) none = absurd none
  quiet old H (Dropped d s) step none = refl
  quiet old H (Received (Some d)) (Receive f) none = absurd none
  quiet old H (Received None) step none = refl
  quiet old H (Received (Some d)) step none = refl
  quiet old H (Committed n) (FlushWrote f ok) none = absurd none
  quiet old H (Committed n) step none = refl
  quiet old H (Cleared bs) DestroyClear none = absurd none
  quiet old H (Cleared bs) step none = refl
  quiet old H reply step none = refl

  quietly : (w : World C) (step : Step C) (reply : Reply C) (new : State C) → IsQuiet step → IsTracedIn K any_put new.flushers w.history → IsTraced K any_put (after rules w (Applies step reply new))
  quietly w step reply new none ok = subst (λ H. IsTracedIn K any_put new.flushers H) (sym (quiet w.core w.history reply step none)) ok

  enqueues : (w : World C) (h n : ℕ) (age : Age) (c : C) (reply : Reply C) (done new : State C) → Enqueues rules w.core h n age c reply done
      → IsQueuedKnown K (Applies (Enqueue h n age c) reply new) → IsTraced K any_put w → IsTraced K any_put (after rules w (Applies (Enqueue h n age c) reply done))
  enqueues w h n age c (Ignored d) done new ok known traced = traced_as rules K any_put w.history done w.core ok.3 traced
  enqueues w h n age c (Dropped d s) done new ok known traced = deletes_traced rules K any_put w h (Deleted s) done ok.3 traced
  enqueues w h n age c (Queued s) done new ok known traced =
      traced_as rules K any_put w.history done _ ok.4 (pushed_traced rules K any_put w (flusher_of rules h) (Piece h s n c) known traced)
  enqueues w h n age c reply done new ok known traced = absurd ok

  does : (w : World C) (step : Step C) (reply : Reply C) (done new : State C) → InTurn rules w.core step → Changes rules Splits w.core step reply done → IsKnown rules Splits is_value demands w
      → IsQueuedKnown K (Applies step reply new) → IsTraced K any_put w → IsTraced K any_put (after rules w (Applies step reply done))
  does w (Enqueue h n age c) reply done new turn ok known fresh traced = enqueues w h n age c reply done new ok fresh traced
  does w (Delete h) reply done new turn ok known fresh traced = deletes_traced rules K any_put w h reply done ok traced
  does w (Wait f i) reply done new turn ok known fresh traced = quietly w (Wait f i) reply done tt (waits_traced rules K any_put w f i reply done ok traced)
  does w (MayContains h) reply done new turn ok known fresh traced = quietly w (MayContains h) reply done tt (traced_as rules K any_put w.history done w.core ok.1 traced)
  does w (LoadBegin h throttled) reply done new turn ok known fresh traced = looks_traced rules K any_put w h throttled (w.core.index h) reply done ok traced
  does w (LoadEnd t came) reply done new turn ok known fresh traced = ends_traced rules K any_put w t came reply done ok traced
  does w (Receive f) reply done new turn ok known fresh traced = takes_traced rules K any_put w f (w.core.flushers f).queue reply done refl ok traced
  does w (FlushBegin f) reply done new turn ok known fresh traced = quietly w (FlushBegin f) reply done tt (begins_traced rules K any_put Splits demands.places w f reply done ok traced)
  does w (FlushBlock f) reply done new turn ok known fresh traced = quietly w (FlushBlock f) reply done tt (issues_traced rules K any_put w f (w.core.flushers f).batch reply done refl turn.1 ok traced)
  does w (FlushWrote f good) reply done new turn ok known fresh traced = wrote_traced rules K any_put w f good (w.core.flushers f).batch reply done refl ok known.sound known.again traced
  does w (LogWrote f well) reply done new turn ok known fresh traced = quietly w (LogWrote f well) reply done tt (logs_traced rules K any_put w f well (w.core.flushers f).batch reply done refl ok traced)
  does w (FlushEnd f) reply done new turn ok known fresh traced = quietly w (FlushEnd f) reply done tt (finishes_traced rules K any_put w f (w.core.flushers f).batch reply done ok traced)
  does w ReclaimBegin reply done new turn ok known fresh traced = quietly w ReclaimBegin reply done tt (picks_traced rules K any_put w reply done ok traced)
  does w (ReclaimRead b came) reply done new turn ok known fresh traced = quietly w (ReclaimRead b came) reply done tt (reads_traced rules K any_put w b (w.core.reclaims b) came reply done ok traced)
  does w (ReclaimForget b) reply done new turn ok known fresh traced = quietly w (ReclaimForget b) reply done tt (forgets_traced rules K any_put w b (w.core.reclaims b) reply done ok traced)
  does w (ReclaimCleaned b well) reply done new turn ok known fresh traced = quietly w (ReclaimCleaned b well) reply done tt (cleaned_traced rules K any_put w b reply done ok traced)
  does w ReclaimIdle reply done new turn ok known fresh traced = quietly w ReclaimIdle reply done tt (traced_as rules K any_put w.history done w.core ok.1 traced)
  does w DestroyBegin reply done new turn ok known fresh traced = quietly w DestroyBegin reply done tt (destroys_traced rules K any_put w reply done ok traced)
  does w DestroyClear reply done new turn ok known fresh traced = clears_traced rules K any_put w reply done ok traced
  does w (DestroyCleaned b well) reply done new turn ok known fresh traced = quietly w (DestroyCleaned b well) reply done tt (cleans_traced rules K any_put w b well w.core.destroy reply done ok traced)
  does w Close reply done new turn ok known fresh traced = quietly w Close reply done tt (traced_as rules K any_put w.history done _ ok.1 traced)

  steps : (w : World C) (step : Step C) (reply : Reply C) (new : State C) → Follows rules Splits w.core step reply new → IsKnown rules Splits is_value demands w
      → IsQueuedKnown K (Applies step reply new) → IsTraced K any_put w → IsTraced K any_put (after rules w (Applies step reply new))
  steps w step (NotNow back) new ok known fresh traced = traced_as rules K any_put w.history new w.core ok.2 traced
  steps w step (Refused kind back) new ok known fresh traced = traced_as rules K any_put w.history new w.core ok.2 traced
  steps w step reply new (few, turn, (done, changes, eq)) known fresh traced =
      subst (λ k. IsTraced K any_put (after rules w (Applies step reply k))) (sym eq) (does w step reply done new turn changes known fresh traced)

  event_known : (w : World C) (e : WorldEvent C) → MayHappen rules Splits is_value w e → IsKnown rules Splits is_value demands w → IsQueuedKnown K e → IsTraced K any_put w → IsTraced K any_put (after rules w e)
  event_known w (Applies step reply new) ok known fresh traced = steps w step reply new ok.1 known fresh traced
  event_known w (ReadBegins n) ok known fresh traced = traced
  event_known w (ReadEnds n result) ok known fresh traced = traced
  event_known w (ScanBegins b) ok known fresh traced = traced
  event_known w (ScanEnds b result) ok known fresh traced = traced
  event_known w (WriteBegins f) ok known fresh traced = traced
  event_known w (WriteEnds f good g) ok known fresh traced = traced
  event_known w (CleanBegins b) ok known fresh traced = traced
  event_known w (CleanEnds b good g) ok known fresh traced = traced

  pub known_stays : (w : World C) (e : WorldEvent C) → MayHappen rules Splits is_value w e → IsKnown rules Splits is_value demands w → IsQueuedKnown K e → AllKnown K w → AllKnown K (after rules w e)
  known_stays w e ok known fresh all = (event_known w e ok known fresh (record { at = all; puts = any_history K w.history })).at
