-- A piece whose place was returned is past, unless something was lost.
use Rattle.std.proofs.Common.{◌≡◌, ℕ, suc, ◌+◌, ◌≤◌, List, [], ◌∷◌, ◌++◌, length, ◌⊎◌, inl, inr, refl, sym, ap, subst, ◌∙◌, arith}
use Rattle.foyer_core_model.specs.State.{Piece, Flusher, State}
use Rattle.foyer_core_model.specs.Rules.{Rules, flusher_of, Splitting}
use Rattle.foyer_core_model.specs.Layout.{KeepsRecords}
use Rattle.foyer_core_model.specs.Step.{Age, Enqueue}
use Rattle.foyer_core_model.specs.Reply.{Queued}
use Rattle.foyer_core_model.specs.World.{World, WorldEvent, Applies, after, after_all, MayHappen, MayAllHappen}
use Rattle.foyer_core_model.proofs.Basics.{put_same}
use Rattle.foyer_core_store_runs.proofs.Flights.{flight}
use Rattle.foyer_core_written.specs.Written.{queues_at, passed_after, queued_at, returned_at, passed_at, HasLost, IsPast, QueuedAreWritten}
use Rattle.foyer_core_written.proofs.Folds.{none_more, after_both, queued_both, passed_both, may_then, lost_first, lost_then}
use Rattle.foyer_core_written.proofs.Past.{events_past}
use Rattle.foyer_core_written.proofs.Flown.{one_at, flown_since}
use Rattle.foyer_core_written.proofs.Places.{queue_count, IsItsPiece, Lies, reaches_last, lies_reaches}
use Rattle.foyer_core_written.proofs.Tracked.{event_goes}

module _ {C : Type 0} (rules : Rules C) (Splits : Splitting C) (is_value : C → Type 0) (places : KeepsRecords rules Splits) (h s place q : ℕ) where
  -- events leave the piece a place, or it is past, or was lost
  events_go : (w : World C) (es : List (WorldEvent C)) (n m total : ℕ) → MayAllHappen rules Splits is_value w es → total ≡ n + queued_at rules q es
      → Lies h s rules place n m (w.core.flushers q)
      → Lies h s rules place total (passed_at q es m) ((after_all rules w es).core.flushers q) ⊎ IsPast h s (after_all rules w es) ⊎ HasLost es
  events_go w [] n m total ok is lies = inl (subst (λ k. Lies h s rules place k m (w.core.flushers q)) (none_more n ∙ sym is) lies)
  events_go w (e ∷ es) n m total ok is lies =
      elim (event_goes rules Splits h s place n m w q lies places is_value e ok.0) [
        | inl still ↦ elim (events_go (after rules w e) es (n + queues_at rules q e) (passed_after q e m) total ok.1 (omega (arith, is)) still) [
          | inl last ↦ inl last
          | inr (inl past) ↦ inr (inl past)
          | inr (inr lost) ↦ inr (inr (lost_then e es lost))
        ]
        | inr (inl past) ↦ elim (events_past h s rules (after rules w e) es past) [ inl end ↦ inr (inl end) | inr lost ↦ inr (inr (lost_then e es lost)) ]
        | inr (inr lost) ↦ inr (inr (lost_first e es lost))
      ]

module _ {C : Type 0} (rules : Rules C) (Splits : Splitting C) (is_value : C → Type 0) (place m : ℕ) where
  -- a piece that is queued lies at the end of the queue
  enqueued : (w : World C) (h n : ℕ) (age : Age) (c : C) (s : ℕ) (new : State C)
      → MayHappen rules Splits is_value w (Applies (Enqueue h n age c) (Queued s) new) → Lies h s rules place place m (new.flushers (flusher_of rules h))
  enqueued w h n age c s new (fed, (few, turn, (done, changes, eq))) =
      subst (Lies h s rules place place m)
      (sym (ap (λ (k : State C). k.flushers f) eq ∙ ap (λ (k : State C). k.flushers f) changes.4 ∙ put_same w.core.flushers f ψ))
      (inl (reaches_last (IsItsPiece h s) queue_count place place (Piece h s n c) (refl, refl) (omega arith) (w.core.flushers f).queue))
    where
      f : ℕ
      f = flusher_of rules h

      ψ : Flusher C
      ψ = record (w.core.flushers f) { queue = (w.core.flushers f).queue ++ Piece h s n c ∷ [] }

pub queued_are_written_lem : {C : Type 0} (rules : Rules C) (Splits : Splitting C) (is_value : C → Type 0) → QueuedAreWritten rules Splits is_value
queued_are_written_lem {C} rules Splits is_value first before since h n age c s queued demands opened ok none given =
    subst (λ w. IsPast h s w ⊎ HasLost since) (sym whole)
    (elim gone [
      | inl lies ↦ absurd (
          let on_way : suc total ≤ length (flight ((after_all rules v since).core.flushers f)) + (passed_at f since m + place) =
          lies_reaches h s rules place total (passed_at f since m) ((after_all rules v since).core.flushers f)
          (ap (λ w. (w.core.flushers f).batch) (sym whole) ∙ none) lies in
          let all : length (flight ((after_all rules v since).core.flushers f)) + returned_at f (before ++ e ∷ since) ≡ total =
          subst (λ w. length (flight (w.core.flushers f)) + returned_at f (before ++ e ∷ since) ≡ total) whole
          (flown_since rules Splits is_value f first (before ++ e ∷ since) opened ok) in
          let passed : passed_at f (before ++ e ∷ since) 0 ≡ passed_at f since m = passed_both f 0 before (e ∷ since) in
          omega (arith, on_way, all, passed, given)
          )
      | inr (inl past) ↦ inl past
      | inr (inr lost) ↦ inr lost
    ])
  where
    f : ℕ
    f = flusher_of rules h

    e : WorldEvent C
    e = Applies (Enqueue h n age c) (Queued s) queued

    -- the worlds before and after the piece was queued
    u : World C
    u = after_all rules first before

    v : World C
    v = after rules u e

    place : ℕ
    place = suc (queued_at rules f before)

    m : ℕ
    m = passed_at f before 0

    total : ℕ
    total = queued_at rules f (before ++ e ∷ since)

    whole : after_all rules first (before ++ e ∷ since) ≡ after_all rules v since
    whole = after_both rules first before (e ∷ since)

    then : MayAllHappen rules Splits is_value u (e ∷ since)
    then = may_then rules Splits is_value first before (e ∷ since) ok

    counted : total ≡ place + queued_at rules f since
    counted = omega (arith, queued_both rules f before (e ∷ since), one_at f f refl)

    gone : Lies h s rules place total (passed_at f since m) ((after_all rules v since).core.flushers f) ⊎ IsPast h s (after_all rules v since) ⊎ HasLost since
    gone =
        events_go rules Splits is_value demands.places h s place f v since place m total then.1 counted
        (enqueued rules Splits is_value place m u h n age c s queued then.0)
