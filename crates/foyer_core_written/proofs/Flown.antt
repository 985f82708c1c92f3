-- What was queued at a flusher is what it has returned and what is on its way there.
use Rattle.std.proofs.Common.{◌≡◌, ℕ, ◌+◌, ◌==◌, Bool, true, false, if◌then◌else◌, List, [], ◌∷◌, ◌++◌, length, Some, inl, inr, refl, sym, ap, ◌∙◌, length-append, arith}
use Rattle.std.proofs.lemmas.Bool.{eqb-true, eqb-false}
use Rattle.foyer_core_model.specs.Numbers.{put}
use Rattle.foyer_core_model.specs.State.{Submission, Piece, State}
use Rattle.foyer_core_model.specs.Rules.{Rules, flusher_of, Splitting}
use Rattle.foyer_core_model.specs.Step.{Enqueue, Receive, FlushEnd}
use Rattle.foyer_core_model.specs.Reply.{Queued, Received, Ended}
use Rattle.foyer_core_model.specs.Receive.{TakesFront}
use Rattle.foyer_core_model.specs.World.{World, WorldEvent, Applies, after, after_all, MayHappen, MayAllHappen}
use Rattle.foyer_core_model.specs.Opened.{IsOpened}
use Rattle.foyer_core_store_runs.specs.StoreRun.{front_piece, back_after}
use Rattle.foyer_core_store_runs.proofs.Flights.{flight, LineGoes, LineAfter, event_line, queued_line}
use Rattle.foyer_core_written.specs.Written.{queues_at, returns_at, queued_at, returned_at, ReturnsQueued}

-- the count of one at its place
pub one_at : (f q : ℕ) → f ≡ q → ◌≡◌ {A = ℕ} (if f == q then 1 else 0) 1
one_at f q at = go (f == q) refl
  where
    go : (t : Bool) → (f == q) ≡ t → ◌≡◌ {A = ℕ} (if t then 1 else 0) 1
    go true e = refl
    go false e = absurd (eqb-false f q e at)

-- one that is moved to another place
moved_length : {X : Type 0} (base over behind : List X) (x : X) → length ((base ++ x ∷ []) ++ (over ++ behind)) ≡ length (base ++ (over ++ x ∷ behind))
moved_length base over behind x =
    let front : length (base ++ x ∷ []) ≡ length base + 1 = length-append base (x ∷ []) in
    let rest : length (over ++ x ∷ behind) ≡ length over + length (x ∷ behind) = length-append over (x ∷ behind) in
    omega (arith, length-append (base ++ x ∷ []) (over ++ behind), front, length-append over behind, length-append base (over ++ x ∷ behind), rest)

module _ {C : Type 0} (rules : Rules C) (Splits : Splitting C) (is_value : C → Type 0) (w : World C) (q : ℕ) where
  -- nothing is counted that was returned before
  abbrev no_back : ℕ → List (ℕ × C)
  no_back f = []

  abbrev Old : List (ℕ × C)
  Old = flight (w.core.flushers q)

  abbrev New : WorldEvent C → List (ℕ × C)
  New e = LineAfter rules Splits w no_back q e

  grows : (e : WorldEvent C) → queues_at rules q e ≡ 0 → LineGoes rules w e q Old (New e) → length (New e) ≡ length Old + queues_at rules q e
  grows e none goes =
      elim goes [
        | inl is ↦ (let same : length (New e) ≡ length Old = ap length is in omega (arith, none, same))
        | inr (inl o) ↦ (let same : length (New e) ≡ length Old = ap length o.is ∙ moved_length o.base o.over o.behind (o.sequence, o.content) ∙ sym (ap length o.was) in
            omega (arith, none, same))
        | inr (inr p) ↦ absurd (let one : queues_at rules q e ≡ 1 = ap (queues_at rules q) p.event ∙ one_at (flusher_of rules p.hash) q p.at in omega (arith, none, one))
      ]

  -- the line grows by what is queued
  line_grows : (e : WorldEvent C) → MayHappen rules Splits is_value w e → length (New e) ≡ length Old + queues_at rules q e
  line_grows (Applies (Enqueue h n age c) (Queued s) new) ok = by_hash (flusher_of rules h == q) refl
    where
      by_hash : (t : Bool) → (flusher_of rules h == q) ≡ t
          → length (New (Applies (Enqueue h n age c) (Queued s) new)) ≡ length Old + queues_at rules q (Applies (Enqueue h n age c) (Queued s) new)
      by_hash true at =
          let is : New (Applies (Enqueue h n age c) (Queued s) new) ≡ Old ++ (s, c) ∷ [] =
          queued_line rules Splits w no_back q is_value h n age c s new ok (eqb-true (flusher_of rules h) q at) in
          let long : length (New (Applies (Enqueue h n age c) (Queued s) new)) ≡ length Old + 1 = ap length is ∙ length-append Old ((s, c) ∷ []) in
          let one : queues_at rules q (Applies (Enqueue h n age c) (Queued s) new) ≡ 1 = ap (λ t. if t then 1 else 0) at in
          omega (arith, long, one)
      by_hash false apart =
          grows (Applies (Enqueue h n age c) (Queued s) new) (ap (λ t. if t then 1 else 0) apart)
          (event_line rules Splits w no_back q is_value (Applies (Enqueue h n age c) (Queued s) new) ok)
  line_grows e ok = grows e refl (event_line rules Splits w no_back q is_value e ok)

  -- what is put back at a flusher counts there
  put_length : (f : ℕ) (l : List (ℕ × C)) → length (put no_back f l q) ≡ (if f == q then length l else 0)
  put_length f l = go (q == f) (f == q) refl refl
    where
      go : (a b : Bool) → (q == f) ≡ a → (f == q) ≡ b → length (if a then l else []) ≡ (if b then length l else 0)
      go true true e k = refl
      go true false e k = absurd (eqb-false f q k (sym (eqb-true q f e)))
      go false true e k = absurd (eqb-false q f e (sym (eqb-true f q k)))
      go false false e k = refl

  front_length : (f : ℕ) (d : C) (done : State C) (queue : List (Submission C)) → TakesFront rules w.core f queue (Received (Some d)) done
      → length (front_piece queue) ≡ 1
  front_length f d done (Piece h s n c ∷ rest) ok = refl
  front_length f d done queue ok = absurd ok

  -- what is returned grows by its count
  back_grows : (e : WorldEvent C) → MayHappen rules Splits is_value w e → length (back_after w e no_back q) ≡ returns_at q e
  back_grows (Applies (Receive f) (Received (Some d)) new) (fed, (few, turn, (done, changes, eq))) =
      put_length f (front_piece (w.core.flushers f).queue) ∙ ap (λ n. if f == q then n else 0) (front_length f d done (w.core.flushers f).queue changes)
  back_grows (Applies (FlushEnd f) (Ended pieces waits) new) ok = put_length f pieces
  back_grows e ok = refl

  -- what is on its way grows by what is queued, less what is returned
  pub flight_grows : (e : WorldEvent C) → MayHappen rules Splits is_value w e
      → length (flight ((after rules w e).core.flushers q)) + returns_at q e ≡ length (flight (w.core.flushers q)) + queues_at rules q e
  flight_grows e ok =
      omega (arith, line_grows e ok, back_grows e ok, length-append (back_after w e no_back q) (flight ((after rules w e).core.flushers q)))

module _ {C : Type 0} (rules : Rules C) (Splits : Splitting C) (is_value : C → Type 0) (q : ℕ) where
  pub flown : (w : World C) (es : List (WorldEvent C)) → MayAllHappen rules Splits is_value w es
      → length (flight ((after_all rules w es).core.flushers q)) + returned_at q es ≡ length (flight (w.core.flushers q)) + queued_at rules q es
  flown w [] ok = refl
  flown w (e ∷ es) ok = omega (arith, flight_grows rules Splits is_value w q e ok.0, flown (after rules w e) es ok.1)

  -- from an opened core all that was queued is returned or on its way
  pub flown_since : (first : World C) (es : List (WorldEvent C)) → IsOpened rules first → MayAllHappen rules Splits is_value first es
      → length (flight ((after_all rules first es).core.flushers q)) + returned_at q es ≡ queued_at rules q es
  flown_since first es opened ok =
      let none : length (flight (first.core.flushers q)) ≡ 0 = ap (λ φ. length (flight φ)) (opened.flushers q) in
      omega (arith, none, flown first es ok)

pub returns_queued_lem : {C : Type 0} (rules : Rules C) (Splits : Splitting C) (is_value : C → Type 0) → ReturnsQueued rules Splits is_value
returns_queued_lem rules Splits is_value first events f demands opened ok = omega (arith, flown_since rules Splits is_value f first events opened ok)
