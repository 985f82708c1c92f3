-- What became of the pieces that were queued: a count of those that left a flusher says which of them are written.
use Rattle.std.specs.Prelude.{◌≡◌, ℕ, suc, ◌+◌, ◌≤◌, ◌==◌, if◌then◌else◌, List, [], ◌∷◌, ◌++◌, length, Some, None, ◌⊎◌}
use Rattle.foyer_core_model.specs.State.{State}
use Rattle.foyer_core_model.specs.Rules.{Rules, flusher_of, Splitting}
use Rattle.foyer_core_model.specs.Step.{Age, Enqueue, Receive, FlushBegin, FlushWrote, FlushEnd, DestroyClear}
use Rattle.foyer_core_model.specs.Reply.{Queued, Received, Began, Failed, Ended, Cleared}
use Rattle.foyer_core_model.specs.Event.{sequence_in, newest}
use Rattle.foyer_core_model.specs.World.{World, WorldEvent, Applies, MayAllHappen, after_all}
use Rattle.foyer_core_model.specs.Opened.{IsOpened}
use Rattle.foyer_core_model.specs.Laws.{Demands}

-- how many pieces an event queues at a flusher
abbrev pub queues_at : {C : Type 0} → Rules C → ℕ → WorldEvent C → ℕ
queues_at rules f (Applies (Enqueue h n age c) (Queued s) new) = if flusher_of rules h == f then 1 else 0
queues_at rules f event = 0

-- how many pieces a flusher hands back by an event: the one at the front of its queue, if it isn't taken, or those of a batch that ends
abbrev pub returns_at : {C : Type 0} → ℕ → WorldEvent C → ℕ
returns_at f (Applies (Receive g) (Received (Some d)) new) = if g == f then 1 else 0
returns_at f (Applies (FlushEnd g) (Ended pieces waits) new) = if g == f then length pieces else 0
returns_at f event = 0

-- how many pieces a flusher returned from the front of its queue since its last batch began
abbrev pub passed_after : {C : Type 0} → ℕ → WorldEvent C → ℕ → ℕ
passed_after f (Applies (Receive g) (Received (Some d)) new) n = if g == f then suc n else n
passed_after f (Applies (FlushBegin g) (Began blocks marks) new) n = if g == f then 0 else n
passed_after f event n = n

-- the same of events, one after the other
abbrev pub queued_at : {C : Type 0} → Rules C → ℕ → List (WorldEvent C) → ℕ
queued_at rules f [] = 0
queued_at rules f (e ∷ es) = queues_at rules f e + queued_at rules f es

abbrev pub returned_at : {C : Type 0} → ℕ → List (WorldEvent C) → ℕ
returned_at f [] = 0
returned_at f (e ∷ es) = returns_at f e + returned_at f es

abbrev pub passed_at : {C : Type 0} → ℕ → List (WorldEvent C) → ℕ → ℕ
passed_at f [] n = n
passed_at f (e ∷ es) n = passed_at f es (passed_after f e n)

-- a batch failed, or a destroy cleared the index
abbrev pub HasLost : {C : Type 0} → List (WorldEvent C) → Type 0
HasLost [] = ⊥
HasLost (Applies (FlushWrote f ok) Failed new ∷ es) = Unit {0}
HasLost (Applies DestroyClear (Cleared blocks) new ∷ es) = Unit {0}
HasLost (e ∷ es) = HasLost es

-- Of a hash, what is newest has this sequence or a greater one.
abbrev pub IsPast : {C : Type 0} → (hash sequence : ℕ) → World C → Type 0
IsPast h s w = s ≤ sequence_in (newest h w.history)

-- A piece was queued, and had a place among those that were queued at its flusher, from 1 on. Count the pieces that the flusher has
-- returned, without those that it returned from the front of its queue since its last batch began. If the flusher has no batch and the
-- count reaches the place, the piece or something newer of its hash was committed or deleted. Exceptions: a batch failed since, or a
-- destroy cleared the index.
abbrev pub QueuedAreWritten : {C : Type 0} → Rules C → Splitting C → (C → Type 0) → Type 0
QueuedAreWritten {C} rules Splits is_value =
    (first : World C) (before since : List (WorldEvent C)) (h n : ℕ) (age : Age) (c : C) (s : ℕ) (queued : State C)
    → Demands rules Splits is_value → IsOpened rules first
    → MayAllHappen rules Splits is_value first (before ++ Applies (Enqueue h n age c) (Queued s) queued ∷ since)
    → ((after_all rules first (before ++ Applies (Enqueue h n age c) (Queued s) queued ∷ since)).core.flushers (flusher_of rules h)).batch ≡ None
    → suc (queued_at rules (flusher_of rules h) before) + passed_at (flusher_of rules h) (before ++ Applies (Enqueue h n age c) (Queued s) queued ∷ since) 0
    ≤ returned_at (flusher_of rules h) (before ++ Applies (Enqueue h n age c) (Queued s) queued ∷ since)
    → IsPast h s (after_all rules first (before ++ Applies (Enqueue h n age c) (Queued s) queued ∷ since)) ⊎ HasLost since

-- What is past stays so, unless a destroy clears the index.
abbrev pub PastStays : {C : Type 0} → Rules C → Splitting C → (C → Type 0) → Type 0
PastStays {C} rules Splits is_value =
    (w : World C) (events : List (WorldEvent C)) (h s : ℕ)
    → MayAllHappen rules Splits is_value w events → IsPast h s w → IsPast h s (after_all rules w events) ⊎ HasLost events

-- No flusher hands back more than was queued at it.
abbrev pub ReturnsQueued : {C : Type 0} → Rules C → Splitting C → (C → Type 0) → Type 0
ReturnsQueued {C} rules Splits is_value =
    (first : World C) (events : List (WorldEvent C)) (f : ℕ)
    → Demands rules Splits is_value → IsOpened rules first → MayAllHappen rules Splits is_value first events
    → returned_at f events ≤ queued_at rules f events
