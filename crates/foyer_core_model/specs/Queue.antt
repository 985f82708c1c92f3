-- What callers queue.
use Rattle.std.specs.Prelude.{◌≡◌, ℕ, suc, zero, ◌+◌, ◌<◌, nat_le, true, false, if◌then◌else◌, List, [], ◌∷◌, ◌++◌, Option, Some, None}
use Rattle.foyer_core_model.specs.Numbers.{put, last_number, plus}
use Rattle.foyer_core_model.specs.Record.{Slot, Indexed, Mark}
use Rattle.foyer_core_model.specs.Index.{is_address, inserted}
use Rattle.foyer_core_model.specs.State.{Invalidated, Submission, Piece, Remove, Await, Reinsert, Flusher, State}
use Rattle.foyer_core_model.specs.Rules.{Rules, flusher_of}
use Rattle.foyer_core_model.specs.Step.{Age, Young}
use Rattle.foyer_core_model.specs.Reply.{Reply, Ignored, Queued, Dropped, Deleted, Done, Answer}

-- the sizes of the pieces in a queue
abbrev pub queue_size : {C : Type 0} → List (Submission C) → ℕ
queue_size [] = 0
queue_size (Piece h s n c ∷ rest) = plus n (queue_size rest)
queue_size (Remove h s invalidated ∷ rest) = queue_size rest
queue_size (Await i ∷ rest) = queue_size rest
queue_size (Reinsert h bytes a ∷ rest) = queue_size rest

-- the sizes of the pieces queued at the first n flushers
abbrev pub size_queued : {C : Type 0} → ℕ → (ℕ → Flusher C) → ℕ
size_queued zero flushers = 0
size_queued (suc n) flushers = plus (queue_size (flushers n).queue) (size_queued n flushers)

-- the bytes that a mark makes invalid, with their block and its filling: those of the address that it pushes out
abbrev pub invalidated_by : {C : Type 0} → Rules C → (sequence : ℕ) → Option Slot → List Invalidated
invalidated_by rules s None = []
invalidated_by rules s (Some (Mark t)) = []
invalidated_by rules s (Some (Indexed a)) = if nat_le a.sequence s then record { block = a.block; filling = a.filling; bytes = rules.page_up a.len } ∷ [] else []

module _ {C : Type 0} (rules : Rules C) (old : State C) where
  -- a submission at the end of a flusher's queue
  abbrev pub queued : ℕ → Submission C → State C
  queued f submission =
      record old { flushers = put old.flushers f (record (old.flushers f) { queue = (old.flushers f).queue ++ submission ∷ [] }) }

  -- too much is queued
  abbrev pub IsCrowded : Type 0
  IsCrowded = rules.threshold < size_queued rules.flushers old.flushers

  -- a delete draws a sequence, and its mark is in the index at once and queued at the same flusher
  abbrev pub Deletes : ℕ → Reply C → State C → Type 0
  Deletes h (Deleted s) new =
      (s ≡ old.next) × (old.closed ≡ false) × (old.next < last_number)
      × (new ≡ record (queued (flusher_of rules h) (Remove h s (invalidated_by rules s (old.index h)))) {
        next = s + 1;
        index = put old.index h (inserted (old.index h) (Mark s));
      })
  Deletes h reply new = ⊥

  -- A young piece goes back. If too much is queued, any other piece goes back too, and its hash is deleted. Else the piece draws a sequence
  -- and is queued at its hash's flusher.
  abbrev pub Enqueues : ℕ → ℕ → Age → C → Reply C → State C → Type 0
  Enqueues h n age c (Ignored d) new = (d ≡ c) × (old.closed ≡ false) × (age ≡ Young) × (new ≡ old)
  Enqueues h n age c (Dropped d s) new = (d ≡ c) × (age ≡ Young → ⊥) × IsCrowded × Deletes h (Deleted s) new
  Enqueues h n age c (Queued s) new =
      (s ≡ old.next) × (old.closed ≡ false) × ((age ≡ Young → ⊥) × (IsCrowded → ⊥)) × (old.next < last_number)
      × (new ≡ record (queued (flusher_of rules h) (Piece h s n c)) { next = s + 1 })
  Enqueues h n age c reply new = ⊥

  -- a wait is queued
  abbrev pub Waits : ℕ → ℕ → Reply C → State C → Type 0
  Waits f i Done new = new ≡ queued f (Await i)
  Waits f i reply new = ⊥

  -- marks are no addresses
  abbrev pub Asks : ℕ → Reply C → State C → Type 0
  Asks h reply new = (reply ≡ Answer (is_address (old.index h))) × (new ≡ old)

  -- a closed core takes no more puts, deletes and destroys
  abbrev pub Closes : Reply C → State C → Type 0
  Closes reply new = (reply ≡ Done) × (new ≡ record old { closed = true })
