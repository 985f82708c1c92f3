-- Destroys.
use Rattle.std.specs.Prelude.{◌≡◌, ℕ, ◌+◌, ◌<◌, nat_lt, false, if◌then◌else◌, List, [], ◌∷◌, Option, Some, None}
use Rattle.foyer_core_model.specs.Numbers.{put, last_number, plus}
use Rattle.foyer_core_model.specs.Ids.{ids, without_id}
use Rattle.foyer_core_model.specs.Kind.{Kind}
use Rattle.foyer_core_model.specs.State.{Remove, Flusher, BlockSet, Clean, Writes, Evictable, Reclaims, no_stats, Destroy, NoDestroy, Begun, Cleaning, State}
use Rattle.foyer_core_model.specs.Rules.{Rules, flusher_of, first_position}
use Rattle.foyer_core_model.specs.Reply.{Reply, Done, Destroying, Cleared, Destroyed}
use Rattle.foyer_core_model.specs.Queue.{queued}

-- a destroy takes every block from its flusher
abbrev pub vacated : BlockSet → BlockSet
vacated Clean = Clean
vacated (Writes f) = Evictable
vacated Evictable = Evictable
vacated Reclaims = Reclaims

-- nothing waits at a flusher: kept marks and waits count too
abbrev pub IsIdle : {C : Type 0} → Flusher C → Type 0
IsIdle φ = (φ.queue ≡ []) × (φ.buffer ≡ []) × (φ.marks ≡ []) × (φ.waits ≡ []) × (φ.batch ≡ None)

-- the fault that came first
abbrev pub first_fault : Option Kind → Option Kind → Option Kind
first_fault None fault = fault
first_fault (Some kind) fault = Some kind

-- when the last clean has come, the destroy is over
abbrev pub after_clean : List ℕ → Option Kind → Destroy
after_clean [] failed = NoDestroy
after_clean (b ∷ bs) failed = Cleaning (b ∷ bs) failed

-- and the last reply carries the first fault
abbrev pub issued_after_clean : {C : Type 0} → List ℕ → Option Kind → Reply C
issued_after_clean [] failed = Destroyed failed
issued_after_clean (b ∷ bs) failed = Done

-- each block begins a new filling, up to the greatest count
abbrev pub refilled : ℕ → (ℕ → ℕ) → ℕ → ℕ
refilled blocks filling b = if nat_lt b blocks then plus (filling b) 1 else filling b

module _ {C : Type 0} (rules : Rules C) (old : State C) where
  -- a mark of hash 0 is queued, and the index isn't touched
  abbrev pub BeginsDestroy : Reply C → State C → Type 0
  BeginsDestroy (Destroying s) new =
      (s ≡ old.next) × (old.closed ≡ false) × (old.next < last_number)
      × (new ≡ record (queued rules old (flusher_of rules 0) (Remove 0 s [])) { next = s + 1; destroy = Begun })
  BeginsDestroy reply new = ⊥

  -- the index is cleared, every block begins a new filling, every splitter is fresh, and a clean of each block is issued
  abbrev pub Clears : Reply C → State C → Type 0
  Clears (Cleared bs) new =
      (bs ≡ ids rules.blocks)
      × (new ≡ record old {
        index = λ h. None;
        filling = refilled rules.blocks old.filling;
        place = λ b. vacated (old.place b);
        flushers = λ f. record (old.flushers f) { own = None; ready = None; context = first_position rules };
        destroy = Cleaning (ids rules.blocks) None;
      })
  Clears reply new = ⊥

  -- once for each block, which stays in its set
  abbrev pub CleansOne : ℕ → Option Kind → Destroy → Reply C → State C → Type 0
  CleansOne b fault (Cleaning left failed) reply new =
      (reply ≡ issued_after_clean (without_id b left) (first_fault failed fault))
      × (new ≡ record old { destroy = after_clean (without_id b left) (first_fault failed fault); stats = put old.stats b no_stats })
  CleansOne b fault NoDestroy reply new = ⊥
  CleansOne b fault Begun reply new = ⊥
