-- The waits of callers that flushers have yet to answer.
use Rattle.std.specs.Prelude.{◌≡◌, ◌⊎◌, ◌<◌, ◌≤◌, ◌-◌, ◌==◌, ◌||◌, ℕ, Bool, false, not, is_some, List, Option, None, Some, position, slice_get, slice_set, swap_remove}
use Rattle.foyer_storage_engine.specs.declared.engine.wait_table.OpenWait.{OpenWait}
use Rattle.foyer_storage_engine.specs.declared.engine.wait_table.WaitTable.{WaitTable}

-- the place of the wait with this number
abbrev pub place_of : List OpenWait → (id : ℕ) → Option ℕ
place_of waiting id = position (λ wait. wait.id == id) waiting

module _ {A : Type 0} where
  -- all flushers have answered it, or it was given up, or nobody answers any more
  abbrev pub is_over : WaitTable A → (id : ℕ) → Bool
  is_over table id = table.is_closed || not (is_some (place_of table.waiting.items id))

  -- the wait at a place gets an answer: the last one ends it, and has all woken who wait
  abbrev pub IsAnsweredAt : (place : Option ℕ) → (old new : WaitTable A) → (woken : Bool) → Type 0
  IsAnsweredAt None old new woken = (new ≡ old) × (woken ≡ false)
  IsAnsweredAt (Some place) old new woken =
      (wait : OpenWait) × (slice_get old.waiting.items place ≡ Some wait) × (new.next ≡ old.next) × (new.is_closed ≡ old.is_closed)
      × (((1 < wait.left) × (new.waiting.items ≡ slice_set old.waiting.items place (record wait { left = wait.left - 1 })) × (new.is_awaited ≡ old.is_awaited) × (woken ≡ false))
      ⊎ ((wait.left ≤ 1) × (new.waiting.items ≡ swap_remove old.waiting.items place wait) × (new.is_awaited ≡ false) × (woken ≡ old.is_awaited)))

  -- the wait at a place is given up
  abbrev pub IsForgottenAt : (place : Option ℕ) → (old new : WaitTable A) → Type 0
  IsForgottenAt None old new = new ≡ old
  IsForgottenAt (Some place) old new =
      (wait : OpenWait) × (slice_get old.waiting.items place ≡ Some wait) × (new.waiting.items ≡ swap_remove old.waiting.items place wait)
      × (new.next ≡ old.next) × (new.is_closed ≡ old.is_closed) × (new.is_awaited ≡ old.is_awaited)
