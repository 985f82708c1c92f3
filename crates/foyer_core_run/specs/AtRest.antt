-- Flushers that have nothing left to do, and what leads a core there.
use Rattle.std.specs.Prelude.{◌≡◌, ◌≢◌, ℕ, ◌<◌, Bool, true, [], Option, None}
use Rattle.foyer_core_model.specs.Destroy.{IsIdle}
use Rattle.foyer_core_model.specs.Receive.{HasReceived}
use Rattle.foyer_core_model.specs.State.{State}
use Rattle.foyer_core_laws.specs.Content.{Content, Meaning}
use Rattle.foyer_core_laws.specs.Sizes.{AreValid}
use Rattle.foyer_core_laws.specs.Settings.{Settings}
use Rattle.foyer_core_steps.specs.StateOf.{IsStateOf}
use Rattle.foyer_core_steps.specs.declared.state.Core.{Core}

-- nothing is queued, received, kept or in a batch at this flusher, in each state of the model that the core stands for
abbrev pub IsFlusherIdle : {K V P A : Type 0} → Meaning K V P → ℕ → Core K V P A → Type 0
IsFlusherIdle m f core = (s : Settings) (it : State Content) → IsStateOf m s core it → IsIdle (it.flushers f)

-- and so it is at each flusher
abbrev pub IsAtRest : {K V P A : Type 0} → Meaning K V P → Core K V P A → Type 0
IsAtRest m core = (f : ℕ) → IsFlusherIdle m f core

-- a core that stood for a state of the model is at rest afterwards
abbrev pub ComesToRest : {K V P A : Type 0} → Meaning K V P → Core K V P A → Core K V P A → Type 0
ComesToRest m old new = (s : Settings) → AreValid s → (it : State Content) → IsStateOf m s old it → IsAtRest m new

-- From each state that the core before stands for to one that the core afterwards stands for, related to it so.
abbrev pub Leads : {K V P A : Type 0} → Meaning K V P → (State Content → State Content → Type 0) → Core K V P A → Core K V P A → Type 0
Leads m Relates old new =
    (s : Settings) → AreValid s → (it : State Content) → IsStateOf m s old it → (after : State Content) × IsStateOf m s new after × Relates it after

-- every other flusher has what it had
abbrev pub KeepsOthers : {C : Type 0} → ℕ → State C → State C → Type 0
KeepsOthers f old new = (g : ℕ) → g ≢ f → new.flushers g ≡ old.flushers g

-- a flusher that was idle is idle
abbrev pub KeepsIdle : {C : Type 0} → State C → State C → Type 0
KeepsIdle old new = (f : ℕ) → IsIdle (old.flushers f) → IsIdle (new.flushers f)

-- states are related so if there is no filter
abbrev pub Without : {C F : Type 0} → Option F → (State C → State C → Type 0) → State C → State C → Type 0
Without filter Relates old new = filter ≡ None → Relates old new

-- every other flusher that was idle is idle, if there is no filter
abbrev pub KeepsOthersIdle : {C F : Type 0} → Option F → ℕ → State C → State C → Type 0
KeepsOthersIdle filter f old new = filter ≡ None → (g : ℕ) → g ≢ f → IsIdle (old.flushers g) → IsIdle (new.flushers g)

-- this flusher has no batch that it hadn't
abbrev pub BeginsNone : {C : Type 0} → ℕ → State C → State C → Type 0
BeginsNone f old new = KeepsOthers f old new × ((old.flushers f).batch ≡ None → (new.flushers f).batch ≡ None)

-- this flusher's queue is taken up to its end
abbrev pub TakesQueue : {C : Type 0} → ℕ → State C → State C → Type 0
TakesQueue f old new = BeginsNone f old new × ((new.flushers f).queue ≡ [])

-- this flusher's queue is taken, and up to its end if `is_empty` is true
abbrev pub TakesQueueIf : {C : Type 0} → Bool → ℕ → State C → State C → Type 0
TakesQueueIf is_empty f old new = BeginsNone f old new × (is_empty ≡ true → (new.flushers f).queue ≡ [])

-- nothing changes, and this flusher has a batch or has received nothing
abbrev pub MayNotBegin : {C : Type 0} → ℕ → State C → State C → Type 0
MayNotBegin f old new = (new ≡ old) × ((old.flushers f).batch ≡ None → HasReceived (old.flushers f) → ⊥)

-- this flusher's batch is over
abbrev pub EndsBatch : {C : Type 0} → ℕ → State C → State C → Type 0
EndsBatch f old new = KeepsOthers f old new × ((new.flushers f).batch ≡ None)

-- once this is true it is, and without a filter others that were idle are idle
abbrev pub EndsBatchOnce : {C F : Type 0} → Option F → Bool → ℕ → State C → State C → Type 0
EndsBatchOnce filter has_ended f old new = KeepsOthersIdle filter f old new × (has_ended ≡ true → (new.flushers f).batch ≡ None)

-- this flusher has nothing left to do, and without a filter others that were idle are idle
abbrev pub LeavesIdle : {C F : Type 0} → Option F → ℕ → State C → State C → Type 0
LeavesIdle filter f old new = KeepsOthersIdle filter f old new × IsIdle (new.flushers f)

-- without a filter the first n flushers have nothing left to do
abbrev pub LeavesIdleBelow : {C F : Type 0} → Option F → ℕ → State C → State C → Type 0
LeavesIdleBelow filter n old new = filter ≡ None → (f : ℕ) → f < n → IsIdle (new.flushers f)

-- no flusher has
abbrev pub LeavesAllIdle : {C : Type 0} → State C → State C → Type 0
LeavesAllIdle old new = (f : ℕ) → IsIdle (new.flushers f)
