-- The model's states that a core stands for. They differ in what a core doesn't keep: the bytes of writes that were issued.
use Rattle.std.specs.Prelude.{◌≡◌, ℕ, zero, suc, ◌+◌, ◌*◌, ◌^◌, ◌≤◌, List, map, length, Some, slice_get}
use Rattle.foyer_core_model.specs.Destroy.{IsIdle}
use Rattle.foyer_core_model.specs.State as model_state
use Rattle.foyer_core_flusher.specs.Content.{Content, Meaning}
use Rattle.foyer_core_flusher.specs.Settings.{Settings}
use Rattle.foyer_core_flusher.specs.Standing.{IsIndexedAs, sets_of, IsManagedAs, HasItsBlocks}
use Rattle.foyer_core_flusher.specs.Flushing.{IsFlusherAs}
use Rattle.foyer_core_flusher.specs.Seen.{Seen, seen}
use Rattle.foyer_core_flusher.specs.Taking.{size_in}
use Rattle.foyer_core_steps.specs.Destroying.{IsDestroyAs}
use Rattle.foyer_core_steps.specs.Reclaiming.{reclaim_at, AreReclaimAs}
use Rattle.foyer_core_steps.specs.declared.state.Core.{Core}

-- the flushers by their numbers; beyond them nothing waits anywhere
pub record AreFlushersAs {K V P A : Type 0} (m : Meaning K V P) (s : Settings) (φs : List (Seen K V P A)) (its : ℕ → model_state.Flusher Content) : Type 0 where
  pub count : length φs ≡ s.flushers
  pub all : (f : ℕ) (φ : Seen K V P A) → slice_get φs f ≡ Some φ → IsFlusherAs m s φ (its f)
  pub beyond : (f : ℕ) → s.flushers ≤ f → IsIdle (its f)

-- the sizes of the pieces queued at the first n flushers
abbrev pub size_of_all : {C : Type 0} → ℕ → (ℕ → model_state.Flusher C) → ℕ
size_of_all zero its = 0
size_of_all (suc n) its = size_in (its n).queue + size_of_all n its

-- The sum of the queued sizes is exact: each queued piece has drawn a sequence, so that it stays below 2^128.
pub record IsSizedAs (s : Settings) (queued next : ℕ) (its : ℕ → model_state.Flusher Content) : Type 0 where
  pub sum : queued ≡ size_of_all s.flushers its
  pub bound : queued ≤ next * 2 ^ 64

-- a state of the model that the core stands for, if its sizes are these
pub record IsStateOf {K V P A : Type 0} (m : Meaning K V P) (s : Settings) (core : Core K V P A) (it : model_state.State Content) : Type 0 where
  pub sizes : core.settings ≡ s
  pub index : IsIndexedAs s core.index.slots it.index
  pub next : it.next ≡ core.next
  pub steps : it.steps ≡ core.steps
  pub closed : it.closed ≡ core.closed
  pub flushers : AreFlushersAs m s (map seen core.flushers.items) it.flushers
  pub queued : IsSizedAs s core.queued core.next it.flushers
  pub manager : IsManagedAs s core.manager (sets_of it)
  pub has : (f : ℕ) → HasItsBlocks s it.place it.waiting f (it.flushers f)
  pub reclaims : (b : ℕ) → AreReclaimAs s b (it.place b) (it.filling b) (reclaim_at core.reclaims b) (it.reclaims b)
  pub destroy : IsDestroyAs s.blocks core.destroy it.destroy
