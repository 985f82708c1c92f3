-- What a load's answer was, at a moment between its call and its return.
use Rattle.std.specs.Prelude.{◌≡◌, ◌⊎◌, ℕ, ◌≤◌, true, List, ◌∷◌, ◌++◌, Some}
use Rattle.foyer_core_model.specs.Record.{Holds}
use Rattle.foyer_core_model.specs.Event.{Put, newest}
use Rattle.foyer_core_model.specs.World.{World}
use Rattle.foyer_core_laws.specs.Content.{Content, Meaning}
use Rattle.foyer_core_laws.specs.Sizes.{AreValid}
use Rattle.foyer_core_laws.specs.Settings.{Settings}
use Rattle.foyer_core_told.specs.declared.event.Told.{Told}
use Rattle.foyer_core_told.specs.ToldQueued.{IsAllWritten, IsQueuing, lost_in}
use Rattle.foyer_core_told.specs.ToldRuns.{IsRun, IsTold}
use Rattle.foyer_core_told.specs.ToldMisses.{IsTaken, is_taken_in}

module _ {K V P A D : Type 0} (m : Meaning K V P) (byte_at : D → ℕ → ℕ → ℕ) where
  -- A moment of the one history, which came after all that the caller had seen at the call, and which it has seen at the return. Runs of the
  -- world are told by that history.
  pub record Moment (before after : List (Told K V P A D)) : Type 0 where
    pub there : List (Told K V P A D)
    pub first : List (Told K V P A D)
    pub since : List (Told K V P A D)
    pub later : there ≡ before ++ first
    pub earlier : after ≡ there ++ since
    pub told : IsTold m byte_at after

  -- At such a moment, in every run that is told, the newest event of this hash was the put of this content.
  pub record WasNewest (before after : List (Told K V P A D)) (h : ℕ) (c : Content) : Type 0 where
    pub moment : Moment before after
    pub newest_then : (s : Settings) (sound : AreValid s) (u : World Content) → IsRun m s sound byte_at after u
        → (v : World Content) × IsRun m s sound byte_at moment.there v × ((n : ℕ) × (newest h v.history ≡ Some (Put h n (Holds c))))

  -- At such a moment, in every run that is told, the newest event of this hash was no put of a record; or the reclaim of its block had
  -- begun before and nothing of the hash was committed since; or that reclaim began, or a destroy cleared the index, between that moment
  -- and the return.
  pub record WasMissed (before after : List (Told K V P A D)) (h : ℕ) : Type 0 where
    pub moment : Moment before after
    pub caused : (s : Settings) (sound : AreValid s) (u : World Content) → IsRun m s sound byte_at after u
        → (v : World Content) × IsRun m s sound byte_at moment.there v
        × ((n : ℕ) (c : Content) → newest h v.history ≡ Some (Put h n (Holds c))
        → IsTaken m s sound byte_at moment.there v h (Put h n (Holds c))
        ⊎ ((block : ℕ) × (v.kept h ≡ Some block) × (is_taken_in block moment.since ≡ true)))

-- No piece of this hash that these events queued has a greater sequence; unless a batch failed since, or a destroy cleared the index.
abbrev pub AreNoNewer : {K V P A D : Type 0} → (h n : ℕ) → List (Told K V P A D) → Type 0
AreNoNewer {K} {V} {P} {A} {D} h n log =
    (before since : List (Told K V P A D)) (e : Told K V P A D) (sequence : ℕ) → log ≡ before ++ e ∷ since → IsQueuing h sequence e → (sequence ≤ n) ⊎ (lost_in since ≡ true)

module _ {K V P A D : Type 0} (m : Meaning K V P) (byte_at : D → ℕ → ℕ → ℕ) where
  -- At such a moment, in every run that is told, the newest event of this hash was the put of this content; and no piece of the hash that had been
  -- queued by then was newer, unless a batch had failed since, or a destroy had cleared the index.
  pub record WasPutLast (before after : List (Told K V P A D)) (h : ℕ) (c : Content) : Type 0 where
    pub moment : Moment m byte_at before after
    pub put_last : (s : Settings) (sound : AreValid s) (u : World Content) → IsRun m s sound byte_at after u
        → (v : World Content) × IsRun m s sound byte_at moment.there v × ((n : ℕ) × (newest h v.history ≡ Some (Put h n (Holds c))) × AreNoNewer h n moment.there)

  -- It was missed for a cause, and all pieces of the hash that had been queued by then were written, or something newer of the hash was; unless a
  -- batch had failed since, or a destroy had cleared the index.
  pub record WasMissedWritten (before after : List (Told K V P A D)) (h : ℕ) : Type 0 where
    pub missed : WasMissed m byte_at before after h
    pub written : IsAllWritten m byte_at h missed.moment.there
