-- What is recorded of the calls of an engine.
use Rattle.std.specs.Prelude.{◌≡◌, ℕ, [], ◌∷◌}
use Rattle.foyer_device_throttle.specs.Calls.{calls}
use Rattle.foyer_device_statistics.specs.Placed.{Seated}
use Rattle.foyer_device_statistics.specs.Counted.{Records}

-- a read of so many bytes was recorded, and nothing else
abbrev pub DidRecordRead : Seated → ℕ → Seated → Type 0
DidRecordRead old bytes new =
    (new.table ≡ old.table) × (new.limits ≡ old.limits)
    × Records old.view (0 ∷ bytes ∷ 0 ∷ calls old.limits.iops_counter bytes ∷ []) new.view

-- a write of so many bytes was recorded, and nothing else
abbrev pub DidRecordWrite : Seated → ℕ → Seated → Type 0
DidRecordWrite old bytes new =
    (new.table ≡ old.table) × (new.limits ≡ old.limits)
    × Records old.view (bytes ∷ 0 ∷ calls old.limits.iops_counter bytes ∷ 0 ∷ []) new.view
