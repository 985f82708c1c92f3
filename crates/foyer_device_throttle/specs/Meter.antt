-- What is kept of a quota.
use Rattle.std.specs.Prelude.{◌≡◌, ℕ, pos, ◌+◌, ◌*◌, ◌-ℤ◌, Option, MatchOption, List, [], ◌∷◌, ◌++◌}
use Rattle.std.specs.Int.NonZero.{non_zero_usize_get}
use Rattle.std.specs.declared.num.NonZeroUsize.{NonZeroUsize}
use Rattle.foyer_device_throttle.specs.Quota.{Event, Recorded, Polled, Quota, billion, fresh, after, after_all, recorded_by, wait}

-- the billionths that were filled, and up to which moment
pub record Filled : Type 0 where
  pub billionths : ℕ
  pub moment : ℕ

-- the quota, if so many units were recorded in all
abbrev pub quota_of : Filled → ℕ → Quota
quota_of f recorded = record { billionths = pos f.billionths -ℤ pos (recorded * billion); moment = f.moment }

-- a poll of a limit, if there is one, at which so many units were recorded in all
abbrev pub IsPolled : Option NonZeroUsize → ℕ → ℕ → Filled → Filled → ℕ → Type 0
IsPolled limit recorded now old new nanos =
    MatchOption limit ((new ≡ old) × (nanos ≡ 0))
    (λ l. (quota_of new recorded ≡ after (non_zero_usize_get l) (quota_of old recorded) (Polled now))
    × (nanos ≡ wait (non_zero_usize_get l) (quota_of new recorded).billionths))

-- from the moment at which the counting began, these events led to this state of a limit
abbrev pub IsLedTo : ℕ → ℕ → List Event → Filled → ℕ → Type 0
IsLedTo limit begun events f recorded =
    (recorded ≡ recorded_by events) × (quota_of f recorded ≡ after_all limit (fresh begun) events)

-- recording leaves what is kept as it is, and lessens the quota
abbrev pub RecordingsCount : Type 0
RecordingsCount =
    (limit begun n recorded : ℕ) (events : List Event) (f : Filled) → IsLedTo limit begun events f recorded
    → IsLedTo limit begun (events ++ Recorded n ∷ []) f (recorded + n)
