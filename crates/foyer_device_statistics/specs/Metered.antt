-- Two limits of one direction.
use Rattle.std.specs.Prelude.{◌≡◌, ℕ, max, Option}
use Rattle.std.specs.declared.num.NonZeroUsize.{NonZeroUsize}
use Rattle.foyer_device_throttle.specs.Meter.{IsPolled}
use Rattle.foyer_device_statistics.specs.declared.meters.Meters.{Meters}

-- both limits were polled, and the longer of the two waits is answered
abbrev pub IsMetered : Option NonZeroUsize → Option NonZeroUsize → ℕ → ℕ → ℕ → Meters → Meters → ℕ → Type 0
IsMetered limit_bytes limit_ios bytes ios now old new nanos =
    (for_bytes : ℕ) × (for_ios : ℕ) × IsPolled limit_bytes bytes now old.bytes new.bytes for_bytes
    × IsPolled limit_ios ios now old.ios new.ios for_ios × (nanos ≡ max for_bytes for_ios)
