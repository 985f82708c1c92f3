-- What callers lend the core at first.
use Rattle.std.specs.Prelude.{◌≡◌, ℕ}
use Rattle.std.specs.Duration.{as_nanos}
use Rattle.rand_pcg.specs.Lcg.{Lcg, increment_of, started}
use Rattle.rand_pcg.specs.Pcg.{multiplier_64}
use Rattle.foyer_device_statistics.specs.declared.state.IoState.{IoState}

-- nothing was done, and nothing is to be waited for
abbrev pub IsNoIo : IoState → Type 0
IsNoIo io =
    (io.disk_write_bytes ≡ 0) × (io.disk_read_bytes ≡ 0) × (io.disk_write_ios ≡ 0) × (io.disk_read_ios ≡ 0)
    × (as_nanos io.write_throttle ≡ 0) × (as_nanos io.read_throttle ≡ 0)

-- the generator that begins with a seed, on the stream of this number
abbrev pub generator_of : ℕ → Lcg
generator_of seed = started 64 multiplier_64 seed (increment_of 64 seed)
