-- Which of two engines a hash belongs to, and what both say together.
use Rattle.std.specs.Prelude.{ℕ, ◌+◌, ◌*◌, ◌-◌, ◌/◌, ◌%◌, ◌^◌, ◌==◌, min, Bool, true, false, Result, Ok, Err}
use Rattle.foyer_device_page.specs.declared.error.Error.{Error}
use Rattle.foyer_storage_store.specs.declared.calls.DeviceSummary.{DeviceSummary}

-- one bit, by its value, of the hash times an odd number near 2^64 divided by the golden ratio, so that hashes that stand side by
-- side are spread
abbrev pub is_high : (hash bit : ℕ) → Bool
is_high hash bit = (hash * 11400714819323198485) % 2 ^ 64 / bit % 2 == 1

-- the one or the other
abbrev pub OfSide : Bool → Type 0 → Type 0 → Type 0
OfSide false Low High = Low
OfSide true Low High = High

-- the first refusal
abbrev pub first_of : Result (Unit {0}) Error → Result (Unit {0}) Error → Result (Unit {0}) Error
first_of (Ok done) high = high
first_of (Err e) high = Err e

-- what two devices have together
abbrev pub summed : DeviceSummary → DeviceSummary → DeviceSummary
summed a b = record {
  capacity = min (a.capacity + b.capacity) (2 ^ 64 - 1);
  allocated = min (a.allocated + b.allocated) (2 ^ 64 - 1);
  partitions = min (a.partitions + b.partitions) (2 ^ 64 - 1);
}
