-- Ids below a bound, and the position of each of them.
use Rattle.std.specs.Prelude.{◌≡◌, ℕ, ◌<◌, ◌≤◌, ◌^◌, ◌==◌, false, if◌then◌else◌, List, length, slice_index}
use Rattle.foyer_core_model.specs.Ids.{is_id_in}

-- the ids in their order, and the bound below which they are
pub record IdList : Type 0 where
  pub ids : List ℕ
  pub bound : ℕ

-- each id is below the number of positions, and the position of an id in the list is the one that is stored for it
pub record AreStored (ids at : List ℕ) : Type 0 where
  pub small : length at ≤ 2 ^ 32
  pub there : (i : ℕ) → i < length ids → slice_index ids i < length at
  pub position : (i : ℕ) → i < length ids → slice_index at (slice_index ids i) ≡ i

-- the same ids, except this one
abbrev pub IsWithout : ℕ → List ℕ → List ℕ → Type 0
IsWithout id old new = (q : ℕ) → is_id_in q new ≡ (if q == id then false else is_id_in q old)
