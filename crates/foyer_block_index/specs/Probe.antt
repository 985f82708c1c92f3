-- A look at a shard: its hashes, and how often it was asked for one.
use Rattle.std.specs.Prelude.{◌≡◌, ◌≢◌, ℕ, List, slice_get, Some}

pub record ProbeState : Type 0 where
  pub hashes : List ℕ
  pub turns : ℕ

-- no place has the hash
abbrev pub Lacks : List ℕ → ℕ → Type 0
Lacks hashes hash = (place : ℕ) → slice_get hashes place ≢ Some hash

-- some place has the hash
abbrev pub HasPlace : List ℕ → ℕ → Type 0
HasPlace hashes hash = (place : ℕ) × (slice_get hashes place ≡ Some hash)
