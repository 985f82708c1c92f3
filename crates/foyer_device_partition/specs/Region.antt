-- What contracts see of the partitions that share a device's bytes.
use Rattle.std.specs.Prelude.{ℕ, ◌-◌, ◌^◌, ◌&&◌, List, Bool, length, sum, nat_lt, nat_le}

-- the bytes that they may take together, and their sizes, in order of their ids
pub record Region : Type 0 where
  pub room : ℕ
  pub sizes : List ℕ

-- every number of a partition is used
abbrev pub has_all_numbers : Region → Bool
has_all_numbers r = nat_le (2 ^ 32) (length r.sizes)

-- a partition of that size finds no space
abbrev pub lacks_space : Region → ℕ → Bool
lacks_space r size = nat_lt (length r.sizes) (2 ^ 32) && nat_lt (r.room - sum r.sizes) size
