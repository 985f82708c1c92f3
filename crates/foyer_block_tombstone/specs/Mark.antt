-- A mark of a delete as bytes.
use Rattle.std.specs.Prelude.{ℕ, zero, suc, ◌+◌, ◌*◌, ◌^◌}
use Rattle.foyer_block_index.specs.declared.tombstone.Tombstone.{Tombstone}

-- the number in the n bytes from o on, the highest first
unfoldable pub number : (ℕ → ℕ) → ℕ → ℕ → ℕ
number bytes o zero = 0
number bytes o (suc n) = bytes o * 256 ^ n + number bytes (suc o) n

-- the mark in the 16 bytes from o on: its hash, then its sequence
unfoldable pub mark_at : (ℕ → ℕ) → ℕ → Tombstone
mark_at bytes o = record { hash = number bytes o 8; sequence = number bytes (o + 8) 8 }
