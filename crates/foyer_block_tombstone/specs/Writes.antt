-- How often pages were written.
use Rattle.std.specs.Prelude.{◌≡◌, ◌≢◌, ℕ, ◌+◌, ◌*◌, ◌%◌, ◌^◌, ◌<◌, ◌≤◌}
use Rattle.foyer_block_tombstone.specs.Ring.{IsTouched, touched}

-- a count that goes round at 2^64 came so much further
abbrev pub HasWritten : (old more new : ℕ) → Type 0
HasWritten old more new = new ≡ (old + more) % 2 ^ 64

-- the same by at most so much
abbrev pub HasWrittenAtMost : (old most new : ℕ) → Type 0
HasWrittenAtMost old most new = (more : ℕ) × (more ≤ most) × HasWritten old more new

-- exactly so many numbers are such: each of them is one of these, no two of which are the same
pub record AreSoMany (Is : ℕ → Type 0) (count : ℕ) : Type 0 where
  pub nth : ℕ → ℕ
  pub each : (j : ℕ) → j < count → Is (nth j)
  pub apart : (i j : ℕ) → i < j → j < count → nth i ≢ nth j
  pub all : (n : ℕ) → Is n → (j : ℕ) × (j < count) × (nth j ≡ n)

-- what is said to be the number of the pages that marks come into, is it
abbrev pub TouchedAreCounted : Type 0
TouchedAreCounted = (start count pages : ℕ) → 0 < pages → AreSoMany (IsTouched (256 * pages) start count) (touched start count pages)
