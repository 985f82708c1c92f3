-- What a read or a write of a disk does to its bytes, said by the byte at each offset of each block.
use Rattle.std.specs.Prelude.{◌≡◌, ℕ, ◌+◌, ◌-◌, ◌^◌, ◌<◌, ◌≤◌, ◌⊎◌, ◌≢◌, List, length, slice_index}

-- these bytes stand at the offset of the block
abbrev pub IsRead : (ℕ → ℕ → ℕ) → ℕ → ℕ → List ℕ → Type 0
IsRead byte_at block offset bytes =
    (i : ℕ) → i < length bytes → slice_index bytes i ≡ byte_at block (offset + i)

-- a place outside of n bytes from the offset of the block on
abbrev pub IsOutside : ℕ → ℕ → ℕ → ℕ → ℕ → Type 0
IsOutside block offset n b o = (b ≢ block) ⊎ (o < offset) ⊎ (offset + n ≤ o)

-- whatever stands in the range, all else is as before
abbrev pub IsTorn : (ℕ → ℕ → ℕ) → ℕ → ℕ → ℕ → (ℕ → ℕ → ℕ) → Type 0
IsTorn old block offset n new =
    (b o : ℕ) → IsOutside block offset n b o → new b o ≡ old b o

-- the bytes stand in their range, and all else is as before
abbrev pub IsWritten : (ℕ → ℕ → ℕ) → ℕ → ℕ → List ℕ → (ℕ → ℕ → ℕ) → Type 0
IsWritten old block offset bytes new =
    IsRead new block offset bytes × IsTorn old block offset (length bytes) new

-- n bytes from the offset on lie in one of so many blocks of this size
abbrev pub IsWithin : ℕ → ℕ → ℕ → ℕ → ℕ → Type 0
IsWithin blocks block_size block offset n = (block < blocks) × (offset + n ≤ block_size)

-- between these two counts of faults the device failed an access, or the count stood at its end
abbrev pub HasFailed : ℕ → ℕ → Type 0
HasFailed old new = (old < new) ⊎ (old ≡ 2 ^ 64 - 1)

-- between these two it failed none
abbrev pub HasFailedNone : ℕ → ℕ → Type 0
HasFailedNone old new = (new ≡ old) × (old ≢ 2 ^ 64 - 1)

-- Ranges no access of which failed between these two counts: of those that the disk surely has none ever does; of those
-- that surely lie in it none does unless the device failed.
abbrev pub SurelyCame : (has lies : ℕ → ℕ → ℕ → Type 0) → (old new : ℕ) → ℕ → ℕ → ℕ → Type 0
SurelyCame has lies old new block offset n = has block offset n ⊎ (HasFailedNone old new × lies block offset n)
