-- Where partitions lie in the files of a device.
use Rattle.std.specs.Prelude.{◌≡◌, ◌≢◌, ℕ, ◌+◌, ◌-◌, ◌*◌, ◌^◌, ◌<◌, ◌≤◌, ◌⊎◌, ◌%◌, List, [], ◌∷◌, min, sum}

-- a range of bytes of a file
pub record Extent : Type 0 where
  pub file : ℕ
  pub start : ℕ
  pub len : ℕ

-- where an offset of the extent lies in its file; one past its end counts as its end
abbrev pub place : Extent → ℕ → ℕ
place e offset = e.start + min offset e.len

-- no byte of the one is a byte of the other
abbrev pub AreApart : Extent → Extent → Type 0
AreApart a b = (a.file ≢ b.file) ⊎ (a.start + a.len ≤ b.start) ⊎ (b.start + b.len ≤ a.start)

abbrev pub IsApartFromAll : Extent → List Extent → Type 0
IsApartFromAll a [] = Unit {0}
IsApartFromAll a (b ∷ bs) = AreApart a b × IsApartFromAll a bs

-- no two of them share a byte
abbrev pub AreDisjoint : List Extent → Type 0
AreDisjoint [] = Unit {0}
AreDisjoint (a ∷ rest) = IsApartFromAll a rest × AreDisjoint rest

-- each lies in a file of a number below n
abbrev pub LieInFiles : ℕ → List Extent → Type 0
LieInFiles n [] = Unit {0}
LieInFiles n (a ∷ rest) = (a.file < n) × LieInFiles n rest

-- each ends at or before this byte of its file
abbrev pub EndBy : ℕ → List Extent → Type 0
EndBy end [] = Unit {0}
EndBy end (a ∷ rest) = (a.start + a.len ≤ end) × EndBy end rest

-- one behind another in file 0, from this byte on
abbrev pub laid_from : ℕ → List ℕ → List Extent
laid_from start [] = []
laid_from start (n ∷ ns) = record { file = 0; start = start; len = n } ∷ laid_from (start + n) ns

-- each in a file of its own, from this number on
abbrev pub files_from : ℕ → List ℕ → List Extent
files_from file [] = []
files_from file (n ∷ ns) = record { file = file; start = 0; len = n } ∷ files_from (file + 1) ns

-- none has a byte
abbrev pub empty_extents : List ℕ → List Extent
empty_extents [] = []
empty_extents (n ∷ ns) = record { file = 0; start = 0; len = 0 } ∷ empty_extents ns

-- whole pages, and not none
abbrev pub IsPartitionSize : ℕ → Type 0
IsPartitionSize size = (0 < size) × (size % 4096 ≡ 0)

-- the sum of these sizes, saturating
abbrev pub total_size : List ℕ → ℕ
total_size sizes = min (sum sizes) (2 ^ 64 - 1)
