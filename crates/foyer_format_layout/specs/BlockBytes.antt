-- A block's bytes by their offsets, and what writes make of them.
use Rattle.std.specs.Prelude.{ℕ, zero, suc, ◌+◌, ◌-◌, ◌<◌, ◌≤◌, nat_le, nat_lt, ◌&&◌, if◌then◌else◌, List, [], ◌∷◌, length, replicate, slice_index, ◌⊎◌}

-- what a write puts into a block
pub data Role : Type 0 where
  Data : Role
  Index : Role

-- bytes to be written at an offset of a block
pub record Write : Type 0 where
  pub role : Role
  pub offset : ℕ
  pub bytes : List ℕ

-- a block's bytes after a write
abbrev pub laid : Write → (ℕ → ℕ) → ℕ → ℕ
laid w g o = if nat_le w.offset o && nat_lt o (w.offset + length w.bytes) then slice_index w.bytes (o - w.offset) else g o

-- a block's bytes after these writes, the first of them first
abbrev pub all_laid : List Write → (ℕ → ℕ) → ℕ → ℕ
all_laid [] g = g
all_laid (w ∷ ws) g = all_laid ws (laid w g)

-- the n bytes from o on
abbrev pub read : (ℕ → ℕ) → ℕ → ℕ → List ℕ
read g o zero = []
read g o (suc n) = g o ∷ read g (o + 1) n

-- an offset is outside of the bytes of a write
abbrev pub IsBeside : Write → ℕ → Type 0
IsBeside w o = (o < w.offset) ⊎ (w.offset + length w.bytes ≤ o)

-- each byte that these writes touch has the property
abbrev pub AllWithin : (ℕ → Type 0) → List Write → Type 0
AllWithin P [] = Unit {0}
AllWithin P (w ∷ ws) = ((o : ℕ) → (IsBeside w o → ⊥) → P o) × AllWithin P ws

-- a page of zeros at an offset
abbrev pub zeros_write : ℕ → Write
zeros_write o = record { role = Data; offset = o; bytes = replicate 4096 0 }

-- if a block of n bytes has room for a page at an offset, zeros are written there before these
abbrev pub with_zeros : (n o : ℕ) → List Write → List Write
with_zeros n o ws = if nat_le (o + 4096) n then zeros_write o ∷ ws else ws

-- and a block's bytes after them
abbrev pub zeroed : (n o : ℕ) → (ℕ → ℕ) → ℕ → ℕ
zeroed n o g = if nat_le (o + 4096) n then laid (zeros_write o) g else g
