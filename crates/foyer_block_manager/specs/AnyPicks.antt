-- What becomes of a picker of any kind; nothing is said of one that the caller has boxed.
use Rattle.std.specs.Prelude.{◌≡◌, ℕ, []}
use Rattle.foyer_block_manager.specs.Pickers.{fifo_with, fifo_without, probations_of}
use Rattle.foyer_block_manager.specs.declared.block.picker.AnyPicker.{AnyPicker}
use Rattle.foyer_block_manager.specs.declared.block.picker.AnyPicker.TheVariants.{InvalidRatio, Fifo, Boxed}

-- given so many blocks of that size, none of which is evictable yet
abbrev pub BeginsAs : {X : Type 0} {D : X → Type 0} → AnyPicker X D → ℕ → ℕ → AnyPicker X D → Type 0
BeginsAs (InvalidRatio q) blocks size after = after ≡ InvalidRatio (record q { block_size = size })
BeginsAs (Fifo q) blocks size after = after ≡ Fifo (record q { queue = []; room = blocks; probations = probations_of q.num q.den blocks })
BeginsAs (Boxed q) blocks size after = Unit {0}

-- a block more is evictable
abbrev pub IsWith : {X : Type 0} {D : X → Type 0} → AnyPicker X D → ℕ → AnyPicker X D → Type 0
IsWith (InvalidRatio q) block after = after ≡ InvalidRatio q
IsWith (Fifo q) block after = after ≡ Fifo (fifo_with q block)
IsWith (Boxed q) block after = Unit {0}

-- and one is reclaimed
abbrev pub IsWithout : {X : Type 0} {D : X → Type 0} → AnyPicker X D → ℕ → AnyPicker X D → Type 0
IsWithout (InvalidRatio q) block after = after ≡ InvalidRatio q
IsWithout (Fifo q) block after = after ≡ Fifo (fifo_without q block)
IsWithout (Boxed q) block after = Unit {0}
