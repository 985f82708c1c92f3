-- Where a block's chain ends.
use Rattle.std.specs.Prelude.{◌≡◌, ℕ, ◌+◌, ◌<◌, ◌≤◌, List, [], ◌∷◌, ◌⊎◌}
use Rattle.foyer_format_layout.specs.Position.{Sizes, tail_of}
use Rattle.foyer_format_buffer.specs.Position.{Position}
use Rattle.foyer_format_blob.specs.declared.blob.BlobEntryIndex.{BlobEntryIndex}

-- where the chain continues after what a filling has put: at its present blob, or after that blob's data if the blob has an index
abbrev pub next_of : List BlobEntryIndex → Position → ℕ
next_of [] f = f.blob
next_of (e ∷ es) f = tail_of f

-- a page of zeros stands there, or the block has no room for one
abbrev pub IsEnded : Sizes → (ℕ → ℕ) → ℕ → Type 0
IsEnded s B p = ((i : ℕ) → p ≤ i → i < p + 4096 → B i ≡ 0) ⊎ (s.block < p + 4096)
