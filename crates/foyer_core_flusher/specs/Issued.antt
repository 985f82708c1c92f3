-- The next block of a batch, as it is issued.
use Rattle.std.specs.Prelude.{◌≡◌, ℕ, zero, suc, ◌+◌, ◌*◌, ◌<◌, ◌≤◌, false, List, [], ◌∷◌, drop, length, Option, Some, None, vec_len, vec_capacity}
use Rattle.std.specs.declared.vec.Vec.{Vec}
use Rattle.foyer_block_index.specs.declared.indexer.EntryAddress.{EntryAddress}
use Rattle.foyer_block_index.specs.declared.indexer.HashedEntryAddress.{HashedEntryAddress}
use Rattle.foyer_format_buffer.specs.declared.split.Block.{Block}
use Rattle.foyer_core_flusher.specs.Issuing.{entering_of, writes_of}
use Rattle.foyer_core_flusher.specs.declared.batch.Batch.{Batch}
use Rattle.foyer_core_flusher.specs.declared.batch.Write.{Write}
use Rattle.foyer_core_flusher.specs.declared.batch.Writing.{Writing}

-- the source at a place; none past the end
abbrev pub source_in : List (Option EntryAddress) → ℕ → Option EntryAddress
source_in [] k = None
source_in (o ∷ os) zero = o
source_in (o ∷ os) (suc k) = source_in os k

-- the first n sources; if there are fewer, the rest are None
abbrev pub padded : ℕ → List (Option EntryAddress) → List (Option EntryAddress)
padded zero os = []
padded (suc n) [] = None ∷ padded n []
padded (suc n) (o ∷ os) = o ∷ padded n os

module _ {A : Type 0} where
  -- the block is being written, if it has writes
  abbrev pub WritesAs : ℕ → List (Write A) → Block A → List (Option EntryAddress) → Option (Writing A) → Type 0
  WritesAs block issued first sources None = length issued ≡ 0
  WritesAs block issued first sources (Some w) =
      (w.block ≡ block) × (w.left ≡ length issued) × (0 < w.left) × (w.records.items ≡ entering_of first.blob_parts.items)
      × (w.sources.items ≡ padded (length (entering_of first.blob_parts.items)) sources)

module _ {K V P A : Type 0} where
  -- these are the records of the batch's next block, and there is room for its writes
  pub record IsReady (batch : Batch K V P A) (listed : Vec HashedEntryAddress A) (taken : Vec (Option EntryAddress) A) (writes : Vec (Write A) A) : Type 0 where
    pub first : Block A
    pub rest : List (Block A)
    pub blocks : batch.blocks.items ≡ first ∷ rest
    pub records : listed.items ≡ entering_of first.blob_parts.items
    pub sources : taken.items ≡ padded (length listed.items) batch.sources.items
    pub none : writes.items ≡ []
    pub room : vec_len writes + 3 * vec_len first.blob_parts ≤ vec_capacity writes

  -- the first block left the batch for this one, of n bytes, and is being written if it has writes
  pub record IssuesFirst (block n : ℕ) (old new : Batch K V P A) (issued : List (Write A)) : Type 0 where
    pub first : Block A
    pub rest : List (Block A)
    pub blocks : old.blocks.items ≡ first ∷ rest
    pub left : new.blocks.items ≡ rest
    pub pages : new.pages ≡ old.pages
    pub continues_own_block : new.continues_own_block ≡ false
    pub writes : issued ≡ writes_of n first.blob_parts.items
    pub sources : new.sources.items ≡ drop (length (entering_of first.blob_parts.items)) old.sources.items
    pub writing : WritesAs block issued first old.sources.items new.writing
    pub marks : new.marks ≡ old.marks
    pub invalid : new.invalid ≡ old.invalid
    pub pieces : new.pieces ≡ old.pieces
    pub waits : new.waits ≡ old.waits
    pub logged : new.logged ≡ old.logged
