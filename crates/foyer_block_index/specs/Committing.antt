-- The records of a block enter the index, one after the other: one of a piece is inserted; one that was read back replaces the
-- very address that it was read from, and else leaves the index alone.
use Rattle.std.specs.Prelude.{ℕ, ◌+◌, Bool, true, if◌then◌else◌, Option, Some, None, List, [], ◌∷◌, IsSome}
use Rattle.std.specs.FinMap as map
use Rattle.foyer_block_index.specs.declared.indexer.EntryAddress.{EntryAddress}
use Rattle.foyer_block_index.specs.declared.indexer.HashedEntryAddress.{HashedEntryAddress}
use Rattle.foyer_block_index.specs.declared.indexer.Index.{Index}
use Rattle.foyer_block_index.specs.declared.indexer.Index.TheVariants.{Address}
use Rattle.foyer_block_index.specs.Index.{IndexMap}
use Rattle.foyer_block_index.specs.Insertion.{inserted}
use Rattle.foyer_block_index.specs.Removal.{has_address}

-- whether a record is a put, by the address that it was read from, if it was, and what its hash has
abbrev pub is_put : Option Index → Option EntryAddress → Bool
is_put held None = true
is_put held (Some over) = has_address held over

-- the index after one record
abbrev pub committed_one : IndexMap → HashedEntryAddress → Option EntryAddress → IndexMap
committed_one m e None = inserted m e.hash (Address e.address)
committed_one m e (Some over) = if has_address (map.get m e.hash) over then map.insert m e.hash (Address e.address) else m

-- the index after all of them
abbrev pub committed_all : IndexMap → List HashedEntryAddress → List (Option EntryAddress) → IndexMap
committed_all m [] sources = m
committed_all m (e ∷ es) [] = committed_all (committed_one m e None) es []
committed_all m (e ∷ es) (o ∷ os) = committed_all (committed_one m e o) es os

-- how many of them are puts
abbrev pub put_count : IndexMap → List HashedEntryAddress → List (Option EntryAddress) → ℕ
put_count m [] sources = 0
put_count m (e ∷ es) [] = 1 + put_count (committed_one m e None) es []
put_count m (e ∷ es) (o ∷ os) = (if is_put (map.get m e.hash) o then 1 else 0) + put_count (committed_one m e o) es os

-- each hash of a piece's record has something in the index, so that its insertion overwrites
abbrev pub PiecesHeld : IndexMap → List HashedEntryAddress → List (Option EntryAddress) → Type 0
PiecesHeld m [] sources = Unit {0}
PiecesHeld m (e ∷ es) [] = IsSome (map.get m e.hash) × PiecesHeld m es []
PiecesHeld m (e ∷ es) (None ∷ os) = IsSome (map.get m e.hash) × PiecesHeld m es os
PiecesHeld m (e ∷ es) (Some over ∷ os) = PiecesHeld m es os
