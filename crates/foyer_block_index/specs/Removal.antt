-- Removal: a hash is removed only if it has that very address, or that very mark.
use Rattle.std.specs.Prelude.{ℕ, Bool, false, not, ◌&&◌, ◌==◌, Option, Some, None, List}
use Rattle.std.specs.List.{list_any}
use Rattle.std.specs.FinMap as map
use Rattle.foyer_block_index.specs.declared.indexer.EntryAddress.{EntryAddress}
use Rattle.foyer_block_index.specs.declared.indexer.HashedEntryAddress.{HashedEntryAddress}
use Rattle.foyer_block_index.specs.declared.indexer.Index.{Index}
use Rattle.foyer_block_index.specs.declared.indexer.Index.TheVariants.{Address, Tombstone}
use Rattle.foyer_block_index.specs.declared.tombstone.Tombstone.{Tombstone as Mark}
use Rattle.foyer_block_index.specs.Index.{IndexMap}

abbrev pub same_address : EntryAddress → EntryAddress → Bool
same_address a b =
    a.block == b.block && a.offset == b.offset && a.len == b.len
    && a.sequence == b.sequence && a.filling == b.filling

-- a hash has that very address
abbrev pub has_address : Option Index → EntryAddress → Bool
has_address None address = false
has_address (Some (Address held)) address = same_address held address
has_address (Some (Tombstone sequence)) address = false

-- a hash has a mark of that very sequence
abbrev pub has_mark : Option Index → ℕ → Bool
has_mark None sequence = false
has_mark (Some (Address held)) sequence = false
has_mark (Some (Tombstone held)) sequence = held == sequence

-- the list has the address that the hash has, under that hash
abbrev pub lists_address : List HashedEntryAddress → ℕ → Option Index → Bool
lists_address es hash held =
    list_any (λ e. e.hash == hash && has_address held e.address) es

-- the list has the mark that the hash has, under that hash
abbrev pub lists_mark : List Mark → ℕ → Option Index → Bool
lists_mark marks hash held =
    list_any (λ mark. mark.hash == hash && has_mark held mark.sequence) marks

-- the index without the listed addresses
abbrev pub without_addresses : IndexMap → List HashedEntryAddress → IndexMap
without_addresses m es = map.retain_keys m (λ hash. not (lists_address es hash (map.get m hash)))

-- the index without the listed marks
abbrev pub without_marks : IndexMap → List Mark → IndexMap
without_marks m marks = map.retain_keys m (λ hash. not (lists_mark marks hash (map.get m hash)))
