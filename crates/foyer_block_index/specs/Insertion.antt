-- Insertion: of what is inserted for a hash the greatest sequence stays, the later among equals.
use Rattle.std.specs.Prelude.{ℕ, nat_le, ◌==◌, if◌then◌else◌, Option, Some, None, List, [], ◌∷◌, ◌++◌, filter, IsSome}
use Rattle.std.specs.List.{All}
use Rattle.std.specs.FinMap as map
use Rattle.foyer_block_index.specs.declared.indexer.EntryAddress.{EntryAddress}
use Rattle.foyer_block_index.specs.declared.indexer.HashedEntryAddress.{HashedEntryAddress}
use Rattle.foyer_block_index.specs.declared.indexer.Index.{Index}
use Rattle.foyer_block_index.specs.declared.indexer.Index.TheVariants.{Address}
use Rattle.foyer_block_index.specs.Index.{sequence_of, address_of, IndexMap}

-- what a hash has after an insertion
abbrev pub entered : Option Index → Index → Index
entered None next = next
entered (Some held) next = if nat_le (sequence_of held) (sequence_of next) then next else held

-- the address that doesn't stay, be it the one that the hash had or the one that came
abbrev pub displaced : Option Index → Index → Option EntryAddress
displaced None next = None
displaced (Some held) next =
    address_of (if nat_le (sequence_of held) (sequence_of next) then held else next)

-- the index after an insertion
abbrev pub inserted : IndexMap → ℕ → Index → IndexMap
inserted m hash next = map.insert m hash (entered (map.get m hash) next)

-- the index after the insertion of addresses in order
abbrev pub inserted_all : IndexMap → List HashedEntryAddress → IndexMap
inserted_all m [] = m
inserted_all m (e ∷ es) = inserted_all (inserted m e.hash (Address e.address)) es

-- the entries of a hash, in their order
abbrev pub of_hash : ℕ → List HashedEntryAddress → List HashedEntryAddress
of_hash hash es = filter (λ e. e.hash == hash) es

-- an answer with its hash, if there is one
abbrev pub hashed : ℕ → Option EntryAddress → List HashedEntryAddress
hashed hash None = []
hashed hash (Some address) = record { hash = hash; address = address } ∷ []

-- the addresses that didn't stay, in the order of the insertions
abbrev pub all_left_out : IndexMap → List HashedEntryAddress → List HashedEntryAddress
all_left_out m [] = []
all_left_out m (e ∷ es) =
    hashed e.hash (displaced (map.get m e.hash) (Address e.address))
    ++ all_left_out (inserted m e.hash (Address e.address)) es

-- each hash of a batch has something in the index, so that its insertion overwrites
abbrev pub AllHeld : IndexMap → List HashedEntryAddress → Type 0
AllHeld m es = All (λ e. IsSome (map.get m e.hash)) es
