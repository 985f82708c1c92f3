-- What is kept of what a scan gives, one index after the other.
use Rattle.std.specs.Prelude.{ℕ, nat_le, max, if◌then◌else◌, List, [], ◌∷◌, Option, Some, None}
use Rattle.foyer_block_index.specs.declared.indexer.HashedEntryAddress.{HashedEntryAddress}
use Rattle.foyer_block_scan.specs.declared.block.scanner.EntryInfo.{EntryInfo}

-- the first infos in which no sequence is below the one before it, the first not below n; none behind a fall
abbrev pub rising_infos : Option ℕ → List EntryInfo → List EntryInfo
rising_infos None is = []
rising_infos (Some n) [] = []
rising_infos (Some n) (i ∷ is) = if nat_le n (i.addr).sequence then i ∷ rising_infos (Some (i.addr).sequence) is else []

-- the sequence that the next one may not be below; none behind a fall
abbrev pub last_kept : Option ℕ → List EntryInfo → Option ℕ
last_kept None is = None
last_kept (Some n) [] = Some n
last_kept (Some n) (i ∷ is) = if nat_le n (i.addr).sequence then last_kept (Some (i.addr).sequence) is else None

-- infos as they go into an index
abbrev pub hashed_infos : List EntryInfo → List HashedEntryAddress
hashed_infos [] = []
hashed_infos (i ∷ is) = record { hash = i.hash; address = i.addr } ∷ hashed_infos is

-- the greatest of n and the sequences of a batch
abbrev pub greatest_in : ℕ → List HashedEntryAddress → ℕ
greatest_in n [] = n
greatest_in n (e ∷ es) = greatest_in (max n (e.address).sequence) es
