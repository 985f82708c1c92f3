-- What an opening keeps, whatever was read: entries that lie in their blocks.
use Rattle.std.specs.Prelude.{◌≡◌, ℕ, ◌+◌, ◌<◌, ◌≤◌, ◌^◌, List, ◌++◌}
use Rattle.foyer_format_layout.specs.Page.{page_up}
use Rattle.foyer_block_scan.specs.BlobEntryIndex.{BlobEntryIndex}
use Rattle.foyer_block_index.specs.declared.indexer.HashedEntryAddress.{HashedEntryAddress}
use Rattle.foyer_format_layout.specs.Each.{Each}
use Rattle.foyer_format_layout.specs.Position.{Sizes}
use Rattle.foyer_block_scan.specs.declared.block.scanner.EntryInfo.{EntryInfo}
use Rattle.foyer_block_recover.specs.BlocksKept.{HoldsKept}
use Rattle.foyer_block_recover.specs.Chained.{hashed_entries}
use Rattle.foyer_block_recover.specs.Opening.{Opened, winner, slot_of, all_stand, all_marked, greatest, clean_from}
use Rattle.foyer_block_recover.specs.declared.block.blocks.BlocksRead.{BlocksRead}

-- hashes have 64 bits
abbrev pub AllHashed : List EntryInfo → Type 0
AllHashed infos = Each (λ (i : EntryInfo). i.hash < 2 ^ 64) infos

-- An entry, by its offset in the block, lies behind the first index and within the block, and its hash has 64 bits.
pub record IsPlaced (s : Sizes) (e : BlobEntryIndex) : Type 0 where
  pub hash : e.hash < 2 ^ 64
  pub behind : s.index ≤ e.offset
  pub within : e.offset + page_up e.len ≤ s.block

-- of a block some such entries were kept, behind what a batch had
pub record IsSomeKept (s : Sizes) (block : ℕ) (old new : List HashedEntryAddress) : Type 0 where
  pub keeps : List BlobEntryIndex
  pub placed : Each (IsPlaced s) keeps
  pub kept : new ≡ old ++ hashed_entries block keeps

-- and of n blocks
pub record AreSomeKept {A : Type 0} (s : Sizes) (n : ℕ) (read : BlocksRead A) : Type 0 where
  pub keeps : ℕ → List BlobEntryIndex
  pub placed : (b : ℕ) → b < n → Each (IsPlaced s) (keeps b)
  pub holds : HoldsKept read n keeps

-- The opening of n blocks that keep some such entries, with these marks.
pub record IsOpening (s : Sizes) (n : ℕ) (marks : List (ℕ × ℕ)) (o : Opened) : Type 0 where
  pub keeps : ℕ → List BlobEntryIndex
  pub placed : (b : ℕ) → b < n → Each (IsPlaced s) (keeps b)
  pub index : (h : ℕ) → o.index h ≡ slot_of (winner h (all_stand 0 n keeps ++ all_marked marks))
  pub next : o.next ≡ greatest (all_stand 0 n keeps ++ all_marked marks) + 1
  pub below : o.next < 2 ^ 64
  pub clean : o.clean ≡ clean_from 0 n keeps
