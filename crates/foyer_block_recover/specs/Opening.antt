-- What an opening makes of the bytes of all blocks.
use Rattle.std.specs.Prelude.{◌≡◌, ℕ, zero, suc, ◌+◌, ◌<◌, ◌≤◌, ◌==◌, ◌^◌, nat_lt, nat_le, if◌then◌else◌, Bool, true, false, List, [], ◌∷◌, ◌++◌, Option, Some, None}
use Rattle.foyer_block_scan.specs.BlobEntryIndex.{BlobEntryIndex}
use Rattle.foyer_format_layout.specs.Position.{Sizes}
use Rattle.foyer_block_scan.specs.Listing.{Chain, Lists, kept}
use Rattle.foyer_core_model.specs.Record.{Address, Slot, Indexed}
use Rattle.foyer_block_recover.specs.declared.block.recover.RecoverMode.{RecoverMode}
use Rattle.foyer_block_recover.specs.declared.block.recover.RecoverMode.TheVariants as recover_mode

-- what an opening finds of a hash: an entry in a block, or a mark of the log
pub data Found : Type 0 where
  Stands : (block : ℕ) → BlobEntryIndex → Found
  Marked : (hash sequence : ℕ) → Found

abbrev pub hash_of : Found → ℕ
hash_of (Stands b e) = e.hash
hash_of (Marked h s) = h

abbrev pub sequence_of : Found → ℕ
sequence_of (Stands b e) = e.sequence
sequence_of (Marked h s) = s

-- the first of the two, if its sequence is greater; else the other, which comes behind it
abbrev pub first_or : Found → Option Found → Option Found
first_or x None = Some x
first_or x (Some y) = if nat_lt (sequence_of y) (sequence_of x) then Some x else Some y

-- among all of the hash the last one of the greatest sequence
abbrev pub winner : ℕ → List Found → Option Found
winner h [] = None
winner h (x ∷ xs) = if hash_of x == h then first_or x (winner h xs) else winner h xs

-- the address of an entry of a block, in the filling with which a core begins
abbrev pub opened_at : ℕ → BlobEntryIndex → Address
opened_at b e = record { block = b; offset = e.offset; len = e.len; sequence = e.sequence; filling = 0 }

-- a hash that a mark wins is left out
abbrev pub slot_of : Option Found → Option Slot
slot_of None = None
slot_of (Some (Marked h s)) = None
slot_of (Some (Stands b e)) = Some (Indexed (opened_at b e))

-- the entries of a block
abbrev pub stand_in : ℕ → List BlobEntryIndex → List Found
stand_in b [] = []
stand_in b (e ∷ es) = Stands b e ∷ stand_in b es

-- those of n blocks, one after the other
abbrev pub all_stand : (from n : ℕ) → (ℕ → List BlobEntryIndex) → List Found
all_stand b zero keeps = []
all_stand b (suc n) keeps = stand_in b (keeps b) ++ all_stand (b + 1) n keeps

-- marks, each a hash with its sequence
abbrev pub all_marked : List (ℕ × ℕ) → List Found
all_marked [] = []
all_marked (m ∷ ms) = Marked m.0 m.1 ∷ all_marked ms

-- the greatest sequence, or 0
abbrev pub greatest : List Found → ℕ
greatest [] = 0
greatest (x ∷ xs) = if nat_le (greatest xs) (sequence_of x) then sequence_of x else greatest xs

abbrev pub is_empty : List BlobEntryIndex → Bool
is_empty [] = true
is_empty (e ∷ es) = false

-- which of n blocks keep nothing
abbrev pub clean_from : (from n : ℕ) → (ℕ → List BlobEntryIndex) → List ℕ
clean_from b zero keeps = []
clean_from b (suc n) keeps = if is_empty (keeps b) then b ∷ clean_from (b + 1) n keeps else clean_from (b + 1) n keeps

-- what a mode keeps of a block of these bytes, if the reads of these places failed
abbrev pub Keeps : Sizes → RecoverMode → (ℕ → ℕ) → (ℕ → Bool) → List BlobEntryIndex → Type 0
Keeps s recover_mode.None B failed es = es ≡ []
Keeps s recover_mode.Quiet B failed es = (ls : List BlobEntryIndex) × Lists s B failed ls × (es ≡ kept ls)
Keeps s recover_mode.Strict B failed es = (ls : List BlobEntryIndex) × Lists s B failed ls × (es ≡ kept ls)

-- the chain of a block ends at a place whose read failed
abbrev pub IsCut : Sizes → (ℕ → ℕ) → (ℕ → Bool) → Type 0
IsCut s B failed = (ls : List BlobEntryIndex) × (q : ℕ) × Chain s B failed 0 ls q × (q + s.index ≤ s.block) × (failed q ≡ true)

-- what an opening gives
pub record Opened : Type 0 where
  pub index : ℕ → Option Slot
  pub next : ℕ
  pub clean : List ℕ

-- The opening of n blocks of these bytes, with these failed places and marks, succeeds and gives this.
pub record Opens (s : Sizes) (n : ℕ) (bytes : ℕ → ℕ → ℕ) (mode : RecoverMode) (failed : ℕ → ℕ → Bool) (marks : List (ℕ × ℕ)) (o : Opened) : Type 0 where
  pub keeps : ℕ → List BlobEntryIndex
  pub kept : (b : ℕ) → b < n → Keeps s mode (bytes b) (failed b) (keeps b)
  pub read : mode ≡ recover_mode.Strict → (b : ℕ) → b < n → IsCut s (bytes b) (failed b) → ⊥
  pub index : (h : ℕ) → o.index h ≡ slot_of (winner h (all_stand 0 n keeps ++ all_marked marks))
  pub next : o.next ≡ greatest (all_stand 0 n keeps ++ all_marked marks) + 1
  pub below : o.next < 2 ^ 64
  pub clean : o.clean ≡ clean_from 0 n keeps

-- The opening of these bytes is refused as Recover: it is strict, and a read failed at which the chain of a block ends.
pub record IsCutShort (s : Sizes) (n : ℕ) (bytes : ℕ → ℕ → ℕ) (mode : RecoverMode) (failed : ℕ → ℕ → Bool) : Type 0 where
  pub strict : mode ≡ recover_mode.Strict
  pub block : ℕ
  pub there : block < n
  pub cut : IsCut s (bytes block) (failed block)

-- It is refused as SequenceEnd: it isn't refused as Recover, and what is kept, or a mark, has the last sequence.
pub record IsAtEnd (s : Sizes) (n : ℕ) (bytes : ℕ → ℕ → ℕ) (mode : RecoverMode) (failed : ℕ → ℕ → Bool) (marks : List (ℕ × ℕ)) : Type 0 where
  pub keeps : ℕ → List BlobEntryIndex
  pub kept : (b : ℕ) → b < n → Keeps s mode (bytes b) (failed b) (keeps b)
  pub read : mode ≡ recover_mode.Strict → (b : ℕ) → b < n → IsCut s (bytes b) (failed b) → ⊥
  pub last : 2 ^ 64 ≤ greatest (all_stand 0 n keeps ++ all_marked marks) + 1
