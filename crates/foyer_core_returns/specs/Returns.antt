-- That nothing of an earlier life of a block comes back.
use Rattle.std.specs.Prelude.{◌≡◌, ◌≢◌, ℕ, ◌<◌, ◌≤◌, ◌^◌, Bool, true, false, List, [], ◌∷◌, Some, ◌⊎◌}
use Rattle.foyer_format_blob.specs.Blob.{IsSealed}
use Rattle.foyer_format_blob.specs.declared.blob.BlobEntryIndex.{BlobEntryIndex}
use Rattle.foyer_format_layout.specs.BlockBytes.{read, Index, Write}
use Rattle.foyer_format_buffer.specs.Holding.{all_read}
use Rattle.foyer_format_buffer.specs.Listing.{IsIndex, placed}
use Rattle.foyer_core_model.specs.Access.{CleanInFlight, is_in}
use Rattle.foyer_core_model.specs.Laws.{Demands}
use Rattle.foyer_core_model.specs.Opened.{IsOpened}
use Rattle.foyer_core_model.specs.Record.{Address, Indexed, Record}
use Rattle.foyer_core_model.specs.Rules.{Rules, Splitting, HasRoundTrip, sizes_of}
use Rattle.foyer_core_model.specs.World.{World, WorldEvent, MayAllHappen, after_all}
use Rattle.foyer_core_layout.specs.Splits.{IsLaidOut}
use Rattle.foyer_core_restart.specs.Entries.{In, entry_of, entry_at}
use Rattle.foyer_core_restart.specs.Real.{IsFormat, IsReal}
use Rattle.foyer_core_restart.specs.Restart.{IsStopped, IsScanned}
use Rattle.foyer_block_recover.specs.Opening.{IsCut, Opened, Opens}
use Rattle.foyer_block_recover.specs.declared.block.recover.RecoverMode.{RecoverMode}
use Rattle.foyer_block_recover.specs.declared.block.recover.RecoverMode.TheVariants as recover_mode
use Rattle.foyer_core_returns.specs.Lives.{Life, life_of}

-- one of these writes covers the byte
abbrev pub IsCovered : List Write → ℕ → Type 0
IsCovered writes o = (v : Write) × In v writes × (is_in v o ≡ true)

-- If the block's present life has written the first byte of a scanned place, bytes there that pass as an index with entries are the whole
-- content of a write of an index that this life made or began there. Nothing is asked of what was there before.
abbrev pub HasNoOwnStrays : {C : Type 0} → Rules C → (ℕ → Life C) → (ℕ → ℕ → ℕ) → Type 0
HasNoOwnStrays rules lives bytes =
    (b p : ℕ) (e : BlobEntryIndex) (es : List BlobEntryIndex)
    → b < rules.blocks → IsScanned (sizes_of rules) (bytes b) 0 p → IsIndex (sizes_of rules) (bytes b) all_read p (e ∷ es) → IsCovered (lives b).writes p
    → (v : Write) × In v (lives b).writes × (v.role ≡ Index) × (v.offset ≡ p) × (v.bytes ≡ read (bytes b) p rules.index_size)

-- If a clean is under way, bytes at the block's start that pass as an index with entries are those that were there.
abbrev pub HasNoTornClean : {C : Type 0} → Rules C → World C → (ℕ → ℕ → ℕ) → Type 0
HasNoTornClean rules w bytes =
    (b : ℕ) (e : BlobEntryIndex) (es : List BlobEntryIndex)
    → b < rules.blocks → w.clean_states b ≡ CleanInFlight → IsIndex (sizes_of rules) (bytes b) all_read 0 (e ∷ es) → read (bytes b) 0 rules.index_size ≡ read (w.bytes b) 0 rules.index_size

-- The address is of a record that was issued into the block in this life. An index lists it whose write this life made or began.
pub record IsOfLife {C : Type 0} (l : Life C) (h : ℕ) (a : Address) : Type 0 where
  pub content : Record C
  pub issued : In (a.offset, content) l.records
  pub entry : entry_of (a.offset, content) ≡ entry_at h a
  pub index : Write
  pub began : In index l.writes
  pub role : index.role ≡ Index
  pub listed : List BlobEntryIndex
  pub sealed : IsSealed index.bytes listed
  pub lists : In (entry_at h a) (placed index.offset listed)

-- The run has neither cleaned the block nor begun to write into it, and its own opening kept the address there.
pub record IsUntouched {C : Type 0} (l : Life C) (keeps : List BlobEntryIndex) (h : ℕ) (a : Address) : Type 0 where
  pub uncleaned : l.is_cleaned ≡ false
  pub unwritten : l.writes ≡ []
  pub kept : In (entry_at h a) keeps

-- A run begins with an opening over any bytes, and is stopped at any moment. What it left is opened in any mode, with any reads that
-- fail and any marks. Then each address that is found was written in the present life of its block, or is untouched: the run's own
-- opening kept it. The law asks that no failed read cut the block's chain short at the run's own opening, and that no clean of the
-- block failed in its present life.
abbrev pub NothingReturns : {C : Type 0} → Rules C → Splitting C → (C → Type 0) → Type 0
NothingReturns {C} rules Splits is_value =
    (first : World C) (events : List (WorldEvent C)) (mode again : RecoverMode) (marks later : List (ℕ × ℕ)) (own o : Opened)
    (missed failed : ℕ → ℕ → Bool) (opening : Opens (sizes_of rules) rules.blocks first.bytes mode missed marks own)
    (bytes : ℕ → ℕ → ℕ) (h : ℕ) (a : Address)
    → mode ≢ recover_mode.None → (IsCut (sizes_of rules) (first.bytes a.block) (missed a.block) → ⊥)
    → IsOpened rules first → first.core.clean ≡ own.clean
    → MayAllHappen rules Splits is_value first events → (life_of rules first events a.block).has_failed ≡ false
    → IsStopped rules (after_all rules first events) bytes
    → HasNoOwnStrays rules (life_of rules first events) bytes → HasNoTornClean rules (after_all rules first events) bytes
    → Opens (sizes_of rules) rules.blocks bytes again failed later o → o.index h ≡ Some (Indexed a)
    → IsOfLife (life_of rules first events a.block) h a ⊎ IsUntouched (life_of rules first events a.block) (opening.keeps a.block) h a

-- It holds of every layout that keeps its records and is the splitter's, over the real format.
abbrev pub ReturnsLaw : Type 0 → {C : Type 0} → Rules C → Splitting C → (C → Type 0) → Type 0
ReturnsLaw A rules Splits is_value = Demands rules Splits is_value → IsReal A rules Splits → NothingReturns rules Splits is_value

-- So it does of cores whose format is the real one, whose offsets have 32 bits, and whose batches are so laid out.
abbrev pub LaidReturnsLaw : {C : Type 0} → Rules C → (C → Type 0) → Type 0
LaidReturnsLaw rules is_value = IsFormat rules → rules.block_size ≤ 2 ^ 32 → HasRoundTrip rules is_value
    → NothingReturns rules (IsLaidOut (sizes_of rules)) is_value
