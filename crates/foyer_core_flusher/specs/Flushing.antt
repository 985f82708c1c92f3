-- A flusher as the model's.
use Rattle.std.specs.Prelude.{◌≡◌, ℕ, ◌+◌, ◌<◌, true, List, [], ◌∷◌, map, length, Option, Some, None}
use Rattle.foyer_block_index.specs.declared.indexer.EntryAddress.{EntryAddress}
use Rattle.foyer_block_index.specs.declared.indexer.HashedEntryAddress.{HashedEntryAddress}
use Rattle.foyer_format_layout.specs.Each.{Each}
use Rattle.foyer_format_buffer.specs.Layout.{parts_of}
use Rattle.foyer_policy_piece.specs.Referred.{Referred}
use Rattle.foyer_core_model.specs.Position.{records_of}
use Rattle.foyer_core_model.specs.Record as model_record
use Rattle.foyer_core_model.specs.State as model_state
use Rattle.foyer_core_layout.specs.Bridge.{position_of, kept_of, AreBlocksAs}
use Rattle.foyer_core_layout.specs.Splits.{MayGoOn, AllEndBy, LiesWithin}
use Rattle.foyer_core_blocks.specs.Content.{Content, Meaning, content_of, contents_of}
use Rattle.foyer_core_blocks.specs.Sizes.{buffer_room, sizes_in}
use Rattle.foyer_core_blocks.specs.Settings.{Settings}
use Rattle.foyer_core_blocks.specs.Addresses.{address_of, mark_of, invalid_of}
use Rattle.foyer_core_blocks.specs.declared.manager.Invalidated.{Invalidated}
use Rattle.foyer_core_flusher.specs.Seen.{Seen}
use Rattle.foyer_core_flusher.specs.declared.batch.Batch.{Batch}
use Rattle.foyer_core_flusher.specs.declared.submission.Submission.{Submission}
use Rattle.foyer_core_flusher.specs.declared.submission.Submission.TheVariants as submission
use Rattle.foyer_core_flusher.specs.declared.batch.Writing.{Writing}

abbrev pub invalid_of_all : Option Invalidated → List model_state.Invalidated
invalid_of_all None = []
invalid_of_all (Some stats) = invalid_of stats ∷ []

abbrev pub submission_of : {K V P A : Type 0} → Meaning K V P → Submission K V P A → model_state.Submission Content
submission_of m (submission.CacheEntry piece size sequence) = model_state.Piece piece.piece.hash sequence size (content_of m piece)
submission_of m (submission.Tombstone tombstone stats) = model_state.Remove tombstone.hash tombstone.sequence (invalid_of_all stats)
submission_of m (submission.Reinsertion r) = model_state.Reinsert r.hash r.slice.items (address_of r.address)
submission_of m (submission.Wait id) = model_state.Await id

-- it isn't empty
abbrev pub IsSomeRecord : model_record.Record Content → Type 0
IsSomeRecord r = 0 < length r.bytes

-- a record of a piece, or one that was read from this address
abbrev pub IsFrom : Option EntryAddress → model_record.Record Content → Type 0
IsFrom None r = (c : Content) × (r.source ≡ model_record.Given c) × IsSomeRecord r
IsFrom (Some over) r = (r.source ≡ model_record.Reread (address_of over)) × IsSomeRecord r

-- records of these sources, in order
abbrev pub AreFrom : List (Option EntryAddress) → List (model_record.Record Content) → Type 0
AreFrom [] [] = Unit {0}
AreFrom (o ∷ os) (r ∷ rs) = IsFrom o r × AreFrom os rs
AreFrom os rs = ⊥

-- records in order, each from its source if it has one, else from the next of these pieces
abbrev pub AreReceived : {K V P : Type 0} → Meaning K V P → List (Option EntryAddress) → List (model_record.Record Content) → List (Referred K V P) → Type 0
AreReceived m [] [] ps = ps ≡ []
AreReceived m (Some over ∷ os) (r ∷ rs) ps = (r.source ≡ model_record.Reread (address_of over)) × AreReceived m os rs ps
AreReceived m (None ∷ os) (r ∷ rs) [] = ⊥
AreReceived m (None ∷ os) (r ∷ rs) (p ∷ ps) = (r.source ≡ model_record.Given (content_of m p)) × AreReceived m os rs ps
AreReceived m os rs ps = ⊥

-- records that stand in a block, as they are to be indexed
abbrev pub AreEntering : List HashedEntryAddress → List (ℕ × model_record.Record Content) → Type 0
AreEntering [] [] = Unit {0}
AreEntering (e ∷ es) (p ∷ ps) =
    (e.hash ≡ (p.1).hash) × (e.address.sequence ≡ (p.1).sequence) × (e.address.offset ≡ p.0) × (e.address.len ≡ length (p.1).bytes)
    × AreEntering es ps
AreEntering es ps = ⊥

-- The block that is being written. The model's writes that aren't reported yet are any of that number.
pub record IsWritingAs {A : Type 0} (s : Settings) (w : Writing A) (v : model_state.Writing Content) : Type 0 where
  pub records : AreEntering w.records.items v.records
  pub given : AreFrom w.sources.items (map (λ p. p.1) v.records)
  pub within : AllEndBy s.block_size v.records
  pub block : v.block ≡ w.block
  pub there : w.block < s.blocks
  pub left : length v.left ≡ w.left
  pub some : 0 < w.left

abbrev pub AreWriting : {A : Type 0} → Settings → Option (Writing A) → Option (model_state.Writing Content) → Type 0
AreWriting s None None = Unit {0}
AreWriting s (Some w) (Some v) = IsWritingAs s w v
AreWriting s w v = ⊥

-- a batch goes on with the flusher's own block only if there is one
abbrev pub HasOwn : Option ℕ → Type 0
HasOwn None = ⊥
HasOwn (Some b) = Unit {0}

pub record IsBatchAs {K V P A : Type 0} (m : Meaning K V P) (s : Settings) (own : Option ℕ) (batch : Batch K V P A) (it : model_state.Batch Content) : Type 0 where
  pub blocks : AreBlocksAs (map parts_of batch.blocks.items) it.blocks
  pub within : Each (LiesWithin s.block_size) it.blocks
  pub given : AreFrom batch.sources.items (records_of it.blocks)
  pub continues_own_block : it.continues_own_block ≡ batch.continues_own_block
  pub owned : batch.continues_own_block ≡ true → HasOwn own
  pub writing : AreWriting s batch.writing it.writing
  pub marks : it.marks ≡ map mark_of batch.marks.items
  pub invalidated : it.invalidated ≡ map invalid_of batch.invalid.items
  pub pieces : contents_of it.pieces ≡ map (content_of m) batch.pieces.items
  pub waits : it.waits ≡ batch.waits.items
  pub logged : it.logged ≡ batch.logged

abbrev pub AreBatched : {K V P A : Type 0} → Meaning K V P → Settings → Option ℕ → Option (Batch K V P A) → Option (model_state.Batch Content) → Type 0
AreBatched m s own None None = Unit {0}
AreBatched m s own (Some batch) (Some it) = IsBatchAs m s own batch it
AreBatched m s own batch it = ⊥

-- a block of so many, if there is one
abbrev pub IsThere : ℕ → Option ℕ → Type 0
IsThere blocks None = Unit {0}
IsThere blocks (Some b) = b < blocks

pub record IsFlusherAs {K V P A : Type 0} (m : Meaning K V P) (s : Settings) (φ : Seen K V P A) (it : model_state.Flusher Content) : Type 0 where
  pub queue : it.queue ≡ map (submission_of m) φ.queue
  pub buffer : map kept_of it.buffer ≡ φ.filled.entries
  pub room : φ.filled.room ≡ buffer_room s
  pub greatest : s.blob_index_size + φ.filled.greatest ≡ s.block_size
  pub given : AreReceived m φ.sources it.buffer φ.pieces
  pub marks : it.marks ≡ map mark_of φ.marks
  pub invalidated : it.invalidated ≡ map invalid_of φ.invalid
  pub waits : it.waits ≡ φ.waits
  pub own : it.own ≡ φ.own
  pub there : IsThere s.blocks φ.own
  pub sizes : φ.context.sizes ≡ sizes_in s
  pub context : it.context ≡ position_of φ.context.filling
  pub goes_on : MayGoOn (sizes_in s) it.context
  pub batch : AreBatched m s φ.own φ.batch it.batch
