-- What a core is made with: its sizes, and what its bytes mean.
use Rattle.std.specs.Prelude.{◌≡◌, ℕ, ◌<◌, ◌≤◌, ◌%◌, Bool, List, [], Option, Some}
use Rattle.foyer_format_layout.specs.Position.{Sizes}
use Rattle.foyer_core_model.specs.Numbers.{last_number, page}
use Rattle.foyer_core_model.specs.Record.{Outcome, Holds, IndexEntry, Record}
use Rattle.foyer_format_layout.specs.BlockBytes.{Write}
use Rattle.foyer_core_model.specs.Position.{Position, Part, BlockLayout}

-- the sizes, and the judgements on bytes
pub record Rules (C : Type 0) : Type 0 where
  pub flushers : ℕ  -- how many there are
  pub blocks : ℕ
  pub reclaimers : ℕ
  pub index_size : ℕ
  pub block_size : ℕ
  pub room : Position → ℕ  -- of a flusher's buffer, in bytes, from where its splitter goes on
  pub threshold : ℕ  -- of the sizes of all queued pieces
  pub clean_threshold : ℕ  -- of clean blocks
  pub has_log : Bool
  pub page_up : ℕ → ℕ  -- to whole pages
  pub encode : (hash sequence : ℕ) → C → Option (List ℕ)  -- a record's bytes; None where a code fails
  pub pair_of : List ℕ → (hash sequence : ℕ) → Outcome C  -- what bytes are as this record
  pub entries_of : (place : ℕ) → List ℕ → Option (List IndexEntry)  -- of an index; None where it isn't sealed or doesn't fit
  pub writes_of : Part C → List Write  -- the writes of a part, in their order
  pub some_flusher : 0 < flushers
  pub page_up_above : (n : ℕ) → n ≤ page_up n
  pub index_holds_page : page ≤ index_size

-- of a block and of an index
abbrev pub sizes_of : {C : Type 0} → Rules C → Sizes
sizes_of rules = record { block = rules.block_size; index = rules.index_size }

-- the flusher of a hash, through which all its submissions pass
abbrev pub flusher_of : {C : Type 0} → Rules C → ℕ → ℕ
flusher_of rules h = h % rules.flushers

-- a block into which nothing was written
abbrev pub first_position : {C : Type 0} → Rules C → Position
first_position rules = record { blob = 0; at = rules.index_size; listed = [] }

-- How records may be placed from a filling on: these blocks, one after the other.
abbrev pub Splitting : Type 0 → Type 1
Splitting C = Position → List (Record C) → List (BlockLayout C) → Type 0

-- the bytes of a content that a caller may hand in are a record that holds it
abbrev pub HasRoundTrip : {C : Type 0} → Rules C → (C → Type 0) → Type 0
HasRoundTrip {C} rules is_value =
    (h s : ℕ) (c : C) (bytes : List ℕ) → h ≤ last_number → s ≤ last_number → is_value c
    → rules.encode h s c ≡ Some bytes → rules.pair_of bytes h s ≡ Holds c
