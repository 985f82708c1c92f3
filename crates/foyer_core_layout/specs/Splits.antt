-- How the plain machine's records are placed into blocks, blobs and parts.
use Rattle.std.specs.Prelude.{◌≡◌, ℕ, ◌+◌, ◌<◌, ◌≤◌, List, [], ◌∷◌, ◌++◌, map, length, take, drop}
use Rattle.foyer_format_buffer.specs.Blob.{IsSealed, capacity_of}
use Rattle.foyer_format_buffer.specs.BlobEntryIndex.{BlobEntryIndex}
use Rattle.foyer_format_layout.specs.Each.{Each}
use Rattle.foyer_format_layout.specs.Position.{Sizes, tail_of, next_blob, fresh}
use Rattle.foyer_format_layout.specs.Page.{page_up}
use Rattle.foyer_format_layout.specs.BlockBytes.{Data, Index, Write, with_zeros}
use Rattle.foyer_core_model.specs.Position.{Position, Part, BlockLayout, records_in}
use Rattle.foyer_core_model.specs.Receive.{bytes_taken}
use Rattle.foyer_core_model.specs.Record.{IndexEntry, Record}
use Rattle.foyer_core_model.specs.Rules.{Rules, Splitting}

-- an entry of an index, as its bytes spell it
abbrev pub is_encoded : IndexEntry → BlobEntryIndex
is_encoded e = record { hash = e.hash; sequence = e.sequence; offset = e.offset; len = e.len }

-- the bytes of an index that lists these
abbrev pub IsIndexOf : List ℕ → List IndexEntry → Type 0
IsIndexOf index listed = IsSealed index (map is_encoded listed)

module _ {C : Type 0} where
  -- the entries of records one behind another, the first at this offset of its blob
  abbrev pub entries_from : ℕ → List (Record C) → List IndexEntry
  entries_from at [] = []
  entries_from at (r ∷ rs) =
      record { hash = r.hash; sequence = r.sequence; offset = at; len = length r.bytes } ∷ entries_from (at + page_up (length r.bytes)) rs

  -- each record with its offset in the block; the first record stands at n
  abbrev pub laid_from : ℕ → List (Record C) → List (ℕ × Record C)
  laid_from n [] = []
  laid_from n (r ∷ rs) = (n, r) ∷ laid_from (n + page_up (length r.bytes)) rs

  -- the filling with these records behind it
  abbrev pub with_records : Position → List (Record C) → Position
  with_records f now =
      record { blob = f.blob; at = f.at + bytes_taken page_up now; listed = f.listed ++ entries_from f.at now }

  -- these bytes are those of records one behind another, each padded to whole pages
  abbrev pub AreBytesOf : List ℕ → List (Record C) → Type 0
  AreBytesOf bytes [] = bytes ≡ []
  AreBytesOf bytes (r ∷ rs) =
      (take (length r.bytes) bytes ≡ r.bytes) × (page_up (length r.bytes) ≤ length bytes)
      × AreBytesOf (drop (page_up (length r.bytes)) bytes) rs

  -- The part holds these records: their bytes stand behind all that the filling has, within the block, and its index,
  -- which has exactly the size of one, lists all that its blob has then.
  pub record IsPart (s : Sizes) (f : Position) (now : List (Record C)) (p : Part C) : Type 0 where
    pub some : 0 < length now
    pub blob : p.blob ≡ f.blob
    pub at : p.at ≡ f.at
    pub content : AreBytesOf p.content now
    pub index : IsIndexOf p.index (with_records f now).listed
    pub size : length p.index ≡ s.index
    pub within : tail_of f + bytes_taken page_up now ≤ s.block
    pub records : p.records ≡ laid_from (tail_of f) now

  -- LaidOut: the records are placed from a filling of a block on. They go into these parts of the block, which leave it filled so far, and
  -- into these further blocks. Left says the same for a present part that takes no more of the batch.
  mutual
    pub data LaidOut (s : Sizes) : Position → List (Record C) → List (Part C) → Position → List (BlockLayout C) → Type 0 where
      -- the next records make a part
      part : {f e : Position} {now rest : List (Record C)} {p : Part C} {parts : List (Part C)} {blocks : List (BlockLayout C)}
          → IsPart s f now p → Left s (with_records f now) rest parts e blocks
          → LaidOut s f (now ++ rest) (p ∷ parts) e blocks
      -- no record goes there
      none : {f e : Position} {rs : List (Record C)} {parts : List (Part C)} {blocks : List (BlockLayout C)}
          → Left s f rs parts e blocks → LaidOut s f rs parts e blocks

    pub data Left (s : Sizes) : Position → List (Record C) → List (Part C) → Position → List (BlockLayout C) → Type 0 where
      -- the batch ends, and the next one goes on in the same blob
      done : {f : Position} → length f.listed < capacity_of s.index → Left s f [] [] f []
      -- a blob is left if its index is full
      blob : {f e : Position} {rs : List (Record C)} {parts : List (Part C)} {blocks : List (BlockLayout C)}
          → length f.listed ≡ capacity_of s.index → LaidOut s (next_blob s f) rs parts e blocks → Left s f rs parts e blocks
      -- a block is left if the next record doesn't fit in it
      block : {f : Position} {r : Record C} {rs : List (Record C)} {first : BlockLayout C} {blocks : List (BlockLayout C)}
          → length f.listed < capacity_of s.index → s.block < tail_of f + page_up (length r.bytes)
          → LaidOut s (fresh s) (r ∷ rs) first.parts first.end blocks → Left s f (r ∷ rs) [] f (first ∷ blocks)

  -- the writes of a part into a block of so many bytes: its data, a page of zeros behind them if there is room, and then
  -- its index, at its blob's start
  abbrev pub part_writes : ℕ → Part C → List Write
  part_writes n p =
      record { role = Data; offset = p.blob + p.at; bytes = p.content }
      ∷ with_zeros n (p.blob + p.at + length p.content) (record { role = Index; offset = p.blob; bytes = p.index } ∷ [])

-- a filling that a batch may begin at: its data lie behind its blob's index, which has room
pub record MayGoOn (s : Sizes) (f : Position) : Type 0 where
  pub past : s.index ≤ f.at
  pub room : length f.listed < capacity_of s.index

-- The records of a batch are placed into these blocks, from a filling on whose data lie behind its blob's index.
abbrev pub IsLaidOut : {C : Type 0} → Sizes → Splitting C
IsLaidOut s f rs [] = ⊥
IsLaidOut s f rs (b ∷ bs) = (s.index ≤ f.at) × LaidOut s f rs b.parts b.end bs

-- rules by which records take whole pages, and each part its writes
pub record AreRules {C : Type 0} (rules : Rules C) : Type 0 where
  pub pages : (n : ℕ) → rules.page_up n ≡ page_up n
  pub writes : (p : Part C) → rules.writes_of p ≡ part_writes rules.block_size p

-- each record, with its padding, ends within the first n bytes of its block
abbrev pub AllEndBy : {C : Type 0} → ℕ → List (ℕ × Record C) → Type 0
AllEndBy n [] = Unit {0}
AllEndBy n (p ∷ ps) = (p.0 + page_up (length (p.1).bytes) ≤ n) × AllEndBy n ps

-- what goes into a block lies within it
pub record LiesWithin {C : Type 0} (n : ℕ) (spread : BlockLayout C) : Type 0 where
  pub parts : Each (λ p. p.blob + p.at + length p.content ≤ n) spread.parts
  pub records : AllEndBy n (records_in spread.parts)
