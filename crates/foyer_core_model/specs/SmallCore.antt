-- A small core, for runs that show that the laws speak of something: one flusher, two blocks, a log, pages of one byte.
-- Contents are numbers: 0 doesn't encode, 100 stands for a record that isn't supported and 101 for one that doesn't decode.
use Rattle.std.specs.Prelude.{◌≡◌, ℕ, zero, suc, ◌+◌, ◌==◌, nat_lt, true, ◌&&◌, if◌then◌else◌, List, [], ◌∷◌, length, Option, Some, None, ◌⊎◌}
use Rattle.std.proofs.Common.{lit<}
use Rattle.std.proofs.Math.Nat.{le_refl}
use Rattle.foyer_core_model.specs.Record.{Outcome, NoRecord, NotSupported, Undecodable, Holds, Source, Record}
use Rattle.foyer_format_layout.specs.BlockBytes.{Data, Index, Write}
use Rattle.foyer_core_model.specs.Position.{Position, Part, BlockLayout}
use Rattle.foyer_core_model.specs.Rules.{Rules, Splitting}

-- what a content stands for
abbrev pub small_outcome : ℕ → Outcome ℕ
small_outcome c = if c == 100 then NotSupported else (if c == 101 then Undecodable else Holds c)

-- a record is its hash, its sequence and its content
abbrev pub small_pair : List ℕ → ℕ → ℕ → Outcome ℕ
small_pair [] h s = NoRecord
small_pair (a ∷ []) h s = NoRecord
small_pair (a ∷ b ∷ []) h s = NoRecord
small_pair (a ∷ b ∷ c ∷ rest) h s = if a == h && b == s then small_outcome c else NoRecord

-- the bytes of a record, if it has a content
abbrev pub small_encode : ℕ → ℕ → ℕ → Option (List ℕ)
small_encode h s zero = None
small_encode h s (suc c) = Some (h ∷ s ∷ suc c ∷ [])

-- the data of a part, then its index
abbrev pub small_writes : Part ℕ → List Write
small_writes p = record { role = Data; offset = p.blob + p.at; bytes = p.content } ∷ record { role = Index; offset = p.blob; bytes = p.index } ∷ []

-- the sizes and judgements of the small core
abbrev pub small : Rules ℕ
small = record {
  flushers = 1;
  blocks = 2;
  reclaimers = 1;
  index_size = 4096;
  block_size = 8192;
  room = λ f. 8;
  threshold = 100;
  clean_threshold = 1;
  has_log = true;
  page_up = λ n. n;
  encode = small_encode;
  pair_of = small_pair;
  entries_of = λ place bs. Some (record { hash = 7; sequence = 1; offset = 4096; len = 3 } ∷ []);
  writes_of = small_writes;
  some_flusher = lit< tt;
  page_up_above = le_refl;
  index_holds_page = le_refl 4096;
}

-- the contents that callers have
abbrev pub IsSmall : ℕ → Type 0
IsSmall c = nat_lt c 100 ≡ true

-- a record of three bytes
abbrev pub three : (hash sequence : ℕ) → (a b c : ℕ) → Source ℕ → Record ℕ
three h s a b c source = record { hash = h; sequence = s; bytes = a ∷ b ∷ c ∷ []; source = source }

-- a first blob that is filled up to there
abbrev pub filled_to : ℕ → Position
filled_to at = record { blob = 0; at = at; listed = [] }

-- one record in a part of its own, or none
abbrev pub one_spread : ℕ → Record ℕ → BlockLayout ℕ
one_spread at r = record { parts = record { blob = 0; at = at; content = r.bytes; index = []; records = (at, r) ∷ [] } ∷ []; end = filled_to (at + length r.bytes) }

-- nothing goes into the block
abbrev pub no_spread : Position → BlockLayout ℕ
no_spread f = record { parts = []; end = f }

-- the place of one record: in an empty block, or behind a first record
abbrev pub GoesTo : ℕ → Position → List (Record ℕ) → List (BlockLayout ℕ) → Type 0
GoesTo at f rs ss =
    (h s a b c : ℕ) × (source : Source ℕ) × (f ≡ filled_to at) × (rs ≡ three h s a b c source ∷ []) × (ss ≡ one_spread at (three h s a b c source) ∷ [])

-- each record in a block of its own
abbrev pub each_alone : List (Record ℕ) → List (BlockLayout ℕ)
each_alone [] = []
each_alone (r ∷ rs) = one_spread 4096 r ∷ each_alone rs

-- nothing more into this block and each record in one of its own, or a first record, or a second one
abbrev pub SmallSplits : Splitting ℕ
SmallSplits f rs ss = (ss ≡ no_spread f ∷ each_alone rs) ⊎ GoesTo 4096 f rs ss ⊎ GoesTo 4099 f rs ss
