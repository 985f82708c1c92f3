-- That the law speaks of something: a run that goes well and leaves an address in the index.
use Rattle.std.specs.Prelude.{◌≡◌, ℕ, ◌+◌, ◌<◌, ◌≤◌, false, List, [], ◌∷◌, length, Option, Some}
use Rattle.foyer_format_layout.specs.Page.{page_up}
use Rattle.foyer_core_model.specs.Record.{Indexed, Holds, IndexEntry, Given, Record}
use Rattle.foyer_format_layout.specs.BlockBytes.{Data, Index, with_zeros}
use Rattle.foyer_core_model.specs.Position.{Position}
use Rattle.foyer_core_model.specs.Numbers.{page}
use Rattle.foyer_core_model.specs.Rules.{Rules, first_position}
use Rattle.foyer_core_model.specs.World.{World}
use Rattle.foyer_core_model.specs.State.{Writing}
use Rattle.foyer_core_restart.specs.Restart.{IsRun, IsStopped, HasNoStrays, IsWriting}
use Rattle.foyer_core_restart.specs.Splits.{IsRealSplit}

-- one flusher, one block of two pages, the first of which is its index, and contents that are their own records
abbrev pub tiny : (ℕ → List ℕ → Option (List IndexEntry)) → ((n : ℕ) → n ≤ page_up n) → (0 < 1) → (page ≤ 4096) → Rules (List ℕ)
tiny entries_of above some whole = record {
  flushers = 1;
  blocks = 1;
  reclaimers = 1;
  index_size = 4096;
  block_size = 8192;
  room = λ f. 1000000;
  threshold = 1000;
  clean_threshold = 0;
  has_log = false;
  page_up = page_up;
  encode = λ h s c. Some c;
  pair_of = λ b h s. Holds b;
  entries_of = entries_of;
  writes_of = λ p. record { role = Data; offset = p.blob + p.at; bytes = p.content }
      ∷ with_zeros 8192 (p.blob + p.at + length p.content) (record { role = Index; offset = p.blob; bytes = p.index } ∷ []);
  some_flusher = some;
  page_up_above = above;
  index_holds_page = whole;
}

-- its record: hash 7, sequence 1, one byte
abbrev pub one : Record (List ℕ)
one = record { hash = 7; sequence = 1; bytes = 9 ∷ []; source = Given (9 ∷ []) }

-- Wherever the splitter places it, in one part, a run that goes well commits it: its hash is then indexed, no block is being
-- written, and the bytes at that moment have no stray index.
abbrev pub ReachesIndexed : Type 0 → Type 0
ReachesIndexed A =
    (entries_of : ℕ → List ℕ → Option (List IndexEntry)) (above : (n : ℕ) → n ≤ page_up n) (some : 0 < 1) (whole : page ≤ 4096)
    (blob at offset : ℕ) (content index : List ℕ) (end : Position)
    → IsRealSplit A (tiny entries_of above some whole) (first_position (tiny entries_of above some whole)) (one ∷ [])
    (record { parts = record { blob = blob; at = at; content = content; index = index; records = (offset, one) ∷ [] } ∷ []; end = end } ∷ [])
    → (w : World (List ℕ)) × IsRun (tiny entries_of above some whole) (IsRealSplit A (tiny entries_of above some whole)) (λ c. Unit {0}) w
    × (w.core.index 7 ≡ Some (Indexed (record { block = 0; offset = offset; len = 1; sequence = 1; filling = 1 })))
    × ((f : ℕ) (r : Writing (List ℕ)) → IsWriting w.core f r → ⊥)
    × IsStopped (tiny entries_of above some whole) w w.bytes × HasNoStrays (tiny entries_of above some whole) w w.bytes
