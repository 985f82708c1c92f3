-- That the law speaks of a stop inside writes: two flushers, each inside one, and an address whose block neither writes.
use Rattle.std.specs.Prelude.{◌≡◌, ◌≢◌, ℕ, ◌+◌, ◌<◌, ◌≤◌, Bool, false, List, [], ◌∷◌, length, Option, Some, ◌⊎◌}
use Rattle.foyer_format_layout.specs.Page.{page_up}
use Rattle.foyer_core_model.specs.Access.{InFlight}
use Rattle.foyer_format_layout.specs.BlockBytes.{laid, Role, Data, Index, Write, with_zeros}
use Rattle.foyer_core_model.specs.Numbers.{page}
use Rattle.foyer_core_model.specs.Position.{Position, BlockLayout}
use Rattle.foyer_core_model.specs.Record.{Address, Indexed, Holds, IndexEntry, Given, Record}
use Rattle.foyer_core_model.specs.Rules.{Rules, Splitting, first_position, sizes_of}
use Rattle.foyer_core_model.specs.State.{Writing}
use Rattle.foyer_core_model.specs.World.{World}
use Rattle.foyer_block_recover.specs.Opening.{Opened, Opens}
use Rattle.foyer_block_recover.specs.declared.block.recover.RecoverMode.{RecoverMode}
use Rattle.foyer_block_recover.specs.declared.block.recover.RecoverMode.TheVariants as recover_mode
use Rattle.foyer_core_restart.specs.Real.{IsFormat}
use Rattle.foyer_core_restart.specs.Restart.{IsRun, IsStopped, HasNoStrays, IsWriting, IsBeingWritten, IsFoundAgain, IsFoundNewer, no_fault}
use Rattle.foyer_core_restart.specs.Splits.{IsRealSplit}

-- Stopped inside a write of this role: the flusher writes into the block, the write is under way, and of its bytes one has come
-- that wasn't there, and one hasn't.
pub record IsInside {C : Type 0} (w : World C) (bytes : ℕ → ℕ → ℕ) (flusher block : ℕ) (role : Role) : Type 0 where
  pub writing : Writing C
  pub is_writing : IsWriting w.core flusher writing
  pub there : writing.block ≡ block
  pub results : List Bool
  pub write : Write
  pub rest : List Write
  pub under_way : w.block_writes flusher ≡ InFlight block results write rest
  pub is : write.role ≡ role
  pub came : (o : ℕ) × (bytes block o ≡ laid write (w.bytes block) o) × (bytes block o ≢ w.bytes block o)
  pub missing : (o : ℕ) × (bytes block o ≡ w.bytes block o) × (bytes block o ≢ laid write (w.bytes block) o)

-- A run that goes well was stopped with flusher 0 inside the index of block 1 and flusher 1 inside the data of block 2. The
-- address stood in the index, neither wrote its block, and the bytes are those of such a stop, with no stray index.
pub record IsTornStop {C : Type 0} (rules : Rules C) (Splits : Splitting C) (is_value : C → Type 0) (h : ℕ) (a : Address) : Type 0 where
  pub world : World C
  pub bytes : ℕ → ℕ → ℕ
  pub run : IsRun rules Splits is_value world
  pub indexed : world.core.index h ≡ Some (Indexed a)
  pub apart : IsBeingWritten world.core a.block → ⊥
  pub in_index : IsInside world bytes 0 1 Index
  pub in_data : IsInside world bytes 1 2 Data
  pub stopped : IsStopped rules world bytes
  pub strays : HasNoStrays rules world bytes

-- Whatever opens the bytes of such a stop finds the address again, or a newer record of its hash.
abbrev pub FindsAfter : {C : Type 0} {rules : Rules C} {Splits : Splitting C} {is_value : C → Type 0} {h : ℕ} {a : Address}
    → IsTornStop rules Splits is_value h a → Type 0
FindsAfter {rules = rules} {h = h} {a = a} stop =
    (mode : RecoverMode) (o : Opened) → mode ≢ recover_mode.None → Opens (sizes_of rules) rules.blocks stop.bytes mode no_fault [] o
    → IsFoundAgain o h a ⊎ IsFoundNewer stop.world stop.bytes o h a

-- Other bytes that such a stop may leave, with flusher 1 inside its data too: opened, they have a newer record of the hash.
pub record FindsNewer {C : Type 0} {rules : Rules C} {Splits : Splitting C} {is_value : C → Type 0} {h : ℕ} {a : Address}
    (stop : IsTornStop rules Splits is_value h a) : Type 0 where
  pub bytes : ℕ → ℕ → ℕ
  pub in_data : IsInside stop.world bytes 1 2 Data
  pub stopped : IsStopped rules stop.world bytes
  pub strays : HasNoStrays rules stop.world bytes
  pub opened : Opened
  pub opens : Opens (sizes_of rules) rules.blocks bytes recover_mode.Quiet no_fault [] opened
  pub newer : IsFoundNewer stop.world bytes opened h a

-- two flushers, three blocks of two pages, the first of which is its index, and contents that are their own records
abbrev pub small : (ℕ → List ℕ → Option (List IndexEntry)) → ((n : ℕ) → n ≤ page_up n) → (0 < 2) → (page ≤ 4096) → Rules (List ℕ)
small entries_of above some whole = record {
  flushers = 2;
  blocks = 3;
  reclaimers = 1;
  index_size = 4096;
  block_size = 8192;
  room = λ f. 1000000;
  threshold = 1000;
  clean_threshold = 0;
  has_log = false;
  page_up = page_up;
  encode = λ h s c. Some c;
  pair_of = λ b h s. Holds b;
  entries_of = entries_of;
  writes_of = λ p. record { role = Data; offset = p.blob + p.at; bytes = p.content }
      ∷ with_zeros 8192 (p.blob + p.at + length p.content) (record { role = Index; offset = p.blob; bytes = p.index } ∷ []);
  some_flusher = some;
  page_up_above = above;
  index_holds_page = whole;
}

-- its records: two of hash 2, which flusher 0 writes, and one of hash 3, which flusher 1 writes
abbrev pub older : Record (List ℕ)
older = record { hash = 2; sequence = 1; bytes = 9 ∷ 8 ∷ []; source = Given (9 ∷ 8 ∷ []) }

abbrev pub newer : Record (List ℕ)
newer = record { hash = 2; sequence = 2; bytes = 7 ∷ 6 ∷ []; source = Given (7 ∷ 6 ∷ []) }

abbrev pub other : Record (List ℕ)
other = record { hash = 3; sequence = 3; bytes = 5 ∷ 4 ∷ []; source = Given (5 ∷ 4 ∷ []) }

-- the place of a record that has a part to itself, and how far its block is filled then
pub record Place : Type 0 where
  pub blob : ℕ
  pub at : ℕ
  pub offset : ℕ
  pub content : List ℕ
  pub index : List ℕ
  pub end : Position

-- a block with this part alone
abbrev pub alone : {C : Type 0} → Place → Record C → BlockLayout C
alone p r = record {
  parts = record { blob = p.blob; at = p.at; content = p.content; index = p.index; records = (p.offset, r) ∷ [] } ∷ [];
  end = p.end;
}

-- the splitter places them, each alone in a block: the first two as one batch, and the third as another
abbrev pub ArePlaced : Type 0 → Rules (List ℕ) → (p q r : Place) → Type 0
ArePlaced A rules p q r =
    IsRealSplit A rules (first_position rules) (older ∷ newer ∷ []) (alone p older ∷ alone q newer ∷ [])
    × IsRealSplit A rules (first_position rules) (other ∷ []) (alone r other ∷ [])

-- such a stop, at which the older record's address stood in the index
abbrev pub TornStop : Type 0 → Rules (List ℕ) → Place → Type 0
TornStop A rules p =
    IsTornStop rules (IsRealSplit A rules) (λ c. Unit {0}) 2 (record { block = 0; offset = p.offset; len = 2; sequence = 1; filling = 1 })

-- Wherever they are placed, a run that goes well commits the older record into block 0, and is stopped while flusher 0 writes the
-- newer one of the same hash, and flusher 1 the third.
abbrev pub ReachesTorn : Type 0 → Type 0
ReachesTorn A =
    (entries_of : ℕ → List ℕ → Option (List IndexEntry)) (above : (n : ℕ) → n ≤ page_up n) (some : 0 < 2) (whole : page ≤ 4096)
    (p q r : Place)
    → ArePlaced A (small entries_of above some whole) p q r → TornStop A (small entries_of above some whole) p

-- If the rules are of the real format, the law speaks of such a stop.
abbrev pub FindsAfterTorn : Type 0 → Type 0
FindsAfterTorn A =
    (entries_of : ℕ → List ℕ → Option (List IndexEntry)) (above : (n : ℕ) → n ≤ page_up n) (some : 0 < 2) (whole : page ≤ 4096)
    (p q r : Place)
    → IsFormat (small entries_of above some whole) → ArePlaced A (small entries_of above some whole) p q r
    → (stop : TornStop A (small entries_of above some whole) p) × FindsAfter stop
