-- Machines with two flushers and three blocks of two pages, and the records that a torn run writes.
use Rattle.std.proofs.Common.{◌≡◌, ℕ, zero, suc, ◌+◌, ◌<◌, ◌≤◌, nat_le, Bool, false, if◌then◌else◌, Option, Some, None, List, [], ◌∷◌, ◌++◌, length, slice_index, ◌⊎◌, inl, inr, refl, sym, ap, arith}
use Rattle.std.proofs.lemmas.Bool.Decides.{nat_tests}
use Rattle.foyer_format_record.specs.Header.{number_at}
use Rattle.foyer_format_layout.specs.Page.{page_up}
use Rattle.foyer_core_model.specs.Numbers.{page, put}
use Rattle.foyer_core_model.specs.Record.{Outcome, IndexEntry, Given, Record}
use Rattle.foyer_format_layout.specs.BlockBytes.{Data, Index, Write, read, zeros_write, with_zeros}
use Rattle.foyer_core_model.specs.Position.{Position, BlockLayout}
use Rattle.foyer_core_model.specs.Rules.{Rules}
use Rattle.foyer_format_blob.specs.Blob.{IsSealed, capacity_of}
use Rattle.foyer_format_blob.specs.declared.blob.BlobEntryIndex.{BlobEntryIndex}
use Rattle.foyer_core_model.specs.State.{Batch, State}
use Rattle.foyer_core_model.specs.Flush.{writing_of}
use Rattle.foyer_core_model.specs.Ids.{without_id}
use Rattle.foyer_core_model.specs.Layout.{writes_in}
use Rattle.foyer_format_buffer.proofs.EndsLemmas.{length_read, index_read, count_is}
use Rattle.foyer_core_restart.specs.Torn.{Place, alone}

-- if the second byte of an index's count is 255, the index counts too many entries
pub unsealed : (B : ℕ → ℕ) (n : ℕ) (es : List BlobEntryIndex) → n ≡ 4096 → B 9 ≡ 255 → IsSealed (read B 0 n) es → ⊥
unsealed B n es size there is =
    let len : length (read B 0 n) ≡ n = length_read B 0 n in
    let byte : slice_index (read B 0 n) 9 ≡ B 9 = index_read B 0 n 9 (omega arith) in
    let many : number_at 8 4 (read B 0 n) ≡ length es = is.count in
    let room : length es ≤ capacity_of (length (read B 0 n)) = is.room in
    let sum = count_is (read B 0 n) is.long in
    omega arith

-- if an index counts one entry, the first bytes of its count are 0
pub counts_one : (b : List ℕ) (e : BlobEntryIndex) → IsSealed b (e ∷ []) → (slice_index b 8 ≡ 0) × (slice_index b 9 ≡ 0)
counts_one b e is =
    let one : number_at 8 4 b ≡ 1 = is.count in
    let sum = count_is b is.long in
    (omega arith, omega arith)

-- the three blocks
pub which : (b : ℕ) → b < 3 → (b ≡ 0) ⊎ (b ≡ 1) ⊎ (b ≡ 2)
which zero lt = inl refl
which (suc zero) lt = inr (inl refl)
which (suc (suc zero)) lt = inr (inr refl)
which (suc (suc (suc b))) lt = absurd (omega arith)

-- what a machine with two flushers and three blocks has besides
pub record Machine (C : Type 0) : Type 0 where
  pub reclaimers : ℕ
  pub room : Position → ℕ
  pub threshold : ℕ
  pub clean_threshold : ℕ
  pub has_log : Bool
  pub encode : (hash sequence : ℕ) → C → Option (List ℕ)
  pub pair_of : List ℕ → (hash sequence : ℕ) → Outcome C
  pub entries_of : (place : ℕ) → List ℕ → Option (List IndexEntry)
  pub some : 0 < 2
  pub above : (n : ℕ) → n ≤ page_up n
  pub whole : page ≤ 4096
  pub much : (f : Position) → 8192 ≤ room f

-- blocks of two pages, the first of which is its index
abbrev pub machine_of : {C : Type 0} → Machine C → Rules C
machine_of m = record {
  flushers = 2;
  blocks = 3;
  reclaimers = m.reclaimers;
  index_size = 4096;
  block_size = 8192;
  room = m.room;
  threshold = m.threshold;
  clean_threshold = m.clean_threshold;
  has_log = m.has_log;
  page_up = page_up;
  encode = m.encode;
  pair_of = m.pair_of;
  entries_of = m.entries_of;
  writes_of = λ p. record { role = Data; offset = p.blob + p.at; bytes = p.content }
      ∷ with_zeros 8192 (p.blob + p.at + length p.content) (record { role = Index; offset = p.blob; bytes = p.index } ∷ []);
  some_flusher = m.some;
  page_up_above = m.above;
  index_holds_page = m.whole;
}

-- a content, and its record of a page at most
pub record Item {C : Type 0} (m : Machine C) (is_value : C → Type 0) (h s : ℕ) : Type 0 where
  pub content : C
  pub bytes : List ℕ
  pub value : is_value content
  pub encoded : m.encode h s content ≡ Some bytes
  pub some : 0 < length bytes
  pub page : length bytes ≤ 4096

abbrev pub record_of : {C : Type 0} {m : Machine C} {is_value : C → Type 0} {h s : ℕ} → Item m is_value h s → Record C
record_of {h = h} {s = s} i = record { hash = h; sequence = s; bytes = i.bytes; source = Given i.content }

-- a record that has a block to itself: its data begin with these two bytes, and its index is that of one entry
pub record StandsAlone (x y : ℕ) (p : Place) : Type 0 where
  pub blob : p.blob ≡ 0
  pub at : p.at ≡ 4096
  pub size : length p.index ≡ 4096
  pub listed : BlobEntryIndex
  pub sealed : IsSealed p.index (listed ∷ [])
  pub long : 2 ≤ length p.content
  pub first : slice_index p.content 0 ≡ x
  pub second : slice_index p.content 1 ≡ y

-- the block has no room for a page behind it
abbrev pub IsFull : Place → Type 0
IsFull p = nat_le (p.blob + p.at + length p.content + 4096) 8192 ≡ false

pub full_of : (x y : ℕ) (p : Place) → StandsAlone x y p → IsFull p
full_of x y p is =
    let low : p.blob ≡ 0 = is.blob in
    let at : p.at ≡ 4096 = is.at in
    let long : 2 ≤ length p.content = is.long in
    grind (arith, nat_tests)

-- so it has two writes
abbrev pub two_writes : Place → List Write
two_writes p = record { role = Data; offset = p.blob + p.at; bytes = p.content } ∷ record { role = Index; offset = p.blob; bytes = p.index } ∷ []

pub two_in : {C : Type 0} (m : Machine C) (p : Place) (r : Record C) → IsFull p → two_writes p ≡ writes_in (machine_of m) (alone p r).parts
two_in m p r full = sym (ap (λ (b : Bool).
    (record { role = Data; offset = p.blob + p.at; bytes = p.content }
    ∷ (if b then zeros_write (p.blob + p.at + length p.content) ∷ record { role = Index; offset = p.blob; bytes = p.index } ∷ []
    else record { role = Index; offset = p.blob; bytes = p.index } ∷ [])) ++ []) full)

-- a block is issued with these writes
abbrev pub issued_as : {C : Type 0} → State C → (f b : ℕ) → Batch C → List Write → List (ℕ × Record C) → List (BlockLayout C) → State C
issued_as old f b batch ws records rest =
    record old {
      waiting = without_id f old.waiting;
      flushers = put old.flushers f (record (old.flushers f) {
        own = Some b;
        ready = None;
        batch = Some (record batch { blocks = rest; continues_own_block = false; writing = writing_of b ws records });
      });
    }
