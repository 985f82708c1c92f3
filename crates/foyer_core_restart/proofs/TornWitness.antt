-- A run whose batches lie where the splitter places them, and that is stopped with two flushers inside writes.
use Rattle.std.proofs.Common.{◌≡◌, ℕ, zero, suc, ◌+◌, ◌<◌, ◌≤◌, false, Option, Some, List, [], ◌∷◌, ◌++◌, ◌-◌, length, drop, take, slice_index, refl, sym, ap, subst, ◌∙◌, arith}
use Rattle.foyer_format_layout.specs.Position.{Sizes, fresh}
use Rattle.foyer_format_layout.specs.Page.{page_up}
use Rattle.foyer_core_model.specs.Numbers.{page}
use Rattle.foyer_core_model.specs.Record.{Holds, IndexEntry, Record}
use Rattle.foyer_core_model.specs.Rules.{Rules, first_position}
use Rattle.foyer_device_page.specs.Section.{Section, bytes_of}
use Rattle.foyer_format_blob.specs.Blob.{IsSealed}
use Rattle.foyer_format_blob.specs.declared.blob.BlobEntryIndex.{BlobEntryIndex}
use Rattle.foyer_format_buffer.specs.Position as laid_out
use Rattle.foyer_format_buffer.specs.Position.{entries_from}
use Rattle.foyer_format_buffer.specs.Fills.{Fills}
use Rattle.foyer_format_buffer.specs.Fills.Fills.{part, blob}
use Rattle.foyer_format_buffer.specs.Layout.{IsPart}
use Rattle.foyer_format_buffer.specs.Stored.{Stored, stored_at}
use Rattle.foyer_format_buffer.specs.declared.BufferEntryInfo.{BufferEntryInfo}
use Rattle.foyer_format_buffer.specs.declared.split.BlobPart.{BlobPart}
use Rattle.foyer_core_restart.specs.Entries.{filled_to, stored}
use Rattle.foyer_core_restart.specs.Real.{IsSamePart, AreSameParts}
use Rattle.foyer_core_restart.specs.Splits.{IsRealSplit}
use Rattle.foyer_core_restart.specs.Torn.{small, older, newer, other, Place, alone, TornStop, ReachesTorn, FindsAfterTorn}
use Rattle.foyer_core_restart.proofs.Placings.{real_restart_law_lem}
use Rattle.foyer_core_restart.proofs.TornMachine.{Machine, Item, StandsAlone}
use Rattle.foyer_core_restart.proofs.TornStop.{reached}

-- what a part of one record is

abbrev sizes : Sizes
sizes = record { block = 8192; index = 4096 }

record Begins (x y : ℕ) (xs : List ℕ) : Type 0 where
  pub long : 2 ≤ length xs
  pub first : slice_index xs 0 ≡ x
  pub second : slice_index xs 1 ≡ y

begins : (x y n : ℕ) (xs : List ℕ) → x ∷ y ∷ [] ≡ take n xs → Begins x y xs
begins x y zero xs e = absurd cc
begins x y (suc n) [] e = absurd cc
begins x y (suc zero) (a ∷ xs) e = absurd cc
begins x y (suc (suc n)) (a ∷ []) e = absurd cc
begins x y (suc (suc n)) (a ∷ b ∷ xs) e = record { long = omega arith; first = cc; second = cc }

in_part : {A : Type 0} (w : Section) (start : ℕ) (f : laid_out.Position) (now : List BufferEntryInfo) (b : BlobPart A) (p : Place) (r : Record (List ℕ)) (x y : ℕ)
    → f.listed ≡ [] → f.blob ≡ 0 → f.at ≡ 4096 → r.bytes ≡ x ∷ y ∷ [] → IsPart sizes w start f now b
    → IsSamePart (record { blob = p.blob; at = p.at; content = p.content; index = p.index; records = (p.offset, r) ∷ [] }) b → StandsAlone x y p
unfolding entries_from
in_part w start f [] b p r x y none low at bs is same = let some : 0 < 0 = is.some in absurd (omega arith)
in_part w start f (i ∷ []) b p r x y none low at bs is same =
    let entry : BlobEntryIndex = record { hash = i.hash; sequence = i.sequence; offset = f.at; len = i.len } in
    let all : stored (p.offset, r) ∷ [] ≡ stored_at b.blob_block_offset b.part_blob_offset (bytes_of b.part_data) (entry ∷ []) =
    same.records ∙ ap (stored_at b.blob_block_offset b.part_blob_offset (bytes_of b.part_data)) is.indices in
    let none_before : f.at - b.part_blob_offset ≡ 0 = (let e : b.part_blob_offset ≡ f.at = is.at in omega arith) in
    let first : stored (p.offset, r) ≡ record { hash = i.hash; sequence = i.sequence; offset = b.blob_block_offset + f.at; bytes = take i.len (drop (f.at - b.part_blob_offset) (bytes_of b.part_data)) } = cc in
    let given : r.bytes ≡ take i.len (drop (f.at - b.part_blob_offset) (bytes_of b.part_data)) = ap (λ (u : Stored). u.bytes) first in
    let k : Begins x y p.content = begins x y i.len p.content (sym bs ∙ given ∙ ap (λ n. take i.len (drop n (bytes_of b.part_data))) none_before ∙ ap (take i.len) (sym same.content)) in
    record {
      blob = same.blob ∙ is.blob ∙ low;
      at = same.at ∙ is.at ∙ at;
      size = ap length same.index ∙ is.size;
      listed = entry;
      sealed = subst (λ c. IsSealed c (entry ∷ [])) (sym same.index) (subst (λ l. IsSealed b.index (l ++ entry ∷ [])) none is.index);
      long = k.long;
      first = k.first;
      second = k.second;
    }
in_part w start f (i ∷ j ∷ is) b p r x y none low at bs is_part same =
    absurd (more (same.records ∙ ap (stored_at b.blob_block_offset b.part_blob_offset (bytes_of b.part_data)) is_part.indices))
  where
    more : {X : Type 0} {u v t : X} {ts : List X} → u ∷ [] ≡ v ∷ t ∷ ts → ⊥
    more e = cc

stands_alone : {A : Type 0} (w : Section) (start : ℕ) (f : laid_out.Position) (infos : List BufferEntryInfo) (p : Place) (r : Record (List ℕ)) (x y : ℕ) (parts : List (BlobPart A)) (g : laid_out.Position)
    → f.listed ≡ [] → f.blob ≡ 0 → f.at ≡ 4096 → r.bytes ≡ x ∷ y ∷ [] → Fills sizes w start f infos parts g → AreSameParts (alone p r).parts parts → StandsAlone x y p
stands_alone w start f infos p r x y [] g none low at bs fill same = absurd same
stands_alone w start f infos p r x y (b ∷ []) g none low at bs fill same = go none low at fill
  where
    go : {f : laid_out.Position} {infos : List BufferEntryInfo} → f.listed ≡ [] → f.blob ≡ 0 → f.at ≡ 4096 → Fills sizes w start f infos (b ∷ []) g → StandsAlone x y p
    go {f = f} none low at (part {now = now} is more) = in_part w start f now b p r x y none low at bs is same.0
    go none low at (blob full more) = let e = ap length none in absurd (omega arith)
stands_alone w start f infos p r x y (b ∷ c ∷ cs) g none low at bs fill same = absurd same.1

module _ (A : Type 0) (entries_of : ℕ → List ℕ → Option (List IndexEntry)) (above : (n : ℕ) → n ≤ page_up n) (some : 0 < 2) (whole : page ≤ 4096) (p q r : Place) where
  abbrev rules : Rules (List ℕ)
  rules = small entries_of above some whole

  abbrev machine : Machine (List ℕ)
  machine = record {
    reclaimers = 1;
    room = λ f. 1000000;
    threshold = 1000;
    clean_threshold = 0;
    has_log = false;
    encode = λ h s c. Some c;
    pair_of = λ b h s. Holds b;
    entries_of = entries_of;
    some = some;
    above = above;
    whole = whole;
    much = λ f. omega arith;
  }

  abbrev Any : List ℕ → Type 0
  Any c = Unit {0}

  abbrev older_item : Item machine Any 2 1
  older_item = record { content = 9 ∷ 8 ∷ []; bytes = 9 ∷ 8 ∷ []; value = tt; encoded = refl; some = omega arith; page = omega arith }

  abbrev newer_item : Item machine Any 2 2
  newer_item = record { content = 7 ∷ 6 ∷ []; bytes = 7 ∷ 6 ∷ []; value = tt; encoded = refl; some = omega arith; page = omega arith }

  abbrev other_item : Item machine Any 3 3
  other_item = record { content = 5 ∷ 4 ∷ []; bytes = 5 ∷ 4 ∷ []; value = tt; encoded = refl; some = omega arith; page = omega arith }

  module _ (split : IsRealSplit A rules (first_position rules) (older ∷ newer ∷ []) (alone p older ∷ alone q newer ∷ []))
      (split_other : IsRealSplit A rules (first_position rules) (other ∷ []) (alone r other ∷ [])) where
    first_is : StandsAlone 9 8 p
    first_is = stands_alone split.whole 0 (filled_to (first_position rules)) (split.spread).0 p older 9 8 (split.spread).2 (filled_to p.end) refl refl refl refl (split.spread).4 (split.spread).5

    second_is : StandsAlone 7 6 q
    second_is =
        let more = (split.spread).6 in
        stands_alone split.whole _ (fresh sizes) more.0 q newer 7 6 more.2 (filled_to q.end) refl refl refl refl more.4 more.5

    third_is : StandsAlone 5 4 r
    third_is = stands_alone split_other.whole 0 (filled_to (first_position rules)) (split_other.spread).0 r other 5 4 (split_other.spread).2 (filled_to r.end) refl refl refl refl (split_other.spread).4 (split_other.spread).5

    torn_stop : TornStop A rules p
    torn_stop = reached machine (IsRealSplit A rules) Any older_item newer_item other_item p q r 5 4 9 8 7 6 (λ e. omega arith) (λ e. omega arith)
        first_is second_is third_is split split_other

pub reaches_torn_lem : (A : Type 0) → ReachesTorn A
reaches_torn_lem A entries_of above some whole p q r placed = torn_stop A entries_of above some whole p q r placed.0 placed.1

pub finds_after_torn_lem : (A : Type 0) → FindsAfterTorn A
finds_after_torn_lem A entries_of above some whole p q r format placed =
    let stop : TornStop A (small entries_of above some whole) p = torn_stop A entries_of above some whole p q r placed.0 placed.1 in (
      stop,
      λ mode o is opens. real_restart_law_lem A (small entries_of above some whole) (λ c. Unit {0}) format (λ h s c b _ _ _ e. cc) stop.world stop.bytes mode o 2
          (record { block = 0; offset = p.offset; len = 2; sequence = 1; filling = 1 }) stop.run stop.stopped stop.strays is opens stop.indexed stop.apart,
    )
