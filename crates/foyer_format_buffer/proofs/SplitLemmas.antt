-- The steps of the splitter.
use Rattle.std.proofs.Common.{◌≡◌, ℕ, suc, ◌+◌, ◌<◌, ◌≤◌, List, [], ◌∷◌, ◌++◌, length, refl, sym, ap, ◌∙◌, arith}
use Rattle.std.specs.Prelude.{map}
use Rattle.std.proofs.lemmas.List.{append-nil, append_assoc, map-append}
use Rattle.foyer_device_page.specs.Section.{Section, part_of}
use Rattle.foyer_format_layout.specs.Page.{page_up}
use Rattle.foyer_format_blob.specs.Blob.{capacity_of, IsSealed}
use Rattle.foyer_format_blob.specs.OpenIndex.{OpenIndex, entries_of}
use Rattle.foyer_format_layout.specs.Position.{tail_of, fresh, next_blob}
use Rattle.foyer_format_buffer.specs.Position.{Position, taken, entries_from, with_records}
use Rattle.foyer_format_buffer.specs.Layout.{IsPart, LaidOut, Left, Places, parts_of}
use Rattle.foyer_format_buffer.specs.Layout.LaidOut.{part, none}
use Rattle.foyer_format_buffer.specs.Layout.Left.{done, blob, block}
use Rattle.foyer_format_buffer.specs.Splitting.{Going, Closed, sizes_of, position_of, blocks_with}
use Rattle.foyer_format_buffer.specs.declared.BufferEntryInfo.{BufferEntryInfo}
use Rattle.foyer_format_blob.specs.declared.blob.BlobEntryIndex.{BlobEntryIndex}
use Rattle.foyer_format_buffer.specs.declared.split.BlobPart.{BlobPart}
use Rattle.foyer_format_buffer.specs.declared.split.Block.{Block}
use Rattle.foyer_format_buffer.specs.declared.split_progress.SplitProgress.{SplitProgress}
use Rattle.foyer_format_blob.proofs.BlobLemmas.{length-entries_in, entries_none as none_in}

pub length-entries_from : (at : ℕ) (is : List BufferEntryInfo) → length (entries_from at is) ≡ length is
unfolding entries_from
length-entries_from at [] = refl
length-entries_from at (i ∷ is) = ap suc (length-entries_from (at + page_up i.len) is)

pub entries_from-append : (at : ℕ) (is js : List BufferEntryInfo) → entries_from at (is ++ js) ≡ entries_from at is ++ entries_from (at + taken is) js
unfolding entries_from taken
entries_from-append at [] js = ap (λ a. entries_from a js) (omega arith)
entries_from-append at (i ∷ is) js =
    let there : at + page_up i.len + taken is ≡ at + (page_up i.len + taken is) = omega arith in
    rw (entries_from-append (at + page_up i.len) is js, there) refl

pub taken-append : (is js : List BufferEntryInfo) → taken (is ++ js) ≡ taken is + taken js
unfolding taken
taken-append [] js = omega arith
taken-append (i ∷ is) js = rw (taken-append is js) (omega arith)

pub taken_one : (i : BufferEntryInfo) → taken (i ∷ []) ≡ page_up i.len
unfolding taken
taken_one i = omega arith

pub taken_cons : (i : BufferEntryInfo) (is : List BufferEntryInfo) → taken (i ∷ is) ≡ page_up i.len + taken is
unfolding taken
taken_cons i is = refl

pub taken_none : taken [] ≡ 0
unfolding taken
taken_none = refl

pub entries_none : (at : ℕ) → entries_from at [] ≡ []
unfolding entries_from
entries_none at = refl

pub entries_cons : (at : ℕ) (i : BufferEntryInfo) (is : List BufferEntryInfo) → entries_from at (i ∷ is)
    ≡ record { hash = i.hash; sequence = i.sequence; offset = at; len = i.len } ∷ entries_from (at + page_up i.len) is
unfolding entries_from
entries_cons at i is = refl

one_entry : (at : ℕ) (i : BufferEntryInfo)
    → entries_from at (i ∷ []) ≡ record { hash = i.hash; sequence = i.sequence; offset = at; len = i.len } ∷ []
unfolding entries_from
one_entry at i = refl

nil_from_length : (is : List BufferEntryInfo) → length is ≡ 0 → is ≡ []
nil_from_length [] e = refl
nil_from_length (i ∷ is) e = absurd (omega (arith, e))

module _ {A : Type 0} where
  -- nothing was collected
  pub closes_none : (s : Section) (f0 : Position) (all rest : List BufferEntryInfo) (w : SplitProgress A) → w.indices.items ≡ []
      → Going s f0 all w rest → Closed s f0 all w rest
  closes_none s f0 all rest w empty o =
      let len : length o.now ≡ 0 = sym (length-entries_from w.at o.now) ∙ ap length (sym o.indices ∙ empty) in
      let nothing : o.now ≡ [] = nil_from_length o.now len in
      let rests : o.now ++ rest ≡ rest = ap (λ t. t ++ rest) nothing in
      record {
        f = o.f;
        goes = λ parts blocks g left. o.goes parts blocks g (rw rests (none left));
        blob = o.blob;
        at = o.at;
        listed = o.listed ∙ ap (λ t. o.f.listed ++ t) empty ∙ append-nil o.f.listed;
        none = empty;
        size = sym o.size ∙ ap taken nothing ∙ taken_none;
      }

  -- what was collected is a part
  pub closes_part : (s : Section) (f0 : Position) (all rest : List BufferEntryInfo) (w x : SplitProgress A) (p : BlobPart A)
      → 0 < length w.indices.items
      → p.blob_block_offset ≡ w.blob → p.part_blob_offset ≡ w.at → p.part_data ≡ part_of s w.start (w.start + w.size)
      → p.indices.items ≡ w.indices.items → IsSealed p.index (entries_of w.index) → length p.index ≡ w.index_size
      → x.parts.items ≡ w.parts.items ++ p ∷ [] → x.blocks ≡ w.blocks → x.block_size ≡ w.block_size → x.index_size ≡ w.index_size
      → x.start ≡ w.start + w.size → x.blob ≡ w.blob
      → x.at ≡ w.at + w.size → x.index ≡ w.index → x.size ≡ 0 → x.indices.items ≡ []
      → Going s f0 all w rest → Closed s f0 all x rest
  closes_part s f0 all rest w x p some blobs ats data_is indices sealed index_len parts_are blocks_are bs is start blob_same at_more index_same none_left empty o =
      let len : length o.now ≡ length w.indices.items = sym (length-entries_from w.at o.now) ∙ ap length (sym o.indices) in
      let has : 0 < length o.now = omega arith in
      let all_listed : entries_of w.index ≡ (with_records o.f o.now).listed =
      o.listed ∙ ap (λ t. o.f.listed ++ t) (o.indices ∙ ap (λ a. entries_from a o.now) (sym o.at)) in
      let is_part : IsPart (sizes_of w) s w.start o.f o.now p = record {
        some = has;
        blob = blobs ∙ sym o.blob;
        at = ats ∙ sym o.at;
        content = data_is ∙ ap (λ n. part_of s w.start (w.start + n)) (sym o.size);
        indices = indices ∙ o.indices ∙ ap (λ a. entries_from a o.now) (sym o.at);
        index = rw all_listed at sealed;
        size = index_len;
        within = omega (arith, o.within has, o.at, o.blob, o.size);
      } in
      let starts_at : x.start ≡ w.start + taken o.now = start ∙ ap (λ t. w.start + t) (sym o.size) in
      record {
        f = with_records o.f o.now;
        goes = λ parts blocks g left.
            let left_w : Left (sizes_of w) s (w.start + taken o.now) (with_records o.f o.now) rest parts blocks g = rw (bs, is, starts_at) at left in
            rw (bs, is, parts_are, blocks_are, append_assoc) (o.goes (p ∷ parts) blocks g (part is_part left_w));
        blob = o.blob ∙ sym blob_same;
        at = omega (arith, o.at, o.size);
        listed = ap (λ (i : OpenIndex). entries_of i) index_same ∙ all_listed;
        none = empty;
        size = none_left;
      }

  -- the index is full
  pub begins_blob : (s : Section) (f0 : Position) (all rest : List BufferEntryInfo) (w x : SplitProgress A)
      → w.index.count ≡ capacity_of w.index_size
      → x.parts ≡ w.parts → x.blocks ≡ w.blocks → x.block_size ≡ w.block_size → x.index_size ≡ w.index_size
      → x.start ≡ w.start → x.blob ≡ w.blob + w.at → x.at ≡ w.index_size
      → x.index.count ≡ 0 → x.size ≡ 0 → x.indices ≡ w.indices
      → Closed s f0 all w rest → Going s f0 all x rest
  begins_blob s f0 all rest w x full parts_are blocks_are bs is start blobs ats count size indices_are o =
      let is_full : length o.f.listed ≡ capacity_of w.index_size = ap length (sym o.listed) ∙ length-entries_in w.index.bytes w.index.count ∙ full in
      let indices : x.indices.items ≡ w.indices.items = ap (λ v. v.items) indices_are in
      record {
        f = next_blob (sizes_of w) o.f;
        now = [];
        goes = λ parts blocks g placed.
            let placed_w : LaidOut (sizes_of w) s w.start (next_blob (sizes_of w) o.f) rest parts blocks g = rw (bs, is, start) at placed in
            rw (bs, is, parts_are, blocks_are) (o.goes parts blocks g (blob is_full placed_w));
        blob = omega (arith, o.blob, o.at);
        at = sym ats;
        size = taken_none ∙ sym size;
        indices = indices ∙ o.none ∙ sym (entries_none x.at);
        listed = ap (λ n. entries_of (record { bytes = x.index.bytes; count = n })) count ∙ none_in x.index.bytes ∙ sym (indices ∙ o.none);
        within = λ h. absurd (omega (arith, h));
      }

  -- the next record doesn't fit
  pub begins_block : (s : Section) (f0 : Position) (all rest : List BufferEntryInfo) (i : BufferEntryInfo) (b : Block A) (w x : SplitProgress A)
      → w.index.count < capacity_of w.index_size
      → w.block_size < w.blob + w.at + page_up i.len
      → b.blob_parts ≡ w.parts → x.parts.items ≡ [] → x.blocks.items ≡ w.blocks.items ++ b ∷ []
      → x.block_size ≡ w.block_size → x.index_size ≡ w.index_size
      → x.start ≡ w.start → x.blob ≡ 0 → x.at ≡ w.index_size
      → x.index.count ≡ 0 → x.size ≡ 0 → x.indices ≡ w.indices
      → Closed s f0 all w (i ∷ rest) → Going s f0 all x (i ∷ rest)
  begins_block s f0 all rest i b w x room over block_is parts_are blocks_are bs is start blobs ats count size indices_are o =
      let is_over : w.block_size < tail_of o.f + page_up i.len = omega (arith, o.at, o.blob) in
      let is_open : length o.f.listed < capacity_of w.index_size = omega (arith, ap length o.listed, length-entries_in w.index.bytes w.index.count) in
      let indices : x.indices.items ≡ w.indices.items = ap (λ v. v.items) indices_are in
      record {
        f = fresh (sizes_of w);
        now = [];
        goes = λ parts blocks g placed.
            let placed_w : LaidOut (sizes_of w) s w.start (fresh (sizes_of w)) (i ∷ rest) parts blocks g = rw (bs, is, start) at placed in
            let there : Places (sizes_of w) s f0 all (blocks_with w [] (parts ∷ blocks)) g = o.goes [] (parts ∷ blocks) g (block is_open is_over placed_w) in
            let same : blocks_with x parts blocks ≡ blocks_with w [] (parts ∷ blocks) =
            ap (λ l. map parts_of x.blocks.items ++ (l ++ parts) ∷ blocks) parts_are
            ∙ ap (λ l. map parts_of l ++ parts ∷ blocks) blocks_are
            ∙ ap (λ l. l ++ parts ∷ blocks) (map-append parts_of w.blocks.items (b ∷ []))
            ∙ append_assoc (map parts_of w.blocks.items) (parts_of b ∷ []) (parts ∷ blocks)
            ∙ ap (λ l. map parts_of w.blocks.items ++ l ∷ (parts ∷ blocks)) (ap (λ v. v.items) block_is ∙ sym (append-nil w.parts.items)) in
            rw (bs, is, same) there;
        blob = sym blobs;
        at = sym ats;
        size = taken_none ∙ sym size;
        indices = indices ∙ o.none ∙ sym (entries_none x.at);
        listed = ap (λ n. entries_of (record { bytes = x.index.bytes; count = n })) count ∙ none_in x.index.bytes ∙ sym (indices ∙ o.none);
        within = λ h. absurd (omega (arith, h));
      }

  -- a record is collected
  pub appends : (s : Section) (f0 : Position) (all rest : List BufferEntryInfo) (i : BufferEntryInfo) (e : BlobEntryIndex) (w x : SplitProgress A)
      → w.blob + w.at + w.size + page_up i.len ≤ w.block_size
      → e ≡ record { hash = i.hash; sequence = i.sequence; offset = w.at + w.size; len = i.len }
      → x.parts ≡ w.parts → x.blocks ≡ w.blocks → x.block_size ≡ w.block_size → x.index_size ≡ w.index_size
      → x.start ≡ w.start → x.blob ≡ w.blob → x.at ≡ w.at
      → x.size ≡ w.size + page_up i.len → x.indices.items ≡ w.indices.items ++ e ∷ []
      → entries_of x.index ≡ entries_of w.index ++ e ∷ []
      → Going s f0 all w (i ∷ rest) → Going s f0 all x rest
  appends s f0 all rest i e w x fits entry parts_are blocks_are bs is start blobs ats size indices listed o =
      let more : taken (o.now ++ i ∷ []) ≡ taken o.now + page_up i.len = taken-append o.now (i ∷ []) ∙ ap (λ t. taken o.now + t) (taken_one i) in
      let offset : w.at + taken o.now ≡ w.at + w.size = ap (λ t. w.at + t) o.size in
      let last : entries_from (w.at + taken o.now) (i ∷ []) ≡ e ∷ [] =
      ap (λ a. entries_from a (i ∷ [])) offset ∙ one_entry (w.at + w.size) i ∙ ap (λ t. t ∷ []) (sym entry) in
      let collected : x.indices.items ≡ entries_from x.at (o.now ++ i ∷ []) =
      indices ∙ rw (ats, entries_from-append w.at o.now (i ∷ []), last, o.indices) refl in
      record {
        f = o.f;
        now = o.now ++ i ∷ [];
        goes = λ parts blocks g placed.
            let same : (o.now ++ i ∷ []) ++ rest ≡ o.now ++ (i ∷ rest) = append_assoc o.now (i ∷ []) rest in
            let placed_w : LaidOut (sizes_of w) s w.start o.f (o.now ++ (i ∷ rest)) parts blocks g = rw (bs, is, start, same) at placed in
            rw (bs, is, parts_are, blocks_are) (o.goes parts blocks g placed_w);
        blob = o.blob ∙ sym blobs;
        at = o.at ∙ sym ats;
        size = more ∙ omega (arith, o.size);
        indices = collected;
        listed = listed ∙ ap (λ t. t ++ e ∷ []) o.listed ∙ append_assoc o.f.listed w.indices.items (e ∷ []) ∙ ap (λ t. o.f.listed ++ t) (sym indices);
        within = λ h. omega arith;
      }

  -- before the first record
  pub begins : (s : Section) (all : List BufferEntryInfo) (w : SplitProgress A) → w.parts.items ≡ [] → w.blocks.items ≡ [] → w.indices.items ≡ []
      → w.start ≡ 0 → w.size ≡ 0 → Going s (position_of w) all w all
  begins s all w no_parts no_blocks none_yet start size = record {
    f = position_of w;
    now = [];
    goes = λ parts blocks g placed. rw (no_parts, no_blocks) (rw start at placed);
    blob = refl;
    at = refl;
    size = taken_none ∙ sym size;
    indices = none_yet ∙ sym (entries_none w.at);
    listed = sym (ap (λ t. entries_of w.index ++ t) none_yet ∙ append-nil (entries_of w.index));
    within = λ h. absurd (omega (arith, h));
  }

  -- behind the last record
  pub ends : (s : Section) (f0 : Position) (all : List BufferEntryInfo) (w : SplitProgress A) → w.index.count < capacity_of w.index_size
      → Closed s f0 all w []
      → Places (sizes_of w) s f0 all (map parts_of w.blocks.items ++ w.parts.items ∷ []) (position_of w)
  ends s f0 all w room o =
      let same : o.f ≡ position_of w = rw (← o.at, ← o.blob, o.listed) refl in
      let is_open : length o.f.listed < capacity_of w.index_size = omega (arith, ap length o.listed, length-entries_in w.index.bytes w.index.count) in
      let placed : Places (sizes_of w) s f0 all (blocks_with w [] []) o.f = o.goes [] [] o.f (done is_open) in
      rw (append-nil, same) at placed

  -- the last block is closed
  pub finishes : (s : Section) (f0 : Position) (all : List BufferEntryInfo) (b : Block A) (w : SplitProgress A) (blocks : List (Block A))
      → w.index.count < capacity_of w.index_size → b.blob_parts ≡ w.parts → blocks ≡ w.blocks.items ++ b ∷ []
      → Closed s f0 all w []
      → Places (sizes_of w) s f0 all (map parts_of blocks) (position_of w)
  finishes s f0 all b w blocks room block_is blocks_are o =
      let same : map parts_of blocks ≡ map parts_of w.blocks.items ++ w.parts.items ∷ [] =
      ap (map parts_of) blocks_are ∙ map-append parts_of w.blocks.items (b ∷ [])
      ∙ ap (λ l. map parts_of w.blocks.items ++ l ∷ []) (ap (λ v. v.items) block_is) in
      rw same (ends s f0 all w room o)
