-- The next block of a batch, as it is issued.
use Rattle.std.proofs.Common.{◌≡◌, ℕ, zero, suc, ◌+◌, ◌-◌, ◌^◌, ◌<◌, ◌≤◌, nat_le, Bool, true, false, if◌then◌else◌, List, [], ◌∷◌, ◌++◌, map, drop, length, get_or, Option, Some, None, refl, sym, ap, subst, ◌∙◌, arith}
use Rattle.std.specs.Prelude.{MatchOption}
use Rattle.std.specs.declared.vec.Vec.{Vec}
use Rattle.std.proofs.lemmas.List.{length-map}
use Rattle.foyer_block_index.specs.declared.indexer.EntryAddress.{EntryAddress}
use Rattle.foyer_block_index.specs.declared.indexer.HashedEntryAddress.{HashedEntryAddress}
use Rattle.foyer_format_blob.specs.declared.blob.BlobEntryIndex.{BlobEntryIndex}
use Rattle.foyer_format_layout.specs.Each.{Each}
use Rattle.foyer_format_buffer.specs.Layout.{parts_of}
use Rattle.foyer_format_buffer.specs.declared.split.BlobPart.{BlobPart}
use Rattle.foyer_format_buffer.specs.declared.split.Block.{Block}
use Rattle.foyer_device_page.specs.Section.{bytes_of}
use Rattle.foyer_format_layout.specs.BlockBytes.{Data, Index, Write as ModelWrite, zeros_write, with_zeros as model_zeros}
use Rattle.foyer_format_layout.proofs.BlockBytesLaws.{with_zeros-append}
use Rattle.foyer_core_model.specs.Position.{Part, BlockLayout, records_in, records_of}
use Rattle.foyer_core_model.specs.Flush.{writing_of}
use Rattle.foyer_core_model.specs.Layout.{writes_in}
use Rattle.foyer_core_model.specs.Record as model_record
use Rattle.foyer_core_model.specs.Rules.{Rules}
use Rattle.foyer_core_model.specs.State as model_state
use Rattle.foyer_core_layout.specs.Bridge.{AreEntriesOf, ArePartsAs, AreBlocksAs}
use Rattle.foyer_core_layout.specs.Splits.{AreRules, AllEndBy, LiesWithin}
use Rattle.foyer_core_blocks.specs.Content.{Content, Meaning, content_of}
use Rattle.foyer_core_blocks.specs.Settings.{Settings}
use Rattle.foyer_core_blocks.specs.Addresses.{mark_of, invalid_of}
use Rattle.foyer_core_flusher.specs.BlockIssued.{IsIssued}
use Rattle.foyer_core_flusher.specs.Flushing.{AreFrom, AreEntering, AreWriting, IsBatchAs}
use Rattle.foyer_core_flusher.specs.Issuing.{entering, entering_of, with_zeros, writes_of, write_of}
use Rattle.foyer_core_flusher.specs.declared.batch.WriteBytes.TheVariants as written
use Rattle.foyer_core_flusher.specs.Issued.{padded, source_in, WritesAs, IssuesFirst}
use Rattle.foyer_core_flusher.specs.declared.batch.Batch.{Batch}
use Rattle.foyer_core_flusher.specs.declared.batch.Write.{Write}
use Rattle.foyer_core_flusher.specs.declared.batch.Writing.{Writing}

entering-join : (es fs : List HashedEntryAddress) (ps qs : List (ℕ × model_record.Record Content)) → AreEntering es ps → AreEntering fs qs → AreEntering (es ++ fs) (ps ++ qs)
entering-join [] fs [] qs a b = b
entering-join [] fs (p ∷ ps) qs a b = absurd a
entering-join (e ∷ es) fs [] qs a b = absurd a
entering-join (e ∷ es) fs (p ∷ ps) qs a b = (a.0, a.1, a.2, a.3, entering-join es fs ps qs a.4 b)

-- as many enter as there are
entering_count : (es : List HashedEntryAddress) (ps : List (ℕ × model_record.Record Content)) → AreEntering es ps → length es ≡ length (map (λ p. p.1) ps)
entering_count [] [] are = refl
entering_count [] (p ∷ ps) are = absurd are
entering_count (e ∷ es) [] are = absurd are
entering_count (e ∷ es) (p ∷ ps) are = ap (λ n. suc n) (entering_count es ps are.4)

-- the first of them have the first sources, and the others the others
from_front : (os : List (Option EntryAddress)) (rs ts : List (model_record.Record Content)) → AreFrom os (rs ++ ts) → AreFrom (padded (length rs) os) rs
from_front os [] ts from = tt
from_front [] (r ∷ rs) ts from = absurd from
from_front (o ∷ os) (r ∷ rs) ts from = (from.0, from_front os rs ts from.1)

from_back : (os : List (Option EntryAddress)) (rs ts : List (model_record.Record Content)) → AreFrom os (rs ++ ts) → AreFrom (drop (length rs) os) ts
from_back os [] ts from = from
from_back [] (r ∷ rs) ts from = absurd from
from_back (o ∷ os) (r ∷ rs) ts from = from_back os rs ts from.1

-- the records of one part
part_enters : (base : ℕ) (es : List BlobEntryIndex) (ps : List (ℕ × model_record.Record Content)) → AreEntriesOf base es ps → AreEntering (map (entering base) es) ps
part_enters base [] [] are = tt
part_enters base [] (p ∷ ps) are = absurd are
part_enters base (e ∷ es) [] are = absurd are
part_enters base (e ∷ es) (p ∷ ps) are = (sym are.1, sym are.2, sym are.0, sym are.3, part_enters base es ps are.4)

module _ {A : Type 0} where
  pub enters : (ps : List (BlobPart A)) (qs : List (Part Content)) → ArePartsAs ps qs → AreEntering (entering_of ps) (records_in qs)
  enters [] [] are = tt
  enters [] (q ∷ qs) are = absurd are
  enters (p ∷ ps) [] are = absurd are
  enters (p ∷ ps) (q ∷ qs) are =
      entering-join (map (entering p.blob_block_offset) p.indices.items) (entering_of ps) q.records (records_in qs)
      (part_enters p.blob_block_offset p.indices.items q.records (are.0).records) (enters ps qs are.1)

  -- zeros behind data are the model's
  zeros_as : (n o : ℕ) (ws : List (Write A)) → map write_of (with_zeros n o ws) ≡ model_zeros n o (map write_of ws)
  zeros_as n o ws = go (nat_le (o + 4096) n)
    where
      go : (b : Bool) → map write_of (if b then record { offset = o; bytes = written.Zeros } ∷ ws else ws) ≡ (if b then zeros_write o ∷ map write_of ws else map write_of ws)
      go true = refl
      go false = refl

  pub writes_are : (rules : Rules Content) (ps : List (BlobPart A)) (qs : List (Part Content)) → AreRules rules → ArePartsAs ps qs
      → map write_of (writes_of rules.block_size ps) ≡ writes_in rules qs
  writes_are rules [] [] rule are = refl
  writes_are rules [] (q ∷ qs) rule are = absurd are
  writes_are rules (p ∷ ps) [] rule are = absurd are
  writes_are rules (p ∷ ps) (q ∷ qs) rule are =
      let one = are.0 in
      let offset : p.blob_block_offset + p.part_blob_offset ≡ q.blob + q.at = omega (arith, one.blob, one.at) in
      let n = rules.block_size in
      let rest : map write_of (writes_of n ps) ≡ writes_in rules qs = writes_are rules ps qs rule are.1 in
      ap (λ ws. data_at (p.blob_block_offset + p.part_blob_offset) (bytes_of p.part_data) ∷ ws)
      (zeros_as n (p.blob_block_offset + p.part_blob_offset + length (bytes_of p.part_data)) (record { offset = p.blob_block_offset; bytes = written.Index p.index } ∷ writes_of n ps))
      ∙ ap (λ ws. all_at n (p.blob_block_offset + p.part_blob_offset) (bytes_of p.part_data) p.blob_block_offset p.index ws) rest
      ∙ ap (λ k. all_at n k (bytes_of p.part_data) p.blob_block_offset p.index (writes_in rules qs)) offset
      ∙ ap (λ bs. all_at n (q.blob + q.at) bs p.blob_block_offset p.index (writes_in rules qs)) (sym one.content)
      ∙ ap (λ k. all_at n (q.blob + q.at) q.content k p.index (writes_in rules qs)) (sym one.blob)
      ∙ ap (λ bs. all_at n (q.blob + q.at) q.content q.blob bs (writes_in rules qs)) (sym one.index)
      ∙ sym (ap (λ ws. data_at (q.blob + q.at) q.content ∷ ws) (with_zeros-append n (q.blob + q.at + length q.content) (index_at q.blob q.index ∷ []) (writes_in rules qs)))
      ∙ ap (λ ws. ws ++ writes_in rules qs) (sym (rule.writes q))
    where
      data_at : ℕ → List ℕ → ModelWrite
      data_at offset bytes = record { role = Data; offset = offset; bytes = bytes }

      index_at : ℕ → List ℕ → ModelWrite
      index_at offset bytes = record { role = Index; offset = offset; bytes = bytes }

      all_at : (n begin : ℕ) → List ℕ → (blob : ℕ) → List ℕ → List ModelWrite → List ModelWrite
      all_at n begin bytes blob index ws = data_at begin bytes ∷ model_zeros n (begin + length bytes) (index_at blob index ∷ ws)

  writing_as : (s : Settings) (b : ℕ) (ps : List (BlobPart A)) (first : Block A) (sources : List (Option EntryAddress)) (issued : List (Write A)) (ws : List ModelWrite) (records : List (ℕ × model_record.Record Content)) (w : Option (Writing A))
      → b < s.blocks → map write_of issued ≡ ws → first.blob_parts.items ≡ ps → AreEntering (entering_of ps) records → AreFrom (padded (length (entering_of ps)) sources) (map (λ p. p.1) records) → AllEndBy s.block_size records
      → WritesAs b issued first sources w → AreWriting s w (writing_of b ws records)
  writing_as s b ps first sources issued [] records None there are same enters from within writes = tt
  writing_as s b ps first sources issued (x ∷ xs) records None there are same enters from within writes =
      let count : length (map write_of issued) ≡ length issued = length-map issued write_of in
      let some : length (map write_of issued) ≡ length (x ∷ xs) = ap length are in
      absurd (omega arith)
  writing_as s b ps first sources issued [] records (Some w) there are same enters from within writes =
      let count : length (map write_of issued) ≡ length issued = length-map issued write_of in
      let none : length (map write_of issued) ≡ 0 = ap length are in
      let some : 0 < w.left = writes.2 in
      let left : w.left ≡ length issued = writes.1 in
      absurd (omega arith)
  writing_as s b ps first sources issued (x ∷ xs) records (Some w) there are same enters from within writes =
      let count : length (map write_of issued) ≡ length issued = length-map issued write_of in
      let some : length (map write_of issued) ≡ length (x ∷ xs) = ap length are in
      let left : w.left ≡ length issued = writes.1 in
      let is : entering_of ps ≡ w.records.items = ap entering_of (sym same) ∙ sym writes.3 in
      record {
        records = subst (λ es. AreEntering es records) is enters;
        given = subst (λ os. AreFrom os (map (λ p. p.1) records)) (ap (λ (bs : List (BlobPart A)). padded (length (entering_of bs)) sources) (sym same) ∙ sym writes.4) from;
        within = within;
        block = sym writes.0;
        there = subst (λ k. k < s.blocks) (sym writes.0) there;
        left = omega arith;
        some = writes.2;
      }

  module _ {K V P : Type 0} (m : Meaning K V P) (rules : Rules Content) (s : Settings) (own : Option ℕ) (b : ℕ) (old new : Batch K V P A) (issued : List (Write A))
      (it : model_state.Batch Content) (rule : AreRules rules) (small : s.block_size ≤ 2 ^ 32) (there : b < s.blocks) (stands : IsBatchAs m s own old it)
      (is : IssuesFirst b rules.block_size old new issued) where
    first_issued : (layouts : List (BlockLayout Content)) → it.blocks ≡ layouts → AreBlocksAs (parts_of is.first ∷ map parts_of is.rest) layouts
        → Each (LiesWithin s.block_size) layouts → AreFrom old.sources.items (records_of layouts) → IsIssued m rules s b issued new it
    first_issued [] same are within given = absurd are
    first_issued (layout ∷ rest) same are within given =
        let entered : AreEntering (entering_of (is.first).blob_parts.items) (records_in layout.parts) =
        enters (is.first).blob_parts.items layout.parts are.0 in
        let count : length (map (λ p. p.1) (records_in layout.parts)) ≡ length (entering_of (is.first).blob_parts.items) = sym (entering_count (entering_of (is.first).blob_parts.items) (records_in layout.parts) entered) in
        let writes : map write_of issued ≡ writes_in rules layout.parts =
        ap (map write_of) is.writes ∙ writes_are rules (is.first).blob_parts.items layout.parts rule are.0 in
        record {
          spread = layout;
          rest = rest;
          first = same;
          writes = writes;
          it = record {
            blocks = subst (λ (bs : List (Block A)). AreBlocksAs (map parts_of bs) rest) (sym is.left) are.1;
            within = within.1;
            given = subst (λ os. AreFrom os (records_of rest)) (ap (λ n. drop n old.sources.items) count ∙ sym is.sources)
                (from_back old.sources.items (map (λ p. p.1) (records_in layout.parts)) (records_of rest) given);
            continues_own_block = sym is.continues_own_block;
            owned = λ e. tt;
            writing = writing_as s b (is.first).blob_parts.items is.first old.sources.items issued (writes_in rules layout.parts) (records_in layout.parts) new.writing there writes refl
                entered (subst (λ n. AreFrom (padded n old.sources.items) (map (λ p. p.1) (records_in layout.parts))) count
                (from_front old.sources.items (map (λ p. p.1) (records_in layout.parts)) (records_of rest) given)) (within.0).records is.writing;
            marks = stands.marks ∙ ap (λ v. map mark_of v.items) (sym is.marks);
            invalidated = stands.invalidated ∙ ap (λ v. map invalid_of v.items) (sym is.invalid);
            pieces = stands.pieces ∙ ap (λ v. map (content_of m) v.items) (sym is.pieces);
            waits = stands.waits ∙ ap (λ v. v.items) (sym is.waits);
            logged = stands.logged ∙ sym is.logged;
          };
        }

    pub issues_as_model : IsIssued m rules s b issued new it
    issues_as_model = first_issued it.blocks refl (subst (λ (bs : List (Block A)). AreBlocksAs (map parts_of bs) it.blocks) is.blocks stands.blocks) stands.within stands.given

pub head_of : {X : Type 0} (items : List X) (x : X) → (items ≡ [] → ⊥) → x ≡ get_or items 0 x → (rest : List X) × (items ≡ x ∷ rest)
head_of [] x some is = absurd (some refl)
head_of (y ∷ ys) x some is = (ys, ap (λ z. z ∷ ys) (sym is))

pub first_is : {X : Type 0} (items : List X) (first : X) (rest : List X) (x : X) → items ≡ first ∷ rest → x ≡ get_or items 0 x → x ≡ first
first_is items first rest x same is = is ∙ ap (λ l. get_or l 0 x) same

pub writes_as : {A : Type 0} (block : ℕ) (issued : List (Write A)) (first : Block A) (before : List (Option EntryAddress)) (n : ℕ) (records : Vec HashedEntryAddress A) (sources : Vec (Option EntryAddress) A)
    (w : Option (Writing A)) → n ≡ length issued
    → records.items ≡ entering_of first.blob_parts.items → sources.items ≡ padded (length (entering_of first.blob_parts.items)) before
    → MatchOption w (n ≡ 0) (λ v. (v.block ≡ block) × (v.left ≡ n) × (0 < n) × (v.records ≡ records) × (v.sources ≡ sources)) → WritesAs block issued first before w
writes_as block issued first before n records sources None count are from is = sym count ∙ is
writes_as block issued first before n records sources (Some w) count are from is =
    let left : w.left ≡ n = is.1 in
    let some : 0 < n = is.2 in
    (is.0, left ∙ count, omega arith, ap (λ v. v.items) is.3 ∙ are, ap (λ v. v.items) is.4 ∙ from)

-- the sources that a block takes are as many as its records
pub padded_count : (n : ℕ) (os : List (Option EntryAddress)) → length (padded n os) ≡ n
padded_count zero os = refl
padded_count (suc n) [] = ap (λ k. suc k) (padded_count n [])
padded_count (suc n) (o ∷ os) = ap (λ k. suc k) (padded_count n os)

-- the next of them is the source at the place
pub padded_next : (n i : ℕ) (os : List (Option EntryAddress)) → i < n → padded (n - i) (drop i os) ≡ source_in os i ∷ padded (n - (i + 1)) (drop (i + 1) os)
padded_next n i os lt =
    let more : n - i ≡ suc (n - (i + 1)) = omega arith in
    let next : suc i ≡ i + 1 = omega arith in
    ap (λ k. padded k (drop i os)) more ∙ subst (λ k. padded (suc (n - (i + 1))) (drop i os) ≡ source_in os i ∷ padded (n - (i + 1)) (drop k os)) next (go os i (n - (i + 1)))
  where
    go : (xs : List (Option EntryAddress)) (k left : ℕ) → padded (suc left) (drop k xs) ≡ source_in xs k ∷ padded left (drop (suc k) xs)
    go [] zero left = refl
    go [] (suc k) left = refl
    go (x ∷ xs) zero left = refl
    go (x ∷ xs) (suc k) left = go xs k left

pub put_behind : {X : Type 0} (xs : List X) (y : X) (ys : List X) → xs ++ y ∷ ys ≡ (xs ++ y ∷ []) ++ ys
put_behind [] y ys = refl
put_behind (x ∷ xs) y ys = ap (λ l. x ∷ l) (put_behind xs y ys)

-- the source that a place has, or hasn't
pub source_some : (os : List (Option EntryAddress)) (k : ℕ) (x : Option EntryAddress) → k < length os → x ≡ get_or os k x → x ≡ source_in os k
source_some [] k x lt is = absurd (omega arith)
source_some (o ∷ os) zero x lt is = is
source_some (o ∷ os) (suc k) x lt is = source_some os k x (omega arith) is

pub source_none : (os : List (Option EntryAddress)) (k : ℕ) → (k < length os → ⊥) → None ≡ source_in os k
source_none [] k lacks = refl
source_none (o ∷ os) zero lacks = absurd (lacks (omega arith))
source_none (o ∷ os) (suc k) lacks = source_none os k (λ lt. lacks (omega arith))

-- the writes of one part come before those of the others
pub writes_more : {A : Type 0} (n : ℕ) (p : BlobPart A) (ps : List (BlobPart A)) → writes_of n (p ∷ []) ++ writes_of n ps ≡ writes_of n (p ∷ ps)
writes_more {A} n p ps = go (nat_le (p.blob_block_offset + p.part_blob_offset + length (bytes_of p.part_data) + 4096) n)
  where
    first : Write A
    first = record { offset = p.blob_block_offset + p.part_blob_offset; bytes = written.Data p.part_data }

    zeros : Write A
    zeros = record { offset = p.blob_block_offset + p.part_blob_offset + length (bytes_of p.part_data); bytes = written.Zeros }

    index : Write A
    index = record { offset = p.blob_block_offset; bytes = written.Index p.index }

    go : (b : Bool) → (first ∷ (if b then zeros ∷ index ∷ [] else index ∷ [])) ++ writes_of n ps ≡ first ∷ (if b then zeros ∷ index ∷ writes_of n ps else index ∷ writes_of n ps)
    go true = refl
    go false = refl

pub none_left : {X : Type 0} (xs : List X) → length xs ≡ 0 → xs ≡ []
none_left [] none = refl
none_left (x ∷ xs) none = absurd (omega arith)
