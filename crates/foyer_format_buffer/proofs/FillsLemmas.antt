-- What the parts of one block make of it.
use Rattle.std.proofs.Common.{◌≡◌, ℕ, ◌+◌, ◌<◌, ◌≤◌, List, ◌∷◌, ◌++◌, length, take, drop, ◌⊎◌, inl, inr, refl, sym, ap, subst, ◌∙◌, arith}
use Rattle.std.proofs.lemmas.List.{length-take-le, length-drop}
use Rattle.foyer_device_page.specs.Section.{Section, bytes_of}
use Rattle.foyer_format_layout.specs.BlockBytes.{laid, all_laid, IsBeside, Data, zeroed}
use Rattle.foyer_format_layout.specs.Each.{Each}
use Rattle.foyer_format_layout.specs.Position.{Sizes, tail_of, next_blob, MayWrite}
use Rattle.foyer_format_buffer.specs.Position.{Position, taken, entries_from, with_records}
use Rattle.foyer_format_buffer.specs.Layout.{IsPart}
use Rattle.foyer_format_buffer.specs.Fills.{data_write, index_write, writes_of, records_in, data_end, ComesBehind, Fills, IsLaid}
use Rattle.foyer_format_buffer.specs.Stored.{Stored, stored_at, AllStand, AllOutside, AreRecords}
use Rattle.foyer_format_buffer.specs.Fills.Fills.{stays, part, blob}
use Rattle.foyer_format_buffer.specs.declared.BufferEntryInfo.{BufferEntryInfo}
use Rattle.foyer_format_buffer.specs.declared.split.BlobPart.{BlobPart}
use Rattle.foyer_format_buffer.proofs.SplitLemmas.{taken-append}
use Rattle.foyer_format_layout.proofs.BlockBytesLaws.{beside_or, laid_beside, laid_outside, within_more, all_laid_zeros, zeroed_before, within_zeros}
use Rattle.foyer_format_buffer.proofs.StoredLemmas.{stand_same, outside_less, stand_join, outside_join, part_bytes, stored_stand, stored_outside, stored_records, records-append}

-- the later filling's writes fall where the former's might
pub blob_less : (s : Sizes) (f : Position) (o : ℕ) → MayWrite s.index (next_blob s f) o → MayWrite s.index f o
blob_less s f o (inl l) = inl (omega arith)
blob_less s f o (inr (l, m)) = inl (omega arith)

pub records_less : (s : Sizes) (f : Position) (now : List BufferEntryInfo) (o : ℕ) → MayWrite s.index (with_records f now) o → MayWrite s.index f o
records_less s f now o (inl l) = inl (omega arith)
records_less s f now o (inr l) = inr l

module _ {A : Type 0} where
  -- the bytes of a part
  pub part_is : (s : Sizes) (w : Section) (start : ℕ) (f : Position) (now : List BufferEntryInfo) (p : BlobPart A) → IsPart s w start f now p
      → start + taken now ≤ length (bytes_of w)
      → (bytes_of p.part_data ≡ take (taken now) (drop start (bytes_of w))) × (length (bytes_of p.part_data) ≡ taken now)
  part_is s w start f now p is within =
      let bytes : bytes_of p.part_data ≡ take (taken now) (drop start (bytes_of w)) = ap bytes_of is.content ∙ part_bytes w start (taken now) within in
      (bytes, ap length bytes ∙ length-take-le (taken now) (drop start (bytes_of w)) (omega (arith, length-drop start (bytes_of w))))

  -- its records
  pub part_records : (s : Sizes) (w : Section) (start : ℕ) (f : Position) (now : List BufferEntryInfo) (p : BlobPart A) → IsPart s w start f now p
      → stored_at p.blob_block_offset p.part_blob_offset (bytes_of p.part_data) p.indices.items ≡ stored_at f.blob f.at (bytes_of p.part_data) (entries_from f.at now)
  part_records s w start f now p is = rw (is.blob, is.at, is.indices) refl

  -- parts behind a filling come behind a part that it has already
  comes_behind : (s : Sizes) (w : Section) (start : ℕ) (p : BlobPart A) (f : Position) (infos : List BufferEntryInfo) (parts : List (BlobPart A)) (g : Position)
      → s.index ≤ f.at → data_end p ≤ tail_of f → (f.blob ≡ p.blob_block_offset) ⊎ (data_end p ≤ f.blob) → Fills s w start f infos parts g → Each (ComesBehind p) parts
  comes_behind s w start p f infos parts g past ends_at index (stays) = tt
  comes_behind s w start p f infos parts g past ends_at index (blob full fills) =
      comes_behind s w start p (next_blob s f) infos parts g (omega arith) (omega arith) (inr ends_at) fills
  comes_behind s w start p f infos parts g past ends_at index (part {now = now} {rest = rest} {p = q} {parts = more} is fills) = (
    record { content = omega (arith, is.blob, is.at, ends_at); index = there },
    comes_behind s w (start + taken now) p (with_records f now) rest more g (omega arith) (omega arith) index fills,
  )
    where
      there : (q.blob_block_offset ≡ p.blob_block_offset) ⊎ (data_end p ≤ q.blob_block_offset)
      there = elim index [ inl same ↦ inl (is.blob ∙ same) | inr less ↦ inr (omega (arith, is.blob)) ]

  pub fills_laid : (s : Sizes) (w : Section) (start : ℕ) (f : Position) (infos : List BufferEntryInfo) (parts : List (BlobPart A)) (g : Position)
      → s.index ≤ f.at → start + taken infos ≤ length (bytes_of w) → Fills s w start f infos parts g → IsLaid s w start f infos parts g
  fills_laid s w start f infos parts g past room (stays) =
      record { order = tt; within = tt; shrinks = λ o may. may; past = past; records = tt; stand = λ B. tt; outside = tt }
  fills_laid s w start f infos parts g past room (blob full fills) =
      let later : IsLaid s w start (next_blob s f) infos parts g = fills_laid s w start (next_blob s f) infos parts g (omega arith) room fills in
      record {
        order = later.order;
        within = within_more (MayWrite s.index (next_blob s f)) (MayWrite s.index f) (writes_of s.block parts) (blob_less s f) later.within;
        shrinks = λ o may. blob_less s f o (later.shrinks o may);
        past = later.past;
        records = later.records;
        stand = later.stand;
        outside = later.outside;
      }
  fills_laid s w start f infos parts g past room (part {now = now} {rest = rest} {p = p} {parts = more} is fills) =
      let later : IsLaid s w (start + taken now) (with_records f now) rest more g =
      fills_laid s w (start + taken now) (with_records f now) rest more g (omega arith) (omega (arith, taken-append now rest)) fills in
      record {
        order = (
          record { size = is.size; behind = omega (arith, is.at); within = omega (arith, is.blob, is.at, is.within, size) },
          comes_behind s w (start + taken now) p (with_records f now) rest more g (omega arith) (omega (arith, is.blob, is.at, size)) (inl (sym is.blob)) fills,
          later.order,
        );
        within = (
          in_data,
          within_zeros (MayWrite s.index f) s.block (data_end p) (index_write p ∷ writes_of s.block more) (λ o l. inl (omega (arith, is.blob, is.at, l))) (
            λ o inside. inr (in_present o inside),
            within_more (MayWrite s.index (with_records f now)) (MayWrite s.index f) (writes_of s.block more) (records_less s f now) later.within,
          ),
        );
        shrinks = λ o may. records_less s f now o (later.shrinks o may);
        past = later.past;
        records = records-append (bytes_of w) start now rest own (records_in more) known later.records;
        stand = λ B. subst (λ k. AllStand k (own ++ records_in more)) (sym (all_laid_zeros s.block (data_end p) (index_write p ∷ writes_of s.block more) (laid (data_write p) B)))
            (stand_join (all_laid (writes_of s.block more) (laid (index_write p) (before B))) own (records_in more)
            (stand_same (MayWrite s.index (with_records f now)) (laid (data_write p) B) (all_laid (writes_of s.block more) (laid (index_write p) (before B))) own
            outside (λ o out. laid_outside (MayWrite s.index (with_records f now)) (writes_of s.block more) (laid (index_write p) (before B)) o later.within out
            ∙ laid_beside (index_write p) (before B) o (beside_index o out)
            ∙ zeroed_before s.block (data_end p) (laid (data_write p) B) o (in_front o out))
            (standing B))
            (later.stand (laid (index_write p) (before B))));
        outside = outside_join (MayWrite s.index g) own (records_in more) (outside_less (MayWrite s.index (with_records f now)) (MayWrite s.index g) own later.shrinks outside) later.outside;
      }
    where
      all_taken : taken (now ++ rest) ≡ taken now + taken rest
      all_taken = taken-append now rest

      near : start + taken now ≤ length (bytes_of w)
      near = omega (arith, all_taken)

      content : bytes_of p.part_data ≡ take (taken now) (drop start (bytes_of w))
      content = (part_is s w start f now p is near).0

      size : length (bytes_of p.part_data) ≡ taken now
      size = (part_is s w start f now p is near).1

      own : List Stored
      own = stored_at p.blob_block_offset p.part_blob_offset (bytes_of p.part_data) p.indices.items

      are : own ≡ stored_at f.blob f.at (bytes_of p.part_data) (entries_from f.at now)
      are = part_records s w start f now p is

      -- its data and the zeros behind them
      before : (ℕ → ℕ) → ℕ → ℕ
      before B = zeroed s.block (data_end p) (laid (data_write p) B)

      in_front : (o : ℕ) → (MayWrite s.index (with_records f now) o → ⊥) → o < data_end p
      in_front o out =
          let low : tail_of (with_records f now) ≤ o → ⊥ = λ l. out (inl l) in
          omega (arith, is.blob, is.at, size, low)

      in_data : (o : ℕ) → (IsBeside (data_write p) o → ⊥) → MayWrite s.index f o
      in_data o inside =
          let low : o < p.blob_block_offset + p.part_blob_offset → ⊥ = λ l. inside (inl l) in
          inl (omega (arith, is.blob, is.at, low))

      in_present : (o : ℕ) → (IsBeside (index_write p) o → ⊥) → (f.blob ≤ o) × (o < f.blob + s.index)
      in_present o inside =
          let low : o < p.blob_block_offset → ⊥ = λ l. inside (inl l) in
          let high : p.blob_block_offset + length p.index ≤ o → ⊥ = λ l. inside (inr l) in
          (omega (arith, is.blob, low), omega (arith, is.blob, is.size, high))

      beside_index : (o : ℕ) → (MayWrite s.index (with_records f now) o → ⊥) → IsBeside (index_write p) o
      beside_index o out = elim (beside_or (index_write p) o) [ inl outside ↦ outside | inr inside ↦ absurd (out (inr (in_present o inside))) ]

      standing : (B : ℕ → ℕ) → AllStand (laid (data_write p) B) own
      standing B = subst (AllStand (laid (data_write p) B)) (sym are)
          (subst (λ n. AllStand (laid (record { role = Data; offset = n; bytes = bytes_of p.part_data }) B) (stored_at f.blob f.at (bytes_of p.part_data) (entries_from f.at now)))
          (omega (arith, is.blob, is.at))
          (stored_stand now (bytes_of p.part_data) f.blob f.at f.at 0 B (omega arith) (omega (arith, size))))

      outside : AllOutside (MayWrite s.index (with_records f now)) own
      outside = subst (AllOutside (MayWrite s.index (with_records f now))) (sym are)
          (stored_outside now (bytes_of p.part_data) f.blob f.at f.at 0 (MayWrite s.index (with_records f now)) (omega arith) (omega (arith, size))
          (λ o l m may. elim may [ inl far ↦ omega (arith, l, m, far) | inr close ↦ omega (arith, l, m, close.1, past) ]))

      known : AreRecords (bytes_of w) start now own
      known = subst (AreRecords (bytes_of w) start now) (sym are)
          (stored_records now (bytes_of p.part_data) (bytes_of w) f.blob f.at f.at 0 start start (taken now) (omega arith) (omega arith) content near (omega arith))
