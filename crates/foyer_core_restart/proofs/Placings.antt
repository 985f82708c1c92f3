-- The splitter's relation keeps records, and whatever it places has blocks of the model.
use Rattle.std.proofs.Common.{◌≡◌, ◌≢◌, ℕ, ◌+◌, ◌≤◌, List, [], ◌∷◌, ◌++◌, length, map, refl, sym, ap, subst, ◌∙◌, arith}
use Rattle.std.proofs.lemmas.List.{append-nil, map-append}
use Rattle.foyer_format_layout.proofs.EachLaws.{each_join}
use Rattle.foyer_format_layout.specs.Position.{Sizes, fresh, next_blob, MayWrite}
use Rattle.foyer_format_layout.specs.Each.{Each}
use Rattle.foyer_device_page.specs.Section.{Section, bytes_of}
use Rattle.foyer_format_layout.specs.Page.{page_up}
use Rattle.foyer_format_blob.specs.declared.blob.BlobEntryIndex.{BlobEntryIndex}
use Rattle.foyer_format_buffer.specs.Position as laid
use Rattle.foyer_format_buffer.specs.Fills as fills
use Rattle.foyer_format_buffer.specs.Fills.{AreSizes, Fills, Blocks, IsLaid}
use Rattle.foyer_format_buffer.specs.Fills.Fills.{stays, part, blob}
use Rattle.foyer_format_buffer.specs.Fills.Blocks.{last, more}
use Rattle.foyer_format_buffer.specs.Layout.{parts_of}
use Rattle.foyer_format_buffer.specs.Stored as stands
use Rattle.foyer_format_buffer.specs.declared.BufferEntryInfo.{BufferEntryInfo}
use Rattle.foyer_format_buffer.specs.declared.split.BlobPart.{BlobPart}
use Rattle.foyer_format_buffer.proofs.FillsLemmas.{fills_laid, part_records}
use Rattle.foyer_format_buffer.proofs.NestingLemmas as nesting
use Rattle.foyer_format_buffer.proofs.SplitLemmas.{taken-append, taken_cons}
use Rattle.foyer_format_buffer.proofs.StoredLemmas.{stored_none, stored_cons}
use Rattle.foyer_core_model.specs.Record.{IndexEntry, Record}
use Rattle.foyer_format_layout.specs.BlockBytes.{AllWithin, all_laid}
use Rattle.foyer_core_model.specs.Position.{Position, Part, BlockLayout, records_in, records_of, last_end}
use Rattle.foyer_core_model.specs.Rules.{Rules, HasRoundTrip, first_position, sizes_of}
use Rattle.foyer_core_model.specs.Laws.{Demands}
use Rattle.foyer_core_model.specs.Layout as model
use Rattle.foyer_core_model.specs.Layout.{writes_in, KeepsRecords}
use Rattle.foyer_core_restart.specs.Entries.{entry_in, filled_to, stored}
use Rattle.foyer_core_restart.specs.Real.{IsSamePart, AreSameParts, AreSpread, IsFormat, IsReal}
use Rattle.foyer_core_restart.specs.Splits.{AreBuffered, AreSameBlocks, IsRealSplit, SplitIsReal, RealRestartLaw, RealIdleLaw}
use Rattle.foyer_core_restart.proofs.Tasks.{writes_of, writes_cons, same_writes, same_records}
use Rattle.foyer_core_restart.proofs.Law.{restart_law_lem, idle_law_lem}

-- records that stand, in the model's words

stand_is : {C : Type 0} (g : ℕ → ℕ) (ps : List (ℕ × Record C)) → stands.AllStand g (map stored ps) → model.AllStand g ps
stand_is g [] h = tt
stand_is g (p ∷ ps) h = (h.0, stand_is g ps h.1)

outside_is : {C : Type 0} (page : ℕ → ℕ) (P : ℕ → Type 0) (ps : List (ℕ × Record C)) → ((n : ℕ) → page n ≡ page_up n) → stands.AllOutside P (map stored ps) → model.AllOutside page P ps
outside_is page P [] pages h = tt
outside_is page P (p ∷ ps) pages h = (λ o l m. let e : page (length (p.1).bytes) ≡ page_up (length (p.1).bytes) = pages (length (p.1).bytes) in h.0 o l (omega arith), outside_is page P ps pages h.1)

behind_is : {C : Type 0} (n : ℕ) (ps : List (ℕ × Record C)) → Each (λ r. n ≤ r.offset) (map stored ps) → model.AllBehind n ps
behind_is n [] h = tt
behind_is n (p ∷ ps) h = (h.0, behind_is n ps h.1)

-- each record stands behind the first index

stored_behind : (now : List BufferEntryInfo) (n base at0 at : ℕ) (D : List ℕ) → n ≤ at → Each (λ r. n ≤ r.offset) (stands.stored_at base at0 D (laid.entries_from at now))
stored_behind [] n base at0 at D le = subst (Each (λ r. n ≤ r.offset)) (sym (stored_none base at0 at D)) tt
stored_behind (i ∷ is) n base at0 at D le =
    subst (Each (λ r. n ≤ r.offset)) (sym (stored_cons base at0 at D i is)) (omega arith, stored_behind is n base at0 (at + page_up i.len) D (omega arith))

module _ {A : Type 0} (s : Sizes) (w : Section) where
  fills_behind : (start : ℕ) (f : laid.Position) (infos : List BufferEntryInfo) (parts : List (BlobPart A)) (g : laid.Position) → s.index ≤ f.at → Fills s w start f infos parts g
      → Each (λ r. s.index ≤ r.offset) (fills.records_in parts)
  fills_behind start f infos parts g past (stays) = tt
  fills_behind start f infos parts g past (blob full fill) = fills_behind start (next_blob s f) infos parts g (omega arith) fill
  fills_behind start f infos parts g past (part {now = now} {rest = rest} {p = p} {parts = others} is fill) =
      each_join (λ r. s.index ≤ r.offset) (stands.stored_at p.blob_block_offset p.part_blob_offset (bytes_of p.part_data) p.indices.items) (fills.records_in others)
      (subst (Each (λ r. s.index ≤ r.offset)) (sym (part_records s w start f now p is)) (stored_behind now s.index f.blob f.at f.at (bytes_of p.part_data) past))
      (fills_behind (start + laid.taken now) (laid.with_records f now) rest others g (omega arith) fill)

module _ (A : Type 0) {C : Type 0} (rules : Rules C) (format : IsFormat rules) where
  writes_are : (parts : List (Part C)) → writes_in rules parts ≡ writes_of rules.block_size parts
  writes_are [] = refl
  writes_are (p ∷ ps) = (λ i. format.writes p i ++ writes_are ps i) ∙ writes_cons rules.block_size p ps

  -- what goes into one block keeps its records
  block_placed : (w : Section) (start : ℕ) (f : Position) (now : List BufferEntryInfo) (b : BlockLayout C) (parts : List (BlobPart A)) → rules.index_size ≤ f.at → start + laid.taken now ≤ length (bytes_of w)
      → Fills (sizes_of rules) w start (filled_to f) now parts (filled_to b.end) → AreSameParts b.parts parts → model.KeepsBlock rules f b
  block_placed w start f now b parts past room fill same =
      let lies : IsLaid (sizes_of rules) w start (filled_to f) now parts (filled_to b.end) = fills_laid (sizes_of rules) w start (filled_to f) now parts (filled_to b.end) past room fill in
      record {
        within = subst (AllWithin (MayWrite rules.index_size f)) (sym (writes_are b.parts))
            (subst (AllWithin (MayWrite rules.index_size f)) (sym (same_writes rules.block_size b.parts parts same)) lies.within);
        shrinks = lies.shrinks;
        stand = λ g. subst (λ k. model.AllStand k (records_in b.parts)) (sym (ap (λ ws. all_laid ws g) (writes_are b.parts) ∙ ap (λ ws. all_laid ws g) (same_writes rules.block_size b.parts parts same)))
            (stand_is (all_laid (fills.writes_of rules.block_size parts) g) (records_in b.parts) (subst (stands.AllStand (all_laid (fills.writes_of rules.block_size parts) g)) (sym (same_records b.parts parts same)) (lies.stand g)));
        outside = outside_is rules.page_up (MayWrite rules.index_size b.end) (records_in b.parts) format.pages
            (subst (stands.AllOutside (MayWrite rules.index_size (filled_to b.end))) (sym (same_records b.parts parts same)) lies.outside);
        behind = behind_is rules.index_size (records_in b.parts) (subst (Each (λ r. rules.index_size ≤ r.offset)) (sym (same_records b.parts parts same)) (fills_behind (sizes_of rules) w start (filled_to f) now parts (filled_to b.end) past fill));
      }

  all_placed : (w : Section) (start : ℕ) (f : Position) (infos : List BufferEntryInfo) (blocks : List (BlockLayout C)) → rules.index_size ≤ f.at → start + laid.taken infos ≤ length (bytes_of w)
      → AreSpread A (sizes_of rules) w start (filled_to f) infos blocks → model.KeepsBlocks rules f blocks
  all_placed w start f infos [] past room spread = tt
  all_placed w start f infos (b ∷ bs) past room (now, later, parts, all, fill, same, rest) =
      let sum : laid.taken infos ≡ laid.taken now + laid.taken later = ap laid.taken all ∙ taken-append now later in (
        block_placed w start f now b parts past (omega arith) fill same,
        all_placed w (start + laid.taken now) (first_position rules) later bs (omega arith) (omega arith) rest,
      )

  -- the splitter's relation keeps records
  pub keeps_records : KeepsRecords rules (IsRealSplit A rules)
  keeps_records f records blocks k = record { some = k.some; all = k.all; placed = all_placed k.whole 0 f k.infos blocks k.past (let l : laid.taken k.infos ≤ length (bytes_of k.whole) = k.buffer.room in omega arith) k.spread }

  pub is_real : IsReal A rules (IsRealSplit A rules)
  is_real = record {
    format = format;
    places = λ f records blocks fit k. record { whole = k.whole; start = 0; infos = k.infos; room = (let l : laid.taken k.infos ≤ length (bytes_of k.whole) = k.buffer.room in omega arith); each = k.buffer.each; spread = k.spread };
  }

  -- whatever the splitter places has blocks of the model

  split_buffered : (W : List ℕ) (start : ℕ) (now rest : List BufferEntryInfo) (records : List (Record C)) → AreBuffered W start (now ++ rest) records
      → (front : List (Record C)) × (back : List (Record C)) × (records ≡ front ++ back) × AreBuffered W start now front × AreBuffered W (start + laid.taken now) rest back
  split_buffered W start [] rest records are = ([], records, refl, tt, subst (λ n. AreBuffered W n rest records) (omega (arith, Rattle.foyer_format_buffer.proofs.SplitLemmas.taken_none)) are)
  split_buffered W start (i ∷ is) rest [] are = absurd are
  split_buffered W start (i ∷ is) rest (r ∷ rs) are =
      let k : (front : List (Record C)) × (back : List (Record C)) × (rs ≡ front ++ back) × AreBuffered W (start + page_up i.len) is front × AreBuffered W (start + page_up i.len + laid.taken is) rest back =
      split_buffered W (start + page_up i.len) is rest rs are.3 in
      (r ∷ k.0, k.1, ap (λ l. r ∷ l) k.2, (are.0, are.1, are.2, k.3), subst (λ n. AreBuffered W n rest k.1) (omega (arith, taken_cons i is)) k.4)

  -- records at the places where the splitter has put them
  placed_at : List stands.Stored → List (Record C) → List (ℕ × Record C)
  placed_at [] rs = []
  placed_at (x ∷ xs) [] = []
  placed_at (x ∷ xs) (r ∷ rs) = (x.offset, r) ∷ placed_at xs rs

  placed_are : (W : List ℕ) (start : ℕ) (is : List BufferEntryInfo) (xs : List stands.Stored) (rs : List (Record C)) → stands.AreRecords W start is xs → AreBuffered W start is rs
      → (map stored (placed_at xs rs) ≡ xs) × (map (λ (p : ℕ × Record C). p.1) (placed_at xs rs) ≡ rs)
  unfolding placed_at
  placed_are W start [] [] [] a b = (refl, refl)
  placed_are W start [] [] (r ∷ rs) a b = absurd b
  placed_are W start [] (x ∷ xs) rs a b = absurd a
  placed_are W start (i ∷ is) [] rs a b = absurd a
  placed_are W start (i ∷ is) (x ∷ xs) [] a b = absurd b
  placed_are W start (i ∷ is) (x ∷ xs) (r ∷ rs) a b =
      let k : (map stored (placed_at xs rs) ≡ xs) × (map (λ (p : ℕ × Record C). p.1) (placed_at xs rs) ≡ rs) = placed_are W (start + page_up i.len) is xs rs a.4 b.3 in (
        λ j. record { hash = (b.0 ∙ sym a.0) j; sequence = (b.1 ∙ sym a.1) j; offset = x.offset; bytes = (b.2 ∙ sym a.2) j } ∷ k.0 j,
        ap (λ l. r ∷ l) k.1,
      )

  fills_parts : (w : Section) (start : ℕ) (f : laid.Position) (infos : List BufferEntryInfo) (parts : List (BlobPart A)) (g : laid.Position) (records : List (Record C)) → rules.index_size ≤ f.at → start + laid.taken infos ≤ length (bytes_of w)
      → Fills (sizes_of rules) w start f infos parts g → AreBuffered (bytes_of w) start infos records
      → (qs : List (Part C)) × AreSameParts qs parts × (map (λ (p : ℕ × Record C). p.1) (records_in qs) ≡ records)
  fills_parts w start f infos parts g [] past room (stays) are = ([], tt, refl)
  fills_parts w start f infos parts g (r ∷ rs) past room (stays) are = absurd are
  fills_parts w start f infos parts g records past room (blob full fill) are = fills_parts w start (next_blob (sizes_of rules) f) infos parts g records (omega arith) room fill are
  fills_parts w start f infos parts g records past room (part {now = now} {rest = rest} {p = p} {parts = others} is fill) are =
      go (λ back room are. fills_parts w (start + laid.taken now) (laid.with_records f now) rest others g back (omega arith) room fill are)
    where
      total : laid.taken (now ++ rest) ≡ laid.taken now + laid.taken rest
      total = taken-append now rest

      cut : (front : List (Record C)) × (back : List (Record C)) × (records ≡ front ++ back) × AreBuffered (bytes_of w) start now front × AreBuffered (bytes_of w) (start + laid.taken now) rest back
      cut = split_buffered (bytes_of w) start now rest records are

      near : start + laid.taken (now ++ []) ≤ length (bytes_of w)
      near = subst (λ l. start + laid.taken l ≤ length (bytes_of w)) (sym (append-nil now)) (omega (arith, total))

      xs : List stands.Stored
      xs = stands.stored_at p.blob_block_offset p.part_blob_offset (bytes_of p.part_data) p.indices.items

      known : stands.AreRecords (bytes_of w) start now xs
      known = subst (λ l. stands.AreRecords (bytes_of w) start l xs) (append-nil now) (subst (stands.AreRecords (bytes_of w) start (now ++ [])) (append-nil xs)
          (fills_laid (sizes_of rules) w start f (now ++ []) (p ∷ []) (laid.with_records f now) past near (part is stays)).records)

      own : (map stored (placed_at xs cut.0) ≡ xs) × (map (λ (p : ℕ × Record C). p.1) (placed_at xs cut.0) ≡ cut.0)
      own = placed_are (bytes_of w) start now xs cut.0 known cut.3

      q : Part C
      q = record { blob = p.blob_block_offset; at = p.part_blob_offset; content = bytes_of p.part_data; index = p.index; records = placed_at xs cut.0 }

      same : IsSamePart q p
      same = record { blob = refl; at = refl; content = refl; index = refl; records = own.0 }

      go : ((back : List (Record C)) → start + laid.taken now + laid.taken rest ≤ length (bytes_of w) → AreBuffered (bytes_of w) (start + laid.taken now) rest back
          → (qs : List (Part C)) × AreSameParts qs others × (map (λ (p : ℕ × Record C). p.1) (records_in qs) ≡ back))
          → (qs : List (Part C)) × AreSameParts qs (p ∷ others) × (map (λ (p : ℕ × Record C). p.1) (records_in qs) ≡ records)
      go rec =
          let later : (qs : List (Part C)) × AreSameParts qs others × (map (λ (p : ℕ × Record C). p.1) (records_in qs) ≡ cut.1) = rec cut.1 (omega (arith, total)) cut.4 in
          (q ∷ later.0, (same, later.1), map-append (λ (p : ℕ × Record C). p.1) q.records (records_in later.0) ∙ (λ i. own.1 i ++ later.2 i) ∙ sym cut.2)

  -- a filling of the model
  index_entry : BlobEntryIndex → IndexEntry
  index_entry e = record { hash = e.hash; sequence = e.sequence; offset = e.offset; len = e.len }

  entries_back : (es : List BlobEntryIndex) → map entry_in (map index_entry es) ≡ es
  unfolding index_entry
  entries_back [] = refl
  entries_back (e ∷ es) = ap (λ l. e ∷ l) (entries_back es)

  filling_from : laid.Position → Position
  filling_from g = record { blob = g.blob; at = g.at; listed = map index_entry g.listed }

  filling_back : (g : laid.Position) → filled_to (filling_from g) ≡ g
  unfolding filling_from
  filling_back g = λ i. record { blob = g.blob; at = g.at; listed = entries_back g.listed i }

  blocks_spread : (w : Section) (start : ℕ) (f : laid.Position) (infos : List BufferEntryInfo) (partss : List (List (BlobPart A))) (g : laid.Position) (records : List (Record C)) (from : Position) → rules.index_size ≤ f.at → start + laid.taken infos ≤ length (bytes_of w)
      → Blocks (sizes_of rules) w start f infos partss g → AreBuffered (bytes_of w) start infos records
      → (bs : List (BlockLayout C)) × AreSameBlocks bs partss × AreSpread A (sizes_of rules) w start f infos bs × (records_of bs ≡ records) × (bs ≢ []) × (filled_to (last_end from bs) ≡ g)
  blocks_spread w start f infos partss g records from past room (last {parts = parts} fill) are =
      let k : (qs : List (Part C)) × AreSameParts qs parts × (map (λ (p : ℕ × Record C). p.1) (records_in qs) ≡ records) = fills_parts w start f infos parts g records past room fill are in (
        record { parts = k.0; end = filling_from g } ∷ [],
        (k.1, tt),
        (infos, [], parts, sym (append-nil infos), subst (Fills (sizes_of rules) w start f infos parts) (sym (filling_back g)) fill, k.1, tt),
        append-nil (map (λ (p : ℕ × Record C). p.1) (records_in k.0)) ∙ k.2,
        λ e. cc,
        filling_back g,
      )
  blocks_spread w start f infos partss g records from past room (more {h = h} {now = now} {rest = rest} {parts = parts} {blocks = blocks} fill others) are =
      let total : laid.taken (now ++ rest) ≡ laid.taken now + laid.taken rest = taken-append now rest in
      let cut : (front : List (Record C)) × (back : List (Record C)) × (records ≡ front ++ back) × AreBuffered (bytes_of w) start now front × AreBuffered (bytes_of w) (start + laid.taken now) rest back = split_buffered (bytes_of w) start now rest records are in
      let k : (qs : List (Part C)) × AreSameParts qs parts × (map (λ (p : ℕ × Record C). p.1) (records_in qs) ≡ cut.0) = fills_parts w start f now parts h cut.0 past (omega arith) fill cut.3 in
      let l : (bs : List (BlockLayout C)) × AreSameBlocks bs blocks × AreSpread A (sizes_of rules) w (start + laid.taken now) (fresh (sizes_of rules)) rest bs × (records_of bs ≡ cut.1) × (bs ≢ []) × (filled_to (last_end (filling_from h) bs) ≡ g) =
      blocks_spread w (start + laid.taken now) (fresh (sizes_of rules)) rest blocks g cut.1 (filling_from h) (omega arith) (omega arith) others cut.4 in (
        record { parts = k.0; end = filling_from h } ∷ l.0,
        (k.1, l.1),
        (now, rest, parts, refl, subst (Fills (sizes_of rules) w start f now parts) (sym (filling_back h)) fill, k.1, l.2),
        (λ i. k.2 i ++ l.3 i) ∙ sym cut.2,
        λ e. cc,
        l.5,
      )

  pub split_is_real_lem : SplitIsReal A rules
  split_is_real_lem whole infos records f batch end past buffer placed =
      let k : (bs : List (BlockLayout C)) × AreSameBlocks bs (map parts_of batch.blocks.items) × AreSpread A (sizes_of rules) whole 0 (filled_to f) infos bs × (records_of bs ≡ records) × (bs ≢ []) × (filled_to (last_end f bs) ≡ end) =
      blocks_spread whole 0 (filled_to f) infos (map parts_of batch.blocks.items) end records f past (let l : laid.taken infos ≤ length (bytes_of whole) = buffer.room in omega arith)
      (nesting.places_nests (sizes_of rules) whole (filled_to f) end infos (map parts_of batch.blocks.items) placed.placed) buffer.are in (
        k.0,
        record { whole = whole; infos = infos; batch = batch; end = end; past = past; buffer = buffer; placed = placed; same = k.1; spread = k.2; all = k.3; some = k.4 },
        k.5,
      )

module _ (A : Type 0) {C : Type 0} (rules : Rules C) (is_value : C → Type 0) where
  demands_of : IsFormat rules → HasRoundTrip rules is_value → Demands rules (IsRealSplit A rules) is_value
  demands_of format trips = record { trips = trips; places = keeps_records A rules format }

  pub real_restart_law_lem : RealRestartLaw A rules is_value
  real_restart_law_lem format trips = restart_law_lem A rules (IsRealSplit A rules) is_value (demands_of format trips) (is_real A rules format)

  pub real_idle_law_lem : RealIdleLaw A rules is_value
  real_idle_law_lem format trips = idle_law_lem A rules (IsRealSplit A rules) is_value (demands_of format trips) (is_real A rules format)
