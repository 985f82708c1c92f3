-- A split batch is a placing of the plain machine.
use Rattle.std.proofs.Common.{◌≡◌, ℕ, suc, ◌+◌, ◌-◌, ◌≤◌, List, [], ◌∷◌, ◌++◌, map, length, take, drop, refl, sym, ap, subst, ◌∙◌, arith}
use Rattle.std.proofs.lemmas.List.{length-map, map-append, length-drop, length-take-le, drop-take, drop-drop, take-take}
use Rattle.foyer_format_buffer.specs.Blob.{IsSealed}
use Rattle.foyer_format_buffer.specs.BlobEntryIndex.{BlobEntryIndex}
use Rattle.foyer_format_buffer.proofs.FillsLemmas.{part_is}
use Rattle.foyer_format_buffer.proofs.SplitLemmas.{taken-append, taken_cons, taken_none, entries_cons, entries_none}
use Rattle.foyer_format_buffer.specs.Entries.{Entry, Entries, IsFinished, IsPacked, entries_at}
use Rattle.foyer_format_layout.specs.Position.{Sizes, fresh, next_blob}
use Rattle.foyer_format_buffer.specs.Position.{taken}
use Rattle.foyer_format_buffer.specs.Position as buffered
use Rattle.foyer_format_buffer.specs.Layout as buffered_placing
use Rattle.foyer_format_buffer.specs.Layout.{IsLaidOut as IsCodeLayout, Places, parts_of}
use Rattle.foyer_format_buffer.specs.Layout.LaidOut.{part as buffered_part, none as buffered_none}
use Rattle.foyer_format_buffer.specs.Layout.Left.{done as buffered_done, blob as buffered_blob, block as buffered_block}
use Rattle.foyer_format_buffer.specs.declared.BufferEntryInfo.{BufferEntryInfo}
use Rattle.foyer_format_buffer.specs.declared.split.Batch.{Batch}
use Rattle.foyer_format_buffer.specs.declared.split.BlobPart.{BlobPart}
use Rattle.foyer_device_page.specs.Section.{Section, bytes_of}
use Rattle.foyer_format_layout.proofs.PageLaws.{page_up-holds}
use Rattle.foyer_format_layout.specs.Page.{page_up}
use Rattle.foyer_core_model.specs.Position.{Position, Part, BlockLayout, last_end}
use Rattle.foyer_core_model.specs.Receive.{bytes_taken}
use Rattle.foyer_core_model.specs.Record.{Record}
use Rattle.foyer_core_layout.specs.Bridge.{entry_of, position_of, kept_of, AreEntriesOf, IsPartAs, ArePartsAs, AreBlocksAs}
use Rattle.foyer_core_layout.specs.Laws.{IsLaidAs}
use Rattle.foyer_core_layout.specs.Splits.{is_encoded, entries_from, laid_from, with_records, AreBytesOf, IsPart, LaidOut, Left, IsLaidOut}
use Rattle.foyer_core_layout.specs.Splits.LaidOut.{part, none}
use Rattle.foyer_core_layout.specs.Splits.Left.{done, blob, block}

encoded_again : (es : List BlobEntryIndex) → map is_encoded (map entry_of es) ≡ es
encoded_again [] = refl
encoded_again (e ∷ es) = ap (λ l. e ∷ l) (encoded_again es)

module _ {C : Type 0} where
  -- the records stand in these bytes one behind another, the first at this offset
  abbrev pub StandAt : List ℕ → ℕ → List BufferEntryInfo → List (Record C) → Type 0
  StandAt whole start [] [] = Unit {0}
  StandAt whole start (i ∷ is) (r ∷ rs) =
      (r.hash ≡ i.hash) × (r.sequence ≡ i.sequence) × (r.bytes ≡ take i.len (drop start whole)) × (length r.bytes ≡ i.len)
      × StandAt whole (start + page_up i.len) is rs
  StandAt whole start is rs = ⊥

  -- those of a buffer do
  pub entries_stand : (whole : List ℕ) (start : ℕ) (is : List BufferEntryInfo) (rs : List (Record C)) → IsPacked start is
      → start + taken is ≤ length whole → map kept_of rs ≡ entries_at whole is → StandAt whole start is rs
  entries_stand whole start [] [] packed within same = tt
  entries_stand whole start [] (r ∷ rs) packed within same = let no : ⊥ = cc in absurd no
  entries_stand whole start (i ∷ is) [] packed within same = let no : ⊥ = cc in absurd no
  entries_stand whole start (i ∷ is) (r ∷ rs) packed within same =
      let at : Entry = record { hash = i.hash; sequence = i.sequence; bytes = take i.len (drop i.offset whole) } in
      let here : kept_of r ≡ at = cc in
      let there : map kept_of rs ≡ entries_at whole is = cc in
      let cons : taken (i ∷ is) ≡ page_up i.len + taken is = taken_cons i is in
      let above : i.len ≤ page_up i.len = page_up-holds i.len in
      let bytes : r.bytes ≡ take i.len (drop start whole) = ap (λ e. e.bytes) here ∙ ap (λ n. take i.len (drop n whole)) packed.0 in
      let rest : length (drop start whole) ≡ length whole - start = length-drop start whole in (
        ap (λ e. e.hash) here,
        ap (λ e. e.sequence) here,
        bytes,
        ap length bytes ∙ length-take-le i.len (drop start whole) (omega arith),
        entries_stand whole (start + page_up i.len) is rs packed.1 (omega arith) there,
      )

  pub stand_len : (whole : List ℕ) (start : ℕ) (is : List BufferEntryInfo) (rs : List (Record C)) → StandAt whole start is rs → length rs ≡ length is
  stand_len whole start [] [] stand = refl
  stand_len whole start [] (r ∷ rs) stand = absurd stand
  stand_len whole start (i ∷ is) [] stand = absurd stand
  stand_len whole start (i ∷ is) (r ∷ rs) stand = ap suc (stand_len whole (start + page_up i.len) is rs stand.4)

  pub stand_taken : (whole : List ℕ) (start : ℕ) (is : List BufferEntryInfo) (rs : List (Record C)) → StandAt whole start is rs → bytes_taken page_up rs ≡ taken is
  stand_taken whole start [] [] stand = sym taken_none
  stand_taken whole start [] (r ∷ rs) stand = absurd stand
  stand_taken whole start (i ∷ is) [] stand = absurd stand
  stand_taken whole start (i ∷ is) (r ∷ rs) stand =
      let one : page_up (length r.bytes) ≡ page_up i.len = ap page_up stand.3 in
      let rest : bytes_taken page_up rs ≡ taken is = stand_taken whole (start + page_up i.len) is rs stand.4 in
      omega (arith, taken_cons i is)

  -- if some records go into a part, and the others don't
  pub record Parted (whole : List ℕ) (start : ℕ) (now rest : List BufferEntryInfo) (rs : List (Record C)) : Type 0 where
    pub first : List (Record C)
    pub others : List (Record C)
    pub all : first ++ others ≡ rs
    pub stand : StandAt whole start now first
    pub later : StandAt whole (start + taken now) rest others

  pub parted : (whole : List ℕ) (start : ℕ) (now rest : List BufferEntryInfo) (rs : List (Record C)) → StandAt whole start (now ++ rest) rs → Parted whole start now rest rs
  parted whole start [] rest rs stand =
      let at : start + taken [] ≡ start = omega (arith, taken_none) in
      record { first = []; others = rs; all = refl; stand = tt; later = subst (λ n. StandAt whole n rest rs) (sym at) stand }
  parted whole start (i ∷ is) rest [] stand = absurd stand
  parted whole start (i ∷ is) rest (r ∷ rs) stand =
      let more : Parted whole (start + page_up i.len) is rest rs = parted whole (start + page_up i.len) is rest rs stand.4 in
      let at : start + page_up i.len + taken is ≡ start + taken (i ∷ is) = omega (arith, taken_cons i is) in
      record {
        first = r ∷ more.first;
        others = more.others;
        all = ap (λ l. r ∷ l) more.all;
        stand = (stand.0, stand.1, stand.2, stand.3, more.stand);
        later = subst (λ n. StandAt whole n rest more.others) at more.later;
      }

  -- what the index lists
  pub stand_entries : (whole : List ℕ) (start at : ℕ) (is : List BufferEntryInfo) (rs : List (Record C)) → StandAt whole start is rs
      → entries_from at rs ≡ map entry_of (buffered.entries_from at is)
  stand_entries whole start at [] [] stand = ap (map entry_of) (sym (entries_none at))
  stand_entries whole start at [] (r ∷ rs) stand = absurd stand
  stand_entries whole start at (i ∷ is) [] stand = absurd stand
  stand_entries whole start at (i ∷ is) (r ∷ rs) stand =
      let rest : entries_from (at + page_up i.len) rs ≡ map entry_of (buffered.entries_from (at + page_up i.len) is) =
      stand_entries whole (start + page_up i.len) (at + page_up i.len) is rs stand.4 in
      rw (entries_cons at i is, stand.0, stand.1, stand.3, rest) refl

  -- a part's entries say where its records lie
  pub stand_placed : (whole : List ℕ) (start base at : ℕ) (is : List BufferEntryInfo) (rs : List (Record C)) → StandAt whole start is rs
      → AreEntriesOf base (buffered.entries_from at is) (laid_from (base + at) rs)
  stand_placed whole start base at [] [] stand = subst (λ l. AreEntriesOf {C = C} base l []) (sym (entries_none at)) tt
  stand_placed whole start base at [] (r ∷ rs) stand = absurd stand
  stand_placed whole start base at (i ∷ is) [] stand = absurd stand
  stand_placed whole start base at (i ∷ is) (r ∷ rs) stand =
      let there : base + (at + page_up i.len) ≡ base + at + page_up (length r.bytes) = omega (arith, ap page_up stand.3) in
      subst (λ l. AreEntriesOf base l (laid_from (base + at) (r ∷ rs))) (sym (entries_cons at i is)) (
        refl,
        stand.0,
        stand.1,
        stand.3,
        subst (λ n. AreEntriesOf base (buffered.entries_from (at + page_up i.len) is) (laid_from n rs)) there
            (stand_placed whole (start + page_up i.len) base (at + page_up i.len) is rs stand.4),
      )

  -- the bytes of a part
  pub stand_bytes : (whole : List ℕ) (start : ℕ) (is : List BufferEntryInfo) (rs : List (Record C)) (D : List ℕ) → StandAt whole start is rs
      → start + taken is ≤ length whole → D ≡ take (taken is) (drop start whole) → AreBytesOf D rs
  stand_bytes whole start [] [] D stand within same = same ∙ ap (λ n. take n (drop start whole)) taken_none
  stand_bytes whole start [] (r ∷ rs) D stand within same = absurd stand
  stand_bytes whole start (i ∷ is) [] D stand within same = absurd stand
  stand_bytes whole start (i ∷ is) (r ∷ rs) D stand within same =
      let cons : taken (i ∷ is) ≡ page_up i.len + taken is = taken_cons i is in
      let above : i.len ≤ page_up i.len = page_up-holds i.len in
      let rest : length (drop start whole) ≡ length whole - start = length-drop start whole in
      let all : D ≡ take (page_up i.len + taken is) (drop start whole) = same ∙ ap (λ n. take n (drop start whole)) cons in
      let len : length D ≡ page_up i.len + taken is = ap length all ∙ length-take-le (page_up i.len + taken is) (drop start whole) (omega arith) in
      let pages : page_up (length r.bytes) ≡ page_up i.len = ap page_up stand.3 in (
        ap (λ n. take n D) stand.3 ∙ ap (take i.len) all ∙ take-take i.len (page_up i.len + taken is) (drop start whole) (omega arith) ∙ sym stand.2,
        omega arith,
        stand_bytes whole (start + page_up i.len) is rs (drop (page_up (length r.bytes)) D) stand.4 (omega arith)
            (ap (λ n. drop n D) pages ∙ ap (drop (page_up i.len)) all ∙ drop-take (page_up i.len) (taken is) (drop start whole)
            ∙ ap (take (taken is)) (drop-drop (page_up i.len) start whole)),
      )

  -- the filling behind records
  with_same : (w : Section) (start : ℕ) (f : buffered.Position) (now : List BufferEntryInfo) (rs : List (Record C)) → StandAt (bytes_of w) start now rs
      → with_records (position_of f) rs ≡ position_of (buffered.with_records f now)
  with_same w start f now rs stand =
      let count : bytes_taken page_up rs ≡ taken now = stand_taken (bytes_of w) start now rs stand in
      let listed : map entry_of f.listed ++ entries_from f.at rs ≡ map entry_of (f.listed ++ buffered.entries_from f.at now) =
      ap (λ l. map entry_of f.listed ++ l) (stand_entries (bytes_of w) start f.at now rs stand)
      ∙ sym (map-append entry_of f.listed (buffered.entries_from f.at now)) in
      rw (count, listed) refl

  module _ {A : Type 0} (s : Sizes) (w : Section) where
    -- the placing in plain words
    record Laid (f : buffered.Position) (rs : List (Record C)) (parts : List (BlobPart A)) (blocks : List (List (BlobPart A))) (g : buffered.Position) : Type 0 where
      pub qs : List (Part C)
      pub end : Position
      pub others : List (BlockLayout C)
      pub placed : LaidOut s (position_of f) rs qs end others
      pub first_are : ArePartsAs parts qs
      pub others_are : AreBlocksAs blocks others
      pub last : last_end end others ≡ position_of g

    -- if the present part takes no more
    record LaidLeft (f : buffered.Position) (rs : List (Record C)) (parts : List (BlobPart A)) (blocks : List (List (BlobPart A))) (g : buffered.Position) : Type 0 where
      pub qs : List (Part C)
      pub end : Position
      pub others : List (BlockLayout C)
      pub left : Left s (position_of f) rs qs end others
      pub first_are : ArePartsAs parts qs
      pub others_are : AreBlocksAs blocks others
      pub last : last_end end others ≡ position_of g

    -- a part's records
    abbrev plain_part : (f : buffered.Position) → BlobPart A → List (Record C) → Part C
    plain_part f p rs = record { blob = f.blob; at = f.at; content = bytes_of p.part_data; index = p.index; records = laid_from (f.blob + f.at) rs }

    part_as : (start : ℕ) (f : buffered.Position) (now : List BufferEntryInfo) (p : BlobPart A) (rs : List (Record C)) → StandAt (bytes_of w) start now rs
        → buffered_placing.IsPart s w start f now p → IsPartAs p (plain_part f p rs)
    part_as start f now p rs stand is = record {
      blob = sym is.blob;
      at = sym is.at;
      content = refl;
      index = refl;
      records = subst (λ n. AreEntriesOf n p.indices.items (laid_from (f.blob + f.at) rs)) (sym is.blob)
          (subst (λ l. AreEntriesOf f.blob l (laid_from (f.blob + f.at) rs)) (sym is.indices) (stand_placed (bytes_of w) start f.blob f.at now rs stand));
    }

    part_is_plain : (start : ℕ) (f : buffered.Position) (now : List BufferEntryInfo) (p : BlobPart A) (rs : List (Record C)) → StandAt (bytes_of w) start now rs
        → start + taken now ≤ length (bytes_of w) → buffered_placing.IsPart s w start f now p → IsPart s (position_of f) rs (plain_part f p rs)
    part_is_plain start f now p rs stand within is =
        let count : bytes_taken page_up rs ≡ taken now = stand_taken (bytes_of w) start now rs stand in
        let many : length rs ≡ length now = stand_len (bytes_of w) start now rs stand in
        record {
          some = omega (arith, is.some);
          blob = refl;
          at = refl;
          content = stand_bytes (bytes_of w) start now rs (bytes_of p.part_data) stand within (part_is s w start f now p is within).0;
          index = subst (IsSealed p.index)
              (sym (ap (map is_encoded) (ap (λ g. g.listed) (with_same w start f now rs stand)) ∙ encoded_again (buffered.with_records f now).listed)) is.index;
          size = is.size;
          within = omega (arith, is.within);
          records = refl;
        }

    mutual
      lays : {start : ℕ} {f g : buffered.Position} {infos : List BufferEntryInfo} {parts : List (BlobPart A)} {blocks : List (List (BlobPart A))} (rs : List (Record C))
          → StandAt (bytes_of w) start infos rs → start + taken infos ≤ length (bytes_of w)
          → buffered_placing.LaidOut s w start f infos parts blocks g → Laid f rs parts blocks g
      lays rs stand within (buffered_part {start = start} {f = f} {g = g} {now = now} {rest = rest} {p = p} {parts = parts} {blocks = blocks} is left) =
          let sum : taken (now ++ rest) ≡ taken now + taken rest = taken-append now rest in
          let of : Parted (bytes_of w) start now rest rs = parted (bytes_of w) start now rest rs stand in
          let l : LaidLeft (buffered.with_records f now) of.others parts blocks g = left_lays of.others of.later (omega arith) left in
          let same : with_records (position_of f) of.first ≡ position_of (buffered.with_records f now) = with_same w start f now of.first of.stand in
          record {
            qs = plain_part f p of.first ∷ l.qs;
            end = l.end;
            others = l.others;
            placed = subst (λ xs. LaidOut s (position_of f) xs (plain_part f p of.first ∷ l.qs) l.end l.others) of.all
                (part (part_is_plain start f now p of.first of.stand (omega arith) is) (subst (λ h. Left s h of.others l.qs l.end l.others) (sym same) l.left));
            first_are = (part_as start f now p of.first of.stand is, l.first_are);
            others_are = l.others_are;
            last = l.last;
          }
      lays rs stand within (buffered_none left) =
          let l = left_lays rs stand within left in
          record { qs = l.qs; end = l.end; others = l.others; placed = none l.left; first_are = l.first_are; others_are = l.others_are; last = l.last }

      left_lays : {start : ℕ} {f g : buffered.Position} {infos : List BufferEntryInfo} {parts : List (BlobPart A)} {blocks : List (List (BlobPart A))} (rs : List (Record C))
          → StandAt (bytes_of w) start infos rs → start + taken infos ≤ length (bytes_of w)
          → buffered_placing.Left s w start f infos parts blocks g → LaidLeft f rs parts blocks g
      left_lays [] stand within (buffered_done {f = f} room) =
          let many : length (map entry_of f.listed) ≡ length f.listed = length-map f.listed entry_of in
          record { qs = []; end = position_of f; others = []; left = done (omega arith); first_are = tt; others_are = tt; last = refl }
      left_lays (r ∷ rs) stand within (buffered_done room) = absurd stand
      left_lays rs stand within (buffered_blob {start = start} {f = f} {g = g} {infos = infos} {parts = parts} {blocks = blocks} full placed) =
          let many : length (map entry_of f.listed) ≡ length f.listed = length-map f.listed entry_of in
          let l : Laid (next_blob s f) rs parts blocks g = lays rs stand within placed in
          record { qs = l.qs; end = l.end; others = l.others; left = blob (omega arith) l.placed; first_are = l.first_are; others_are = l.others_are; last = l.last }
      left_lays [] stand within (buffered_block room over placed) = absurd stand
      left_lays (r ∷ rs) stand within (buffered_block {start = start} {f = f} {g = g} {i = i} {infos = infos} {parts = parts} {blocks = blocks} room over placed) =
          let many : length (map entry_of f.listed) ≡ length f.listed = length-map f.listed entry_of in
          let pages : page_up (length r.bytes) ≡ page_up i.len = ap page_up stand.3 in
          let l : Laid (fresh s) (r ∷ rs) parts blocks g = lays (r ∷ rs) stand within placed in
          record {
            qs = [];
            end = position_of f;
            others = record { parts = l.qs; end = l.end } ∷ l.others;
            left = block {first = record { parts = l.qs; end = l.end }} (omega arith) (omega arith) l.placed;
            first_are = tt;
            others_are = (l.first_are, l.others_are);
            last = l.last;
          }

    places_lays : (f g : buffered.Position) (infos : List BufferEntryInfo) (blocks : List (List (BlobPart A))) (rs : List (Record C))
        → s.index ≤ f.at → StandAt (bytes_of w) 0 infos rs → taken infos ≤ length (bytes_of w) → Places s w f infos blocks g
        → (spreads : List (BlockLayout C)) × IsLaidOut s (position_of f) rs spreads × AreBlocksAs blocks spreads × (last_end (position_of f) spreads ≡ position_of g)
    places_lays f g infos [] rs past stand within placed = absurd placed
    places_lays f g infos (parts ∷ blocks) rs past stand within placed =
        let l : Laid f rs parts blocks g = lays rs stand (omega arith) placed in
        (record { parts = l.qs; end = l.end } ∷ l.others, (past, l.placed), (l.first_are, l.others_are), l.last)

  pub batch_lays : {A : Type 0} (s : Sizes) (b : Entries) (bytes : List ℕ) (infos : List BufferEntryInfo) (whole : Section) (f g : buffered.Position)
      (batch : Batch A) (rs : List (Record C)) → IsFinished b bytes infos → bytes_of whole ≡ bytes → map kept_of rs ≡ b.entries → s.index ≤ f.at
      → IsCodeLayout s whole infos f batch g → IsLaidAs s (position_of f) (position_of g) rs batch
  batch_lays s b bytes infos whole f g batch rs finished same are past placed =
      let stand : StandAt bytes 0 infos rs = entries_stand bytes 0 infos rs finished.packed (omega (arith, finished.within)) (are ∙ sym finished.entries) in
      let room : taken infos ≤ length (bytes_of whole) = omega (arith, finished.within, ap length same) in
      let l = places_lays s whole f g infos (map parts_of batch.blocks.items) rs past (subst (λ c. StandAt c 0 infos rs) (sym same) stand) room placed.placed in
      record { spreads = l.0; laid = l.1; are = l.2; last = l.3 }
