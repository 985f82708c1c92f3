-- A layout of the model's own records is one of the splitter's.
use Rattle.std.proofs.Common.{◌≡◌, ℕ, ◌+◌, ◌-◌, ◌≤◌, ◌^◌, List, [], ◌∷◌, ◌++◌, map, length, take, drop, refl, sym, ap, subst, ◌∙◌, arith}
use Rattle.std.proofs.lemmas.List.{length-append, length-map, map-append, append_assoc, take_at, drop_at, drop-drop, take_all}
use Rattle.std.specs.declared.vec.Vec.{Vec}
use Rattle.foyer_format_layout.specs.Position.{Sizes, fresh}
use denote.RawPtr.{null_ptr}
use Rattle.foyer_format_blob.specs.Blob.{IsSealed, capacity_of}
use Rattle.foyer_format_blob.specs.declared.blob.BlobEntryIndex.{BlobEntryIndex}
use Rattle.foyer_format_layout.specs.Each.{Each}
use Rattle.foyer_format_buffer.specs.Position as laid
use Rattle.foyer_format_buffer.specs.Layout as buffered
use Rattle.foyer_format_buffer.specs.Fills.{Fills}
use Rattle.foyer_format_buffer.specs.Fills.Fills.{stays, part as fills_part, blob as fills_blob}
use Rattle.foyer_format_buffer.specs.Stored as stands
use Rattle.foyer_format_buffer.specs.declared.BufferEntryInfo.{BufferEntryInfo}
use Rattle.foyer_format_buffer.specs.declared.split.BlobPart.{BlobPart}
use Rattle.foyer_format_buffer.proofs.FillsLemmas.{part_is}
use Rattle.foyer_format_buffer.proofs.SplitLemmas.{taken-append, taken_cons, taken_none, entries_cons, entries_none}
use Rattle.foyer_format_buffer.proofs.StoredLemmas.{stored_none, stored_cons}
use Rattle.foyer_device_page.specs.Section.{Section, bytes_of, all_of, part_of}
use Rattle.foyer_format_layout.specs.Page.{page_up}
use Rattle.foyer_core_model.specs.Layout.{AllFitBlock}
use Rattle.foyer_core_model.specs.Laws.{Demands}
use Rattle.foyer_core_model.specs.Position.{Position, Part, BlockLayout}
use Rattle.foyer_core_model.specs.Receive.{bytes_taken}
use Rattle.foyer_core_model.specs.Record.{Record}
use Rattle.foyer_core_model.specs.Rules.{Rules, HasRoundTrip, sizes_of}
use Rattle.foyer_core_layout.proofs.KeepsLemmas.{keeps_records}
use Rattle.foyer_core_layout.proofs.LaidLemmas.{bytes_len}
use Rattle.foyer_core_layout.specs.Splits.{entries_from, laid_from, with_records, AreBytesOf, IsPart, LaidOut, Left, IsLaidOut}
use Rattle.foyer_core_layout.specs.Splits.LaidOut.{part, none}
use Rattle.foyer_core_layout.specs.Splits.Left.{done, blob, block}
use Rattle.foyer_core_restart.specs.Entries.{entry_in, filled_to, stored}
use Rattle.foyer_core_restart.specs.Real.{IsSamePart, AreSameParts, AreSpread, IsSpread, IsFormat, IsReal}
use Rattle.foyer_core_restart.specs.Laid.{LaidRestartLaw, LaidIdleLaw}
use Rattle.foyer_core_restart.proofs.Law.{restart_law_lem, idle_law_lem}

-- a list of entries as a part keeps it
abbrev vec_of : (es : List BlobEntryIndex) → length es ≤ 2 ^ 32 → Vec BlobEntryIndex (Unit {0})
vec_of es few = record { ptr = null_ptr; len = length es; cap = length es; alloc = tt; items = es; ok = (refl, omega arith); small = omega arith }

module _ {C : Type 0} where
  abbrev info_of : Record C → BufferEntryInfo
  info_of r = record { hash = r.hash; sequence = r.sequence; offset = 0; len = length r.bytes }

  abbrev infos_of : List (Record C) → List BufferEntryInfo
  infos_of rs = map info_of rs

  taken_is : (rs : List (Record C)) → laid.taken (infos_of rs) ≡ bytes_taken page_up rs
  taken_is [] = taken_none
  taken_is (r ∷ rs) = taken_cons (info_of r) (infos_of rs) ∙ ap (λ n. page_up (length r.bytes) + n) (taken_is rs)

  taken_both : (xs ys : List (Record C)) → laid.taken (infos_of (xs ++ ys)) ≡ laid.taken (infos_of xs) + laid.taken (infos_of ys)
  taken_both xs ys = ap laid.taken (map-append info_of xs ys) ∙ taken-append (infos_of xs) (infos_of ys)

  entries_are : (at : ℕ) (rs : List (Record C)) → map entry_in (entries_from at rs) ≡ laid.entries_from at (infos_of rs)
  entries_are at [] = sym (entries_none at)
  entries_are at (r ∷ rs) =
      let e : BlobEntryIndex = record { hash = r.hash; sequence = r.sequence; offset = at; len = length r.bytes } in
      ap (λ l. e ∷ l) (entries_are (at + page_up (length r.bytes)) rs) ∙ sym (entries_cons at (info_of r) (infos_of rs))

  -- the records that are stored where their entries say
  stored_are : (base at0 at : ℕ) (D : List ℕ) (rs : List (Record C)) → at0 ≤ at → AreBytesOf (drop (at - at0) D) rs
      → map stored (laid_from (base + at) rs) ≡ stands.stored_at base at0 D (laid.entries_from at (infos_of rs))
  stored_are base at0 at D [] le are = sym (stored_none base at0 at D)
  stored_are base at0 at D (r ∷ rs) le are =
      let next : base + at + page_up (length r.bytes) ≡ base + (at + page_up (length r.bytes)) = omega arith in
      let gone : at - at0 + page_up (length r.bytes) ≡ at + page_up (length r.bytes) - at0 = omega arith in
      let behind : AreBytesOf (drop (at + page_up (length r.bytes) - at0) D) rs =
      subst (λ d. AreBytesOf d rs) (drop-drop (page_up (length r.bytes)) (at - at0) D ∙ ap (λ n. drop n D) gone) are.2 in
      let rest : map stored (laid_from (base + at + page_up (length r.bytes)) rs) ≡ stands.stored_at base at0 D (laid.entries_from (at + page_up (length r.bytes)) (infos_of rs)) =
      ap (λ n. map stored (laid_from n rs)) next ∙ stored_are base at0 (at + page_up (length r.bytes)) D rs (omega arith) behind in
      (λ i. record { hash = r.hash; sequence = r.sequence; offset = base + at; bytes = sym are.0 i } ∷ rest i) ∙ sym (stored_cons base at0 at D (info_of r) (infos_of rs))

  with_same : (f : Position) (now : List (Record C)) → filled_to (with_records f now) ≡ laid.with_records (filled_to f) (infos_of now)
  with_same f now =
      let count : bytes_taken page_up now ≡ laid.taken (infos_of now) = sym (taken_is now) in
      let listed : map entry_in (f.listed ++ entries_from f.at now) ≡ map entry_in f.listed ++ laid.entries_from f.at (infos_of now) =
      map-append entry_in f.listed (entries_from f.at now) ∙ ap (λ l. map entry_in f.listed ++ l) (entries_are f.at now) in
      λ i. record { blob = f.blob; at = f.at + count i; listed = listed i }

  -- the data of parts, one behind another
  abbrev contents_in : List (Part C) → List ℕ
  contents_in [] = []
  contents_in (p ∷ ps) = p.content ++ contents_in ps

  abbrev contents_of : List (BlockLayout C) → List ℕ
  contents_of [] = []
  contents_of (b ∷ bs) = contents_in b.parts ++ contents_of bs

  module _ (s : Sizes) (w : Section) (few : capacity_of s.index ≤ 2 ^ 32) where
    -- how the records of a layout continue from a byte of the batch, if the first of them go into the present block
    record Spread (start : ℕ) (f : Position) (rs : List (Record C)) (parts : List (Part C)) (e : Position) (blocks : List (BlockLayout C)) : Type 0 where
      pub now : List (Record C)
      pub later : List (Record C)
      pub made : List (BlobPart (Unit {0}))
      pub all : rs ≡ now ++ later
      pub fills : Fills s w start (filled_to f) (infos_of now) made (filled_to e)
      pub same : AreSameParts parts made
      pub spread : AreSpread (Unit {0}) s w (start + laid.taken (infos_of now)) (fresh s) (infos_of later) blocks
      pub room : start + laid.taken (infos_of rs) ≤ length (bytes_of w)

    -- a part that the splitter would make
    record Made (start : ℕ) (f : Position) (now : List (Record C)) (p : Part C) : Type 0 where
      pub made : BlobPart (Unit {0})
      pub is : buffered.IsPart s w start (filled_to f) (infos_of now) made
      pub same : IsSamePart p made

    make : (start : ℕ) (f : Position) (now : List (Record C)) (p : Part C) (front rest : List ℕ) → length front ≡ start → bytes_of w ≡ front ++ (p.content ++ rest) → IsPart s f now p → Made start f now p
    make start f now p front rest len bytes is =
        let n : ℕ = laid.taken (infos_of now) in
        let es : List BlobEntryIndex = laid.entries_from f.at (infos_of now) in
        let size : length p.content ≡ n = bytes_len p.content now is.content ∙ sym (taken_is now) in
        let many : length es ≤ 2 ^ 32 = omega (
          arith,
          ap length (sym (entries_are f.at now)),
          length-map (entries_from f.at now) entry_in,
          length-append f.listed (entries_from f.at now),
          length-map (f.listed ++ entries_from f.at now) entry_in,
          is.index.room,
          ap capacity_of is.size,
        ) in
        let m : BlobPart (Unit {0}) = record { blob_block_offset = f.blob; index = p.index; part_blob_offset = f.at; part_data = part_of w start (start + n); indices = vec_of es many } in
        let whole : length (bytes_of w) ≡ start + (n + length rest) = ap length bytes ∙ length-append front (p.content ++ rest) ∙ omega (arith, len, size, length-append p.content rest) in
        let part_holds : buffered.IsPart s w start (filled_to f) (infos_of now) m = record {
          some = omega (arith, is.some, length-map now info_of);
          blob = refl;
          at = refl;
          content = refl;
          indices = refl;
          index = subst (IsSealed p.index) (ap (λ g. g.listed) (with_same f now)) is.index;
          size = is.size;
          within = omega (arith, is.within, taken_is now);
        } in
        let content : p.content ≡ bytes_of m.part_data =
        sym ((part_is s w start (filled_to f) (infos_of now) m part_holds (omega arith)).0 ∙ ap (λ l. take n (drop start l)) bytes ∙ ap (take n) (drop_at front (p.content ++ rest) start len) ∙ take_at p.content rest n size) in
        let none_gone : f.at - f.at ≡ 0 = omega arith in
        record {
          made = m;
          is = part_holds;
          same = record {
            blob = is.blob;
            at = is.at;
            content = content;
            index = refl;
            records = ap (map stored) is.records
                ∙ stored_are f.blob f.at f.at p.content now (omega arith) (subst (λ k. AreBytesOf (drop k p.content) now) (sym none_gone) is.content)
                ∙ ap (λ d. stands.stored_at f.blob f.at d es) content;
          };
        }

    mutual
      spreads : {f e : Position} {rs : List (Record C)} {parts : List (Part C)} {blocks : List (BlockLayout C)} (start : ℕ) (front : List ℕ)
          → length front ≡ start → bytes_of w ≡ front ++ (contents_in parts ++ contents_of blocks) → LaidOut s f rs parts e blocks → Spread start f rs parts e blocks
      spreads start front len bytes (part {f = f} {e = e} {now = now} {rest = rest} {p = p} {parts = parts} {blocks = blocks} is left) =
          let n : ℕ = laid.taken (infos_of now) in
          let size : length p.content ≡ n = bytes_len p.content now is.content ∙ sym (taken_is now) in
          let behind : List ℕ = contents_in parts ++ contents_of blocks in
          let split : bytes_of w ≡ front ++ (p.content ++ behind) = bytes ∙ ap (λ l. front ++ l) (append_assoc p.content (contents_in parts) (contents_of blocks)) in
          let m : Made start f now p = make start f now p front behind len split is in
          let l : Spread (start + n) (with_records f now) rest parts e blocks =
          left_spreads (start + n) (front ++ p.content) (omega (arith, length-append front p.content, len, size)) (split ∙ sym (append_assoc front p.content behind)) left in
          let at : start + n + laid.taken (infos_of l.now) ≡ start + laid.taken (infos_of (now ++ l.now)) = omega (arith, taken_both now l.now) in
          record {
            now = now ++ l.now;
            later = l.later;
            made = m.made ∷ l.made;
            all = ap (λ xs. now ++ xs) l.all ∙ sym (append_assoc now l.now l.later);
            fills = subst (λ is. Fills s w start (filled_to f) is (m.made ∷ l.made) (filled_to e)) (sym (map-append info_of now l.now))
                (fills_part m.is (subst (λ g. Fills s w (start + n) g (infos_of l.now) l.made (filled_to e)) (with_same f now) l.fills));
            same = (m.same, l.same);
            spread = subst (λ k. AreSpread (Unit {0}) s w k (fresh s) (infos_of l.later) blocks) at l.spread;
            room = omega (arith, l.room, taken_both now rest);
          }
      spreads start front len bytes (none left) = left_spreads start front len bytes left

      left_spreads : {f e : Position} {rs : List (Record C)} {parts : List (Part C)} {blocks : List (BlockLayout C)} (start : ℕ) (front : List ℕ)
          → length front ≡ start → bytes_of w ≡ front ++ (contents_in parts ++ contents_of blocks) → Left s f rs parts e blocks → Spread start f rs parts e blocks
      left_spreads start front len bytes (done {f = f} room) = record {
        now = [];
        later = [];
        made = [];
        all = refl;
        fills = stays;
        same = tt;
        spread = tt;
        room = omega (arith, len, ap length bytes, length-append front [], taken_none);
      }
      left_spreads start front len bytes (blob {f = f} full placed) =
          let l = spreads start front len bytes placed in
          record {
            now = l.now;
            later = l.later;
            made = l.made;
            all = l.all;
            fills = fills_blob (length-map f.listed entry_in ∙ full) l.fills;
            same = l.same;
            spread = l.spread;
            room = l.room;
          }
      left_spreads start front len bytes (block {f = f} {r = r} {rs = rs} {first = first} {blocks = blocks} room over placed) =
          let l : Spread start (fresh s) (r ∷ rs) first.parts first.end blocks = spreads start front len bytes placed in
          let zero : start + laid.taken [] ≡ start = omega (arith, taken_none) in
          record {
            now = [];
            later = r ∷ rs;
            made = [];
            all = refl;
            fills = stays;
            same = tt;
            spread = subst (λ k. AreSpread (Unit {0}) s w k (fresh s) (infos_of (r ∷ rs)) (first ∷ blocks)) (sym zero)
                (infos_of l.now, infos_of l.later, l.made, ap infos_of l.all ∙ map-append info_of l.now l.later, l.fills, l.same, l.spread);
            room = l.room;
          }

module _ {C : Type 0} (rules : Rules C) (format : IsFormat rules) (small : rules.block_size ≤ 2 ^ 32) where
  each_fits : (rs : List (Record C)) → AllFitBlock rules rs → Each (laid.FitsBlock (sizes_of rules)) (infos_of rs)
  each_fits [] fit = tt
  each_fits (r ∷ rs) fit = (record { some = (fit.0).0; room = omega (arith, (fit.0).1, format.pages (length r.bytes)) }, each_fits rs fit.1)

  laid_is_spread : (f : Position) (rs : List (Record C)) (blocks : List (BlockLayout C)) → AllFitBlock rules rs → IsLaidOut (sizes_of rules) f rs blocks
      → IsSpread (Unit {0}) (sizes_of rules) (filled_to f) blocks
  laid_is_spread f rs [] fit split = absurd split
  laid_is_spread f rs (b ∷ bs) fit split =
      let w : Section = all_of (contents_of (b ∷ bs)) in
      let bytes : bytes_of w ≡ contents_of (b ∷ bs) = take_all _ (contents_of (b ∷ bs)) (omega arith) in
      let few : capacity_of rules.index_size ≤ 2 ^ 32 = omega (arith, format.sizes.order) in
      let l : Spread (sizes_of rules) w few 0 f rs b.parts b.end bs = spreads (sizes_of rules) w few 0 [] refl bytes split.1 in
      record {
        whole = w;
        start = 0;
        infos = infos_of rs;
        room = l.room;
        each = each_fits rs fit;
        spread = (infos_of l.now, infos_of l.later, l.made, ap infos_of l.all ∙ map-append info_of l.now l.later, l.fills, l.same, l.spread);
      }

  pub laid_is_real : IsReal (Unit {0}) rules (IsLaidOut (sizes_of rules))
  laid_is_real = record { format = format; places = laid_is_spread }

  pub laid_demands : (is_value : C → Type 0) → HasRoundTrip rules is_value → Demands rules (IsLaidOut (sizes_of rules)) is_value
  laid_demands is_value trips = record { trips = trips; places = keeps_records rules (record { pages = format.pages; writes = format.writes }) }

pub laid_restart_law_lem : {C : Type 0} (rules : Rules C) (is_value : C → Type 0) → LaidRestartLaw rules is_value
laid_restart_law_lem rules is_value format small trips =
    restart_law_lem (Unit {0}) rules (IsLaidOut (sizes_of rules)) is_value (laid_demands rules format small is_value trips) (laid_is_real rules format small)

pub laid_idle_law_lem : {C : Type 0} (rules : Rules C) (is_value : C → Type 0) → LaidIdleLaw rules is_value
laid_idle_law_lem rules is_value format small trips =
    idle_law_lem (Unit {0}) rules (IsLaidOut (sizes_of rules)) is_value (laid_demands rules format small is_value trips) (laid_is_real rules format small)
