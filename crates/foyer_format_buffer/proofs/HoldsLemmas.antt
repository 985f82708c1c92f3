-- The front of a block's chain that a filling has written.
use Rattle.std.proofs.Common.{◌≡◌, ℕ, ◌+◌, ◌%◌, ◌<◌, ◌≤◌, List, [], ◌∷◌, ◌++◌, length, inl, refl, sym, ap, subst, ◌∙◌, arith, append_assoc}
use Rattle.std.specs.Prelude.{map, All, drop}
use Rattle.std.proofs.lemmas.List.{append-nil, map-append, length-take}
use Rattle.std.proofs.lemmas.List.Elements.{All-nil, All-cons}
use Rattle.foyer_format_layout.proofs.EachLaws.{each_join}
use Rattle.foyer_format_buffer.specs.Entries.{Entries, IsFinished, EachTakes, entries_at}
use Rattle.foyer_device_page.specs.Section.{Section, bytes_of}
use Rattle.foyer_format_layout.specs.Page.{page_up}
use Rattle.foyer_format_blob.specs.Blob.{IsSealed}
use Rattle.foyer_format_layout.specs.BlockBytes.{read, laid, all_laid, zeroed}
use Rattle.foyer_format_layout.specs.Each.{Each}
use Rattle.foyer_format_layout.specs.Position.{Sizes, tail_of, fresh, next_blob}
use Rattle.foyer_format_buffer.specs.Position.{Position, FitsBlock, taken, entries_from, with_records}
use Rattle.foyer_format_buffer.specs.Listing.{Fits, IsIndex, behind, placed, Chain, Lists}
use Rattle.foyer_format_buffer.specs.Layout.{IsPart}
use Rattle.foyer_format_buffer.specs.Fills.{AreSizes, data_write, data_end, index_write, writes_of, records_in, Fills}
use Rattle.foyer_format_buffer.specs.Stored.{Stored, entry_of, stored_at}
use Rattle.foyer_format_buffer.specs.Holding.{all_read, Leads, Holds}
use Rattle.foyer_format_buffer.specs.Fills.Fills.{stays, part, blob}
use Rattle.foyer_format_buffer.specs.Holding.Leads.{here, over}
use Rattle.foyer_format_buffer.specs.declared.BufferEntryInfo.{BufferEntryInfo}
use Rattle.foyer_format_blob.specs.declared.blob.BlobEntryIndex.{BlobEntryIndex}
use Rattle.foyer_format_buffer.specs.declared.split.BlobPart.{BlobPart}
use Rattle.foyer_format_layout.proofs.PageLaws.{even-page_up}
use Rattle.foyer_format_buffer.proofs.SplitLemmas.{taken_cons, taken_none, taken-append, entries_cons, entries_none}
use Rattle.foyer_format_buffer.proofs.EntriesLemmas.{even-taken}
use Rattle.foyer_format_buffer.proofs.ListingLemmas.{chain_step}
use Rattle.foyer_format_layout.proofs.BlockBytesLaws.{read_same, laid_beside, read_whole, all_laid_zeros, zeroed_before}
use Rattle.foyer_format_buffer.proofs.StoredLemmas.{stored_entries}
use Rattle.foyer_format_buffer.proofs.FillsLemmas.{part_is, part_records}

pub placed-append : (p : ℕ) (xs ys : List BlobEntryIndex) → placed p (xs ++ ys) ≡ placed p xs ++ placed p ys
placed-append p [] ys = refl
placed-append p (x ∷ xs) ys =
    ap (λ l. record { hash = x.hash; sequence = x.sequence; offset = p + x.offset; len = x.len } ∷ l) (placed-append p xs ys)

behind-append : (s : Sizes) (p : ℕ) (xs : List BlobEntryIndex) (y : BlobEntryIndex) (ys : List BlobEntryIndex) → behind s p (xs ++ y ∷ ys) ≡ behind s p (y ∷ ys)
behind-append s p [] y ys = refl
behind-append s p (x ∷ []) y ys = refl
behind-append s p (x ∷ w ∷ xs) y ys = behind-append s p (w ∷ xs) y ys

-- the next place lies behind the index
behind_past : (s : Sizes) (p : ℕ) (e : BlobEntryIndex) (es : List BlobEntryIndex) → Each (Fits s p) (e ∷ es) → p + s.index ≤ behind s p (e ∷ es)
behind_past s p e [] fits = let b : s.index ≤ e.offset = (fits.0).behind in omega arith
behind_past s p e (d ∷ es) fits = behind_past s p d es fits.1

-- only bytes in front of q are read
leads_same : (s : Sizes) (B D : ℕ → ℕ) (p q : ℕ) (es : List BlobEntryIndex) → ((o : ℕ) → o < q → D o ≡ B o) → Leads s B p es q → Leads s D p es q
leads_same s B D p q es same (here) = here
leads_same s B D p q es same (over {e = e} {es = xs} {rest = rest} is leads) =
    let a : p + s.index ≤ behind s p (e ∷ xs) = behind_past s p e xs is.fits in
    let b : behind s p (e ∷ xs) ≤ q = leads_past s B (behind s p (e ∷ xs)) q rest leads in
    let there : read D p s.index ≡ read B p s.index = read_same D B p s.index (λ i l m. same i (omega arith)) in
    over (record { room = is.room; came = is.came; sealed = subst (λ l. IsSealed l (e ∷ xs)) (sym there) is.sealed; fits = is.fits })
    (leads_same s B D (behind s p (e ∷ xs)) q rest same leads)
  where
    leads_past : (s : Sizes) (B : ℕ → ℕ) (p q : ℕ) (es : List BlobEntryIndex) → Leads s B p es q → p ≤ q
    leads_past s B p q es (here) = omega arith
    leads_past s B p q es (over {e = e} {es = xs} {rest = rest} is leads) =
        let a : p + s.index ≤ behind s p (e ∷ xs) = behind_past s p e xs is.fits in
        let b : behind s p (e ∷ xs) ≤ q = leads_past s B (behind s p (e ∷ xs)) q rest leads in
        omega arith

-- one index more
pub leads_more : (s : Sizes) (B : ℕ → ℕ) (p q : ℕ) (xs : List BlobEntryIndex) (e : BlobEntryIndex) (es : List BlobEntryIndex) → Leads s B p xs q
    → IsIndex s B all_read q (e ∷ es) → Leads s B p (xs ++ placed q (e ∷ es)) (behind s q (e ∷ es))
leads_more s B p q xs e es (here) is = subst (λ l. Leads s B q l (behind s q (e ∷ es))) (append-nil (placed q (e ∷ es))) (over is here)
leads_more s B p q xs e es (over {e = d} {es = ds} {rest = rest} first leads) is =
    subst (λ l. Leads s B p l (behind s q (e ∷ es))) (sym (append_assoc (placed p (d ∷ ds)) rest (placed q (e ∷ es))))
    (over first (leads_more s B (behind s p (d ∷ ds)) q rest e es leads is))

-- a chain goes on behind its front
pub leads_chain : (s : Sizes) (B : ℕ → ℕ) (p q r : ℕ) (xs all : List BlobEntryIndex) → Leads s B p xs q → Chain s B all_read p all r
    → (rest : List BlobEntryIndex) × Chain s B all_read q rest r × (all ≡ xs ++ rest)
leads_chain s B p q r xs all (here) chain = (all, chain, refl)
leads_chain s B p q r xs all (over {e = e} {es = es} {rest = more} is leads) chain =
    let step : (rest : List BlobEntryIndex) × Chain s B all_read (behind s p (e ∷ es)) rest r × (all ≡ placed p (e ∷ es) ++ rest) =
    chain_step s B all_read p r (e ∷ es) all is chain in
    let later : (rest : List BlobEntryIndex) × Chain s B all_read q rest r × (step.0 ≡ more ++ rest) =
    leads_chain s B (behind s p (e ∷ es)) q r more step.0 leads step.1 in
    (later.0, later.1, step.2 ∙ ap (λ l. placed p (e ∷ es) ++ l) later.2 ∙ sym (append_assoc (placed p (e ∷ es)) more later.0))

-- a new filling has put nothing, whatever the bytes are
pub holds_fresh : (s : Sizes) (B : ℕ → ℕ) → AreSizes s → Holds s B (fresh s) []
holds_fresh s B sizes = record {
  before = [];
  front = here;
  past = omega arith;
  aligned = sizes.pages;
  fits = tt;
  room = λ l. absurd (omega arith);
  sealed = λ l. absurd (omega arith);
  end = λ l. absurd (omega arith);
  all = refl;
}

-- the index that a filling has put
pub holds_index : (s : Sizes) (B : ℕ → ℕ) (f : Position) (es : List BlobEntryIndex) (h : Holds s B f es) → 0 < length f.listed → IsIndex s B all_read f.blob f.listed
holds_index s B f es h some = record { room = h.room some; came = refl; sealed = h.sealed some; fits = h.fits }

-- The chain comes to the filling's end, or to its present blob if nothing was put into that blob.
holds_leads : (s : Sizes) (B : ℕ → ℕ) (f : Position) (es : List BlobEntryIndex) → Holds s B f es → (q : ℕ) × Leads s B 0 es q
holds_leads s B f es h = go f.listed refl
  where
    go : (ls : List BlobEntryIndex) → f.listed ≡ ls → (q : ℕ) × Leads s B 0 es q
    go [] e = (f.blob, subst (λ l. Leads s B 0 l f.blob) (sym (h.all ∙ ap (λ l. h.before ++ placed f.blob l) e ∙ append-nil h.before)) h.front)
    go (l ∷ ls) e =
        let some : 0 < length f.listed = subst (λ k. 0 < length k) (sym e) (omega arith) in
        let is : IsIndex s B all_read f.blob (l ∷ ls) = subst (λ k. IsIndex s B all_read f.blob k) e (holds_index s B f es h some) in (
          behind s f.blob (l ∷ ls),
          subst (λ k. Leads s B 0 k (behind s f.blob (l ∷ ls))) (sym (h.all ∙ ap (λ k. h.before ++ placed f.blob k) e)) (leads_more s B 0 f.blob h.before l ls h.front is),
        )

-- a full blob is left
holds_blob : (s : Sizes) (B : ℕ → ℕ) (f : Position) (es : List BlobEntryIndex) → AreSizes s → 0 < length f.listed → Holds s B f es → Holds s B (next_blob s f) es
holds_blob s B f es sizes some h = record {
  before = es;
  front = leads;
  past = omega arith;
  aligned = sizes.pages;
  fits = tt;
  room = λ l. absurd (omega arith);
  sealed = λ l. absurd (omega arith);
  end = λ l. absurd (omega arith);
  all = sym (append-nil es);
}
  where
    go : (ls : List BlobEntryIndex) → f.listed ≡ ls → Leads s B 0 es (behind s f.blob f.listed)
    go [] e = absurd (subst (λ l. 0 < length l → ⊥) (sym e) (λ l. omega arith) some)
    go (l ∷ ls) e =
        let is : IsIndex s B all_read f.blob (l ∷ ls) = subst (λ k. IsIndex s B all_read f.blob k) e (holds_index s B f es h some) in
        subst (λ k. Leads s B 0 k (behind s f.blob f.listed)) (sym (h.all ∙ ap (λ k. h.before ++ placed f.blob k) e))
        (subst (λ k. Leads s B 0 (h.before ++ placed f.blob (l ∷ ls)) (behind s f.blob k)) (sym e) (leads_more s B 0 f.blob h.before l ls h.front is))

    leads : Leads s B 0 es (tail_of f)
    leads = subst (λ q. Leads s B 0 es q) (h.end some) (go f.listed refl)

-- no record is empty
abbrev pub EachSome : List BufferEntryInfo → Type 0
EachSome infos = Each (λ i. 0 < i.len) infos

each_front : (xs ys : List BufferEntryInfo) → EachSome (xs ++ ys) → EachSome xs × EachSome ys
each_front [] ys h = (tt, h)
each_front (x ∷ xs) ys h = let r : EachSome xs × EachSome ys = each_front xs ys h.1 in ((h.0, r.0), r.1)

entries_fit : (s : Sizes) (now : List BufferEntryInfo) (base at : ℕ) → EachSome now → s.index ≤ at → at % 4096 ≡ 0 → base + (at + taken now) ≤ s.block
    → Each (Fits s base) (entries_from at now)
entries_fit s [] base at some past even within = subst (Each (Fits s base)) (sym (entries_none at)) tt
entries_fit s (i ∷ is) base at some past even within =
    let cons = taken_cons i is in
    subst (Each (Fits s base)) (sym (entries_cons at i is)) (
      record { some = some.0; behind = past; aligned = even; within = omega arith },
      entries_fit s is base (at + page_up i.len) some.1 (omega arith) (omega (arith, even-page_up i.len)) (omega arith),
    )

entries_end : (s : Sizes) (base at : ℕ) (i : BufferEntryInfo) (is : List BufferEntryInfo) → behind s base (entries_from at (i ∷ is)) ≡ base + (at + taken (i ∷ is))
entries_end s base at i [] =
    ap (behind s base) (entries_cons at i [] ∙ ap (λ l. record { hash = i.hash; sequence = i.sequence; offset = at; len = i.len } ∷ l) (entries_none (at + page_up i.len)))
    ∙ omega (arith, taken_cons i [], taken_none)
entries_end s base at i (j ∷ is) =
    let e : BlobEntryIndex = record { hash = i.hash; sequence = i.sequence; offset = at; len = i.len } in
    let d : BlobEntryIndex = record { hash = j.hash; sequence = j.sequence; offset = at + page_up i.len; len = j.len } in
    ap (behind s base) (entries_cons at i (j ∷ is) ∙ ap (λ l. e ∷ l) (entries_cons (at + page_up i.len) j is))
    ∙ ap (behind s base) (sym (entries_cons (at + page_up i.len) j is))
    ∙ entries_end s base (at + page_up i.len) j is ∙ omega (arith, taken_cons i (j ∷ is))

ending : (s : Sizes) (f : Position) (now : List BufferEntryInfo) → 0 < length now → behind s f.blob (f.listed ++ entries_from f.at now) ≡ f.blob + (f.at + taken now)
ending s f [] some = absurd (omega arith)
ending s f (i ∷ is) some =
    let e : BlobEntryIndex = record { hash = i.hash; sequence = i.sequence; offset = f.at; len = i.len } in
    ap (λ l. behind s f.blob (f.listed ++ l)) (entries_cons f.at i is)
    ∙ behind-append s f.blob f.listed e (entries_from (f.at + page_up i.len) is)
    ∙ ap (behind s f.blob) (sym (entries_cons f.at i is)) ∙ entries_end s f.blob f.at i is

module _ {A : Type 0} (s : Sizes) (w : Section) (sizes : AreSizes s) where
  -- a part's data, and the zeros behind them
  abbrev before : (ℕ → ℕ) → BlobPart A → ℕ → ℕ
  before B p = zeroed s.block (data_end p) (laid (data_write p) B)

  -- a part is written: its data and zeros, then its index
  holds_part : (B : ℕ → ℕ) (start : ℕ) (f : Position) (es : List BlobEntryIndex) (now : List BufferEntryInfo) (p : BlobPart A) → IsPart s w start f now p
      → start + taken now ≤ length (bytes_of w) → EachSome now → Holds s B f es
      → Holds s (laid (index_write p) (before B p)) (with_records f now) (es ++ map entry_of (stored_at p.blob_block_offset p.part_blob_offset (bytes_of p.part_data) p.indices.items))
  holds_part B start f es now p is room some h =
      record {
        before = h.before;
        front = leads_same s B D 0 f.blob h.before
            (λ o l. laid_beside (index_write p) (before B p) o (inl (omega (arith, is.blob, l)))
            ∙ zeroed_before s.block (data_end p) (laid (data_write p) B) o (omega (arith, is.blob, l))
            ∙ laid_beside (data_write p) B o (inl (omega (arith, is.blob, l)))) h.front;
        past = omega (arith, past);
        aligned = omega (arith, h.aligned, even-taken now);
        fits = each_join (Fits s f.blob) f.listed (entries_from f.at now) h.fits (entries_fit s now f.blob f.at some past h.aligned (omega (arith, within)));
        room = λ _. omega (arith, within, past);
        sealed = λ _. subst (λ b. IsSealed b (with_records f now).listed) (sym index_there) is.index;
        end = λ _. ending s f now is.some ∙ omega arith;
        all = ap (λ l. l ++ map entry_of own) h.all ∙ append_assoc h.before (placed f.blob f.listed) (map entry_of own)
            ∙ ap (λ l. h.before ++ l) (ap (λ l. placed f.blob f.listed ++ l) entries ∙ sym (placed-append f.blob f.listed (entries_from f.at now)));
      }
    where
      D : ℕ → ℕ
      D = laid (index_write p) (before B p)

      past : s.index ≤ f.at
      past = h.past

      within : tail_of f + taken now ≤ s.block
      within = is.within

      own : List Stored
      own = stored_at p.blob_block_offset p.part_blob_offset (bytes_of p.part_data) p.indices.items

      size : length (bytes_of p.part_data) ≡ taken now
      size = (part_is s w start f now p is room).1

      entries : map entry_of own ≡ placed f.blob (entries_from f.at now)
      entries = ap (map entry_of) (part_records s w start f now p is)
          ∙ stored_entries now (bytes_of p.part_data) f.blob f.at f.at 0 (omega arith) (omega (arith, size))

      index_there : read D f.blob s.index ≡ p.index
      index_there = subst (λ q. read D q s.index ≡ p.index) is.blob
          (subst (λ n. read D p.blob_block_offset n ≡ p.index) is.size (read_whole (index_write p) (before B p)))

  -- the records of a batch are written into the block
  pub holds_fills : (B : ℕ → ℕ) (start : ℕ) (f : Position) (es : List BlobEntryIndex) (infos : List BufferEntryInfo) (parts : List (BlobPart A)) (g : Position)
      → start + taken infos ≤ length (bytes_of w) → EachSome infos → Fills s w start f infos parts g → Holds s B f es
      → Holds s (all_laid (writes_of s.block parts) B) g (es ++ map entry_of (records_in parts))
  holds_fills B start f es infos parts g room some (stays) h = subst (λ l. Holds s B f l) (sym (append-nil es)) h
  holds_fills B start f es infos parts g room some (blob full fills) h =
      holds_fills B start (next_blob s f) es infos parts g room some fills (holds_blob s B f es sizes (omega (arith, full, sizes.some, sizes.pages)) h)
  holds_fills B start f es infos parts g room some (part {now = now} {rest = rest} {p = p} {parts = more} is fills) h =
      let each : EachSome now × EachSome rest = each_front now rest some in
      let total = taken-append now rest in
      let own : List Stored = stored_at p.blob_block_offset p.part_blob_offset (bytes_of p.part_data) p.indices.items in
      subst (λ k. Holds s k g (es ++ map entry_of (own ++ records_in more))) (sym (all_laid_zeros s.block (data_end p) (index_write p ∷ writes_of s.block more) (laid (data_write p) B)))
      (subst (λ l. Holds s (all_laid (writes_of s.block more) (laid (index_write p) (before B p))) g l)
      (append_assoc es (map entry_of own) (map entry_of (records_in more)) ∙ ap (λ l. es ++ l) (sym (map-append entry_of own (records_in more))))
      (holds_fills (laid (index_write p) (before B p)) (start + taken now) (with_records f now) (es ++ map entry_of own) rest more g
      (omega (arith, total)) each.1 fills
      (holds_part B start f es now p is (omega (arith, total)) each.0 h)))

-- A block's list begins with what the filling put.
pub holds_lists : (s : Sizes) (B : ℕ → ℕ) (f : Position) (es all : List BlobEntryIndex) → Holds s B f es → Lists s B all_read all → (rest : List BlobEntryIndex) × (all ≡ es ++ rest)
holds_lists s B f es all h l =
    let front : (q : ℕ) × Leads s B 0 es q = holds_leads s B f es h in
    let later : (rest : List BlobEntryIndex) × Chain s B all_read front.0 rest l.end × (all ≡ es ++ rest) = leads_chain s B 0 front.0 l.end es all front.1 l.chain in
    (later.0, later.2)

-- what fits isn't empty
pub each_some : (s : Sizes) (infos : List BufferEntryInfo) → Each (FitsBlock s) infos → EachSome infos
each_some s [] each = tt
each_some s (i ∷ is) each = ((each.0).some, each_some s is each.1)

fits_each : (s : Sizes) (bytes : List ℕ) (most : ℕ) (infos : List BufferEntryInfo) → s.index + most ≤ s.block
    → Each (λ e. 0 < length e.bytes) (entries_at bytes infos) → EachTakes most infos → Each (FitsBlock s) infos
fits_each s bytes most [] room some takes = tt
fits_each s bytes most (i ∷ is) room some takes = (
  record { some = omega (arith, some.0, length-take i.len (drop i.offset bytes)); room = omega (arith, takes.0) },
  fits_each s bytes most is room some.1 takes.1,
)

all_each : (s : Sizes) (infos : List BufferEntryInfo) → Each (FitsBlock s) infos → All (FitsBlock s) infos
all_each s [] each = All-nil (FitsBlock s)
all_each s (i ∷ is) each = All-cons (FitsBlock s) i is each.0 (all_each s is each.1)

-- what a buffer has finished may be split
pub finished_each : (s : Sizes) (b : Entries) (bytes : List ℕ) (infos : List BufferEntryInfo) → IsFinished b bytes infos → s.index + b.greatest ≤ s.block
    → Each (λ e. 0 < length e.bytes) b.entries → Each (FitsBlock s) infos
finished_each s b bytes infos done room some =
    fits_each s bytes b.greatest infos room (subst (Each (λ e. 0 < length e.bytes)) (sym done.entries) some) done.each

pub finished_all : (s : Sizes) (b : Entries) (bytes : List ℕ) (infos : List BufferEntryInfo) → IsFinished b bytes infos → s.index + b.greatest ≤ s.block
    → Each (λ e. 0 < length e.bytes) b.entries → All (FitsBlock s) infos
finished_all s b bytes infos done room some = all_each s infos (finished_each s b bytes infos done room some)
