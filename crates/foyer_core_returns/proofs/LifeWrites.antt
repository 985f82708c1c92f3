-- What a flusher writes into a block: each index lists records that were issued, and zeros were written behind them before.
use Rattle.std.proofs.lemmas.Bool.Decides.{nat_tests}
use Rattle.std.proofs.lemmas.List.{append-nil, length-append, length-replicate}
use Rattle.std.proofs.Common.{◌≡◌, ℕ, ◌+◌, ◌<◌, ◌≤◌, nat_le, nat_lt, Bool, true, false, ◌&&◌, if◌then◌else◌, List, [], ◌∷◌, ◌++◌, length, map, replicate, ◌⊎◌, inl, inr, refl, sym, ap, subst, ◌∙◌, arith}
use Rattle.foyer_format_layout.proofs.EachLaws.{each_join, each_front, each_back}
use Rattle.foyer_device_page.specs.Section.{Section, bytes_of}
use Rattle.foyer_format_blob.specs.Blob.{IsSealed}
use Rattle.foyer_format_layout.specs.BlockBytes.{laid, all_laid, IsBeside, Role, Data, Index, Write, zeros_write, with_zeros, zeroed}
use Rattle.foyer_format_layout.specs.Each.{Each}
use Rattle.foyer_format_layout.specs.Position.{Sizes, next_blob, fresh}
use Rattle.foyer_format_buffer.specs.Position.{Position, taken, entries_from, with_records}
use Rattle.foyer_format_buffer.specs.Position as buffered
use Rattle.foyer_format_buffer.specs.Fills as fills
use Rattle.foyer_format_buffer.specs.Fills.{AreSizes, Fills}
use Rattle.foyer_format_buffer.specs.Fills.Fills.{stays, part, blob}
use Rattle.foyer_format_buffer.specs.Holding.{Leads, Holds}
use Rattle.foyer_format_buffer.specs.Holding.Leads.{here, over}
use Rattle.foyer_format_buffer.specs.Listing.{Fits, behind, placed}
use Rattle.foyer_format_buffer.specs.Stored as stands
use Rattle.foyer_format_buffer.specs.declared.BufferEntryInfo.{BufferEntryInfo}
use Rattle.foyer_format_buffer.specs.declared.split.BlobPart.{BlobPart}
use Rattle.foyer_format_layout.proofs.BlockBytesLaws.{all_laid_zeros}
use Rattle.foyer_format_buffer.proofs.FillsLemmas.{part_is}
use Rattle.foyer_format_buffer.proofs.HoldsLemmas.{holds_fills, each_some}
use Rattle.foyer_format_buffer.proofs.SplitLemmas.{taken-append, taken_none, entries_cons}
use Rattle.foyer_core_model.specs.Access.{is_in}
use Rattle.foyer_core_model.specs.Position.{Part, BlockLayout, records_in}
use Rattle.foyer_core_model.specs.Record.{Record}
use Rattle.foyer_core_model.specs.Rules.{Rules, sizes_of}
use Rattle.foyer_core_restart.specs.Entries.{In, filled_to, stored, entry_of}
use Rattle.foyer_core_restart.specs.Real.{AreSameParts, AreSpread, IsSpread}
use Rattle.foyer_core_restart.proofs.Members.{in_left, in_right, in_either}
use Rattle.foyer_core_restart.proofs.Tasks.{Entry, writes_of, entries_stored, entries_out}
use Rattle.foyer_core_restart.proofs.Safe.{RestOk}
use Rattle.foyer_core_restart.proofs.Issued.{spread_holds}
use Rattle.foyer_core_returns.specs.Returns.{IsCovered}

-- the entry is of one of these records
abbrev pub IsOfRecord : {C : Type 0} → List (ℕ × Record C) → Entry → Type 0
IsOfRecord {C} records e = (p : ℕ × Record C) × In p records × (entry_of p ≡ e)

-- one of these writes covers the place, or the block has no room for a page there
abbrev pub IsBarredAt : Sizes → List Write → ℕ → Type 0
IsBarredAt s done p = (s.block < p + 4096) ⊎ IsCovered done p

-- an index that lists such entries alone, behind which is such a place
abbrev pub IsOwnIndex : Sizes → (Entry → Type 0) → List Write → Write → Type 0
IsOwnIndex s P done v = (ls : List Entry) × IsSealed v.bytes ls × ((e : Entry) → In e (placed v.offset ls) → P e) × IsBarredAt s done (behind s v.offset ls)

abbrev pub IsOfRole : Sizes → (Entry → Type 0) → List Write → Role → Write → Type 0
IsOfRole s P done Data v = Unit {0}
IsOfRole s P done Index v = IsOwnIndex s P done v

-- a write at the block's start or behind its first index
abbrev pub IsApartOrFirst : Sizes → Write → Type 0
IsApartOrFirst s v = (v.offset ≡ 0) ⊎ (s.index ≤ v.offset)

abbrev pub WriteOk : Sizes → (Entry → Type 0) → List Write → Write → Type 0
WriteOk s P done v = IsApartOrFirst s v × IsOfRole s P done v.role v

-- and those that come behind these
abbrev pub LeftOk : Sizes → (Entry → Type 0) → List Write → List Write → Type 0
LeftOk s P done [] = Unit {0}
LeftOk s P done (v ∷ vs) = WriteOk s P done v × LeftOk s P (v ∷ done) vs

-- more is done, and more entries are so

pub covered_more : (done more : List Write) (p : ℕ) → ((v : Write) → In v done → In v more) → IsCovered done p → IsCovered more p
covered_more done more p up (v, i, at) = (v, up v i, at)

role_up : (s : Sizes) (P Q : Entry → Type 0) (done more : List Write) (role : Role) (v : Write) → ((e : Entry) → P e → Q e) → ((x : Write) → In x done → In x more)
    → IsOfRole s P done role v → IsOfRole s Q more role v
role_up s P Q done more Data v of up ok = tt
role_up s P Q done more Index v of up (ls, sealed, lists, ended) =
    (ls, sealed, λ e i. of e (lists e i), elim ended [ inl full ↦ inl full | inr covered ↦ inr (covered_more done more (behind s v.offset ls) up covered) ])

pub write_up : (s : Sizes) (P Q : Entry → Type 0) (done more : List Write) (v : Write) → ((e : Entry) → P e → Q e) → ((x : Write) → In x done → In x more)
    → WriteOk s P done v → WriteOk s Q more v
write_up s P Q done more v of up ok = (ok.0, role_up s P Q done more v.role v of up ok.1)

in_both : (v : Write) (done more : List Write) → ((x : Write) → In x done → In x more) → (x : Write) → In x (v ∷ done) → In x (v ∷ more)
in_both v done more up x (inl e) = inl e
in_both v done more up x (inr i) = inr (up x i)

pub left_up : (s : Sizes) (P Q : Entry → Type 0) (done more vs : List Write) → ((e : Entry) → P e → Q e) → ((x : Write) → In x done → In x more)
    → LeftOk s P done vs → LeftOk s Q more vs
left_up s P Q done more [] of up ok = tt
left_up s P Q done more (v ∷ vs) of up ok = (write_up s P Q done more v of up ok.0, left_up s P Q (v ∷ done) (v ∷ more) vs of (in_both v done more up) ok.1)

-- offsets that a write covers

pub in_beside : (v : Write) (o : ℕ) → is_in v o ≡ false → IsBeside v o
in_beside v o out = go (nat_le v.offset o) refl (nat_lt o (v.offset + length v.bytes)) refl
  where
    go : (p : Bool) → nat_le v.offset o ≡ p → (q : Bool) → nat_lt o (v.offset + length v.bytes) ≡ q → IsBeside v o
    go false e q f = inl (grind (arith, nat_tests))
    go true e false f = inr (grind (arith, nat_tests))
    go true e true f = absurd (let x : true ≡ false = sym (λ i. e i && f i) ∙ out in cc)

zeros_there : (o : ℕ) → is_in (zeros_write o) o ≡ true
zeros_there o =
    let size : length {A = ℕ} (replicate 4096 0) ≡ 4096 = length-replicate {A = ℕ} 4096 0 in
    go (nat_le o o) refl (nat_lt o (o + length {A = ℕ} (replicate 4096 0))) refl size
  where
    go : (p : Bool) → nat_le o o ≡ p → (q : Bool) → nat_lt o (o + length {A = ℕ} (replicate 4096 0)) ≡ q → length {A = ℕ} (replicate 4096 0) ≡ 4096 → (p && q) ≡ true
    go true e true f size = refl
    go false e q f size = absurd (grind (arith, nat_tests))
    go true e false f size = absurd (grind (arith, nat_tests, size))

-- zeros come before an index if there is room
left_zeros : (s : Sizes) (P : Entry → Type 0) (o : ℕ) (done ws : List Write) → s.index ≤ o
    → ((more : List Write) → IsBarredAt s more o → LeftOk s P more ws) → LeftOk s P done (with_zeros s.block o ws)
left_zeros s P o done ws far later = go (nat_le (o + 4096) s.block) refl
  where
    go : (t : Bool) → nat_le (o + 4096) s.block ≡ t → LeftOk s P done (if t then zeros_write o ∷ ws else ws)
    go true e = ((inr far, tt), later (zeros_write o ∷ done) (inr (zeros_write o, inl refl, zeros_there o)))
    go false e = later done (inl (grind (arith, nat_tests)))

-- where a chain leads

far_behind : (s : Sizes) (p : ℕ) (e : Entry) (es : List Entry) → Each (Fits s p) (e ∷ es) → p + s.index ≤ behind s p (e ∷ es)
far_behind s p e [] fits = let b : s.index ≤ e.offset = (fits.0).behind in omega arith
far_behind s p e (d ∷ es) fits = far_behind s p d es fits.1

pub behind_far : (s : Sizes) (p : ℕ) (es : List Entry) → s.index ≤ s.block → Each (Fits s p) es → p + s.index ≤ behind s p es
behind_far s p [] le fits = omega arith
behind_far s p (e ∷ es) le fits = far_behind s p e es fits

leads_far : (s : Sizes) (B : ℕ → ℕ) (p q : ℕ) (es : List Entry) → Leads s B p es q → (q ≡ p) ⊎ (p + s.index ≤ q)
leads_far s B p q es (here) = inl refl
leads_far s B p q es (over {e = e} {es = xs} {rest = rest} is leads) =
    let a : p + s.index ≤ behind s p (e ∷ xs) = far_behind s p e xs is.fits in
    inr (elim (leads_far s B (behind s p (e ∷ xs)) q rest leads) [
      | inl same ↦ omega (arith, same)
      | inr more ↦ omega (arith, more)
    ])

some_entries : (at : ℕ) (now : List BufferEntryInfo) → 0 < length now → 0 < length (entries_from at now)
some_entries at [] some = absurd (omega arith)
some_entries at (i ∷ is) some = subst (λ l. 0 < length l) (sym (entries_cons at i is)) (omega arith)

module _ {A C : Type 0} (s : Sizes) (w : Section) (sizes : AreSizes s) (P : Entry → Type 0) where
  -- What a splitter places is written so, whatever was done.
  pub fills_left : (B : ℕ → ℕ) (start : ℕ) (f : Position) (es : List Entry) (infos : List BufferEntryInfo) (parts : List (BlobPart A)) (qs : List (Part C)) (g : Position) (done : List Write)
      → start + taken infos ≤ length (bytes_of w) → Each (λ i. 0 < i.len) infos
      → Fills s w start f infos parts g → AreSameParts qs parts → Holds s B f es → ((e : Entry) → In e es → P e)
      → ((e : Entry) → In e (map entry_of (records_in qs)) → P e) → LeftOk s P done (writes_of s.block qs)
  fills_left B start f es infos parts [] g done room some fill same h known new = tt
  fills_left B start f es infos parts (q ∷ qs) g done room some (stays) same h known new = absurd same
  fills_left B start f es infos parts (q ∷ qs) g done room some (blob full more) same h known new =
      fills_left B start (next_blob s f) es infos parts (q ∷ qs) g done room some more same
      (subst (λ l. Holds s B (next_blob s f) l) (append-nil es) (holds_fills {A = A} s w sizes B start f es [] [] (next_blob s f) (omega (arith, taken_none)) tt (blob full stays) h)) known new
  fills_left B start f es infos parts (q ∷ qs) g done room some (part {now = now} {rest = rest} {p = p} {parts = more} is fill) same h known new = (
    (inr (omega (arith, at_is, past)), tt),
    left_zeros s P end_at (dw ∷ done) (iw ∷ writes_of s.block qs) (omega (arith, at_is, past)) (λ so_far barred. (
      (first_or_far, index_ok so_far barred),
      fills_left D (start + taken now) f' (es ++ map entry_of q.records) rest more qs g (iw ∷ so_far) (omega (arith, total)) someboth.1 fill same.1 later
          (λ e i. elim (in_either e es (map entry_of q.records) i) [ inl old ↦ known e old | inr mine ↦ new e (front e mine) ])
          (λ e i. new e (back e i)),
    )),
  )
    where
      f' : Position
      f' = with_records f now

      dw : Write
      dw = record { role = Data; offset = q.blob + q.at; bytes = q.content }

      iw : Write
      iw = record { role = Index; offset = q.blob; bytes = q.index }

      end_at : ℕ
      end_at = q.blob + q.at + length q.content

      D : ℕ → ℕ
      D = laid iw (zeroed s.block end_at (laid dw B))

      total : taken (now ++ rest) ≡ taken now + taken rest
      total = taken-append now rest

      someboth : Each (λ i. 0 < i.len) now × Each (λ i. 0 < i.len) rest
      someboth = (each_front (λ i. 0 < i.len) now rest some, each_back (λ i. 0 < i.len) now rest some)

      past : s.index ≤ f.at
      past = h.past

      blob_is : q.blob ≡ f.blob
      blob_is = (same.0).blob ∙ is.blob

      at_is : q.at ≡ f.at
      at_is = (same.0).at ∙ is.at

      size : length q.content ≡ taken now
      size = ap length (same.0).content ∙ (part_is s w start f now p is (omega (arith, total))).1

      data_is : dw ≡ fills.data_write p
      data_is = λ i. record { role = Data; offset = (same.0).blob i + (same.0).at i; bytes = (same.0).content i }

      index_is : iw ≡ fills.index_write p
      index_is = λ i. record { role = Index; offset = (same.0).blob i; bytes = (same.0).index i }

      end_is : end_at ≡ fills.data_end p
      end_is = λ i. (same.0).blob i + (same.0).at i + length ((same.0).content i)

      all_is : D ≡ all_laid (fills.writes_of s.block (p ∷ [])) B
      all_is = (λ i. laid (index_is i) (zeroed s.block (end_is i) (laid (data_is i) B)))
          ∙ sym (all_laid_zeros s.block (fills.data_end p) (fills.index_write p ∷ []) (laid (fills.data_write p) B))

      alone : Fills s w start f (now ++ []) (p ∷ []) f'
      alone = part is stays

      near : start + taken (now ++ []) ≤ length (bytes_of w)
      near = subst (λ l. start + taken l ≤ length (bytes_of w)) (sym (append-nil now)) (omega (arith, total))

      own_is : map stored q.records ≡ fills.records_in (p ∷ [])
      own_is = (same.0).records ∙ sym (append-nil (stands.stored_at p.blob_block_offset p.part_blob_offset (bytes_of p.part_data) p.indices.items))

      later : Holds s D f' (es ++ map entry_of q.records)
      later = subst (λ l. Holds s D f' (es ++ l)) (ap (map stands.entry_of) (sym own_is) ∙ entries_stored q.records)
          (subst (λ k. Holds s k f' (es ++ map stands.entry_of (fills.records_in (p ∷ [])))) (sym all_is)
          (holds_fills s w sizes B start f es (now ++ []) (p ∷ []) f' near (each_join (λ i. 0 < i.len) now [] someboth.0 tt) alone h))

      split : map entry_of (records_in (q ∷ qs)) ≡ map entry_of q.records ++ map entry_of (records_in qs)
      split = Rattle.std.proofs.lemmas.List.map-append entry_of q.records (records_in qs)

      front : (e : Entry) → In e (map entry_of q.records) → In e (map entry_of (records_in (q ∷ qs)))
      front e i = subst (λ l. In e l) (sym split) (in_left e (map entry_of q.records) (map entry_of (records_in qs)) i)

      back : (e : Entry) → In e (map entry_of (records_in qs)) → In e (map entry_of (records_in (q ∷ qs)))
      back e i = subst (λ l. In e l) (sym split) (in_right e (map entry_of q.records) (map entry_of (records_in qs)) i)

      first_or_far : (q.blob ≡ 0) ⊎ (s.index ≤ q.blob)
      first_or_far = elim (leads_far s B 0 f.blob h.before h.front) [
        | inl zero ↦ inl (blob_is ∙ zero)
        | inr far ↦ inr (omega (arith, blob_is, far))
      ]

      listed : 0 < length f'.listed
      listed =
          let more : 0 < length (entries_from f.at now) = some_entries f.at now is.some in
          omega (arith, more, length-append f.listed (entries_from f.at now))

      ends : behind s q.blob f'.listed ≡ end_at
      ends = ap (λ b. behind s b f'.listed) blob_is ∙ later.end listed ∙ omega (arith, blob_is, at_is, size)

      index_ok : (so_far : List Write) → IsBarredAt s so_far end_at → IsOwnIndex s P so_far iw
      index_ok so_far barred = (
        f'.listed,
        subst (λ b. IsSealed b f'.listed) (sym (same.0).index) is.index,
        λ e i. elim (in_either e es (map entry_of q.records)
            (subst (λ l. In e l) (sym later.all) (in_right e later.before (placed f'.blob f'.listed) (subst (λ b. In e (placed b f'.listed)) blob_is i)))) [
              | inl old ↦ known e old
              | inr mine ↦ new e (front e mine)
            ],
        subst (IsBarredAt s so_far) (sym ends) barred,
      )

-- A position up to which a filling of these records has come: over some bytes it holds none but theirs.
abbrev pub IsFilledBy : {C : Type 0} → Sizes → List (ℕ × Record C) → Position → Type 0
IsFilledBy s records f = (B : ℕ → ℕ) × (es : List Entry) × Holds s B f es × ((e : Entry) → In e es → IsOfRecord records e)

pub filled_more : {C : Type 0} (s : Sizes) (records more : List (ℕ × Record C)) (f : Position) → ((p : ℕ × Record C) → In p records → In p more) → IsFilledBy s records f → IsFilledBy s more f
filled_more s records more f up (B, es, h, known) = (B, es, h, λ e i. let r : IsOfRecord records e = known e i in (r.0, up r.0 r.1, r.2))

-- What comes behind the first block of a spread is spread from nothing on.
pub spread_rest : (A : Type 0) {C : Type 0} (s : Sizes) (start : Position) (sp : BlockLayout C) (rest : List (BlockLayout C)) → IsSpread A s start (sp ∷ rest) → RestOk A s (fresh s) rest
spread_rest A {C} s start sp rest spread = more rest (spread.spread).6
  where
    w : Section
    w = spread.whole

    n : ℕ
    n = spread.start

    now : List BufferEntryInfo
    now = (spread.spread).0

    later : List BufferEntryInfo
    later = (spread.spread).1

    split : spread.infos ≡ now ++ later
    split = (spread.spread).3

    room : n + taken now + taken later ≤ length (bytes_of w)
    room =
        let r : n + (taken now + taken later) ≤ length (bytes_of w) = subst (λ k. n + k ≤ length (bytes_of w)) (ap taken split ∙ taken-append now later) spread.room in
        omega arith

    each : Each (buffered.FitsBlock s) later
    each = each_back (buffered.FitsBlock s) now later (subst (Each (buffered.FitsBlock s)) split spread.each)

    more : (bs : List (BlockLayout C)) → AreSpread A s w (n + taken now) (fresh s) later bs → RestOk A s (fresh s) bs
    more [] k = tt
    more (b ∷ bs) k = record { whole = w; start = n + taken now; infos = later; room = room; each = each; spread = k }

module _ (A : Type 0) {C : Type 0} (rules : Rules C) (sizes : AreSizes (sizes_of rules)) where
  -- The first block of a spread is written so, from where it begins.
  pub spread_left : (records : List (ℕ × Record C)) (done : List Write) (start : Position) (sp : BlockLayout C) (rest : List (BlockLayout C)) → IsSpread A (sizes_of rules) start (sp ∷ rest)
      → IsFilledBy (sizes_of rules) records start
      → LeftOk (sizes_of rules) (IsOfRecord (records ++ records_in sp.parts)) done (writes_of rules.block_size sp.parts)
      × IsFilledBy (sizes_of rules) (records ++ records_in sp.parts) (filled_to sp.end)
  spread_left records done start sp rest spread (B, es, h, known) = (
    fills_left s w sizes (IsOfRecord all) B n start es now parts sp.parts (filled_to sp.end) done near some fill same h old new,
    (
      all_laid (writes_of rules.block_size sp.parts) B,
      es ++ map entry_of (records_in sp.parts),
      (spread_holds A rules sizes B start es sp rest spread h).0,
      λ e i. elim (in_either e es (map entry_of (records_in sp.parts)) i) [ inl before ↦ old e before | inr now ↦ new e now ],
    ),
  )
    where
      s : Sizes
      s = sizes_of rules

      w : Section
      w = spread.whole

      n : ℕ
      n = spread.start

      now : List BufferEntryInfo
      now = (spread.spread).0

      later : List BufferEntryInfo
      later = (spread.spread).1

      parts : List (BlobPart A)
      parts = (spread.spread).2

      split : spread.infos ≡ now ++ later
      split = (spread.spread).3

      fill : Fills s w n start now parts (filled_to sp.end)
      fill = (spread.spread).4

      same : AreSameParts sp.parts parts
      same = (spread.spread).5

      all : List (ℕ × Record C)
      all = records ++ records_in sp.parts

      near : n + taken now ≤ length (bytes_of w)
      near =
          let r : n + (taken now + taken later) ≤ length (bytes_of w) = subst (λ k. n + k ≤ length (bytes_of w)) (ap taken split ∙ taken-append now later) spread.room in
          omega arith

      some : Each (λ i. 0 < i.len) now
      some = each_some s now (each_front (buffered.FitsBlock s) now later (subst (Each (buffered.FitsBlock s)) split spread.each))

      old : (e : Entry) → In e es → IsOfRecord all e
      old e i = let r : IsOfRecord records e = known e i in (r.0, in_left r.0 records (records_in sp.parts) r.1, r.2)

      new : (e : Entry) → In e (map entry_of (records_in sp.parts)) → IsOfRecord all e
      new e i =
          let r : (p : ℕ × Record C) × In p (records_in sp.parts) × (e ≡ entry_of p) = entries_out e (records_in sp.parts) i in
          (r.0, in_right r.0 records (records_in sp.parts) r.1, sym r.2)
