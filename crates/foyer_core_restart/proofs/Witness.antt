-- A run that goes well and leaves an address in the index.
use Rattle.std.proofs.Common.{◌≡◌, ℕ, ◌+◌, ◌-◌, ◌<◌, ◌≤◌, nat_le, Bool, true, false, if◌then◌else◌, Option, Some, None, List, [], ◌∷◌, ◌++◌, length, take, drop, inl, inr, refl, sym, ap, subst, ◌∙◌, arith}
use Rattle.std.specs.Prelude.{map}
use Rattle.std.proofs.lemmas.Bool.Decides.{nat_tests}
use Rattle.std.proofs.lemmas.List.{length-take, length-drop}
use Rattle.foyer_format_layout.specs.Position.{Sizes}
use Rattle.foyer_format_layout.specs.Page.{page_up}
use Rattle.foyer_format_layout.proofs.PageLaws.{page_up-fewest, page_up-holds}
use Rattle.foyer_core_model.specs.Numbers.{put, page}
use Rattle.foyer_core_model.specs.Record.{Indexed, IndexEntry}
use Rattle.foyer_format_layout.specs.BlockBytes.{Index, Write, laid, read, Data, zeros_write}
use Rattle.foyer_core_model.specs.Position.{Position, Part, BlockLayout, records_in}
use Rattle.foyer_core_model.specs.State.{Flusher, Piece, Batch, Writing, Clean, Writes, no_stats, NoDestroy, State}
use Rattle.foyer_core_model.specs.Rules.{Rules, first_position}
use Rattle.foyer_core_model.specs.Step.{Fresh, Young, Enqueue, Receive, FlushBegin, FlushBlock, FlushWrote}
use Rattle.foyer_core_model.specs.Reply.{Queued, Received, Began, Written, Next, Committed}
use Rattle.foyer_core_model.specs.Layout.{writes_in}
use Rattle.foyer_core_model.specs.Queue.{queued}
use Rattle.foyer_core_model.specs.Receive.{pushed_to, turned}
use Rattle.foyer_core_model.specs.Flush.{released, write_done, block_done}
use Rattle.foyer_core_model.specs.Access.{Idle, CleanIdle}
use Rattle.foyer_core_model.specs.World.{World, WorldEvent, Applies, WriteBegins, WriteEnds, after, MayHappen}
use Rattle.foyer_core_model.specs.Opened.{IsOpened, idle, full_filling}
use Rattle.foyer_device_page.specs.Section.{Section, bytes_of}
use Rattle.foyer_format_blob.specs.Blob.{capacity_of}
use Rattle.foyer_format_blob.specs.declared.blob.BlobEntryIndex.{BlobEntryIndex}
use Rattle.foyer_format_layout.specs.Each.{Each}
use Rattle.foyer_format_buffer.specs.Position as laid
use Rattle.foyer_format_buffer.specs.Fills.{Fills}
use Rattle.foyer_format_buffer.specs.Fills.Fills.{part, blob}
use Rattle.foyer_format_buffer.specs.Holding.{all_read}
use Rattle.foyer_format_buffer.specs.Listing.{Fits, IsIndex, behind}
use Rattle.foyer_format_buffer.specs.declared.BufferEntryInfo.{BufferEntryInfo}
use Rattle.foyer_format_buffer.specs.declared.split.BlobPart.{BlobPart}
use Rattle.foyer_format_layout.proofs.BlockBytesLaws.{read_whole}
use Rattle.foyer_core_model.proofs.Basics.{put_at, put_other}
use Rattle.foyer_format_buffer.specs.Stored.{Stored, stored_at}
use Rattle.foyer_core_restart.specs.Entries.{filled_to, stored}
use Rattle.foyer_core_restart.proofs.TornMachine.{issued_as}
use Rattle.foyer_core_restart.specs.Real.{AreSameParts}
use Rattle.foyer_core_restart.specs.Restart.{IsRun, IsStopped, HasNoStrays, IsWriting, IsScanned}
use Rattle.foyer_core_restart.specs.Restart.IsScanned.{here, later}
use Rattle.foyer_core_restart.specs.Splits.{IsRealSplit}
use Rattle.foyer_core_restart.specs.Witness.{tiny, one, ReachesIndexed}

-- what one part is
one_part : {A : Type 0} (s : Sizes) (w : Section) (start : ℕ) (f : laid.Position) (infos : List BufferEntryInfo) (p : BlobPart A) (g : laid.Position) → 0 < capacity_of s.index → length f.listed ≡ 0
    → Fills s w start f infos (p ∷ []) g → (p.blob_block_offset ≡ f.blob) × (length p.index ≡ s.index) × (p.part_blob_offset ≡ f.at)
one_part s w start f infos p g room none (part is fill) = (is.blob, is.size, is.at)
one_part s w start f infos p g room none (blob full fill) = absurd (omega arith)

only_part : {A : Type 0} (s : Sizes) (w : Section) (start : ℕ) (f : laid.Position) (infos : List BufferEntryInfo) (q : Part (List ℕ)) (parts : List (BlobPart A)) (g : laid.Position) → 0 < capacity_of s.index → length f.listed ≡ 0
    → Fills s w start f infos parts g → AreSameParts (q ∷ []) parts → (q.blob ≡ f.blob) × (length q.index ≡ s.index) × (q.at ≡ f.at)
only_part s w start f infos q [] g room none fill same = absurd same
only_part s w start f infos q (p ∷ []) g room none fill same =
    let k : (p.blob_block_offset ≡ f.blob) × (length p.index ≡ s.index) × (p.part_blob_offset ≡ f.at) = one_part s w start f infos p g room none fill in
    ((same.0).blob ∙ k.0, ap length (same.0).index ∙ k.1, (same.0).at ∙ k.2)
only_part s w start f infos q (p ∷ r ∷ ps) g room none fill same = absurd same.1

-- a record that isn't empty has bytes among its part's data
some_stored : (r : Stored) (rs : List Stored) (base at : ℕ) (d : List ℕ) (es : List BlobEntryIndex) → r ∷ rs ≡ stored_at base at d es → 0 < length r.bytes → 0 < length d
some_stored r rs base at d [] e some = absurd cc
some_stored r rs base at d (x ∷ es) e some =
    let first : r ≡ record { hash = x.hash; sequence = x.sequence; offset = base + x.offset; bytes = take x.len (drop (x.offset - at) d) } = cc in
    let size : length r.bytes ≡ length (take x.len (drop (x.offset - at) d)) = ap (λ (u : Stored). length u.bytes) first in
    omega (arith, size, some, length-take x.len (drop (x.offset - at) d), length-drop (x.offset - at) d)

some_part : {A : Type 0} (q : Part (List ℕ)) (o : ℕ) (parts : List (BlobPart A)) → q.records ≡ (o, one) ∷ [] → AreSameParts (q ∷ []) parts → 0 < length q.content
some_part q o [] is same = absurd same
some_part q o (p ∷ ps) is same =
    subst (λ d. 0 < length d) (sym (same.0).content)
    (some_stored (stored (o, one)) [] p.blob_block_offset p.part_blob_offset (bytes_of p.part_data) p.indices.items
    (sym (ap (map stored) is) ∙ (same.0).records) (omega arith))

-- behind the first index there is no room for another
far : (B : ℕ → ℕ) (failed : ℕ → Bool) (es : List BlobEntryIndex) → IsIndex (record { block = 8192; index = 4096 }) B failed 0 es → 4096 < behind (record { block = 8192; index = 4096 }) 0 es
far B failed es is = go es is.fits
  where
    go : (es : List BlobEntryIndex) → Each (Fits (record { block = 8192; index = 4096 }) 0) es → 4096 < behind (record { block = 8192; index = 4096 }) 0 es
    go [] fits = omega arith
    go (e ∷ []) fits = let a : 4096 ≤ e.offset = (fits.0).behind in let b : 0 < e.len = (fits.0).some in omega (arith, page_up-holds e.len)
    go (e ∷ d ∷ es) fits = go (d ∷ es) fits.1

past : (B : ℕ → ℕ) (p q : ℕ) → IsScanned (record { block = 8192; index = 4096 }) B p q → p ≤ q
past B p q (here) = omega arith
past B p q (later {es = es} is more) =
    let l : p ≤ behind (record { block = 8192; index = 4096 }) p es = go p es is.fits in
    let m : behind (record { block = 8192; index = 4096 }) p es ≤ q = past B (behind (record { block = 8192; index = 4096 }) p es) q more in omega arith
  where
    go : (p : ℕ) (es : List BlobEntryIndex) → Each (Fits (record { block = 8192; index = 4096 }) p) es → p ≤ behind (record { block = 8192; index = 4096 }) p es
    go p [] fits = omega arith
    go p (e ∷ []) fits = omega arith
    go p (e ∷ d ∷ es) fits = go p (d ∷ es) fits.1

-- so the first place is the only one with an index
pub first_only : (B : ℕ → ℕ) (q : ℕ) (es : List BlobEntryIndex) → IsScanned (record { block = 8192; index = 4096 }) B 0 q → q + 4096 ≤ 8192 → q ≡ 0
first_only B q es (here) room = refl
first_only B q es (later {es = fs} is more) room =
    let l : 4096 < behind (record { block = 8192; index = 4096 }) 0 fs = far B all_read fs is in
    let m : behind (record { block = 8192; index = 4096 }) 0 fs ≤ q = past B (behind (record { block = 8192; index = 4096 }) 0 fs) q more in absurd (omega arith)

module _ (A : Type 0) (entries_of : ℕ → List ℕ → Option (List IndexEntry)) (above : (n : ℕ) → n ≤ page_up n) (some : 0 < 1) (whole : page ≤ 4096)
    (base at offset : ℕ) (content index : List ℕ) (end : Position) where
  abbrev C : Type 0
  C = List ℕ

  abbrev rules : Rules (List ℕ)
  rules = tiny entries_of above some whole

  abbrev sp : BlockLayout (List ℕ)
  sp = record { parts = record { blob = base; at = at; content = content; index = index; records = (offset, one) ∷ [] } ∷ []; end = end }

  abbrev core0 : State (List ℕ)
  core0 = record {
    index = λ h. None;
    next = 1;
    steps = 0;
    closed = false;
    flushers = λ f. idle rules;
    place = λ b. Clean;
    clean = 0 ∷ [];
    waiting = [];
    filling = λ b. 0;
    stats = λ b. no_stats;
    reclaims = λ b. None;
    destroy = NoDestroy;
  }

  abbrev w0 : World (List ℕ)
  w0 = record {
    core = core0;
    bytes = λ b o. 0;
    history = [];
    kept = λ h. None;
    filled = λ b. full_filling rules;
    begun_writes = [];
    committed = [];
    loads = λ n. None;
    issued = 0;
    scans = λ b. None;
    block_writes = λ f. Idle;
    clean_states = λ b. CleanIdle;
  }

  opened : IsOpened rules w0
  opened = record {
    found = [];
    all = tt;
    index = λ h. refl;
    history = refl;
    kept = λ h. refl;
    place = λ b. inl refl;
    clean = refl;
    first = omega arith;
    last = omega arith;
    steps = refl;
    closed = refl;
    flushers = λ f. refl;
    waiting = refl;
    filling = λ b. refl;
    stats = λ b. refl;
    reclaims = λ b. refl;
    destroy = refl;
    filled = λ b. refl;
    begun_writes = refl;
    committed = refl;
    loads = λ n. refl;
    issued = refl;
    scans = λ b. refl;
    block_writes = λ f. refl;
    clean_states = λ b. refl;
  }

  -- the states, one after the other

  abbrev c1 : State (List ℕ)
  c1 = record (record (queued rules core0 0 (Piece 7 1 1 (9 ∷ []))) { next = 2 }) { steps = 1 }

  abbrev c2 : State (List ℕ)
  c2 = record (pushed_to rules c1 0 [] one) { steps = 2 }

  abbrev batch : Batch (List ℕ)
  batch = record { blocks = sp ∷ []; continues_own_block = false; writing = None; marks = []; invalidated = []; pieces = (1, 9 ∷ []) ∷ []; waits = []; logged = None }

  abbrev c3 : State (List ℕ)
  c3 = record (turned rules c2 0 (record (c2.flushers 0) { buffer = []; marks = []; invalidated = []; waits = []; context = end; batch = Some batch })) { steps = 3 }

  -- a block of two pages has no room behind its record
  abbrev plain : List Write
  plain = record { role = Data; offset = base + at; bytes = content } ∷ record { role = Index; offset = base; bytes = index } ∷ []

  abbrev c4 : State (List ℕ)
  c4 = record (record (issued_as c3 0 0 batch plain (records_in sp.parts) []) { filling = put c3.filling 0 1; clean = []; place = put (released None c3.place) 0 (Writes 0) }) { steps = 4 }

  abbrev writing : Writing (List ℕ)
  writing = record { block = 0; left = plain; records = (offset, one) ∷ [] }

  abbrev issued : Batch (List ℕ)
  issued = record batch { blocks = []; writing = Some writing }

  abbrev index_left : List Write
  index_left = record { role = Index; offset = base; bytes = index } ∷ []

  abbrev c5 : State (List ℕ)
  c5 = record (write_done rules c4 0 issued writing index_left) { steps = 5 }

  abbrev last_issued : Batch (List ℕ)
  last_issued = record issued { writing = Some (record writing { left = index_left }) }

  abbrev c6 : State (List ℕ)
  c6 = record (block_done rules c5 0 last_issued (record writing { left = index_left })) { steps = 6 }

  -- the events

  abbrev e1 : WorldEvent (List ℕ)
  e1 = Applies (Enqueue 7 1 Fresh (9 ∷ [])) (Queued 1) c1

  abbrev e2 : WorldEvent (List ℕ)
  e2 = Applies (Receive 0) (Received None) c2

  abbrev e3 : WorldEvent (List ℕ)
  e3 = Applies (FlushBegin 0) (Began (sp ∷ []) []) c3

  abbrev e4 : WorldEvent (List ℕ)
  e4 = Applies (FlushBlock 0) (Written 0 plain) c4

  abbrev w4 : World (List ℕ)
  w4 = after rules (after rules (after rules (after rules w0 e1) e2) e3) e4

  abbrev w5 : World (List ℕ)
  w5 = after rules (after rules w4 (WriteBegins 0)) (WriteEnds 0 true (λ o. 0))

  abbrev e5 : WorldEvent (List ℕ)
  e5 = Applies (FlushWrote 0 true) Next c5

  abbrev w6 : World (List ℕ)
  w6 = after rules (after rules w5 e5) (WriteBegins 0)

  abbrev e6 : WorldEvent (List ℕ)
  e6 = WriteEnds 0 true (w6.bytes 0)

  abbrev e7 : WorldEvent (List ℕ)
  e7 = Applies (FlushWrote 0 true) (Committed 1) c6

  abbrev events : List (WorldEvent (List ℕ))
  events = e1 ∷ e2 ∷ e3 ∷ e4 ∷ WriteBegins 0 ∷ WriteEnds 0 true (λ o. 0) ∷ e5 ∷ WriteBegins 0 ∷ e6 ∷ e7 ∷ []

  module _ (splits : IsRealSplit A rules (first_position rules) (one ∷ []) (sp ∷ [])) where
    abbrev May : World (List ℕ) → WorldEvent (List ℕ) → Type 0
    May = MayHappen rules (IsRealSplit A rules) (λ c. Unit {0})

    only : (base ≡ 0) × (length index ≡ 4096) × (at ≡ 4096)
    only = only_part (record { block = 8192; index = 4096 }) splits.whole 0 (filled_to (first_position rules)) (splits.spread).0 (record { blob = base; at = at; content = content; index = index; records = (offset, one) ∷ [] })
        (splits.spread).2 (filled_to end) (omega arith) refl (splits.spread).4 (splits.spread).5

    full : nat_le (base + at + length content + 4096) 8192 ≡ false
    full =
        let low : base ≡ 0 = only.0 in
        let behind : at ≡ 4096 = only.2 in
        let some : 0 < length content = some_part (record { blob = base; at = at; content = content; index = index; records = (offset, one) ∷ [] }) offset (splits.spread).2 refl (splits.spread).5 in
        grind (arith, nat_tests)

    plain_in : plain ≡ writes_in rules sp.parts
    plain_in = sym (ap (λ (b : Bool).
        (record { role = Data; offset = base + at; bytes = content }
        ∷ (if b then zeros_write (base + at + length content) ∷ record { role = Index; offset = base; bytes = index } ∷ [] else record { role = Index; offset = base; bytes = index } ∷ [])) ++ []) full)

    may1 : May w0 e1
    may1 = ((omega arith, tt), (omega arith, tt, (record (queued rules core0 0 (Piece 7 1 1 (9 ∷ []))) { next = 2 }, (refl, refl, is_queued, omega arith, refl), refl)))
      where
        is_queued : (Fresh ≡ Young → ⊥) × (1000 < 0 → ⊥)
        is_queued = ((λ e. cc), (λ l. omega arith))

    may2 : May (after rules w0 e1) e2
    may2 = (tt, (omega arith, omega arith, (pushed_to rules c1 0 [] one, (9 ∷ [], refl, (omega (arith, page_up-fewest 1), omega (arith, page_up-fewest 1)), refl), refl)))

    may3 : May (after rules (after rules w0 e1) e2) e3
    may3 = (tt, (omega arith, (omega arith, refl, inl (λ e. cc)), (turned rules c2 0 (record (c2.flushers 0) { buffer = []; marks = []; invalidated = []; waits = []; context = end; batch = Some batch }), (refl, splits, refl), refl)))

    may4 : May (after rules (after rules (after rules w0 e1) e2) e3) e4
    may4 = (
      tt,
      (
        omega arith,
        (omega arith, ((λ e. cc), refl)),
        (
          record (issued_as c3 0 0 batch plain (records_in sp.parts) []) { filling = put c3.filling 0 1; clean = []; place = put (released None c3.place) 0 (Writes 0) },
          (sp, [], refl, plain_in, inr (inr (refl, refl, refl, (λ t. record (issued_as c3 0 0 batch (plain_in t) (records_in sp.parts) []) { filling = put c3.filling 0 1; clean = []; place = put (released None c3.place) 0 (Writes 0) })))),
          refl,
        ),
      ),
    )

    may5 : May w5 e5
    may5 = (refl, (omega arith, (omega arith, (writing, refl)), (write_done rules c4 0 issued writing index_left, (writing, _, _, _, refl, refl, refl), refl)))

    may7 : May (after rules w6 e6) e7
    may7 = (refl, (omega arith, (omega arith, (record writing { left = index_left }, refl)), (block_done rules c5 0 last_issued (record writing { left = index_left }), (record writing { left = index_left }, _, refl, refl, refl, refl), refl)))

    strays : HasNoStrays rules (after rules (after rules w6 e6) e7) (after rules (after rules w6 e6) e7).bytes
    strays b p es lt scan is =
        let block : b ≡ 0 = omega arith in
        let at_first : p ≡ 0 = first_only ((after rules (after rules w6 e6) e7).bytes b) p es scan is.room in
        let at_zero : base ≡ 0 = only.0 in
        let size : length index ≡ 4096 = only.1 in (
          record { role = Index; offset = base; bytes = index },
          inl (λ i. (block i, record { role = Index; offset = base; bytes = index })),
          refl,
          at_zero ∙ sym at_first,
          subst (λ c. index ≡ read ((after rules (after rules w6 e6) e7).bytes c) p 4096) (sym block)
              (subst (λ q. index ≡ read ((after rules (after rules w6 e6) e7).bytes 0) q 4096) (at_zero ∙ sym at_first)
              (subst (λ n. index ≡ read ((after rules (after rules w6 e6) e7).bytes 0) base n) size
              (sym (read_whole (record { role = Index; offset = base; bytes = index }) (laid (record { role = Data; offset = base + at; bytes = content }) (λ o. 0)))))),
        )

    idle_then : (f : ℕ) (r : Writing (List ℕ)) → IsWriting (after rules (after rules w6 e6) e7).core f r → ⊥
    idle_then f r (b, is, w) = go is
      where
        go : ((after rules (after rules w6 e6) e7).core.flushers f).batch ≡ Some b → ⊥
        go given = put_at (λ (φ : Flusher (List ℕ)). φ.batch ≡ Some b → ⊥) c5.flushers 0 _ f
            (λ _ e. let k : record last_issued { writing = None } ≡ b = cc in let x : None ≡ Some r = ap (λ (q : Batch (List ℕ)). q.writing) k ∙ w in cc)
            (λ ne e. others ne e) given
          where
            others : (f ≡ 0 → ⊥) → (c5.flushers f).batch ≡ Some b → ⊥
            others ne e = let x : (c5.flushers f).batch ≡ None = same ne in let y : None ≡ Some b = sym x ∙ e in cc
              where
                same : (f ≡ 0 → ⊥) → (c5.flushers f).batch ≡ None
                same ne = ap (λ (φ : Flusher (List ℕ)). φ.batch) (put_other c4.flushers 0 _ f ne ∙ put_other c3.flushers 0 _ f ne ∙ put_other c2.flushers 0 _ f ne ∙ put_other c1.flushers 0 _ f ne ∙ put_other core0.flushers 0 _ f ne)

    reached : (w : World (List ℕ)) × IsRun rules (IsRealSplit A rules) (λ c. Unit {0}) w × (w.core.index 7 ≡ Some (Indexed (record { block = 0; offset = offset; len = 1; sequence = 1; filling = 1 })))
        × ((f : ℕ) (r : Writing (List ℕ)) → IsWriting w.core f r → ⊥) × IsStopped rules w w.bytes × HasNoStrays rules w w.bytes
    reached = (
      after rules (after rules w6 e6) e7,
      record {
        first = w0;
        events = events;
        opened = opened;
        empty = λ h. refl;
        happened = (may1, (may2, (may3, (may4, (tt, ((λ o _. refl), (may5, (tt, ((λ o _. refl), (may7, tt))))))))));
        well = (tt, (tt, (tt, (tt, (tt, (refl, (tt, (tt, (refl, (tt, tt))))))))));
        is = refl;
      },
      refl,
      idle_then,
      (λ b o _. refl),
      strays,
    )

pub reaches_indexed_lem : (A : Type 0) → ReachesIndexed A
reaches_indexed_lem A entries_of above some whole base at offset content index end splits = reached A entries_of above some whole base at offset content index end splits
