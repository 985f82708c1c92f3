-- A run of the smallest core that leaves an address in the index.
use Rattle.std.proofs.Common.{◌≡◌, ℕ, ◌+◌, ◌-◌, ◌<◌, ◌≤◌, ◌^◌, nat_le, nat_lt, Bool, true, false, ◌&&◌, if◌then◌else◌, Some, None, List, [], ◌∷◌, ◌++◌, length, replicate, inl, inr, refl, sym, ap, subst, ◌∙◌, arith}
use Rattle.std.proofs.lemmas.Bool.Decides.{nat_tests}
use Rattle.std.proofs.lemmas.List.{length-append, length-replicate, take_at, drop_all}
use Rattle.foyer_format_blob.specs.Blob.{IsSealed}
use Rattle.foyer_format_blob.specs.declared.blob.BlobEntryIndex.{BlobEntryIndex}
use Rattle.foyer_format_layout.specs.BlockBytes.{laid, read, Index, Write, Data, zeros_write}
use Rattle.foyer_core_restart.specs.Listing.{IsIndex, Lists}
use Rattle.foyer_core_restart.specs.Listing.Chain.{ends, goes}
use Rattle.foyer_format_layout.proofs.BlockBytesLaws.{read_whole}
use Rattle.foyer_format_layout.specs.Page.{page_up}
use Rattle.foyer_format_record.specs.Record.{record_bytes}
use Rattle.foyer_format_layout.proofs.PageLaws.{page_up-holds, page_up-least}
use Rattle.foyer_format_record.proofs.RecordBytes.{length-record_bytes}
use Rattle.foyer_core_model.specs.Numbers.{put}
use Rattle.foyer_core_model.specs.Record.{IndexEntry, Record, Given}
use Rattle.foyer_core_model.specs.Position.{Position, Part, BlockLayout, records_in}
use Rattle.foyer_core_model.specs.State.{Flusher, Piece, Batch, Writing, Clean, Writes, no_stats, NoDestroy, State}
use Rattle.foyer_core_model.specs.Rules.{Rules, first_position}
use Rattle.foyer_core_model.specs.Step.{Fresh, Young, Enqueue, Receive, FlushBegin, FlushBlock, FlushWrote}
use Rattle.foyer_core_model.specs.Reply.{Queued, Received, Began, Written, Next, Committed}
use Rattle.foyer_core_model.specs.Layout.{writes_in}
use Rattle.foyer_core_model.specs.Queue.{queued}
use Rattle.foyer_core_model.specs.Receive.{pushed_to, turned}
use Rattle.foyer_core_model.specs.Flush.{released, write_done, block_done}
use Rattle.foyer_core_model.specs.Access.{Idle, CleanIdle}
use Rattle.foyer_core_model.specs.World.{World, WorldEvent, Applies, WriteBegins, WriteEnds, after, MayHappen}
use Rattle.foyer_core_model.specs.Opened.{IsOpened, idle, full_filling}
use Rattle.foyer_core_model.proofs.Basics.{put_at, put_other}
use Rattle.foyer_core_restart.proofs.SealLemmas.{IndexOf, index_for}
use Rattle.foyer_core_restart.specs.LayoutSplits.{with_records, IsPart}
use Rattle.foyer_core_restart.specs.LayoutSplits.LaidOut.{part}
use Rattle.foyer_core_restart.specs.LayoutSplits.Left.{done}
use Rattle.foyer_core_restart.specs.Opening.{Keeps, Opened, Opens, winner, slot_of, all_stand, greatest, clean_from}
use Rattle.foyer_core_restart.specs.RecoverMode.TheVariants as recover_mode
use Rattle.foyer_core_restart.proofs.TornMachine.{issued_as}
use Rattle.foyer_core_restart.proofs.Witness.{first_only}
use Rattle.foyer_core_restart.specs.Restart.{HasNoStrays, IsWriting, no_fault}
use Rattle.foyer_core_laws.specs.Content.{Content}
use Rattle.foyer_core_laws.specs.CoreRules.{rules_of, layout, has_record, encoded, IsEncoded}
use Rattle.foyer_core_laws.specs.Reached.{smallest, IsReached}
use Rattle.foyer_core_settings.specs.Sizes.{AreValid, sizes_in}
use Rattle.foyer_core_settings.specs.declared.settings.Settings.{Settings}

module _ (is_key is_value : List ℕ → Bool) (s : Settings) (sound : AreValid (smallest s)) (key value : List ℕ)
    (key_is : is_key key ≡ true) (value_is : is_value value ≡ true) (short : length value + length key ≤ 4060) where
  abbrev rules : Rules Content
  rules = rules_of is_key is_value (smallest s) sound

  abbrev c : Content
  c = record { key = key; value = value; is_encodable = true }

  -- its record: hash 7, sequence 1
  abbrev bytes : List ℕ
  bytes = record_bytes 7 1 key value

  abbrev n : ℕ
  n = length bytes

  abbrev one : Record Content
  one = record { hash = 7; sequence = 1; bytes = bytes; source = Given c }

  some_bytes : (0 < n) × (n ≤ 4096)
  some_bytes = let l : n ≡ 36 + (length value + length key) = length-record_bytes 7 1 key value in (omega arith, omega arith)

  page_fits : page_up n ≤ 4096
  page_fits = page_up-least n 4096 some_bytes.1 refl

  page_some : 0 < page_up n
  page_some = let l : n ≤ page_up n = page_up-holds n in let m : 0 < n = some_bytes.0 in omega arith

  is_encoded : encoded 7 1 c ≡ Some bytes
  is_encoded = ap (λ (t : Bool). if t then Some bytes else None) has
    where
      has : has_record c ≡ true
      has =
          let k : nat_lt (length key) (2 ^ 32) ≡ true = grind (arith, nat_tests) in
          let v : nat_lt (length value) (2 ^ 32) ≡ true = grind (arith, nat_tests) in
          ap (λ (t : Bool). t && nat_lt (length value) (2 ^ 32)) k ∙ v

  abbrev first : Position
  first = first_position rules

  abbrev zeros : List ℕ
  zeros = replicate (page_up n - n) 0

  abbrev content : List ℕ
  content = bytes ++ zeros

  content_len : length content ≡ page_up n
  content_len = let l : n ≤ page_up n = page_up-holds n in omega (arith, length-append bytes zeros, length-replicate {A = ℕ} (page_up n - n) 0)

  abbrev entry : IndexEntry
  entry = record { hash = 7; sequence = 1; offset = 4096; len = n }

  sealed : IndexOf 4096 (entry ∷ [])
  sealed = index_for 4096 (entry ∷ []) (omega arith) (omega arith) (omega arith)
      (record { hash = omega arith; sequence = omega arith; offset = omega arith; len = (let l : n ≤ 4096 = some_bytes.1 in omega arith) }, tt)

  abbrev index : List ℕ
  index = sealed.bytes

  abbrev p : Part Content
  p = record { blob = 0; at = 4096; content = content; index = index; records = (4096, one) ∷ [] }

  abbrev end : Position
  end = with_records first (one ∷ [])

  abbrev sp : BlockLayout Content
  sp = record { parts = p ∷ []; end = end }

  splits : layout (smallest s) first (one ∷ []) (sp ∷ [])
  splits = (omega arith, part {now = one ∷ []} {rest = []} is (done (omega arith)))
    where
      is : IsPart (sizes_in (smallest s)) first (one ∷ []) p
      is = record {
        some = omega arith;
        blob = refl;
        at = refl;
        content = (take_at bytes zeros n refl, (let l : length content ≡ page_up n = content_len in omega arith), drop_all (page_up n) content (let l : length content ≡ page_up n = content_len in omega arith));
        index = sealed.is;
        size = sealed.len;
        within = (let l : page_up n ≤ 4096 = page_fits in omega arith);
        records = refl;
      }

  abbrev core0 : State Content
  core0 = record {
    index = λ h. None;
    next = 1;
    steps = 0;
    closed = false;
    flushers = λ f. idle rules;
    place = λ b. Clean;
    clean = 0 ∷ [];
    waiting = [];
    filling = λ b. 0;
    stats = λ b. no_stats;
    reclaims = λ b. None;
    destroy = NoDestroy;
  }

  abbrev w0 : World Content
  w0 = record {
    core = core0;
    bytes = λ b o. 0;
    history = [];
    kept = λ h. None;
    filled = λ b. full_filling rules;
    begun_writes = [];
    committed = [];
    loads = λ n. None;
    issued = 0;
    scans = λ b. None;
    block_writes = λ f. Idle;
    clean_states = λ b. CleanIdle;
  }

  opened : IsOpened rules w0
  opened = record {
    found = [];
    all = tt;
    index = λ h. refl;
    history = refl;
    kept = λ h. refl;
    place = λ b. inl refl;
    clean = refl;
    first = omega arith;
    last = omega arith;
    steps = refl;
    closed = refl;
    flushers = λ f. refl;
    waiting = refl;
    filling = λ b. refl;
    stats = λ b. refl;
    reclaims = λ b. refl;
    destroy = refl;
    filled = λ b. refl;
    begun_writes = refl;
    committed = refl;
    loads = λ n. refl;
    issued = refl;
    scans = λ b. refl;
    block_writes = λ f. refl;
    clean_states = λ b. refl;
  }

  -- the states, one after the other

  abbrev c1 : State Content
  c1 = record (record (queued rules core0 0 (Piece 7 1 1 c)) { next = 2 }) { steps = 1 }

  abbrev c2 : State Content
  c2 = record (pushed_to rules c1 0 [] one) { steps = 2 }

  abbrev batch : Batch Content
  batch = record { blocks = sp ∷ []; continues_own_block = false; writing = None; marks = []; invalidated = []; pieces = (1, c) ∷ []; waits = []; logged = None }

  abbrev c3 : State Content
  c3 = record (turned rules c2 0 (record (c2.flushers 0) { buffer = []; marks = []; invalidated = []; waits = []; context = end; batch = Some batch })) { steps = 3 }

  -- the block has no room behind its record
  abbrev plain : List Write
  plain = record { role = Data; offset = 0 + 4096; bytes = content } ∷ record { role = Index; offset = 0; bytes = index } ∷ []

  full : nat_le (0 + 4096 + length content + 4096) 8192 ≡ false
  full = let l : length content ≡ page_up n = content_len in let m : 0 < page_up n = page_some in grind (arith, nat_tests)

  plain_in : plain ≡ writes_in rules sp.parts
  plain_in = sym (ap (λ (b : Bool).
      (record { role = Data; offset = 0 + 4096; bytes = content }
      ∷ (if b then zeros_write (0 + 4096 + length content) ∷ record { role = Index; offset = 0; bytes = index } ∷ [] else record { role = Index; offset = 0; bytes = index } ∷ [])) ++ []) full)

  abbrev c4 : State Content
  c4 = record (record (issued_as c3 0 0 batch plain (records_in sp.parts) []) { filling = put c3.filling 0 1; clean = []; place = put (released None c3.place) 0 (Writes 0) }) { steps = 4 }

  abbrev writing : Writing Content
  writing = record { block = 0; left = plain; records = (4096, one) ∷ [] }

  abbrev issued : Batch Content
  issued = record batch { blocks = []; writing = Some writing }

  abbrev index_left : List Write
  index_left = record { role = Index; offset = 0; bytes = index } ∷ []

  abbrev c5 : State Content
  c5 = record (write_done rules c4 0 issued writing index_left) { steps = 5 }

  abbrev last_issued : Batch Content
  last_issued = record issued { writing = Some (record writing { left = index_left }) }

  abbrev c6 : State Content
  c6 = record (block_done rules c5 0 last_issued (record writing { left = index_left })) { steps = 6 }

  -- the events

  abbrev e1 : WorldEvent Content
  e1 = Applies (Enqueue 7 1 Fresh c) (Queued 1) c1

  abbrev e2 : WorldEvent Content
  e2 = Applies (Receive 0) (Received None) c2

  abbrev e3 : WorldEvent Content
  e3 = Applies (FlushBegin 0) (Began (sp ∷ []) []) c3

  abbrev e4 : WorldEvent Content
  e4 = Applies (FlushBlock 0) (Written 0 plain) c4

  abbrev w4 : World Content
  w4 = after rules (after rules (after rules (after rules w0 e1) e2) e3) e4

  abbrev w5 : World Content
  w5 = after rules (after rules w4 (WriteBegins 0)) (WriteEnds 0 true (λ o. 0))

  abbrev e5 : WorldEvent Content
  e5 = Applies (FlushWrote 0 true) Next c5

  abbrev w6 : World Content
  w6 = after rules (after rules w5 e5) (WriteBegins 0)

  abbrev e6 : WorldEvent Content
  e6 = WriteEnds 0 true (w6.bytes 0)

  abbrev e7 : WorldEvent Content
  e7 = Applies (FlushWrote 0 true) (Committed 1) c6

  abbrev w7 : World Content
  w7 = after rules (after rules w6 e6) e7

  abbrev events : List (WorldEvent Content)
  events = e1 ∷ e2 ∷ e3 ∷ e4 ∷ WriteBegins 0 ∷ WriteEnds 0 true (λ o. 0) ∷ e5 ∷ WriteBegins 0 ∷ e6 ∷ e7 ∷ []

  abbrev May : World Content → WorldEvent Content → Type 0
  May = MayHappen rules (layout (smallest s)) (IsEncoded is_key is_value)

  may1 : May w0 e1
  may1 = ((omega arith, λ e. (key_is, value_is)), (omega arith, tt, (record (queued rules core0 0 (Piece 7 1 1 c)) { next = 2 }, (refl, refl, is_queued, omega arith, refl), refl)))
    where
      is_queued : (Fresh ≡ Young → ⊥) × (4096 < 0 → ⊥)
      is_queued = ((λ e. cc), (λ l. omega arith))

  may2 : May (after rules w0 e1) e2
  may2 = (tt, (omega arith, omega arith, (pushed_to rules c1 0 [] one, (bytes, is_encoded, (room, (some_bytes.0, fits)), refl), refl)))
    where
      room : 0 + page_up n ≤ 4096
      room = let l : page_up n ≤ 4096 = page_fits in omega arith

      fits : 4096 + page_up n ≤ 8192
      fits = let l : page_up n ≤ 4096 = page_fits in omega arith

  may3 : May (after rules (after rules w0 e1) e2) e3
  may3 = (tt, (omega arith, (omega arith, refl, inl (λ e. cc)), (turned rules c2 0 (record (c2.flushers 0) { buffer = []; marks = []; invalidated = []; waits = []; context = end; batch = Some batch }), (refl, splits, refl), refl)))

  may4 : May (after rules (after rules (after rules w0 e1) e2) e3) e4
  may4 = (
    tt,
    (
      omega arith,
      (omega arith, ((λ e. cc), refl)),
      (
        record (issued_as c3 0 0 batch plain (records_in sp.parts) []) { filling = put c3.filling 0 1; clean = []; place = put (released None c3.place) 0 (Writes 0) },
        (sp, [], refl, plain_in, inr (inr (refl, refl, refl, (λ t. record (issued_as c3 0 0 batch (plain_in t) (records_in sp.parts) []) { filling = put c3.filling 0 1; clean = []; place = put (released None c3.place) 0 (Writes 0) })))),
        refl,
      ),
    ),
  )

  may5 : May w5 e5
  may5 = (refl, (omega arith, (omega arith, (writing, refl)), (write_done rules c4 0 issued writing index_left, (writing, _, _, _, refl, refl, refl), refl)))

  may7 : May (after rules w6 e6) e7
  may7 = (refl, (omega arith, (omega arith, (record writing { left = index_left }, refl)), (block_done rules c5 0 last_issued (record writing { left = index_left }), (record writing { left = index_left }, _, refl, refl, refl, refl), refl)))

  -- the index is stored where it was written
  index_there : index ≡ read (w7.bytes 0) 0 4096
  index_there = subst (λ k. index ≡ read (w7.bytes 0) 0 k) sealed.len
      (sym (read_whole (record { role = Index; offset = 0; bytes = index }) (laid (record { role = Data; offset = 4096; bytes = content }) (λ o. 0))))

  strays : HasNoStrays rules w7 w7.bytes
  strays b q es lt scan is =
      let block : b ≡ 0 = omega arith in
      let at_first : q ≡ 0 = first_only (w7.bytes b) q es scan is.room in (
        record { role = Index; offset = 0; bytes = index },
        inl (λ i. (block i, record { role = Index; offset = 0; bytes = index })),
        refl,
        sym at_first,
        subst (λ d. index ≡ read (w7.bytes d) q 4096) (sym block) (subst (λ o. index ≡ read (w7.bytes 0) o 4096) (sym at_first) index_there),
      )

  idle_then : (f : ℕ) (r : Writing Content) → IsWriting w7.core f r → ⊥
  idle_then f r (b, is, w) = go is
    where
      go : (w7.core.flushers f).batch ≡ Some b → ⊥
      go given = put_at (λ (φ : Flusher Content). φ.batch ≡ Some b → ⊥) c5.flushers 0 _ f
          (λ _ e. let k : record last_issued { writing = None } ≡ b = cc in let x : None ≡ Some r = ap (λ (q : Batch Content). q.writing) k ∙ w in cc)
          (λ ne e. others ne e) given
        where
          others : (f ≡ 0 → ⊥) → (c5.flushers f).batch ≡ Some b → ⊥
          others ne e = let x : (c5.flushers f).batch ≡ None = same ne in let y : None ≡ Some b = sym x ∙ e in cc
            where
              same : (f ≡ 0 → ⊥) → (c5.flushers f).batch ≡ None
              same ne = ap (λ (φ : Flusher Content). φ.batch) (put_other c4.flushers 0 _ f ne ∙ put_other c3.flushers 0 _ f ne ∙ put_other c2.flushers 0 _ f ne ∙ put_other c1.flushers 0 _ f ne ∙ put_other core0.flushers 0 _ f ne)

  -- what is opened

  abbrev stands : BlobEntryIndex
  stands = record { hash = 7; sequence = 1; offset = 4096; len = n }

  is_index : IsIndex (sizes_in (smallest s)) (w7.bytes 0) (no_fault 0) 0 (stands ∷ [])
  is_index = record {
    room = omega arith;
    came = refl;
    sealed = subst (λ l. IsSealed l (stands ∷ [])) index_there sealed.is;
    fits = (record { some = some_bytes.0; behind = omega arith; aligned = refl; within = (let l : page_up n ≤ 4096 = page_fits in omega arith) }, tt);
  }

  lists : Lists (sizes_in (smallest s)) (w7.bytes 0) (no_fault 0) (stands ∷ [])
  lists = record { end = 0 + 4096 + page_up n; chain = goes is_index (ends (λ es is. let l : 0 + 4096 + page_up n + 4096 ≤ 8192 = is.room in let m : 0 < page_up n = page_some in omega arith)) }

  abbrev keeps : ℕ → List BlobEntryIndex
  keeps b = stands ∷ []

  kept_there : (b : ℕ) → b < 1 → Keeps (sizes_in (smallest s)) recover_mode.Quiet (w7.bytes b) (no_fault b) (keeps b)
  kept_there b lt =
      let block : b ≡ 0 = omega arith in
      subst (λ d. Keeps (sizes_in (smallest s)) recover_mode.Quiet (w7.bytes d) (no_fault d) (keeps d)) (sym block) (stands ∷ [], lists, refl)

  abbrev found : Opened
  found = record { index = λ h. slot_of (winner h (all_stand 0 1 keeps ++ [])); next = greatest (all_stand 0 1 keeps ++ []) + 1; clean = clean_from 0 1 keeps }

  opens : Opens (sizes_in (smallest s)) 1 w7.bytes recover_mode.Quiet no_fault [] found
  opens = record {
    keeps = keeps;
    kept = kept_there;
    index = λ h. refl;
    next = refl;
    clean = refl;
    below = omega arith;
    read = λ m b lt cut. let x : false ≡ true = cut.4 in cc;
  }

  pub reached : IsReached rules (layout (smallest s)) (IsEncoded is_key is_value)
  reached = record {
    world = w7;
    hash = 7;
    address = record { block = 0; offset = 4096; len = n; sequence = 1; filling = 1 };
    opened = found;
    run = record {
      first = w0;
      events = events;
      opened = opened;
      empty = λ h. refl;
      happened = (may1, (may2, (may3, (may4, (tt, ((λ o _. refl), (may5, (tt, ((λ o _. refl), (may7, tt))))))))));
      well = (tt, (tt, (tt, (tt, (tt, (refl, (tt, (tt, (refl, (tt, tt))))))))));
      is = refl;
    };
    indexed = refl;
    idle = idle_then;
    stopped = λ b o _. refl;
    strays = strays;
    opens = opens;
  }
