-- A run that writes a record before an index of an earlier life, beside a block that it leaves alone.
use Rattle.std.proofs.Common.{◌≡◌, ℕ, ◌+◌, ◌-◌, ◌<◌, ◌≤◌, ◌==◌, ◌^◌, nat_lt, Bool, true, false, ◌&&◌, ◌||◌, if◌then◌else◌, Some, None, List, [], ◌∷◌, ◌++◌, length, replicate, inl, inr, refl, sym, ap, subst, ◌∙◌, arith}
use Rattle.std.proofs.lemmas.Bool.Decides.{nat_tests}
use Rattle.std.proofs.lemmas.List.{length-append, length-replicate, take_at, drop_all}
use Rattle.foyer_format_blob.specs.declared.blob.BlobEntryIndex.{BlobEntryIndex}
use Rattle.foyer_format_layout.specs.BlockBytes.{laid, read, Index, Write}
use Rattle.foyer_format_buffer.specs.Holding.{all_read}
use Rattle.foyer_format_buffer.specs.Listing.{IsIndex, Lists, kept}
use Rattle.foyer_format_layout.proofs.BlockBytesLaws.{laid_beside}
use Rattle.foyer_format_layout.specs.Page.{page_up}
use Rattle.foyer_format_record.specs.Record.{record_bytes}
use Rattle.foyer_format_layout.proofs.PageLaws.{page_up-holds, page_up-least}
use Rattle.foyer_format_record.proofs.RecordBytes.{length-record_bytes}
use Rattle.foyer_core_model.specs.Numbers.{put}
use Rattle.foyer_core_model.specs.Record.{Address, IndexEntry, Record, Given}
use Rattle.foyer_core_model.specs.Position.{Position, Part, BlockLayout, records_in}
use Rattle.foyer_core_model.specs.State.{Piece, Batch, Writing, Clean, Writes, Reclaims, AtIndex, AllListed, ToClean, Reclaim, State}
use Rattle.foyer_core_model.specs.Rules.{Rules, first_position}
use Rattle.foyer_core_model.specs.Step.{Fresh, Young, Fault, Enqueue, Receive, FlushBegin, FlushBlock, FlushWrote, ReclaimBegin, ReclaimRead, ReclaimForget, ReclaimCleaned}
use Rattle.foyer_core_model.specs.Reply.{Queued, Received, Began, Written, Next, Committed, Picked, Listed, Cleans, Done}
use Rattle.foyer_core_model.specs.Layout.{writes_in}
use Rattle.foyer_core_model.specs.Queue.{queued}
use Rattle.foyer_core_model.specs.Receive.{pushed_to, turned}
use Rattle.foyer_core_model.specs.Reclaim.{reclaimed}
use Rattle.foyer_core_model.specs.Flush.{released, write_done, block_done}
use Rattle.foyer_core_model.specs.Access.{CleanIdle, CleanInFlight, ReadDone, is_in}
use Rattle.foyer_core_model.specs.World.{World, WorldEvent, Applies, ScanBegins, ScanEnds, WriteBegins, WriteEnds, CleanBegins, CleanEnds, covers, after, MayHappen, MayAllHappen}
use Rattle.foyer_core_model.specs.Opened.{IsOpened}
use Rattle.foyer_core_layout.proofs.SealLemmas.{IndexOf, index_for}
use Rattle.foyer_core_layout.specs.Splits.{with_records, IsPart}
use Rattle.foyer_core_layout.specs.Splits.LaidOut.{part}
use Rattle.foyer_core_layout.specs.Splits.Left.{done}
use Rattle.foyer_block_recover.specs.Opening.{Keeps, IsCut, Opened, Opens, winner, slot_of, all_stand, greatest, clean_from}
use Rattle.foyer_block_recover.specs.declared.block.recover.RecoverMode.TheVariants as recover_mode
use Rattle.foyer_core_restart.proofs.Total.{lists_exist_lem}
use Rattle.foyer_core_restart.proofs.TornMachine.{issued_as}
use Rattle.foyer_core_restart.specs.Entries.{In}
use Rattle.foyer_core_restart.specs.Restart.{IsScanned, IsStopped, no_fault}
use Rattle.foyer_core_laws.proofs.FormatLemmas.{core_format}
use Rattle.foyer_core_laws.proofs.OpenedWorlds.{world_opened}
use Rattle.foyer_core_laws.specs.Begins.{opened_state, opened_world}
use Rattle.foyer_core_laws.specs.Content.{Content}
use Rattle.foyer_core_laws.specs.CoreRules.{rules_of, layout, has_record, encoded, IsEncoded}
use Rattle.foyer_core_returns.specs.LivesReached.{four_pages, IsReachedOver}
use Rattle.foyer_core_laws.specs.Sizes.{AreValid, sizes_in}
use Rattle.foyer_core_laws.specs.Settings.{Settings}
use Rattle.foyer_core_returns.specs.Lives.{Life, life_of}
use Rattle.foyer_core_returns.specs.Returns.{IsCovered, HasNoOwnStrays, HasNoTornClean}
use Rattle.foyer_core_model.proofs.Basics.{put_at}
use Rattle.foyer_core_returns.proofs.LifeWrites.{in_beside}
use Rattle.foyer_core_returns.proofs.WrittenBlock.{stands, data_of, zeros_of, index_of, left_by, whole_page, IsFilledWith, fits_zeros, index_there, listed, index_first}
use Rattle.foyer_core_returns.proofs.OldBlocks.{two, old, still, lies, first_lies, second_there, second_lies, before, had, own, own_opens, old_listed, other_listed, swept, swept_stands}

module _ (is_key is_value : List ℕ → Bool) (s : Settings) (sound : AreValid (four_pages s)) (key value : List ℕ)
    (key_is : is_key key ≡ true) (value_is : is_value value ≡ true) (short : length value + length key ≤ 4060) where
  abbrev rules : Rules Content
  rules = rules_of is_key is_value (four_pages s) sound

  abbrev c : Content
  c = record { key = key; value = value; is_encodable = true }

  -- its record: hash 7, sequence 3
  abbrev bytes : List ℕ
  bytes = record_bytes 7 3 key value

  abbrev n : ℕ
  n = length bytes

  abbrev one : Record Content
  one = record { hash = 7; sequence = 3; bytes = bytes; source = Given c }

  some_bytes : (0 < n) × (n ≤ 4096)
  some_bytes = let l : n ≡ 36 + (length value + length key) = length-record_bytes 7 3 key value in (omega arith, omega arith)

  page_fits : page_up n ≤ 4096
  page_fits = page_up-least n 4096 some_bytes.1 refl

  page_some : 0 < page_up n
  page_some = let l : n ≤ page_up n = page_up-holds n in let m : 0 < n = some_bytes.0 in omega arith

  is_encoded : encoded 7 3 c ≡ Some bytes
  is_encoded = ap (λ (t : Bool). if t then Some bytes else None) has
    where
      has : has_record c ≡ true
      has =
          let k : nat_lt (length key) (2 ^ 32) ≡ true = grind (arith, nat_tests) in
          let v : nat_lt (length value) (2 ^ 32) ≡ true = grind (arith, nat_tests) in
          ap (λ (t : Bool). t && nat_lt (length value) (2 ^ 32)) k ∙ v

  abbrev first : Position
  first = first_position rules

  abbrev zeros : List ℕ
  zeros = replicate (page_up n - n) 0

  abbrev content : List ℕ
  content = bytes ++ zeros

  content_len : length content ≡ page_up n
  content_len = let l : n ≤ page_up n = page_up-holds n in omega (arith, length-append bytes zeros, length-replicate {A = ℕ} (page_up n - n) 0)

  abbrev entry : IndexEntry
  entry = record { hash = 7; sequence = 3; offset = 4096; len = n }

  sealed : IndexOf 4096 (entry ∷ [])
  sealed = index_for 4096 (entry ∷ []) (omega arith) (omega arith) (omega arith)
      (record { hash = omega arith; sequence = omega arith; offset = omega arith; len = (let l : n ≤ 4096 = some_bytes.1 in omega arith) }, tt)

  abbrev index : List ℕ
  index = sealed.bytes

  abbrev p : Part Content
  p = record { blob = 0; at = 4096; content = content; index = index; records = (4096, one) ∷ [] }

  abbrev end : Position
  end = with_records first (one ∷ [])

  abbrev sp : BlockLayout Content
  sp = record { parts = p ∷ []; end = end }

  splits : layout (four_pages s) first (one ∷ []) (sp ∷ [])
  splits = (omega arith, part {now = one ∷ []} {rest = []} is (done (omega arith)))
    where
      is : IsPart (sizes_in (four_pages s)) first (one ∷ []) p
      is = record {
        some = omega arith;
        blob = refl;
        at = refl;
        content = (take_at bytes zeros n refl, (let l : length content ≡ page_up n = content_len in omega arith), drop_all (page_up n) content (let l : length content ≡ page_up n = content_len in omega arith));
        index = sealed.is;
        size = sealed.len;
        within = (let l : page_up n ≤ 4096 = page_fits in omega arith);
        records = refl;
      }

  begins : (found : List (ℕ × Address)) × IsOpened rules (opened_world rules before own found)
  begins = world_opened is_key is_value (four_pages s) sound [] own own_opens before

  abbrev core0 : State Content
  core0 = opened_state rules own

  abbrev w0 : World Content
  w0 = opened_world rules before own begins.0

  -- the states, one after the other: the first block is reclaimed, by a read that fails

  abbrev begun : Reclaim
  begun = record { stage = AtIndex 0; listed = []; requeued = [] }

  abbrev d1 : State Content
  d1 = record (record core0 { place = put core0.place 0 Reclaims; reclaims = put core0.reclaims 0 (Some begun) }) { steps = 1 }

  abbrev d2 : State Content
  d2 = record (record d1 { reclaims = put d1.reclaims 0 (Some (record begun { stage = AllListed })) }) { steps = 2 }

  abbrev d3 : State Content
  d3 = record (record d2 { reclaims = put d2.reclaims 0 (Some (record begun { stage = ToClean })) }) { steps = 3 }

  abbrev d4 : State Content
  d4 = record (record (reclaimed rules d3 0) { place = put d3.place 0 Clean; clean = d3.clean ++ 0 ∷ [] }) { steps = 4 }

  -- and written

  abbrev c1 : State Content
  c1 = record (record (queued rules d4 0 (Piece 7 3 1 c)) { next = 4 }) { steps = 5 }

  abbrev c2 : State Content
  c2 = record (pushed_to rules c1 0 [] one) { steps = 6 }

  abbrev batch : Batch Content
  batch = record { blocks = sp ∷ []; continues_own_block = false; writing = None; marks = []; invalidated = []; pieces = (3, c) ∷ []; waits = []; logged = None }

  abbrev c3 : State Content
  c3 = record (turned rules c2 0 (record (c2.flushers 0) { buffer = []; marks = []; invalidated = []; waits = []; context = end; batch = Some batch })) { steps = 7 }

  -- the block has room for zeros behind its record
  abbrev data_write : Write
  data_write = data_of content

  abbrev zeros_behind : Write
  zeros_behind = zeros_of content

  abbrev index_write : Write
  index_write = index_of index

  abbrev plain : List Write
  plain = data_write ∷ zeros_behind ∷ index_write ∷ []

  plain_in : plain ≡ writes_in rules sp.parts
  plain_in = sym (ap (λ (b : Bool). (data_write ∷ (if b then zeros_behind ∷ index_write ∷ [] else index_write ∷ [])) ++ []) (fits_zeros n content index (record { page = whole_page n some_bytes.0 some_bytes.1; some = some_bytes.0; filled = content_len; size = sealed.len; sealed = sealed.is })))

  abbrev c4 : State Content
  c4 = record (record (issued_as c3 0 0 batch plain (records_in sp.parts) []) { filling = put c3.filling 0 1; clean = []; place = put (released None c3.place) 0 (Writes 0) }) { steps = 8 }

  abbrev writing : Writing Content
  writing = record { block = 0; left = plain; records = (4096, one) ∷ [] }

  abbrev issued : Batch Content
  issued = record batch { blocks = []; writing = Some writing }

  abbrev two_left : List Write
  two_left = zeros_behind ∷ index_write ∷ []

  abbrev one_left : List Write
  one_left = index_write ∷ []

  abbrev c5 : State Content
  c5 = record (write_done rules c4 0 issued writing two_left) { steps = 9 }

  abbrev second_issued : Batch Content
  second_issued = record issued { writing = Some (record writing { left = two_left }) }

  abbrev c6 : State Content
  c6 = record (write_done rules c5 0 second_issued (record writing { left = two_left }) one_left) { steps = 10 }

  abbrev last_issued : Batch Content
  last_issued = record issued { writing = Some (record writing { left = one_left }) }

  abbrev c7 : State Content
  c7 = record (block_done rules c6 0 last_issued (record writing { left = one_left })) { steps = 11 }

  -- the events

  abbrev a1 : WorldEvent Content
  a1 = Applies ReclaimBegin (Picked 0 [] []) d1

  abbrev v1 : World Content
  v1 = after rules (after rules (after rules w0 a1) (ScanBegins 0)) (ScanEnds 0 Fault)

  abbrev a2 : WorldEvent Content
  a2 = Applies (ReclaimRead 0 Fault) (Listed []) d2

  abbrev a3 : WorldEvent Content
  a3 = Applies (ReclaimForget 0) (Cleans 0) d3

  abbrev v3 : World Content
  v3 = after rules (after rules (after rules (after rules v1 a2) a3) (CleanBegins 0)) (CleanEnds 0 true old)

  abbrev a4 : WorldEvent Content
  a4 = Applies (ReclaimCleaned 0 true) Done d4

  abbrev v4 : World Content
  v4 = after rules v3 a4

  abbrev reclaims : List (WorldEvent Content)
  reclaims = a1 ∷ ScanBegins 0 ∷ ScanEnds 0 Fault ∷ a2 ∷ a3 ∷ CleanBegins 0 ∷ CleanEnds 0 true old ∷ []

  abbrev e1 : WorldEvent Content
  e1 = Applies (Enqueue 7 1 Fresh c) (Queued 3) c1

  abbrev e2 : WorldEvent Content
  e2 = Applies (Receive 0) (Received None) c2

  abbrev e3 : WorldEvent Content
  e3 = Applies (FlushBegin 0) (Began (sp ∷ []) []) c3

  abbrev e4 : WorldEvent Content
  e4 = Applies (FlushBlock 0) (Written 0 plain) c4

  abbrev w4 : World Content
  w4 = after rules (after rules (after rules (after rules v4 e1) e2) e3) e4

  abbrev w5 : World Content
  w5 = after rules (after rules w4 (WriteBegins 0)) (WriteEnds 0 true swept)

  abbrev e5 : WorldEvent Content
  e5 = Applies (FlushWrote 0 true) Next c5

  abbrev w6 : World Content
  w6 = after rules (after rules (after rules w5 e5) (WriteBegins 0)) (WriteEnds 0 true (w5.bytes 0))

  abbrev e6 : WorldEvent Content
  e6 = Applies (FlushWrote 0 true) Next c6

  abbrev w7i : World Content
  w7i = after rules (after rules w6 e6) (WriteBegins 0)

  abbrev w7 : World Content
  w7 = after rules w7i (WriteEnds 0 true (w6.bytes 0))

  abbrev e7 : WorldEvent Content
  e7 = Applies (FlushWrote 0 true) (Committed 1) c7

  abbrev w8 : World Content
  w8 = after rules w7 e7

  abbrev sooner : List (WorldEvent Content)
  sooner = e1 ∷ e2 ∷ e3 ∷ e4 ∷ WriteBegins 0 ∷ WriteEnds 0 true swept ∷ e5 ∷ WriteBegins 0 ∷ WriteEnds 0 true (w5.bytes 0) ∷ e6 ∷ WriteBegins 0 ∷ []

  abbrev writes : List (WorldEvent Content)
  writes = e1 ∷ e2 ∷ e3 ∷ e4 ∷ WriteBegins 0 ∷ WriteEnds 0 true swept ∷ e5 ∷ WriteBegins 0 ∷ WriteEnds 0 true (w5.bytes 0) ∷ e6 ∷ WriteBegins 0 ∷ WriteEnds 0 true (w6.bytes 0) ∷ e7 ∷ []

  abbrev events : List (WorldEvent Content)
  events = reclaims ++ a4 ∷ writes

  abbrev May : World Content → WorldEvent Content → Type 0
  May = MayHappen rules (layout (four_pages s)) (IsEncoded is_key is_value)

  turn1 : May w0 a1
  turn1 = (
    tt,
    (
      omega arith,
      record { wanted = inl (omega arith); free = omega arith; some_block = (0, omega arith, refl); quiet = refl },
      (record core0 { place = put core0.place 0 Reclaims; reclaims = put core0.reclaims 0 (Some begun) }, (omega arith, refl, refl, (λ d e. absurd (let x : None ≡ Some d = e in cc)), refl), refl),
    ),
  )

  turn2 : May v1 a2
  turn2 = (
    (record { offset = 0; len = 4096; read_state = ReadDone Fault }, refl, (Fault, refl)),
    (omega arith, (omega arith, tt), (record d1 { reclaims = put d1.reclaims 0 (Some (record begun { stage = AllListed })) }, (refl, refl), refl)),
  )

  turn3 : May (after rules v1 a2) a3
  turn3 = (tt, (omega arith, (omega arith, refl), (record d2 { reclaims = put d2.reclaims 0 (Some (record begun { stage = ToClean })) }, (refl, refl), refl)))

  turn4 : May v3 a4
  turn4 = (refl, (omega arith, (omega arith, refl), (record (reclaimed rules d3 0) { place = put d3.place 0 Clean; clean = d3.clean ++ 0 ∷ [] }, inr (inl refl, refl), refl)))

  may1 : May v4 e1
  may1 = ((omega arith, λ e. (key_is, value_is)), (omega arith, tt, (record (queued rules d4 0 (Piece 7 3 1 c)) { next = 4 }, (refl, refl, is_queued, omega arith, refl), refl)))
    where
      is_queued : (Fresh ≡ Young → ⊥) × (4096 < 0 → ⊥)
      is_queued = ((λ e. cc), (λ l. omega arith))

  may2 : May (after rules v4 e1) e2
  may2 = (tt, (omega arith, omega arith, (pushed_to rules c1 0 [] one, (bytes, is_encoded, (room, (some_bytes.0, fits)), refl), refl)))
    where
      room : 0 + page_up n ≤ 4096
      room = let l : page_up n ≤ 4096 = page_fits in omega arith

      fits : 4096 + page_up n ≤ 16384
      fits = let l : page_up n ≤ 4096 = page_fits in omega arith

  may3 : May (after rules (after rules v4 e1) e2) e3
  may3 = (tt, (omega arith, (omega arith, refl, inl (λ e. cc)), (turned rules c2 0 (record (c2.flushers 0) { buffer = []; marks = []; invalidated = []; waits = []; context = end; batch = Some batch }), (refl, splits, refl), refl)))

  may4 : May (after rules (after rules (after rules v4 e1) e2) e3) e4
  may4 = (
    tt,
    (
      omega arith,
      (omega arith, ((λ e. cc), refl)),
      (
        record (issued_as c3 0 0 batch plain (records_in sp.parts) []) { filling = put c3.filling 0 1; clean = []; place = put (released None c3.place) 0 (Writes 0) },
        (sp, [], refl, plain_in, inr (inr (refl, refl, refl, (λ t. record (issued_as c3 0 0 batch (plain_in t) (records_in sp.parts) []) { filling = put c3.filling 0 1; clean = []; place = put (released None c3.place) 0 (Writes 0) })))),
        refl,
      ),
    ),
  )

  may5 : May w5 e5
  may5 = (refl, (omega arith, (omega arith, (writing, refl)), (write_done rules c4 0 issued writing two_left, (writing, _, _, _, refl, refl, refl), refl)))

  may6 : May w6 e6
  may6 = (refl, (omega arith, (omega arith, (record writing { left = two_left }, refl)), (write_done rules c5 0 second_issued (record writing { left = two_left }) one_left, (record writing { left = two_left }, _, _, _, refl, refl, refl), refl)))

  may7 : May w7 e7
  may7 = (refl, (omega arith, (omega arith, (record writing { left = one_left }, refl)), (block_done rules c6 0 last_issued (record writing { left = one_left }), (record writing { left = one_left }, _, refl, refl, refl, refl), refl)))

  -- what the block is afterwards

  page_is : page_up n ≡ 4096
  page_is = whole_page n some_bytes.0 some_bytes.1

  abbrev left : ℕ → ℕ
  left = left_by content index

  stands_there : IsFilledWith n content index
  stands_there = record { page = page_is; some = some_bytes.0; filled = content_len; size = sealed.len; sealed = sealed.is }

  exists : (B : ℕ → ℕ) → (ls : List BlobEntryIndex) × Lists (sizes_in (four_pages s)) B all_read ls
  exists B = lists_exist_lem rules (core_format is_key is_value (four_pages s) sound) B all_read

  keeps_one : (B : ℕ → ℕ) (es : List BlobEntryIndex) → ((ls : List BlobEntryIndex) → Lists (sizes_in (four_pages s)) B all_read ls → ls ≡ es) → kept es ≡ es
      → Keeps (sizes_in (four_pages s)) recover_mode.Quiet B all_read es
  keeps_one B es are same = let l : (ls : List BlobEntryIndex) × Lists (sizes_in (four_pages s)) B all_read ls = exists B in
      (l.0, l.1, sym same ∙ ap kept (sym (are l.0 l.1)))

  -- the two openings

  none_cut : (B : ℕ → ℕ) → IsCut (sizes_in (four_pages s)) B all_read → ⊥
  none_cut B cut = let x : false ≡ true = cut.4 in cc

  opening : Opens (sizes_in (four_pages s)) 2 before recover_mode.Quiet no_fault [] own
  opening = record {
    keeps = had;
    kept = λ b lt. elim (two b lt) [
      | inl first ↦ subst (λ d. Keeps (sizes_in (four_pages s)) recover_mode.Quiet (before d) all_read (had d)) (sym first) (keeps_one old (first_lies ∷ second_lies ∷ []) old_listed refl)
      | inr second ↦ subst (λ d. Keeps (sizes_in (four_pages s)) recover_mode.Quiet (before d) all_read (had d)) (sym second) (keeps_one still (lies ∷ []) other_listed refl)
    ];
    index = λ h. refl;
    next = refl;
    clean = refl;
    below = omega arith;
    read = λ m b lt. none_cut (before b);
  }

  abbrev has : ℕ → List BlobEntryIndex
  has b = if b == 0 then stands n ∷ [] else lies ∷ []

  abbrev found : Opened
  found = record { index = λ h. slot_of (winner h (all_stand 0 2 has ++ [])); next = greatest (all_stand 0 2 has ++ []) + 1; clean = clean_from 0 2 has }

  opens : Opens (sizes_in (four_pages s)) 2 w8.bytes recover_mode.Quiet no_fault [] found
  opens = record {
    keeps = has;
    kept = λ b lt. elim (two b lt) [
      | inl first ↦ subst (λ d. Keeps (sizes_in (four_pages s)) recover_mode.Quiet (w8.bytes d) all_read (has d)) (sym first) (keeps_one left (stands n ∷ []) (listed n content index stands_there) refl)
      | inr second ↦ subst (λ d. Keeps (sizes_in (four_pages s)) recover_mode.Quiet (w8.bytes d) all_read (has d)) (sym second) (keeps_one still (lies ∷ []) other_listed refl)
    ];
    index = λ h. refl;
    next = refl;
    clean = refl;
    below = omega arith;
    read = λ m b lt. none_cut (w8.bytes b);
  }

  strays : (lives : ℕ → Life Content) → In index_write (lives 0).writes → (lives 1).writes ≡ [] → HasNoOwnStrays rules lives w8.bytes
  strays lives began none b q e es lt scan is covered = elim (two b lt) [
    | inl first ↦ subst (λ d. IsScanned (sizes_in (four_pages s)) (w8.bytes d) 0 q → IsIndex (sizes_in (four_pages s)) (w8.bytes d) all_read q (e ∷ es)
        → (v : Write) × In v (lives d).writes × (v.role ≡ Index) × (v.offset ≡ q) × (v.bytes ≡ read (w8.bytes d) q 4096)) (sym first) own_index scan is
    | inr second ↦ absurd (subst (λ ws. IsCovered ws q) none (subst (λ d. IsCovered (lives d).writes q) second covered)).1
  ]
    where
      own_index : IsScanned (sizes_in (four_pages s)) left 0 q → IsIndex (sizes_in (four_pages s)) left all_read q (e ∷ es)
          → (v : Write) × In v (lives 0).writes × (v.role ≡ Index) × (v.offset ≡ q) × (v.bytes ≡ read left q 4096)
      own_index scan is =
          let first : q ≡ 0 = index_first n content index stands_there q e es scan is in
          (index_write, began, refl, sym first, subst (λ o. index ≡ read left o 4096) (sym first) (index_there n content index stands_there))

  not_flying : (w : World Content) → w.clean_states 0 ≡ CleanIdle → w.clean_states 1 ≡ CleanIdle → HasNoTornClean rules w w8.bytes
  not_flying w dry too b e es lt flying is = elim (two b lt) [
    | inl first ↦ absurd (let x : CleanIdle ≡ CleanInFlight = sym dry ∙ ap w.clean_states (sym first) ∙ flying in cc)
    | inr second ↦ absurd (let x : CleanIdle ≡ CleanInFlight = sym too ∙ ap w.clean_states (sym second) ∙ flying in cc)
  ]

  -- inside the index's write
  inside : IsStopped rules w7i w8.bytes
  inside b o out = put_at (λ (x : ℕ → ℕ). x o ≡ w7i.bytes b o) w7i.bytes 0 (laid index_write (w7i.bytes 0)) b
      (λ at. laid_beside index_write (w7i.bytes 0) o (in_beside index_write o (dry (is_in index_write o) (subst (λ d. covers rules w7i d o ≡ false) at out))) ∙ ap (λ d. w7i.bytes d o) (sym at))
      (λ _. refl)
    where
      dry : (t : Bool) → ((t || false) || false) ≡ false → t ≡ false
      dry true e = absurd (let x : true ≡ false = e in cc)
      dry false e = refl

  may_all : MayAllHappen rules (layout (four_pages s)) (IsEncoded is_key is_value) v4 writes
  may_all = (may1, (may2, (may3, (may4, (tt, ((λ o _. refl), (may5, (tt, ((λ o _. refl), (may6, (tt, ((λ o _. refl), (may7, tt)))))))))))))

  pub reached : IsReachedOver rules (layout (four_pages s)) (IsEncoded is_key is_value)
  reached = record {
    first = w0;
    before = reclaims;
    end = a4;
    later = writes;
    own = own;
    bytes = w8.bytes;
    found = found;
    opening = opening;
    whole = λ b. none_cut (before b);
    opened = begins.1;
    clean = refl;
    happened = (turn1, (tt, (tt, (turn2, (turn3, (tt, ((λ o far. refl), (turn4, may_all))))))));
    well = (refl, refl);
    stopped = λ b o _. refl;
    strays = strays (life_of rules w0 events) (inl refl) refl;
    torn = not_flying w8 refl refl;
    sooner = sooner;
    ending = WriteEnds 0 true (w6.bytes 0) ∷ e7 ∷ [];
    is_sooner = refl;
    index = index_write;
    inside = refl;
    stopped_inside = inside;
    strays_inside = strays (life_of rules w0 (reclaims ++ a4 ∷ sooner)) (inl refl) refl;
    torn_inside = not_flying w7i refl refl;
    opens = opens;
    hash = 7;
    address = record { block = 0; offset = 4096; len = n; sequence = 3; filling = 0 };
    written = (refl, refl);
    ended = refl;
    old_hash = 8;
    old = record { block = 0; offset = 12288; len = 1; sequence = 2; filling = 0 };
    had = refl;
    old_entry = second_there;
    old_index = subst (λ q. IsIndex (sizes_in (four_pages s)) swept all_read q (second_there ∷ [])) (sym (let at : 4096 + page_up n ≡ 8192 = omega (arith, page_is) in at)) swept_stands;
    named = (refl, refl);
    gone = refl;
    other_hash = 6;
    other = record { block = 1; offset = 4096; len = 1; sequence = 1; filling = 0 };
    well_too = refl;
    apart = λ e. let x : 1 ≡ 0 = e in omega (arith, x);
    stays = (refl, refl);
  }
