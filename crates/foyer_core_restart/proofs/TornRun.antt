-- A run that is stopped with two flushers inside writes, of any machine with two flushers and three blocks of two pages.
use Rattle.std.proofs.Common.{◌≡◌, ℕ, ◌+◌, ◌<◌, ◌≤◌, true, false, Some, None, List, [], ◌∷◌, length, inl, inr, refl, sym, ap, ◌∙◌, arith}
use Rattle.foyer_format_layout.specs.Page.{page_up}
use Rattle.foyer_format_layout.proofs.PageLaws.{page_up-least}
use Rattle.foyer_core_model.specs.Numbers.{put}
use Rattle.foyer_core_model.specs.Record.{Record}
use Rattle.foyer_format_layout.specs.BlockBytes.{Index, Write}
use Rattle.foyer_core_model.specs.Position.{BlockLayout, records_in}
use Rattle.foyer_core_model.specs.State.{Flusher, Piece, Batch, Writing, Clean, Writes, no_stats, NoDestroy, State}
use Rattle.foyer_core_model.specs.Rules.{Rules, Splitting, first_position}
use Rattle.foyer_core_model.specs.Step.{Fresh, Young, Enqueue, Receive, FlushBegin, FlushBlock, FlushWrote}
use Rattle.foyer_core_model.specs.Reply.{Queued, Received, Began, Written, Next, Committed}
use Rattle.foyer_core_model.specs.Queue.{queued}
use Rattle.foyer_core_model.specs.Receive.{pushed_to, turned}
use Rattle.foyer_core_model.specs.Flush.{released, write_done, block_done}
use Rattle.foyer_core_model.specs.Access.{Idle, CleanIdle}
use Rattle.foyer_core_model.specs.World.{World, WorldEvent, Applies, WriteBegins, WriteEnds, after, MayHappen}
use Rattle.foyer_core_model.specs.Opened.{IsOpened, idle, full_filling}
use Rattle.foyer_core_model.proofs.Basics.{put_at, put_other}
use Rattle.foyer_core_restart.specs.Restart.{IsRun, IsBeingWritten}
use Rattle.foyer_core_restart.specs.Torn.{Place, alone}
use Rattle.foyer_core_restart.proofs.TornMachine.{Machine, machine_of, Item, record_of, IsFull, two_writes, two_in, issued_as}

module _ {C : Type 0} (m : Machine C) (is_value : C → Type 0) (i : Item m is_value 2 1) (j : Item m is_value 2 2) (k : Item m is_value 3 3) (p q r : Place) where
  abbrev rules : Rules C
  rules = machine_of m

  abbrev older : Record C
  older = record_of i

  abbrev newer : Record C
  newer = record_of j

  abbrev other : Record C
  other = record_of k

  abbrev s1 : BlockLayout C
  s1 = alone p older

  abbrev s2 : BlockLayout C
  s2 = alone q newer

  abbrev s3 : BlockLayout C
  s3 = alone r other

  abbrev core0 : State C
  core0 = record {
    index = λ h. None;
    next = 1;
    steps = 0;
    closed = false;
    flushers = λ f. idle rules;
    place = λ b. Clean;
    clean = 0 ∷ 1 ∷ 2 ∷ [];
    waiting = [];
    filling = λ b. 0;
    stats = λ b. no_stats;
    reclaims = λ b. None;
    destroy = NoDestroy;
  }

  abbrev w0 : World C
  w0 = record {
    core = core0;
    bytes = λ b o. 255;
    history = [];
    kept = λ h. None;
    filled = λ b. full_filling rules;
    begun_writes = [];
    committed = [];
    loads = λ n. None;
    issued = 0;
    scans = λ b. None;
    block_writes = λ f. Idle;
    clean_states = λ b. CleanIdle;
  }

  opened : IsOpened rules w0
  opened = record {
    found = [];
    all = tt;
    index = λ h. refl;
    history = refl;
    kept = λ h. refl;
    place = λ b. inl refl;
    clean = refl;
    first = omega arith;
    last = omega arith;
    steps = refl;
    closed = refl;
    flushers = λ f. refl;
    waiting = refl;
    filling = λ b. refl;
    stats = λ b. refl;
    reclaims = λ b. refl;
    destroy = refl;
    filled = λ b. refl;
    begun_writes = refl;
    committed = refl;
    loads = λ n. refl;
    issued = refl;
    scans = λ b. refl;
    block_writes = λ f. refl;
    clean_states = λ b. refl;
  }

  -- the states, one after the other: three records are queued and received

  abbrev c1 : State C
  c1 = record (record (queued rules core0 0 (Piece 2 1 1 i.content)) { next = 2 }) { steps = 1 }

  abbrev c2 : State C
  c2 = record (pushed_to rules c1 0 [] older) { steps = 2 }

  abbrev c3 : State C
  c3 = record (record (queued rules c2 0 (Piece 2 2 1 j.content)) { next = 3 }) { steps = 3 }

  abbrev c4 : State C
  c4 = record (pushed_to rules c3 0 [] newer) { steps = 4 }

  abbrev c5 : State C
  c5 = record (record (queued rules c4 1 (Piece 3 3 1 k.content)) { next = 4 }) { steps = 5 }

  abbrev c6 : State C
  c6 = record (pushed_to rules c5 1 [] other) { steps = 6 }

  -- both flushers begin

  abbrev batch0 : Batch C
  batch0 = record {
    blocks = s1 ∷ s2 ∷ [];
    continues_own_block = false;
    writing = None;
    marks = [];
    invalidated = [];
    pieces = (1, i.content) ∷ (2, j.content) ∷ [];
    waits = [];
    logged = None;
  }

  abbrev c7 : State C
  c7 = record (turned rules c6 0 (record (c6.flushers 0) { buffer = []; marks = []; invalidated = []; waits = []; context = q.end; batch = Some batch0 })) { steps = 7 }

  abbrev batch1 : Batch C
  batch1 = record { blocks = s3 ∷ []; continues_own_block = false; writing = None; marks = []; invalidated = []; pieces = (3, k.content) ∷ []; waits = []; logged = None }

  abbrev c8 : State C
  c8 = record (turned rules c7 1 (record (c7.flushers 1) { buffer = []; marks = []; invalidated = []; waits = []; context = r.end; batch = Some batch1 })) { steps = 8 }

  -- block 0 is written and committed

  abbrev c9 : State C
  c9 = record (record (issued_as c8 0 0 batch0 (two_writes p) (records_in s1.parts) (s2 ∷ [])) { filling = put c8.filling 0 1; clean = 1 ∷ 2 ∷ []; place = put (released None c8.place) 0 (Writes 0) }) { steps = 9 }

  abbrev pub index_of : Place → List Write
  index_of u = record { role = Index; offset = u.blob; bytes = u.index } ∷ []

  abbrev writing1 : Writing C
  writing1 = record { block = 0; left = two_writes p; records = (p.offset, older) ∷ [] }

  abbrev issued1 : Batch C
  issued1 = record batch0 { blocks = s2 ∷ []; writing = Some writing1 }

  abbrev c10 : State C
  c10 = record (write_done rules c9 0 issued1 writing1 (index_of p)) { steps = 10 }

  abbrev last1 : Batch C
  last1 = record issued1 { writing = Some (record writing1 { left = index_of p }) }

  abbrev c11 : State C
  c11 = record (block_done rules c10 0 last1 (record writing1 { left = index_of p })) { steps = 11 }

  -- blocks 1 and 2 are issued, and the data of block 1 are written

  abbrev done1 : Batch C
  done1 = record last1 { writing = None }

  abbrev c12 : State C
  c12 = record (record (issued_as c11 0 1 done1 (two_writes q) (records_in s2.parts) []) { filling = put c11.filling 1 1; clean = 2 ∷ []; place = put (released (Some 0) c11.place) 1 (Writes 0) }) { steps = 12 }

  abbrev c13 : State C
  c13 = record (record (issued_as c12 1 2 batch1 (two_writes r) (records_in s3.parts) []) { filling = put c12.filling 2 1; clean = []; place = put (released None c12.place) 2 (Writes 1) }) { steps = 13 }

  abbrev pub writing2 : Writing C
  writing2 = record { block = 1; left = two_writes q; records = (q.offset, newer) ∷ [] }

  abbrev pub writing3 : Writing C
  writing3 = record { block = 2; left = two_writes r; records = (r.offset, other) ∷ [] }

  abbrev issued2 : Batch C
  issued2 = record done1 { blocks = []; writing = Some writing2 }

  abbrev c14 : State C
  c14 = record (write_done rules c13 0 issued2 writing2 (index_of q)) { steps = 14 }

  -- the events

  abbrev e1 : WorldEvent C
  e1 = Applies (Enqueue 2 1 Fresh i.content) (Queued 1) c1

  abbrev e2 : WorldEvent C
  e2 = Applies (Receive 0) (Received None) c2

  abbrev e3 : WorldEvent C
  e3 = Applies (Enqueue 2 1 Fresh j.content) (Queued 2) c3

  abbrev e4 : WorldEvent C
  e4 = Applies (Receive 0) (Received None) c4

  abbrev e5 : WorldEvent C
  e5 = Applies (Enqueue 3 1 Fresh k.content) (Queued 3) c5

  abbrev e6 : WorldEvent C
  e6 = Applies (Receive 1) (Received None) c6

  abbrev e7 : WorldEvent C
  e7 = Applies (FlushBegin 0) (Began (s1 ∷ s2 ∷ []) []) c7

  abbrev e8 : WorldEvent C
  e8 = Applies (FlushBegin 1) (Began (s3 ∷ []) []) c8

  abbrev e9 : WorldEvent C
  e9 = Applies (FlushBlock 0) (Written 0 (two_writes p)) c9

  abbrev w1 : World C
  w1 = after rules w0 e1

  abbrev w2 : World C
  w2 = after rules w1 e2

  abbrev w3 : World C
  w3 = after rules w2 e3

  abbrev w4 : World C
  w4 = after rules w3 e4

  abbrev w5 : World C
  w5 = after rules w4 e5

  abbrev w6 : World C
  w6 = after rules w5 e6

  abbrev w7 : World C
  w7 = after rules w6 e7

  abbrev w8 : World C
  w8 = after rules w7 e8

  abbrev w9 : World C
  w9 = after rules (after rules (after rules w8 e9) (WriteBegins 0)) (WriteEnds 0 true (λ o. 255))

  abbrev e10 : WorldEvent C
  e10 = Applies (FlushWrote 0 true) Next c10

  abbrev w10 : World C
  w10 = after rules (after rules w9 e10) (WriteBegins 0)

  abbrev e11 : WorldEvent C
  e11 = WriteEnds 0 true (w10.bytes 0)

  abbrev e12 : WorldEvent C
  e12 = Applies (FlushWrote 0 true) (Committed 1) c11

  abbrev e13 : WorldEvent C
  e13 = Applies (FlushBlock 0) (Written 1 (two_writes q)) c12

  abbrev e14 : WorldEvent C
  e14 = Applies (FlushBlock 1) (Written 2 (two_writes r)) c13

  abbrev w11 : World C
  w11 = after rules w10 e11

  abbrev w12 : World C
  w12 = after rules w11 e12

  abbrev w13 : World C
  w13 = after rules w12 e13

  abbrev w14 : World C
  w14 = after rules (after rules (after rules (after rules w13 e14) (WriteBegins 0)) (WriteBegins 1)) (WriteEnds 0 true (λ o. 255))

  abbrev e15 : WorldEvent C
  e15 = Applies (FlushWrote 0 true) Next c14

  abbrev pub w : World C
  w = after rules (after rules w14 e15) (WriteBegins 0)

  abbrev events : List (WorldEvent C)
  events = e1 ∷ e2 ∷ e3 ∷ e4 ∷ e5 ∷ e6 ∷ e7 ∷ e8 ∷ e9 ∷ WriteBegins 0 ∷ WriteEnds 0 true (λ o. 255) ∷ e10 ∷ WriteBegins 0 ∷ e11 ∷ e12 ∷ e13 ∷ e14 ∷ WriteBegins 0 ∷ WriteBegins 1 ∷ WriteEnds 0 true (λ o. 255) ∷ e15 ∷ WriteBegins 0 ∷ []

  pub apart : IsBeingWritten w.core 0 → ⊥
  apart (f, v, (b, given, is), at) = put_at (λ (φ : Flusher C). φ.batch ≡ Some b → ⊥) c13.flushers 0 _ f
      (λ _ e. let batch_is : record issued2 { writing = Some (record writing2 { left = index_of q }) } ≡ b = cc in
      let some_is : Some (record writing2 { left = index_of q }) ≡ Some v = ap (λ (u : Batch C). u.writing) batch_is ∙ is in
      let all_is : record writing2 { left = index_of q } ≡ v = cc in
      let z : 1 ≡ 0 = ap (λ (u : Writing C). u.block) all_is ∙ at in omega arith)
      (λ ne0 e. put_at (λ (φ : Flusher C). φ.batch ≡ Some b → ⊥) c12.flushers 1 _ f
      (λ _ e. let batch_is : record batch1 { blocks = []; writing = Some writing3 } ≡ b = cc in
      let some_is : Some writing3 ≡ Some v = ap (λ (u : Batch C). u.writing) batch_is ∙ is in
      let all_is : writing3 ≡ v = cc in
      let z : 2 ≡ 0 = ap (λ (u : Writing C). u.block) all_is ∙ at in omega arith)
      (λ ne1 e. let none_is : None ≡ Some b = sym (others f ne0 ne1) ∙ e in cc)
      e)
      given
    where
      others : (f : ℕ) → (f ≡ 0 → ⊥) → (f ≡ 1 → ⊥) → (c12.flushers f).batch ≡ None
      others f ne0 ne1 = ap (λ (φ : Flusher C). φ.batch) (
          put_other c11.flushers 0 _ f ne0 ∙ put_other c10.flushers 0 _ f ne0 ∙ put_other c9.flushers 0 _ f ne0 ∙ put_other c8.flushers 0 _ f ne0 ∙ put_other c7.flushers 1 _ f ne1
          ∙ put_other c6.flushers 0 _ f ne0 ∙ put_other c5.flushers 1 _ f ne1 ∙ put_other c4.flushers 1 _ f ne1 ∙ put_other c3.flushers 0 _ f ne0 ∙ put_other c2.flushers 0 _ f ne0
          ∙ put_other c1.flushers 0 _ f ne0 ∙ put_other core0.flushers 0 _ f ne0
          )

  module _ (Splits : Splitting C) (full_p : IsFull p) (full_q : IsFull q) (full_r : IsFull r)
      (split : Splits (first_position rules) (older ∷ newer ∷ []) (s1 ∷ s2 ∷ [])) (split_other : Splits (first_position rules) (other ∷ []) (s3 ∷ [])) where
    abbrev May : World C → WorldEvent C → Type 0
    May = MayHappen rules Splits is_value

    one_page : (b : List ℕ) → length b ≤ 4096 → page_up (length b) ≤ 4096
    one_page b l = page_up-least (length b) 4096 l refl

    fits : (b : List ℕ) → length b ≤ 4096 → 4096 + page_up (length b) ≤ 8192
    fits b l = let a : page_up (length b) ≤ 4096 = one_page b l in omega arith

    room_i : 0 + page_up (length i.bytes) ≤ m.room (first_position rules)
    room_i = let a : page_up (length i.bytes) ≤ 4096 = one_page i.bytes i.page in let b : 8192 ≤ m.room (first_position rules) = m.much (first_position rules) in omega arith

    room_j : page_up (length i.bytes) + 0 + page_up (length j.bytes) ≤ m.room (first_position rules)
    room_j =
        let a : page_up (length i.bytes) ≤ 4096 = one_page i.bytes i.page in
        let b : page_up (length j.bytes) ≤ 4096 = one_page j.bytes j.page in
        let c : 8192 ≤ m.room (first_position rules) = m.much (first_position rules) in omega arith

    room_k : 0 + page_up (length k.bytes) ≤ m.room (first_position rules)
    room_k = let a : page_up (length k.bytes) ≤ 4096 = one_page k.bytes k.page in let b : 8192 ≤ m.room (first_position rules) = m.much (first_position rules) in omega arith

    is_queued : (Fresh ≡ Young → ⊥) × (m.threshold < 0 → ⊥)
    is_queued = ((λ e. cc), (λ l. omega arith))

    may1 : May w0 e1
    may1 = ((omega arith, i.value), (omega arith, tt, (record (queued rules core0 0 (Piece 2 1 1 i.content)) { next = 2 }, (refl, refl, is_queued, omega arith, refl), refl)))

    may2 : May w1 e2
    may2 = (tt, (omega arith, omega arith, (pushed_to rules c1 0 [] older, (i.bytes, i.encoded, (room_i, (i.some, fits i.bytes i.page)), refl), refl)))

    may3 : May w2 e3
    may3 = ((omega arith, j.value), (omega arith, tt, (record (queued rules c2 0 (Piece 2 2 1 j.content)) { next = 3 }, (refl, refl, is_queued, omega arith, refl), refl)))

    may4 : May w3 e4
    may4 = (tt, (omega arith, omega arith, (pushed_to rules c3 0 [] newer, (j.bytes, j.encoded, (room_j, (j.some, fits j.bytes j.page)), refl), refl)))

    may5 : May w4 e5
    may5 = ((omega arith, k.value), (omega arith, tt, (record (queued rules c4 1 (Piece 3 3 1 k.content)) { next = 4 }, (refl, refl, is_queued, omega arith, refl), refl)))

    may6 : May w5 e6
    may6 = (tt, (omega arith, omega arith, (pushed_to rules c5 1 [] other, (k.bytes, k.encoded, (room_k, (k.some, fits k.bytes k.page)), refl), refl)))

    may7 : May w6 e7
    may7 = (tt, (omega arith, (omega arith, refl, inl (λ e. cc)), (turned rules c6 0 (record (c6.flushers 0) { buffer = []; marks = []; invalidated = []; waits = []; context = q.end; batch = Some batch0 }), (refl, split, refl), refl)))

    may8 : May w7 e8
    may8 = (tt, (omega arith, (omega arith, refl, inl (λ e. cc)), (turned rules c7 1 (record (c7.flushers 1) { buffer = []; marks = []; invalidated = []; waits = []; context = r.end; batch = Some batch1 }), (refl, split_other, refl), refl)))

    may9 : May w8 e9
    may9 = (
      tt,
      (
        omega arith,
        (omega arith, ((λ e. cc), refl)),
        (
          record (issued_as c8 0 0 batch0 (two_writes p) (records_in s1.parts) (s2 ∷ [])) { filling = put c8.filling 0 1; clean = 1 ∷ 2 ∷ []; place = put (released None c8.place) 0 (Writes 0) },
          (s1, s2 ∷ [], refl, two_in m p older full_p, inr (inr (refl, refl, refl, (λ t. record (issued_as c8 0 0 batch0 (two_in m p older full_p t) (records_in s1.parts) (s2 ∷ [])) { filling = put c8.filling 0 1; clean = 1 ∷ 2 ∷ []; place = put (released None c8.place) 0 (Writes 0) })))),
          refl,
        ),
      ),
    )

    may10 : May w9 e10
    may10 = (refl, (omega arith, (omega arith, (writing1, refl)), (write_done rules c9 0 issued1 writing1 (index_of p), (writing1, _, _, _, refl, refl, refl), refl)))

    may12 : May w11 e12
    may12 = (refl, (omega arith, (omega arith, (record writing1 { left = index_of p }, refl)), (block_done rules c10 0 last1 (record writing1 { left = index_of p }), (record writing1 { left = index_of p }, _, refl, refl, refl, refl), refl)))

    may13 : May w12 e13
    may13 = (
      tt,
      (
        omega arith,
        (omega arith, ((λ e. cc), refl)),
        (
          record (issued_as c11 0 1 done1 (two_writes q) (records_in s2.parts) []) { filling = put c11.filling 1 1; clean = 2 ∷ []; place = put (released (Some 0) c11.place) 1 (Writes 0) },
          (s2, [], refl, two_in m q newer full_q, inr (inr (refl, refl, refl, (λ t. record (issued_as c11 0 1 done1 (two_in m q newer full_q t) (records_in s2.parts) []) { filling = put c11.filling 1 1; clean = 2 ∷ []; place = put (released (Some 0) c11.place) 1 (Writes 0) })))),
          refl,
        ),
      ),
    )

    may14 : May w13 e14
    may14 = (
      tt,
      (
        omega arith,
        (omega arith, ((λ e. cc), refl)),
        (
          record (issued_as c12 1 2 batch1 (two_writes r) (records_in s3.parts) []) { filling = put c12.filling 2 1; clean = []; place = put (released None c12.place) 2 (Writes 1) },
          (s3, [], refl, two_in m r other full_r, inr (inr (refl, refl, refl, (λ t. record (issued_as c12 1 2 batch1 (two_in m r other full_r t) (records_in s3.parts) []) { filling = put c12.filling 2 1; clean = []; place = put (released None c12.place) 2 (Writes 1) })))),
          refl,
        ),
      ),
    )

    may15 : May w14 e15
    may15 = (refl, (omega arith, (omega arith, (writing2, refl)), (write_done rules c13 0 issued2 writing2 (index_of q), (writing2, _, _, _, refl, refl, refl), refl)))

    pub run : IsRun rules Splits is_value w
    run = record {
      first = w0;
      events = events;
      opened = opened;
      empty = λ h. refl;
      happened = (may1, (may2, (may3, (may4, (may5, (may6, (may7, (may8, (may9, (tt, ((λ o _. refl), (may10, (tt, ((λ o _. refl), (may12, (may13, (may14, (tt, (tt, ((λ o _. refl), (may15, (tt, tt))))))))))))))))))))));
      well = (tt, (tt, (tt, (tt, (tt, (tt, (tt, (tt, (tt, (tt, (refl, (tt, (tt, (refl, (tt, (tt, (tt, (tt, (tt, (refl, (tt, (tt, tt))))))))))))))))))))));
      is = refl;
    }
