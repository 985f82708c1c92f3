-- A piece is queued, flushed and committed, and what is out of turn or ignored.
use Rattle.std.proofs.Common.{◌≡◌, ℕ, ◌+◌, true, [], ◌∷◌, Some, None, inl, inr, refl, arith, lit<}
use Rattle.foyer_core_model.specs.Numbers.{put}
use Rattle.foyer_core_model.specs.Ids.{without_id}
use Rattle.foyer_core_model.specs.Record.{Mark, Given}
use Rattle.foyer_format_layout.specs.BlockBytes.{Data, Index}
use Rattle.foyer_core_model.specs.State.{Piece, Remove, Writes, State}
use Rattle.foyer_core_model.specs.Step.{Fresh, Young, Enqueue, Delete, Receive, FlushBegin, FlushBlock, FlushWrote, LogWrote, FlushEnd}
use Rattle.foyer_core_model.specs.Reply.{Memory, NotNow, Refused, Ignored, Queued, Deleted, Done, Empty, Received, Began, Written, Next, Committed, Ended}
use Rattle.foyer_core_model.specs.Index.{unmarked}
use Rattle.foyer_core_model.specs.Layout.{writes_in}
use Rattle.foyer_core_model.specs.Queue.{queued}
use Rattle.foyer_core_model.specs.Receive.{pieces_of, turned, pushed_to}
use Rattle.foyer_core_model.specs.Flush.{is_some, invalidated_unless, released, block_issued, write_done, block_done}
use Rattle.foyer_core_model.specs.World.{World, WorldEvent, Applies, WriteBegins, WriteEnds, after, MayHappen}
use Rattle.foyer_core_model.specs.SmallCore.{small, IsSmall, three, one_spread, SmallSplits}
use Rattle.foyer_core_model.proofs.SmallRun.{batch_in, writing_at, counted, w0}

abbrev n0 : State ℕ
n0 = record (queued small w0.core 0 (Piece 7 1 10 5)) { next = 2 }

abbrev pub e0 : WorldEvent ℕ
e0 = Applies (Enqueue 7 10 Fresh 5) (Queued 1) (counted w0.core n0)

abbrev pub w1 : World ℕ
w1 = after small w0 e0

pub may0 : MayHappen small SmallSplits IsSmall w0 e0
may0 = ((omega arith, refl), (lit< tt, tt, (n0, (refl, refl, ((λ young. let e : Fresh ≡ Young = young in cc), (λ much. omega arith)), lit< tt, refl), refl)))

abbrev n1 : State ℕ
n1 = w1.core

abbrev pub e1 : WorldEvent ℕ
e1 = Applies (Enqueue 7 10 Young 5) (Ignored 5) (counted w1.core n1)

abbrev pub w2 : World ℕ
w2 = after small w1 e1

pub may1 : MayHappen small SmallSplits IsSmall w1 e1
may1 = ((omega arith, refl), (lit< tt, tt, (n1, (refl, refl, refl, refl), refl)))

abbrev pub e2 : WorldEvent ℕ
e2 = Applies (Delete 7) (Refused Memory (Delete 7)) w2.core

abbrev pub w3 : World ℕ
w3 = after small w2 e2

pub may2 : MayHappen small SmallSplits IsSmall w2 e2
may2 = (omega arith, (refl, (lit< tt, (tt, (Deleted 2, record (queued small w2.core 0 (Remove 7 2 [])) { next = 3; index = put w2.core.index 7 (Some (Mark 2)) }, (refl, refl, lit< tt, refl), tt))), refl))

abbrev pub e3 : WorldEvent ℕ
e3 = Applies (FlushBegin 0) (NotNow (FlushBegin 0)) w3.core

abbrev pub w4 : World ℕ
w4 = after small w3 e3

pub may3 : MayHappen small SmallSplits IsSmall w3 e3
may3 = (tt, (refl, (lit< tt, (λ d. absurd d), (λ turn. elim turn.2 [ inl some ↦ some refl | inr (inl some) ↦ some refl | inr (inr some) ↦ some refl ])), refl))

abbrev n4 : State ℕ
n4 = pushed_to small w4.core 0 [] (three 7 1 7 1 5 (Given 5))

abbrev pub e4 : WorldEvent ℕ
e4 = Applies (Receive 0) (Received None) (counted w4.core n4)

abbrev pub w5 : World ℕ
w5 = after small w4 e4

pub may4 : MayHappen small SmallSplits IsSmall w4 e4
may4 = (tt, (lit< tt, lit< tt, (n4, (7 ∷ 1 ∷ 5 ∷ [], refl, (omega arith, (omega arith, omega arith)), refl), refl)))

abbrev n5 : State ℕ
n5 = w5.core

abbrev pub e5 : WorldEvent ℕ
e5 = Applies (Receive 0) (Empty) (counted w5.core n5)

abbrev pub w6 : World ℕ
w6 = after small w5 e5

pub may5 : MayHappen small SmallSplits IsSmall w5 e5
may5 = (tt, (lit< tt, lit< tt, (n5, refl, refl)))

abbrev n6 : State ℕ
n6 = turned small w6.core 0 (record (w6.core.flushers 0) {
  buffer = [];
  marks = [];
  invalidated = [];
  waits = [];
  context = (one_spread 4096 (three 7 1 7 1 5 (Given 5))).end;
  batch = Some (record { blocks = one_spread 4096 (three 7 1 7 1 5 (Given 5)) ∷ []; continues_own_block = is_some (w6.core.flushers 0).own; writing = None; marks = (w6.core.flushers 0).marks; invalidated = (w6.core.flushers 0).invalidated; pieces = pieces_of (w6.core.flushers 0).buffer; waits = (w6.core.flushers 0).waits; logged = None });
})

abbrev pub e6 : WorldEvent ℕ
e6 = Applies (FlushBegin 0) (Began (one_spread 4096 (three 7 1 7 1 5 (Given 5)) ∷ []) []) (counted w6.core n6)

abbrev pub w7 : World ℕ
w7 = after small w6 e6

pub may6 : MayHappen small SmallSplits IsSmall w6 e6
may6 = (tt, (lit< tt, (lit< tt, refl, inl (λ e. cc)), (n6, (refl, inr (inl (7, 1, 7, 1, 5, Given 5, refl, refl, refl)), refl), refl)))

abbrev n7 : State ℕ
n7 = record (block_issued small w7.core 0 0 (batch_in (w7.core.flushers 0).batch) (one_spread 4096 (three 7 1 7 1 5 (Given 5))) []) {
  filling = put w7.core.filling 0 (w7.core.filling 0 + 1);
  clean = without_id 0 w7.core.clean;
  place = put (released (w7.core.flushers 0).own w7.core.place) 0 (Writes 0);
}

abbrev pub e7 : WorldEvent ℕ
e7 = Applies (FlushBlock 0) (Written 0 (writes_in small (one_spread 4096 (three 7 1 7 1 5 (Given 5))).parts)) (counted w7.core n7)

abbrev pub w8 : World ℕ
w8 = after small w7 e7

pub may7 : MayHappen small SmallSplits IsSmall w7 e7
may7 = (tt, (lit< tt, (lit< tt, ((λ e. cc), refl)), (n7, (one_spread 4096 (three 7 1 7 1 5 (Given 5)), [], refl, refl, inr (inr (refl, refl, refl, refl))), refl)))

abbrev pub e8 : WorldEvent ℕ
e8 = WriteBegins 0

abbrev pub w9 : World ℕ
w9 = after small w8 e8

pub may8 : MayHappen small SmallSplits IsSmall w8 e8
may8 = tt

abbrev pub e9 : WorldEvent ℕ
e9 = WriteEnds 0 true (w9.bytes 0)

abbrev pub w10 : World ℕ
w10 = after small w9 e9

pub may9 : MayHappen small SmallSplits IsSmall w9 e9
may9 = (λ o beside. refl)

abbrev pub e10 : WorldEvent ℕ
e10 = WriteBegins 0

abbrev pub w11 : World ℕ
w11 = after small w10 e10

pub may10 : MayHappen small SmallSplits IsSmall w10 e10
may10 = tt

abbrev pub e11 : WorldEvent ℕ
e11 = WriteEnds 0 true (w11.bytes 0)

abbrev pub w12 : World ℕ
w12 = after small w11 e11

pub may11 : MayHappen small SmallSplits IsSmall w11 e11
may11 = (λ o beside. refl)

abbrev n12 : State ℕ
n12 = write_done small w12.core 0 (batch_in (w12.core.flushers 0).batch) (writing_at (batch_in (w12.core.flushers 0).batch).writing) ((record { role = Index; offset = 0; bytes = [] }) ∷ [])

abbrev pub e12 : WorldEvent ℕ
e12 = Applies (FlushWrote 0 true) (Next) (counted w12.core n12)

abbrev pub w13 : World ℕ
w13 = after small w12 e12

pub may12 : MayHappen small SmallSplits IsSmall w12 e12
may12 = (refl, (lit< tt, (lit< tt, (writing_at (batch_in (w12.core.flushers 0).batch).writing, refl)), (n12, (writing_at (batch_in (w12.core.flushers 0).batch).writing, (record { role = Data; offset = 4096; bytes = 7 ∷ 1 ∷ 5 ∷ [] }), (record { role = Index; offset = 0; bytes = [] }), [], refl, refl, refl), refl)))

abbrev n13 : State ℕ
n13 = block_done small w13.core 0 (batch_in (w13.core.flushers 0).batch) (writing_at (batch_in (w13.core.flushers 0).batch).writing)

abbrev pub e13 : WorldEvent ℕ
e13 = Applies (FlushWrote 0 true) (Committed 1) (counted w13.core n13)

abbrev pub w14 : World ℕ
w14 = after small w13 e13

pub may13 : MayHappen small SmallSplits IsSmall w13 e13
may13 = (refl, (lit< tt, (lit< tt, (writing_at (batch_in (w13.core.flushers 0).batch).writing, refl)), (n13, (writing_at (batch_in (w13.core.flushers 0).batch).writing, (record { role = Index; offset = 0; bytes = [] }), refl, refl, refl, refl), refl)))

abbrev n14 : State ℕ
n14 = turned small w14.core 0 (record (w14.core.flushers 0) { batch = Some (record (batch_in (w14.core.flushers 0).batch) { logged = Some true }) })

abbrev pub e14 : WorldEvent ℕ
e14 = Applies (LogWrote 0 true) (Done) (counted w14.core n14)

abbrev pub w15 : World ℕ
w15 = after small w14 e14

pub may14 : MayHappen small SmallSplits IsSmall w14 e14
may14 = (tt, (lit< tt, (lit< tt, refl, refl), (n14, refl, refl)))

abbrev n15 : State ℕ
n15 = record (turned small w15.core 0 (record (w15.core.flushers 0) { batch = None })) { index = unmarked (batch_in (w15.core.flushers 0).batch).marks w15.core.index; stats = invalidated_unless w15.core.place w15.core.filling (batch_in (w15.core.flushers 0).batch).logged (batch_in (w15.core.flushers 0).batch).invalidated w15.core.stats }

abbrev pub e15 : WorldEvent ℕ
e15 = Applies (FlushEnd 0) (Ended ((1, 5) ∷ []) []) (counted w15.core n15)

abbrev pub w16 : World ℕ
w16 = after small w15 e15

pub may15 : MayHappen small SmallSplits IsSmall w15 e15
may15 = (tt, (lit< tt, (lit< tt, (refl, refl, inr (true, refl))), (n15, (refl, refl, refl), refl)))
