-- The run goes on: the last sequence, the last clean block is lost, and a reclaim that reads nothing.
use Rattle.std.proofs.Common.{◌≡◌, ℕ, ◌+◌, true, false, [], ◌∷◌, ◌++◌, Some, None, inl, inr, refl, arith, lit<}
use Rattle.foyer_core_model.specs.Numbers.{put}
use Rattle.foyer_core_model.specs.Ids.{without_id}
use Rattle.foyer_core_model.specs.Record.{Given}
use Rattle.foyer_format_layout.specs.BlockBytes.{Data, Index}
use Rattle.foyer_core_model.specs.State.{Piece, Await, Writes, Reclaims, AtIndex, AllListed, ToClean, State}
use Rattle.foyer_core_model.specs.Step.{Fault, Fresh, Young, Enqueue, Wait, LoadBegin, Receive, FlushBegin, FlushBlock, FlushWrote, LogWrote, FlushEnd, ReclaimBegin, ReclaimRead, ReclaimForget, ReclaimCleaned}
use Rattle.foyer_core_model.specs.Reply.{SequenceEnd, Refused, Queued, Done, Miss, Received, Began, Written, NoBlock, Failed, Ended, Picked, Listed, Cleans}
use Rattle.foyer_core_model.specs.Index.{forgotten, unmarked}
use Rattle.foyer_core_model.specs.Layout.{writes_in}
use Rattle.foyer_core_model.specs.Queue.{queued}
use Rattle.foyer_core_model.specs.Receive.{pieces_of, turned, pushed_to}
use Rattle.foyer_core_model.specs.Flush.{is_some, invalidated_unless, released, block_issued, waits_for_block, batch_failed}
use Rattle.foyer_core_model.specs.Reclaim.{reclaiming, reclaimed}
use Rattle.foyer_core_model.specs.World.{World, WorldEvent, Applies, ScanBegins, ScanEnds, WriteBegins, WriteEnds, CleanBegins, CleanEnds, after, MayHappen}
use Rattle.foyer_core_model.specs.SmallCore.{small, IsSmall, three, one_spread, no_spread, SmallSplits}
use Rattle.foyer_core_model.proofs.SmallRun.{empty, batch_in, writing_at, scan_at, counted}
use Rattle.foyer_core_model.proofs.RunRecovered.{wr17}

abbrev nr17 : State ℕ
nr17 = record (queued small wr17.core 0 (Piece 9 18446744073709551614 10 6)) { next = 18446744073709551615 }

abbrev pub er17 : WorldEvent ℕ
er17 = Applies (Enqueue 9 10 Fresh 6) (Queued 18446744073709551614) (counted wr17.core nr17)

abbrev pub wr18 : World ℕ
wr18 = after small wr17 er17

pub mayr17 : MayHappen small SmallSplits IsSmall wr17 er17
mayr17 = ((omega arith, refl), (lit< tt, tt, (nr17, (refl, refl, ((λ young. let e : Fresh ≡ Young = young in cc), (λ much. omega arith)), lit< tt, refl), refl)))

abbrev pub er18 : WorldEvent ℕ
er18 = Applies (Enqueue 9 10 Fresh 6) (Refused SequenceEnd (Enqueue 9 10 Fresh 6)) wr18.core

abbrev pub wr19 : World ℕ
wr19 = after small wr18 er18

pub mayr18 : MayHappen small SmallSplits IsSmall wr18 er18
mayr18 = ((omega arith, refl), (refl, inr (lit< tt, (tt, (λ young. let e : Fresh ≡ Young = young in cc), refl, omega arith)), refl))

abbrev nr19 : State ℕ
nr19 = pushed_to small wr19.core 0 [] (three 9 18446744073709551614 9 18446744073709551614 6 (Given 6))

abbrev pub er19 : WorldEvent ℕ
er19 = Applies (Receive 0) (Received None) (counted wr19.core nr19)

abbrev pub wr20 : World ℕ
wr20 = after small wr19 er19

pub mayr19 : MayHappen small SmallSplits IsSmall wr19 er19
mayr19 = (tt, (lit< tt, lit< tt, (nr19, (9 ∷ 18446744073709551614 ∷ 6 ∷ [], refl, (omega arith, (omega arith, omega arith)), refl), refl)))

abbrev nr20 : State ℕ
nr20 = turned small wr20.core 0 (record (wr20.core.flushers 0) {
  buffer = [];
  marks = [];
  invalidated = [];
  waits = [];
  context = (one_spread 4096 (three 9 18446744073709551614 9 18446744073709551614 6 (Given 6))).end;
  batch = Some (record { blocks = one_spread 4096 (three 9 18446744073709551614 9 18446744073709551614 6 (Given 6)) ∷ []; continues_own_block = is_some (wr20.core.flushers 0).own; writing = None; marks = (wr20.core.flushers 0).marks; invalidated = (wr20.core.flushers 0).invalidated; pieces = pieces_of (wr20.core.flushers 0).buffer; waits = (wr20.core.flushers 0).waits; logged = None });
})

abbrev pub er20 : WorldEvent ℕ
er20 = Applies (FlushBegin 0) (Began (one_spread 4096 (three 9 18446744073709551614 9 18446744073709551614 6 (Given 6)) ∷ []) []) (counted wr20.core nr20)

abbrev pub wr21 : World ℕ
wr21 = after small wr20 er20

pub mayr20 : MayHappen small SmallSplits IsSmall wr20 er20
mayr20 = (tt, (lit< tt, (lit< tt, refl, inl (λ e. cc)), (nr20, (refl, inr (inl (9, 18446744073709551614, 9, 18446744073709551614, 6, Given 6, refl, refl, refl)), refl), refl)))

abbrev nr21 : State ℕ
nr21 = record (block_issued small wr21.core 0 1 (batch_in (wr21.core.flushers 0).batch) (one_spread 4096 (three 9 18446744073709551614 9 18446744073709551614 6 (Given 6))) []) {
  filling = put wr21.core.filling 1 (wr21.core.filling 1 + 1);
  clean = without_id 1 wr21.core.clean;
  place = put (released (wr21.core.flushers 0).own wr21.core.place) 1 (Writes 0);
}

abbrev pub er21 : WorldEvent ℕ
er21 = Applies (FlushBlock 0) (Written 1 (writes_in small (one_spread 4096 (three 9 18446744073709551614 9 18446744073709551614 6 (Given 6))).parts)) (counted wr21.core nr21)

abbrev pub wr22 : World ℕ
wr22 = after small wr21 er21

pub mayr21 : MayHappen small SmallSplits IsSmall wr21 er21
mayr21 = (tt, (lit< tt, (lit< tt, ((λ e. cc), refl)), (nr21, (one_spread 4096 (three 9 18446744073709551614 9 18446744073709551614 6 (Given 6)), [], refl, refl, inr (inr (refl, refl, refl, refl))), refl)))

abbrev pub er22 : WorldEvent ℕ
er22 = WriteBegins 0

abbrev pub wr23 : World ℕ
wr23 = after small wr22 er22

pub mayr22 : MayHappen small SmallSplits IsSmall wr22 er22
mayr22 = tt

abbrev pub er23 : WorldEvent ℕ
er23 = WriteEnds 0 false (wr23.bytes 1)

abbrev pub wr24 : World ℕ
wr24 = after small wr23 er23

pub mayr23 : MayHappen small SmallSplits IsSmall wr23 er23
mayr23 = (λ o beside. refl)

abbrev nr24 : State ℕ
nr24 = batch_failed small wr24.core 0 (batch_in (wr24.core.flushers 0).batch)

abbrev pub er24 : WorldEvent ℕ
er24 = Applies (FlushWrote 0 false) (Failed) (counted wr24.core nr24)

abbrev pub wr25 : World ℕ
wr25 = after small wr24 er24

pub mayr24 : MayHappen small SmallSplits IsSmall wr24 er24
mayr24 = (refl, (lit< tt, (lit< tt, (writing_at (batch_in (wr24.core.flushers 0).batch).writing, refl)), (nr24, (writing_at (batch_in (wr24.core.flushers 0).batch).writing, (record { role = Data; offset = 4096; bytes = 9 ∷ 18446744073709551614 ∷ 6 ∷ [] }), (record { role = Index; offset = 0; bytes = [] }) ∷ [], refl, refl, (λ e. absurd (let f : false ≡ true = e in cc)), refl), refl)))

abbrev nr25 : State ℕ
nr25 = turned small wr25.core 0 (record (wr25.core.flushers 0) { batch = Some (record (batch_in (wr25.core.flushers 0).batch) { logged = Some true }) })

abbrev pub er25 : WorldEvent ℕ
er25 = Applies (LogWrote 0 true) (Done) (counted wr25.core nr25)

abbrev pub wr26 : World ℕ
wr26 = after small wr25 er25

pub mayr25 : MayHappen small SmallSplits IsSmall wr25 er25
mayr25 = (tt, (lit< tt, (lit< tt, refl, refl), (nr25, refl, refl)))

abbrev nr26 : State ℕ
nr26 = record (turned small wr26.core 0 (record (wr26.core.flushers 0) { batch = None })) { index = unmarked (batch_in (wr26.core.flushers 0).batch).marks wr26.core.index; stats = invalidated_unless wr26.core.place wr26.core.filling (batch_in (wr26.core.flushers 0).batch).logged (batch_in (wr26.core.flushers 0).batch).invalidated wr26.core.stats }

abbrev pub er26 : WorldEvent ℕ
er26 = Applies (FlushEnd 0) (Ended ((18446744073709551614, 6) ∷ []) []) (counted wr26.core nr26)

abbrev pub wr27 : World ℕ
wr27 = after small wr26 er26

pub mayr26 : MayHappen small SmallSplits IsSmall wr26 er26
mayr26 = (tt, (lit< tt, (lit< tt, (refl, refl, inr (true, refl))), (nr26, (refl, refl, refl), refl)))

abbrev nr27 : State ℕ
nr27 = queued small wr27.core 0 (Await 2)

abbrev pub er27 : WorldEvent ℕ
er27 = Applies (Wait 0 2) (Done) (counted wr27.core nr27)

abbrev pub wr28 : World ℕ
wr28 = after small wr27 er27

pub mayr27 : MayHappen small SmallSplits IsSmall wr27 er27
mayr27 = (tt, (lit< tt, lit< tt, (nr27, refl, refl)))

abbrev nr28 : State ℕ
nr28 = turned small wr28.core 0 (record (wr28.core.flushers 0) { queue = []; waits = (wr28.core.flushers 0).waits ++ 2 ∷ [] })

abbrev pub er28 : WorldEvent ℕ
er28 = Applies (Receive 0) (Received None) (counted wr28.core nr28)

abbrev pub wr29 : World ℕ
wr29 = after small wr28 er28

pub mayr28 : MayHappen small SmallSplits IsSmall wr28 er28
mayr28 = (tt, (lit< tt, lit< tt, (nr28, refl, refl)))

abbrev nr29 : State ℕ
nr29 = turned small wr29.core 0 (record (wr29.core.flushers 0) {
  buffer = [];
  marks = [];
  invalidated = [];
  waits = [];
  context = (no_spread empty).end;
  batch = Some (record { blocks = no_spread empty ∷ []; continues_own_block = is_some (wr29.core.flushers 0).own; writing = None; marks = (wr29.core.flushers 0).marks; invalidated = (wr29.core.flushers 0).invalidated; pieces = pieces_of (wr29.core.flushers 0).buffer; waits = (wr29.core.flushers 0).waits; logged = None });
})

abbrev pub er29 : WorldEvent ℕ
er29 = Applies (FlushBegin 0) (Began (no_spread empty ∷ []) []) (counted wr29.core nr29)

abbrev pub wr30 : World ℕ
wr30 = after small wr29 er29

pub mayr29 : MayHappen small SmallSplits IsSmall wr29 er29
mayr29 = (tt, (lit< tt, (lit< tt, refl, inr (inr (λ e. cc))), (nr29, (refl, inl refl, refl), refl)))

abbrev nr30 : State ℕ
nr30 = waits_for_block small wr30.core 0

abbrev pub er30 : WorldEvent ℕ
er30 = Applies (FlushBlock 0) (NoBlock) (counted wr30.core nr30)

abbrev pub wr31 : World ℕ
wr31 = after small wr30 er30

pub mayr30 : MayHappen small SmallSplits IsSmall wr30 er30
mayr30 = (tt, (lit< tt, (lit< tt, ((λ e. cc), refl)), (nr30, (refl, refl, refl, refl), refl)))

abbrev nr31 : State ℕ
nr31 = record wr31.core { place = put wr31.core.place 0 Reclaims; reclaims = put wr31.core.reclaims 0 (Some (record { stage = AtIndex 0; listed = []; requeued = [] })); stats = wr31.core.stats }

abbrev pub er31 : WorldEvent ℕ
er31 = Applies (ReclaimBegin) (Picked 0 (Some 0 ∷ []) []) (counted wr31.core nr31)

abbrev pub wr32 : World ℕ
wr32 = after small wr31 er31

pub mayr31 : MayHappen small SmallSplits IsSmall wr31 er31
mayr31 = (tt, (lit< tt, record { wanted = inl (lit< tt); free = lit< tt; some_block = (0, lit< tt, refl); quiet = refl }, (nr31, (lit< tt, refl, refl, (λ d is. let e : Some 0 ≡ Some d = is in cc), refl), refl)))

abbrev pub er32 : WorldEvent ℕ
er32 = ScanBegins 0

abbrev pub wr33 : World ℕ
wr33 = after small wr32 er32

pub mayr32 : MayHappen small SmallSplits IsSmall wr32 er32
mayr32 = tt

abbrev pub er33 : WorldEvent ℕ
er33 = ScanEnds 0 Fault

abbrev pub wr34 : World ℕ
wr34 = after small wr33 er33

pub mayr33 : MayHappen small SmallSplits IsSmall wr33 er33
mayr33 = tt

abbrev nr34 : State ℕ
nr34 = reclaiming small wr34.core 0 (record { stage = AllListed; listed = []; requeued = [] })

abbrev pub er34 : WorldEvent ℕ
er34 = Applies (ReclaimRead 0 Fault) (Listed []) (counted wr34.core nr34)

abbrev pub wr35 : World ℕ
wr35 = after small wr34 er34

pub mayr34 : MayHappen small SmallSplits IsSmall wr34 er34
mayr34 = ((scan_at wr34.scans 0, refl, (Fault, refl)), (lit< tt, (lit< tt, tt), (nr34, (refl, refl), refl)))

abbrev nr35 : State ℕ
nr35 = record wr35.core { index = forgotten [] wr35.core.index; reclaims = put wr35.core.reclaims 0 (Some (record { stage = ToClean; listed = []; requeued = [] })) }

abbrev pub er35 : WorldEvent ℕ
er35 = Applies (ReclaimForget 0) (Cleans 0) (counted wr35.core nr35)

abbrev pub wr36 : World ℕ
wr36 = after small wr35 er35

pub mayr35 : MayHappen small SmallSplits IsSmall wr35 er35
mayr35 = (tt, (lit< tt, (lit< tt, refl), (nr35, (refl, refl), refl)))

abbrev pub er36 : WorldEvent ℕ
er36 = CleanBegins 0

abbrev pub wr37 : World ℕ
wr37 = after small wr36 er36

pub mayr36 : MayHappen small SmallSplits IsSmall wr36 er36
mayr36 = tt

abbrev pub er37 : WorldEvent ℕ
er37 = CleanEnds 0 false (wr37.bytes 0)

abbrev pub wr38 : World ℕ
wr38 = after small wr37 er37

pub mayr37 : MayHappen small SmallSplits IsSmall wr37 er37
mayr37 = (λ o past. refl)

abbrev nr38 : State ℕ
nr38 = record (reclaimed small wr38.core 0) { waiting = []; place = put wr38.core.place 0 (Writes 0); filling = put wr38.core.filling 0 (wr38.core.filling 0 + 1); flushers = put wr38.core.flushers 0 (record (wr38.core.flushers 0) { ready = Some 0 }) }

abbrev pub er38 : WorldEvent ℕ
er38 = Applies (ReclaimCleaned 0 false) (Done) (counted wr38.core nr38)

abbrev pub wr39 : World ℕ
wr39 = after small wr38 er38

pub mayr38 : MayHappen small SmallSplits IsSmall wr38 er38
mayr38 = (refl, (lit< tt, (lit< tt, refl), (nr38, inl (0, [], refl, lit< tt, refl), refl)))

-- an address of an older filling
abbrev nr39 : State ℕ
nr39 = record wr39.core { index = put wr39.core.index 4 None }

abbrev pub er39 : WorldEvent ℕ
er39 = Applies (LoadBegin 4 false) (Miss) (counted wr39.core nr39)

abbrev pub wr40 : World ℕ
wr40 = after small wr39 er39

pub mayr39 : MayHappen small SmallSplits IsSmall wr39 er39
mayr39 = (tt, (lit< tt, tt, (nr39, (refl, (λ e. cc), refl), refl)))
