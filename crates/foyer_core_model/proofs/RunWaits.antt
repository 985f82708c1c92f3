-- Waits that take the last block, another lost write, and no block.
use Rattle.std.proofs.Common.{◌≡◌, ℕ, ◌+◌, true, false, [], ◌∷◌, ◌++◌, Some, None, inl, inr, refl, arith, lit<}
use Rattle.foyer_core_model.specs.Numbers.{put}
use Rattle.foyer_core_model.specs.Ids.{without_id}
use Rattle.foyer_core_model.specs.Record.{Given}
use Rattle.foyer_format_layout.specs.BlockBytes.{Data, Index}
use Rattle.foyer_core_model.specs.State.{Piece, Await, Writes, State}
use Rattle.foyer_core_model.specs.Step.{Fresh, Young, Enqueue, Wait, Receive, FlushBegin, FlushBlock, FlushWrote, LogWrote, FlushEnd}
use Rattle.foyer_core_model.specs.Reply.{Queued, Done, Received, Began, Written, NoBlock, Failed, Ended}
use Rattle.foyer_core_model.specs.Index.{unmarked}
use Rattle.foyer_core_model.specs.Layout.{writes_in}
use Rattle.foyer_core_model.specs.Queue.{queued}
use Rattle.foyer_core_model.specs.Receive.{pieces_of, turned, pushed_to}
use Rattle.foyer_core_model.specs.Flush.{is_some, invalidated_unless, released, block_issued, waits_for_block, batch_failed}
use Rattle.foyer_core_model.specs.World.{World, WorldEvent, Applies, WriteBegins, WriteEnds, after, MayHappen}
use Rattle.foyer_core_model.specs.SmallCore.{small, IsSmall, three, one_spread, no_spread, SmallSplits}
use Rattle.foyer_core_model.proofs.SmallRun.{empty, batch_in, writing_at, counted}
use Rattle.foyer_core_model.proofs.RunLoads.{w38}

abbrev n38 : State ℕ
n38 = queued small w38.core 0 (Await 1)

abbrev pub e38 : WorldEvent ℕ
e38 = Applies (Wait 0 1) (Done) (counted w38.core n38)

abbrev pub w39 : World ℕ
w39 = after small w38 e38

pub may38 : MayHappen small SmallSplits IsSmall w38 e38
may38 = (tt, (lit< tt, lit< tt, (n38, refl, refl)))

abbrev n39 : State ℕ
n39 = turned small w39.core 0 (record (w39.core.flushers 0) { queue = []; waits = (w39.core.flushers 0).waits ++ 1 ∷ [] })

abbrev pub e39 : WorldEvent ℕ
e39 = Applies (Receive 0) (Received None) (counted w39.core n39)

abbrev pub w40 : World ℕ
w40 = after small w39 e39

pub may39 : MayHappen small SmallSplits IsSmall w39 e39
may39 = (tt, (lit< tt, lit< tt, (n39, refl, refl)))

abbrev n40 : State ℕ
n40 = turned small w40.core 0 (record (w40.core.flushers 0) {
  buffer = [];
  marks = [];
  invalidated = [];
  waits = [];
  context = (no_spread empty).end;
  batch = Some (record { blocks = no_spread empty ∷ []; continues_own_block = is_some (w40.core.flushers 0).own; writing = None; marks = (w40.core.flushers 0).marks; invalidated = (w40.core.flushers 0).invalidated; pieces = pieces_of (w40.core.flushers 0).buffer; waits = (w40.core.flushers 0).waits; logged = None });
})

abbrev pub e40 : WorldEvent ℕ
e40 = Applies (FlushBegin 0) (Began (no_spread empty ∷ []) []) (counted w40.core n40)

abbrev pub w41 : World ℕ
w41 = after small w40 e40

pub may40 : MayHappen small SmallSplits IsSmall w40 e40
may40 = (tt, (lit< tt, (lit< tt, refl, inr (inr (λ e. cc))), (n40, (refl, inl refl, refl), refl)))

abbrev n41 : State ℕ
n41 = record (block_issued small w41.core 0 1 (batch_in (w41.core.flushers 0).batch) (no_spread empty) []) {
  filling = put w41.core.filling 1 (w41.core.filling 1 + 1);
  clean = without_id 1 w41.core.clean;
  place = put (released (w41.core.flushers 0).own w41.core.place) 1 (Writes 0);
}

abbrev pub e41 : WorldEvent ℕ
e41 = Applies (FlushBlock 0) (Written 1 (writes_in small (no_spread empty).parts)) (counted w41.core n41)

abbrev pub w42 : World ℕ
w42 = after small w41 e41

pub may41 : MayHappen small SmallSplits IsSmall w41 e41
may41 = (tt, (lit< tt, (lit< tt, ((λ e. cc), refl)), (n41, (no_spread empty, [], refl, refl, inr (inr (refl, refl, refl, refl))), refl)))

abbrev n42 : State ℕ
n42 = turned small w42.core 0 (record (w42.core.flushers 0) { batch = Some (record (batch_in (w42.core.flushers 0).batch) { logged = Some true }) })

abbrev pub e42 : WorldEvent ℕ
e42 = Applies (LogWrote 0 true) (Done) (counted w42.core n42)

abbrev pub w43 : World ℕ
w43 = after small w42 e42

pub may42 : MayHappen small SmallSplits IsSmall w42 e42
may42 = (tt, (lit< tt, (lit< tt, refl, refl), (n42, refl, refl)))

abbrev n43 : State ℕ
n43 = record (turned small w43.core 0 (record (w43.core.flushers 0) { batch = None })) { index = unmarked (batch_in (w43.core.flushers 0).batch).marks w43.core.index; stats = invalidated_unless w43.core.place w43.core.filling (batch_in (w43.core.flushers 0).batch).logged (batch_in (w43.core.flushers 0).batch).invalidated w43.core.stats }

abbrev pub e43 : WorldEvent ℕ
e43 = Applies (FlushEnd 0) (Ended [] (1 ∷ [])) (counted w43.core n43)

abbrev pub w44 : World ℕ
w44 = after small w43 e43

pub may43 : MayHappen small SmallSplits IsSmall w43 e43
may43 = (tt, (lit< tt, (lit< tt, (refl, refl, inr (true, refl))), (n43, (refl, refl, refl), refl)))

abbrev n44 : State ℕ
n44 = record (queued small w44.core 0 (Piece 9 4 10 6)) { next = 5 }

abbrev pub e44 : WorldEvent ℕ
e44 = Applies (Enqueue 9 10 Fresh 6) (Queued 4) (counted w44.core n44)

abbrev pub w45 : World ℕ
w45 = after small w44 e44

pub may44 : MayHappen small SmallSplits IsSmall w44 e44
may44 = ((omega arith, refl), (lit< tt, tt, (n44, (refl, refl, ((λ young. let e : Fresh ≡ Young = young in cc), (λ much. omega arith)), lit< tt, refl), refl)))

abbrev n45 : State ℕ
n45 = pushed_to small w45.core 0 [] (three 9 4 9 4 6 (Given 6))

abbrev pub e45 : WorldEvent ℕ
e45 = Applies (Receive 0) (Received None) (counted w45.core n45)

abbrev pub w46 : World ℕ
w46 = after small w45 e45

pub may45 : MayHappen small SmallSplits IsSmall w45 e45
may45 = (tt, (lit< tt, lit< tt, (n45, (9 ∷ 4 ∷ 6 ∷ [], refl, (omega arith, (omega arith, omega arith)), refl), refl)))

abbrev n46 : State ℕ
n46 = turned small w46.core 0 (record (w46.core.flushers 0) {
  buffer = [];
  marks = [];
  invalidated = [];
  waits = [];
  context = (one_spread 4096 (three 9 4 9 4 6 (Given 6))).end;
  batch = Some (record { blocks = one_spread 4096 (three 9 4 9 4 6 (Given 6)) ∷ []; continues_own_block = is_some (w46.core.flushers 0).own; writing = None; marks = (w46.core.flushers 0).marks; invalidated = (w46.core.flushers 0).invalidated; pieces = pieces_of (w46.core.flushers 0).buffer; waits = (w46.core.flushers 0).waits; logged = None });
})

abbrev pub e46 : WorldEvent ℕ
e46 = Applies (FlushBegin 0) (Began (one_spread 4096 (three 9 4 9 4 6 (Given 6)) ∷ []) []) (counted w46.core n46)

abbrev pub w47 : World ℕ
w47 = after small w46 e46

pub may46 : MayHappen small SmallSplits IsSmall w46 e46
may46 = (tt, (lit< tt, (lit< tt, refl, inl (λ e. cc)), (n46, (refl, inr (inl (9, 4, 9, 4, 6, Given 6, refl, refl, refl)), refl), refl)))

abbrev n47 : State ℕ
n47 = block_issued small w47.core 0 1 (batch_in (w47.core.flushers 0).batch) (one_spread 4096 (three 9 4 9 4 6 (Given 6))) []

abbrev pub e47 : WorldEvent ℕ
e47 = Applies (FlushBlock 0) (Written 1 (writes_in small (one_spread 4096 (three 9 4 9 4 6 (Given 6))).parts)) (counted w47.core n47)

abbrev pub w48 : World ℕ
w48 = after small w47 e47

pub may47 : MayHappen small SmallSplits IsSmall w47 e47
may47 = (tt, (lit< tt, (lit< tt, ((λ e. cc), refl)), (n47, (one_spread 4096 (three 9 4 9 4 6 (Given 6)), [], refl, refl, inl (refl, refl, refl)), refl)))

abbrev pub e48 : WorldEvent ℕ
e48 = WriteBegins 0

abbrev pub w49 : World ℕ
w49 = after small w48 e48

pub may48 : MayHappen small SmallSplits IsSmall w48 e48
may48 = tt

abbrev pub e49 : WorldEvent ℕ
e49 = WriteEnds 0 false (w49.bytes 1)

abbrev pub w50 : World ℕ
w50 = after small w49 e49

pub may49 : MayHappen small SmallSplits IsSmall w49 e49
may49 = (λ o beside. refl)

abbrev n50 : State ℕ
n50 = batch_failed small w50.core 0 (batch_in (w50.core.flushers 0).batch)

abbrev pub e50 : WorldEvent ℕ
e50 = Applies (FlushWrote 0 false) (Failed) (counted w50.core n50)

abbrev pub w51 : World ℕ
w51 = after small w50 e50

pub may50 : MayHappen small SmallSplits IsSmall w50 e50
may50 = (refl, (lit< tt, (lit< tt, (writing_at (batch_in (w50.core.flushers 0).batch).writing, refl)), (n50, (writing_at (batch_in (w50.core.flushers 0).batch).writing, (record { role = Data; offset = 4096; bytes = 9 ∷ 4 ∷ 6 ∷ [] }), (record { role = Index; offset = 0; bytes = [] }) ∷ [], refl, refl, (λ e. absurd (let f : false ≡ true = e in cc)), refl), refl)))

abbrev n51 : State ℕ
n51 = turned small w51.core 0 (record (w51.core.flushers 0) { batch = Some (record (batch_in (w51.core.flushers 0).batch) { logged = Some true }) })

abbrev pub e51 : WorldEvent ℕ
e51 = Applies (LogWrote 0 true) (Done) (counted w51.core n51)

abbrev pub w52 : World ℕ
w52 = after small w51 e51

pub may51 : MayHappen small SmallSplits IsSmall w51 e51
may51 = (tt, (lit< tt, (lit< tt, refl, refl), (n51, refl, refl)))

abbrev n52 : State ℕ
n52 = record (turned small w52.core 0 (record (w52.core.flushers 0) { batch = None })) { index = unmarked (batch_in (w52.core.flushers 0).batch).marks w52.core.index; stats = invalidated_unless w52.core.place w52.core.filling (batch_in (w52.core.flushers 0).batch).logged (batch_in (w52.core.flushers 0).batch).invalidated w52.core.stats }

abbrev pub e52 : WorldEvent ℕ
e52 = Applies (FlushEnd 0) (Ended ((4, 6) ∷ []) []) (counted w52.core n52)

abbrev pub w53 : World ℕ
w53 = after small w52 e52

pub may52 : MayHappen small SmallSplits IsSmall w52 e52
may52 = (tt, (lit< tt, (lit< tt, (refl, refl, inr (true, refl))), (n52, (refl, refl, refl), refl)))

abbrev n53 : State ℕ
n53 = queued small w53.core 0 (Await 2)

abbrev pub e53 : WorldEvent ℕ
e53 = Applies (Wait 0 2) (Done) (counted w53.core n53)

abbrev pub w54 : World ℕ
w54 = after small w53 e53

pub may53 : MayHappen small SmallSplits IsSmall w53 e53
may53 = (tt, (lit< tt, lit< tt, (n53, refl, refl)))

abbrev n54 : State ℕ
n54 = turned small w54.core 0 (record (w54.core.flushers 0) { queue = []; waits = (w54.core.flushers 0).waits ++ 2 ∷ [] })

abbrev pub e54 : WorldEvent ℕ
e54 = Applies (Receive 0) (Received None) (counted w54.core n54)

abbrev pub w55 : World ℕ
w55 = after small w54 e54

pub may54 : MayHappen small SmallSplits IsSmall w54 e54
may54 = (tt, (lit< tt, lit< tt, (n54, refl, refl)))

abbrev n55 : State ℕ
n55 = turned small w55.core 0 (record (w55.core.flushers 0) {
  buffer = [];
  marks = [];
  invalidated = [];
  waits = [];
  context = (no_spread empty).end;
  batch = Some (record { blocks = no_spread empty ∷ []; continues_own_block = is_some (w55.core.flushers 0).own; writing = None; marks = (w55.core.flushers 0).marks; invalidated = (w55.core.flushers 0).invalidated; pieces = pieces_of (w55.core.flushers 0).buffer; waits = (w55.core.flushers 0).waits; logged = None });
})

abbrev pub e55 : WorldEvent ℕ
e55 = Applies (FlushBegin 0) (Began (no_spread empty ∷ []) []) (counted w55.core n55)

abbrev pub w56 : World ℕ
w56 = after small w55 e55

pub may55 : MayHappen small SmallSplits IsSmall w55 e55
may55 = (tt, (lit< tt, (lit< tt, refl, inr (inr (λ e. cc))), (n55, (refl, inl refl, refl), refl)))

abbrev n56 : State ℕ
n56 = waits_for_block small w56.core 0

abbrev pub e56 : WorldEvent ℕ
e56 = Applies (FlushBlock 0) (NoBlock) (counted w56.core n56)

abbrev pub w57 : World ℕ
w57 = after small w56 e56

pub may56 : MayHappen small SmallSplits IsSmall w56 e56
may56 = (tt, (lit< tt, (lit< tt, ((λ e. cc), refl)), (n56, (refl, refl, refl, refl), refl)))
