-- Loads of the record, and a write that fails.
use Rattle.std.proofs.Common.{◌≡◌, ℕ, zero, suc, ◌+◌, ◌<◌, true, false, [], ◌∷◌, slice_index, Some, None, inl, inr, refl, arith, lit<}
use Rattle.foyer_core_model.specs.Record.{Given}
use Rattle.foyer_format_layout.specs.BlockBytes.{Data, Index}
use Rattle.foyer_core_model.specs.State.{Piece, State}
use Rattle.foyer_core_model.specs.Step.{Bytes, Fault, Fresh, Young, Enqueue, MayContains, LoadBegin, LoadEnd, Receive, FlushBegin, FlushBlock, FlushWrote, LogWrote, FlushEnd}
use Rattle.foyer_core_model.specs.Reply.{Io, Refused, Queued, Done, Answer, Miss, Throttled, Read, Entry, Received, Began, Written, Failed, Ended}
use Rattle.foyer_core_model.specs.Index.{unmarked}
use Rattle.foyer_core_model.specs.Layout.{writes_in}
use Rattle.foyer_core_model.specs.Queue.{queued}
use Rattle.foyer_core_model.specs.Load.{accessed}
use Rattle.foyer_core_model.specs.Receive.{pieces_of, turned, pushed_to, marked_at}
use Rattle.foyer_core_model.specs.Flush.{is_some, invalidated_unless, block_issued, batch_failed}
use Rattle.foyer_core_model.specs.World.{World, WorldEvent, Applies, ReadBegins, ReadEnds, WriteBegins, WriteEnds, after, MayHappen}
use Rattle.foyer_core_model.specs.SmallCore.{small, IsSmall, three, one_spread, SmallSplits}
use Rattle.foyer_core_model.proofs.SmallRun.{first_address, batch_in, writing_at, load_at, counted}
use Rattle.foyer_core_model.proofs.RunFlush.{w16}

abbrev n16 : State ℕ
n16 = record w16.core { stats = accessed small w16.core (first_address).block }

abbrev pub e16 : WorldEvent ℕ
e16 = Applies (LoadBegin 7 false) (Read (record { hash = 7; address = first_address })) (counted w16.core n16)

abbrev pub w17 : World ℕ
w17 = after small w16 e16

pub may16 : MayHappen small SmallSplits IsSmall w16 e16
may16 = (tt, (lit< tt, tt, (n16, (refl, refl, refl, refl), refl)))

abbrev pub e17 : WorldEvent ℕ
e17 = ReadBegins 0

abbrev pub w18 : World ℕ
w18 = after small w17 e17

pub may17 : MayHappen small SmallSplits IsSmall w17 e17
may17 = tt

here18 : (i : ℕ) → i < 3 → slice_index (7 ∷ 1 ∷ 5 ∷ []) i ≡ w18.bytes 0 (4096 + i)
here18 zero lt = refl
here18 (suc zero) lt = refl
here18 (suc (suc zero)) lt = refl
here18 (suc (suc (suc i))) lt = absurd (omega arith)

abbrev pub e18 : WorldEvent ℕ
e18 = ReadEnds 0 (Bytes (7 ∷ 1 ∷ 5 ∷ []))

abbrev pub w19 : World ℕ
w19 = after small w18 e18

pub may18 : MayHappen small SmallSplits IsSmall w18 e18
may18 = (refl, λ i lt clear. here18 i lt)

abbrev n19 : State ℕ
n19 = w19.core

abbrev pub e19 : WorldEvent ℕ
e19 = Applies (LoadEnd (record { hash = 7; address = first_address }) (Bytes (7 ∷ 1 ∷ 5 ∷ []))) (Entry 5 Young) (counted w19.core n19)

abbrev pub w20 : World ℕ
w20 = after small w19 e19

pub may19 : MayHappen small SmallSplits IsSmall w19 e19
may19 = ((0, load_at w19.loads 0, refl, refl, refl), (lit< tt, (lit< tt, refl), (n19, (refl, refl, refl), refl)))

abbrev n20 : State ℕ
n20 = w20.core

abbrev pub e20 : WorldEvent ℕ
e20 = Applies (LoadBegin 7 true) (Throttled) (counted w20.core n20)

abbrev pub w21 : World ℕ
w21 = after small w20 e20

pub may20 : MayHappen small SmallSplits IsSmall w20 e20
may20 = (tt, (lit< tt, tt, (n20, (refl, refl), refl)))

abbrev n21 : State ℕ
n21 = record w21.core { stats = accessed small w21.core (first_address).block }

abbrev pub e21 : WorldEvent ℕ
e21 = Applies (LoadBegin 7 false) (Read (record { hash = 7; address = first_address })) (counted w21.core n21)

abbrev pub w22 : World ℕ
w22 = after small w21 e21

pub may21 : MayHappen small SmallSplits IsSmall w21 e21
may21 = (tt, (lit< tt, tt, (n21, (refl, refl, refl, refl), refl)))

abbrev pub e22 : WorldEvent ℕ
e22 = ReadBegins 1

abbrev pub w23 : World ℕ
w23 = after small w22 e22

pub may22 : MayHappen small SmallSplits IsSmall w22 e22
may22 = tt

abbrev pub e23 : WorldEvent ℕ
e23 = ReadEnds 1 Fault

abbrev pub w24 : World ℕ
w24 = after small w23 e23

pub may23 : MayHappen small SmallSplits IsSmall w23 e23
may23 = tt

abbrev pub e24 : WorldEvent ℕ
e24 = Applies (LoadEnd (record { hash = 7; address = first_address }) Fault) (Refused Io (LoadEnd (record { hash = 7; address = first_address }) Fault)) w24.core

abbrev pub w25 : World ℕ
w25 = after small w24 e24

pub may24 : MayHappen small SmallSplits IsSmall w24 e24
may24 = ((1, load_at w24.loads 1, refl, refl, refl), (refl, (lit< tt, (lit< tt, tt)), refl))

abbrev n25 : State ℕ
n25 = w25.core

abbrev pub e25 : WorldEvent ℕ
e25 = Applies (MayContains 7) (Answer true) (counted w25.core n25)

abbrev pub w26 : World ℕ
w26 = after small w25 e25

pub may25 : MayHappen small SmallSplits IsSmall w25 e25
may25 = (tt, (lit< tt, tt, (n25, (refl, refl), refl)))

abbrev n26 : State ℕ
n26 = w26.core

abbrev pub e26 : WorldEvent ℕ
e26 = Applies (LoadBegin 9 false) (Miss) (counted w26.core n26)

abbrev pub w27 : World ℕ
w27 = after small w26 e26

pub may26 : MayHappen small SmallSplits IsSmall w26 e26
may26 = (tt, (lit< tt, tt, (n26, refl, refl)))

abbrev n27 : State ℕ
n27 = record (queued small w27.core 0 (Piece 8 2 10 0)) { next = 3 }

abbrev pub e27 : WorldEvent ℕ
e27 = Applies (Enqueue 8 10 Fresh 0) (Queued 2) (counted w27.core n27)

abbrev pub w28 : World ℕ
w28 = after small w27 e27

pub may27 : MayHappen small SmallSplits IsSmall w27 e27
may27 = ((omega arith, refl), (lit< tt, tt, (n27, (refl, refl, ((λ young. let e : Fresh ≡ Young = young in cc), (λ much. omega arith)), lit< tt, refl), refl)))

abbrev n28 : State ℕ
n28 = marked_at small w28.core 0 [] 8 2

abbrev pub e28 : WorldEvent ℕ
e28 = Applies (Receive 0) (Received (Some 0)) (counted w28.core n28)

abbrev pub w29 : World ℕ
w29 = after small w28 e28

pub may28 : MayHappen small SmallSplits IsSmall w28 e28
may28 = (tt, (lit< tt, lit< tt, (n28, (refl, (λ bytes is fits. let e : None ≡ Some bytes = is in cc), refl), refl)))

abbrev n29 : State ℕ
n29 = record (queued small w29.core 0 (Piece 9 3 10 6)) { next = 4 }

abbrev pub e29 : WorldEvent ℕ
e29 = Applies (Enqueue 9 10 Fresh 6) (Queued 3) (counted w29.core n29)

abbrev pub w30 : World ℕ
w30 = after small w29 e29

pub may29 : MayHappen small SmallSplits IsSmall w29 e29
may29 = ((omega arith, refl), (lit< tt, tt, (n29, (refl, refl, ((λ young. let e : Fresh ≡ Young = young in cc), (λ much. omega arith)), lit< tt, refl), refl)))

abbrev n30 : State ℕ
n30 = pushed_to small w30.core 0 [] (three 9 3 9 3 6 (Given 6))

abbrev pub e30 : WorldEvent ℕ
e30 = Applies (Receive 0) (Received None) (counted w30.core n30)

abbrev pub w31 : World ℕ
w31 = after small w30 e30

pub may30 : MayHappen small SmallSplits IsSmall w30 e30
may30 = (tt, (lit< tt, lit< tt, (n30, (9 ∷ 3 ∷ 6 ∷ [], refl, (omega arith, (omega arith, omega arith)), refl), refl)))

abbrev n31 : State ℕ
n31 = turned small w31.core 0 (record (w31.core.flushers 0) {
  buffer = [];
  marks = [];
  invalidated = [];
  waits = [];
  context = (one_spread 4099 (three 9 3 9 3 6 (Given 6))).end;
  batch = Some (record { blocks = one_spread 4099 (three 9 3 9 3 6 (Given 6)) ∷ []; continues_own_block = is_some (w31.core.flushers 0).own; writing = None; marks = (w31.core.flushers 0).marks; invalidated = (w31.core.flushers 0).invalidated; pieces = pieces_of (w31.core.flushers 0).buffer; waits = (w31.core.flushers 0).waits; logged = None });
})

abbrev pub e31 : WorldEvent ℕ
e31 = Applies (FlushBegin 0) (Began (one_spread 4099 (three 9 3 9 3 6 (Given 6)) ∷ []) ((8, 2) ∷ [])) (counted w31.core n31)

abbrev pub w32 : World ℕ
w32 = after small w31 e31

pub may31 : MayHappen small SmallSplits IsSmall w31 e31
may31 = (tt, (lit< tt, (lit< tt, refl, inl (λ e. cc)), (n31, (refl, inr (inr (9, 3, 9, 3, 6, Given 6, refl, refl, refl)), refl), refl)))

abbrev n32 : State ℕ
n32 = block_issued small w32.core 0 0 (batch_in (w32.core.flushers 0).batch) (one_spread 4099 (three 9 3 9 3 6 (Given 6))) []

abbrev pub e32 : WorldEvent ℕ
e32 = Applies (FlushBlock 0) (Written 0 (writes_in small (one_spread 4099 (three 9 3 9 3 6 (Given 6))).parts)) (counted w32.core n32)

abbrev pub w33 : World ℕ
w33 = after small w32 e32

pub may32 : MayHappen small SmallSplits IsSmall w32 e32
may32 = (tt, (lit< tt, (lit< tt, ((λ e. cc), refl)), (n32, (one_spread 4099 (three 9 3 9 3 6 (Given 6)), [], refl, refl, inl (refl, refl, refl)), refl)))

abbrev pub e33 : WorldEvent ℕ
e33 = WriteBegins 0

abbrev pub w34 : World ℕ
w34 = after small w33 e33

pub may33 : MayHappen small SmallSplits IsSmall w33 e33
may33 = tt

abbrev pub e34 : WorldEvent ℕ
e34 = WriteEnds 0 false (w34.bytes 0)

abbrev pub w35 : World ℕ
w35 = after small w34 e34

pub may34 : MayHappen small SmallSplits IsSmall w34 e34
may34 = (λ o beside. refl)

abbrev n35 : State ℕ
n35 = batch_failed small w35.core 0 (batch_in (w35.core.flushers 0).batch)

abbrev pub e35 : WorldEvent ℕ
e35 = Applies (FlushWrote 0 false) (Failed) (counted w35.core n35)

abbrev pub w36 : World ℕ
w36 = after small w35 e35

pub may35 : MayHappen small SmallSplits IsSmall w35 e35
may35 = (refl, (lit< tt, (lit< tt, (writing_at (batch_in (w35.core.flushers 0).batch).writing, refl)), (n35, (writing_at (batch_in (w35.core.flushers 0).batch).writing, (record { role = Data; offset = 4099; bytes = 9 ∷ 3 ∷ 6 ∷ [] }), (record { role = Index; offset = 0; bytes = [] }) ∷ [], refl, refl, (λ e. absurd (let f : false ≡ true = e in cc)), refl), refl)))

abbrev n36 : State ℕ
n36 = turned small w36.core 0 (record (w36.core.flushers 0) { batch = Some (record (batch_in (w36.core.flushers 0).batch) { logged = Some true }) })

abbrev pub e36 : WorldEvent ℕ
e36 = Applies (LogWrote 0 true) (Done) (counted w36.core n36)

abbrev pub w37 : World ℕ
w37 = after small w36 e36

pub may36 : MayHappen small SmallSplits IsSmall w36 e36
may36 = (tt, (lit< tt, (lit< tt, refl, refl), (n36, refl, refl)))

abbrev n37 : State ℕ
n37 = record (turned small w37.core 0 (record (w37.core.flushers 0) { batch = None })) { index = unmarked (batch_in (w37.core.flushers 0).batch).marks w37.core.index; stats = invalidated_unless w37.core.place w37.core.filling (batch_in (w37.core.flushers 0).batch).logged (batch_in (w37.core.flushers 0).batch).invalidated w37.core.stats }

abbrev pub e37 : WorldEvent ℕ
e37 = Applies (FlushEnd 0) (Ended ((3, 6) ∷ []) []) (counted w37.core n37)

abbrev pub w38 : World ℕ
w38 = after small w37 e37

pub may37 : MayHappen small SmallSplits IsSmall w37 e37
may37 = (tt, (lit< tt, (lit< tt, (refl, refl, inr (true, refl))), (n37, (refl, refl, refl), refl)))
