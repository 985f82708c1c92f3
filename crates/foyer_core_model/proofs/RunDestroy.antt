-- The reinserted record, a delete, a destroy, and a close.
use Rattle.std.proofs.Common.{◌≡◌, ℕ, zero, suc, ◌+◌, ◌<◌, ◌==◌, true, false, [], ◌∷◌, ◌++◌, slice_index, Some, None, inl, inr, refl, arith, lit<}
use Rattle.std.proofs.lemmas.Bool.{ne_eqb}
use Rattle.foyer_core_model.specs.Numbers.{put}
use Rattle.foyer_core_model.specs.Record.{Mark}
use Rattle.foyer_core_model.specs.State.{Piece, Remove, no_stats, NoDestroy, Begun, Cleaning, State}
use Rattle.foyer_core_model.specs.Step.{Bytes, Fresh, Young, Enqueue, Delete, LoadBegin, LoadEnd, Receive, FlushBegin, FlushBlock, LogWrote, FlushEnd, ReclaimIdle, DestroyBegin, DestroyClear, DestroyCleaned, Close}
use Rattle.foyer_core_model.specs.Reply.{Io, Closed, Refused, Queued, Dropped, Deleted, Done, Answer, Miss, Read, Entry, Received, Began, Written, Ended, Destroying, Cleared, Destroyed}
use Rattle.foyer_core_model.specs.Index.{unmarked}
use Rattle.foyer_core_model.specs.Layout.{writes_in}
use Rattle.foyer_core_model.specs.Queue.{queued}
use Rattle.foyer_core_model.specs.Load.{accessed}
use Rattle.foyer_core_model.specs.Receive.{pieces_of, turned}
use Rattle.foyer_core_model.specs.Flush.{is_some, invalidated_unless, block_issued}
use Rattle.foyer_core_model.specs.Destroy.{vacated, IsIdle, refilled}
use Rattle.foyer_core_model.specs.World.{World, WorldEvent, Applies, ReadBegins, ReadEnds, CleanBegins, CleanEnds, after, MayHappen}
use Rattle.foyer_core_model.specs.SmallCore.{small, IsSmall, filled_to, no_spread, SmallSplits}
use Rattle.foyer_core_model.proofs.SmallRun.{empty, batch_in, load_at, counted, again_address}
use Rattle.foyer_core_model.proofs.RunReclaim.{w82}

abbrev n82 : State ℕ
n82 = record w82.core { stats = accessed small w82.core (again_address).block }

abbrev pub e82 : WorldEvent ℕ
e82 = Applies (LoadBegin 7 false) (Read (record { hash = 7; address = again_address })) (counted w82.core n82)

abbrev pub w83 : World ℕ
w83 = after small w82 e82

pub may82 : MayHappen small SmallSplits IsSmall w82 e82
may82 = (tt, (lit< tt, tt, (n82, (refl, refl, refl, refl), refl)))

abbrev pub e83 : WorldEvent ℕ
e83 = ReadBegins 2

abbrev pub w84 : World ℕ
w84 = after small w83 e83

pub may83 : MayHappen small SmallSplits IsSmall w83 e83
may83 = tt

here84 : (i : ℕ) → i < 3 → slice_index (7 ∷ 1 ∷ 5 ∷ []) i ≡ w84.bytes 0 (4096 + i)
here84 zero lt = refl
here84 (suc zero) lt = refl
here84 (suc (suc zero)) lt = refl
here84 (suc (suc (suc i))) lt = absurd (omega arith)

abbrev pub e84 : WorldEvent ℕ
e84 = ReadEnds 2 (Bytes (7 ∷ 1 ∷ 5 ∷ []))

abbrev pub w85 : World ℕ
w85 = after small w84 e84

pub may84 : MayHappen small SmallSplits IsSmall w84 e84
may84 = (refl, λ i lt clear. here84 i lt)

abbrev n85 : State ℕ
n85 = w85.core

abbrev pub e85 : WorldEvent ℕ
e85 = Applies (LoadEnd (record { hash = 7; address = again_address }) (Bytes (7 ∷ 1 ∷ 5 ∷ []))) (Entry 5 Young) (counted w85.core n85)

abbrev pub w86 : World ℕ
w86 = after small w85 e85

pub may85 : MayHappen small SmallSplits IsSmall w85 e85
may85 = ((2, load_at w85.loads 2, refl, refl, refl), (lit< tt, (lit< tt, refl), (n85, (refl, refl, refl), refl)))

abbrev n86 : State ℕ
n86 = record (queued small w86.core 0 (Remove 7 5 (record { block = 0; filling = 2; bytes = 3 } ∷ []))) { next = 6; index = put w86.core.index 7 (Some (Mark 5)) }

abbrev pub e86 : WorldEvent ℕ
e86 = Applies (Delete 7) (Deleted 5) (counted w86.core n86)

abbrev pub w87 : World ℕ
w87 = after small w86 e86

pub may86 : MayHappen small SmallSplits IsSmall w86 e86
may86 = (omega arith, (lit< tt, tt, (n86, (refl, refl, lit< tt, refl), refl)))

abbrev n87 : State ℕ
n87 = w87.core

abbrev pub e87 : WorldEvent ℕ
e87 = Applies (LoadBegin 7 false) (Miss) (counted w87.core n87)

abbrev pub w88 : World ℕ
w88 = after small w87 e87

pub may87 : MayHappen small SmallSplits IsSmall w87 e87
may87 = (tt, (lit< tt, tt, (n87, refl, refl)))

abbrev n88 : State ℕ
n88 = turned small w88.core 0 (record (w88.core.flushers 0) { queue = []; marks = (w88.core.flushers 0).marks ++ (7, 5) ∷ []; invalidated = (w88.core.flushers 0).invalidated ++ record { block = 0; filling = 2; bytes = 3 } ∷ [] })

abbrev pub e88 : WorldEvent ℕ
e88 = Applies (Receive 0) (Received None) (counted w88.core n88)

abbrev pub w89 : World ℕ
w89 = after small w88 e88

pub may88 : MayHappen small SmallSplits IsSmall w88 e88
may88 = (tt, (lit< tt, lit< tt, (n88, refl, refl)))

abbrev n89 : State ℕ
n89 = turned small w89.core 0 (record (w89.core.flushers 0) {
  buffer = [];
  marks = [];
  invalidated = [];
  waits = [];
  context = (no_spread (filled_to 4099)).end;
  batch = Some (record { blocks = no_spread (filled_to 4099) ∷ []; continues_own_block = is_some (w89.core.flushers 0).own; writing = None; marks = (w89.core.flushers 0).marks; invalidated = (w89.core.flushers 0).invalidated; pieces = pieces_of (w89.core.flushers 0).buffer; waits = (w89.core.flushers 0).waits; logged = None });
})

abbrev pub e89 : WorldEvent ℕ
e89 = Applies (FlushBegin 0) (Began (no_spread (filled_to 4099) ∷ []) ((7, 5) ∷ [])) (counted w89.core n89)

abbrev pub w90 : World ℕ
w90 = after small w89 e89

pub may89 : MayHappen small SmallSplits IsSmall w89 e89
may89 = (tt, (lit< tt, (lit< tt, refl, inr (inl (λ e. cc))), (n89, (refl, inl refl, refl), refl)))

abbrev n90 : State ℕ
n90 = block_issued small w90.core 0 0 (batch_in (w90.core.flushers 0).batch) (no_spread (filled_to 4099)) []

abbrev pub e90 : WorldEvent ℕ
e90 = Applies (FlushBlock 0) (Written 0 (writes_in small (no_spread (filled_to 4099)).parts)) (counted w90.core n90)

abbrev pub w91 : World ℕ
w91 = after small w90 e90

pub may90 : MayHappen small SmallSplits IsSmall w90 e90
may90 = (tt, (lit< tt, (lit< tt, ((λ e. cc), refl)), (n90, (no_spread (filled_to 4099), [], refl, refl, inl (refl, refl, refl)), refl)))

abbrev n91 : State ℕ
n91 = turned small w91.core 0 (record (w91.core.flushers 0) { batch = Some (record (batch_in (w91.core.flushers 0).batch) { logged = Some true }) })

abbrev pub e91 : WorldEvent ℕ
e91 = Applies (LogWrote 0 true) (Done) (counted w91.core n91)

abbrev pub w92 : World ℕ
w92 = after small w91 e91

pub may91 : MayHappen small SmallSplits IsSmall w91 e91
may91 = (tt, (lit< tt, (lit< tt, refl, refl), (n91, refl, refl)))

abbrev n92 : State ℕ
n92 = record (turned small w92.core 0 (record (w92.core.flushers 0) { batch = None })) { index = unmarked (batch_in (w92.core.flushers 0).batch).marks w92.core.index; stats = invalidated_unless w92.core.place w92.core.filling (batch_in (w92.core.flushers 0).batch).logged (batch_in (w92.core.flushers 0).batch).invalidated w92.core.stats }

abbrev pub e92 : WorldEvent ℕ
e92 = Applies (FlushEnd 0) (Ended [] []) (counted w92.core n92)

abbrev pub w93 : World ℕ
w93 = after small w92 e92

pub may92 : MayHappen small SmallSplits IsSmall w92 e92
may92 = (tt, (lit< tt, (lit< tt, (refl, refl, inr (true, refl))), (n92, (refl, refl, refl), refl)))

abbrev n93 : State ℕ
n93 = record (queued small w93.core 0 (Remove 0 6 [])) { next = 7; destroy = Begun }

abbrev pub e93 : WorldEvent ℕ
e93 = Applies (DestroyBegin) (Destroying 6) (counted w93.core n93)

abbrev pub w94 : World ℕ
w94 = after small w93 e93

pub may93 : MayHappen small SmallSplits IsSmall w93 e93
may93 = (tt, (lit< tt, refl, (n93, (refl, refl, lit< tt, refl), refl)))

abbrev n94 : State ℕ
n94 = turned small w94.core 0 (record (w94.core.flushers 0) { queue = []; marks = (w94.core.flushers 0).marks ++ (0, 6) ∷ []; invalidated = (w94.core.flushers 0).invalidated ++ [] })

abbrev pub e94 : WorldEvent ℕ
e94 = Applies (Receive 0) (Received None) (counted w94.core n94)

abbrev pub w95 : World ℕ
w95 = after small w94 e94

pub may94 : MayHappen small SmallSplits IsSmall w94 e94
may94 = (tt, (lit< tt, lit< tt, (n94, refl, refl)))

abbrev n95 : State ℕ
n95 = turned small w95.core 0 (record (w95.core.flushers 0) {
  buffer = [];
  marks = [];
  invalidated = [];
  waits = [];
  context = (no_spread (filled_to 4099)).end;
  batch = Some (record { blocks = no_spread (filled_to 4099) ∷ []; continues_own_block = is_some (w95.core.flushers 0).own; writing = None; marks = (w95.core.flushers 0).marks; invalidated = (w95.core.flushers 0).invalidated; pieces = pieces_of (w95.core.flushers 0).buffer; waits = (w95.core.flushers 0).waits; logged = None });
})

abbrev pub e95 : WorldEvent ℕ
e95 = Applies (FlushBegin 0) (Began (no_spread (filled_to 4099) ∷ []) ((0, 6) ∷ [])) (counted w95.core n95)

abbrev pub w96 : World ℕ
w96 = after small w95 e95

pub may95 : MayHappen small SmallSplits IsSmall w95 e95
may95 = (tt, (lit< tt, (lit< tt, refl, inr (inl (λ e. cc))), (n95, (refl, inl refl, refl), refl)))

abbrev n96 : State ℕ
n96 = block_issued small w96.core 0 0 (batch_in (w96.core.flushers 0).batch) (no_spread (filled_to 4099)) []

abbrev pub e96 : WorldEvent ℕ
e96 = Applies (FlushBlock 0) (Written 0 (writes_in small (no_spread (filled_to 4099)).parts)) (counted w96.core n96)

abbrev pub w97 : World ℕ
w97 = after small w96 e96

pub may96 : MayHappen small SmallSplits IsSmall w96 e96
may96 = (tt, (lit< tt, (lit< tt, ((λ e. cc), refl)), (n96, (no_spread (filled_to 4099), [], refl, refl, inl (refl, refl, refl)), refl)))

abbrev n97 : State ℕ
n97 = turned small w97.core 0 (record (w97.core.flushers 0) { batch = Some (record (batch_in (w97.core.flushers 0).batch) { logged = Some true }) })

abbrev pub e97 : WorldEvent ℕ
e97 = Applies (LogWrote 0 true) (Done) (counted w97.core n97)

abbrev pub w98 : World ℕ
w98 = after small w97 e97

pub may97 : MayHappen small SmallSplits IsSmall w97 e97
may97 = (tt, (lit< tt, (lit< tt, refl, refl), (n97, refl, refl)))

abbrev n98 : State ℕ
n98 = record (turned small w98.core 0 (record (w98.core.flushers 0) { batch = None })) { index = unmarked (batch_in (w98.core.flushers 0).batch).marks w98.core.index; stats = invalidated_unless w98.core.place w98.core.filling (batch_in (w98.core.flushers 0).batch).logged (batch_in (w98.core.flushers 0).batch).invalidated w98.core.stats }

abbrev pub e98 : WorldEvent ℕ
e98 = Applies (FlushEnd 0) (Ended [] []) (counted w98.core n98)

abbrev pub w99 : World ℕ
w99 = after small w98 e98

pub may98 : MayHappen small SmallSplits IsSmall w98 e98
may98 = (tt, (lit< tt, (lit< tt, (refl, refl, inr (true, refl))), (n98, (refl, refl, refl), refl)))

all_idle : (f : ℕ) → IsIdle (w99.core.flushers f)
all_idle zero = (refl, refl, refl, refl, refl)
all_idle (suc f) =
    let e : (suc f == 0) ≡ false = ne_eqb (suc f) 0 (λ is. omega arith) in
    (rw e (refl {a = []}), rw e (refl {a = []}), rw e (refl {a = []}), rw e (refl {a = []}), rw e (refl {a = None}))

none_reclaimed : (b : ℕ) → w99.core.reclaims b ≡ None
none_reclaimed zero = refl
none_reclaimed (suc b) = let e : (suc b == 0) ≡ false = ne_eqb (suc b) 0 (λ is. omega arith) in rw e refl

abbrev n99 : State ℕ
n99 = record w99.core { index = λ h. None; filling = refilled 2 w99.core.filling; place = λ b. vacated (w99.core.place b); flushers = λ f. record (w99.core.flushers f) { own = None; ready = None; context = empty }; destroy = Cleaning (0 ∷ 1 ∷ []) None }

abbrev pub e99 : WorldEvent ℕ
e99 = Applies (DestroyClear) (Cleared (0 ∷ 1 ∷ [])) (counted w99.core n99)

abbrev pub w100 : World ℕ
w100 = after small w99 e99

pub may99 : MayHappen small SmallSplits IsSmall w99 e99
may99 = (tt, (lit< tt, (refl, all_idle, none_reclaimed), (n99, (refl, refl), refl)))

abbrev pub e100 : WorldEvent ℕ
e100 = CleanBegins 0

abbrev pub w101 : World ℕ
w101 = after small w100 e100

pub may100 : MayHappen small SmallSplits IsSmall w100 e100
may100 = tt

abbrev pub e101 : WorldEvent ℕ
e101 = CleanEnds 0 true (w101.bytes 0)

abbrev pub w102 : World ℕ
w102 = after small w101 e101

pub may101 : MayHappen small SmallSplits IsSmall w101 e101
may101 = (λ o past. refl)

abbrev n102 : State ℕ
n102 = record w102.core { destroy = Cleaning (1 ∷ []) None; stats = put w102.core.stats 0 no_stats }

abbrev pub e102 : WorldEvent ℕ
e102 = Applies (DestroyCleaned 0 None) (Done) (counted w102.core n102)

abbrev pub w103 : World ℕ
w103 = after small w102 e102

pub may102 : MayHappen small SmallSplits IsSmall w102 e102
may102 = (refl, (lit< tt, (lit< tt, refl), (n102, (refl, refl), refl)))

abbrev pub e103 : WorldEvent ℕ
e103 = CleanBegins 1

abbrev pub w104 : World ℕ
w104 = after small w103 e103

pub may103 : MayHappen small SmallSplits IsSmall w103 e103
may103 = tt

abbrev pub e104 : WorldEvent ℕ
e104 = CleanEnds 1 false (w104.bytes 1)

abbrev pub w105 : World ℕ
w105 = after small w104 e104

pub may104 : MayHappen small SmallSplits IsSmall w104 e104
may104 = (λ o past. refl)

abbrev n105 : State ℕ
n105 = record w105.core { destroy = NoDestroy; stats = put w105.core.stats 1 no_stats }

abbrev pub e105 : WorldEvent ℕ
e105 = Applies (DestroyCleaned 1 (Some Io)) (Destroyed (Some Io)) (counted w105.core n105)

abbrev pub w106 : World ℕ
w106 = after small w105 e105

pub may105 : MayHappen small SmallSplits IsSmall w105 e105
may105 = (refl, (lit< tt, (lit< tt, refl), (n105, (refl, refl), refl)))

abbrev n106 : State ℕ
n106 = w106.core

abbrev pub e106 : WorldEvent ℕ
e106 = Applies (ReclaimIdle) (Answer true) (counted w106.core n106)

abbrev pub w107 : World ℕ
w107 = after small w106 e106

pub may106 : MayHappen small SmallSplits IsSmall w106 e106
may106 = (tt, (lit< tt, tt, (n106, (refl, refl), refl)))

-- a piece more than may be queued is dropped
abbrev n107 : State ℕ
n107 = record (queued small w107.core 0 (Piece 7 7 101 5)) { next = 8 }

abbrev pub e107 : WorldEvent ℕ
e107 = Applies (Enqueue 7 101 Fresh 5) (Queued 7) (counted w107.core n107)

abbrev pub w108 : World ℕ
w108 = after small w107 e107

pub may107 : MayHappen small SmallSplits IsSmall w107 e107
may107 = ((omega arith, refl), (lit< tt, tt, (n107, (refl, refl, ((λ young. let e : Fresh ≡ Young = young in cc), (λ much. omega arith)), lit< tt, refl), refl)))

abbrev n108 : State ℕ
n108 = record (queued small w108.core 0 (Remove 7 8 [])) { next = 9; index = put w108.core.index 7 (Some (Mark 8)) }

abbrev pub e108 : WorldEvent ℕ
e108 = Applies (Enqueue 7 10 Fresh 6) (Dropped 6 8) (counted w108.core n108)

abbrev pub w109 : World ℕ
w109 = after small w108 e108

pub may108 : MayHappen small SmallSplits IsSmall w108 e108
may108 = ((omega arith, refl), (lit< tt, tt, (n108, (refl, (λ young. let e : Fresh ≡ Young = young in cc), lit< tt, (refl, refl, lit< tt, refl)), refl)))

abbrev n109 : State ℕ
n109 = record w109.core { closed = true }

abbrev pub e109 : WorldEvent ℕ
e109 = Applies (Close) (Done) (counted w109.core n109)

abbrev pub w110 : World ℕ
w110 = after small w109 e109

pub may109 : MayHappen small SmallSplits IsSmall w109 e109
may109 = (tt, (lit< tt, tt, (n109, (refl, refl), refl)))

abbrev pub e110 : WorldEvent ℕ
e110 = Applies (Delete 1) (Refused Closed (Delete 1)) w110.core

abbrev pub w111 : World ℕ
w111 = after small w110 e110

pub may110 : MayHappen small SmallSplits IsSmall w110 e110
may110 = (omega arith, (refl, (lit< tt, (tt, refl)), refl))
