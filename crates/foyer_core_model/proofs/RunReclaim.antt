-- A reclaim with a reinsertion, and its block handed to the flusher that waited.
use Rattle.std.proofs.Common.{◌≡◌, ℕ, zero, suc, ◌+◌, ◌<◌, true, [], ◌∷◌, slice_index, Some, None, inl, inr, refl, arith, lit<}
use Rattle.foyer_core_model.specs.Numbers.{put}
use Rattle.foyer_core_model.specs.Record.{Reread}
use Rattle.foyer_format_layout.specs.BlockBytes.{Data, Index}
use Rattle.foyer_core_model.specs.State.{Reinsert, Writes, Reclaims, AtIndex, AtRecord, AllListed, ToClean, State}
use Rattle.foyer_core_model.specs.Step.{Bytes, Receive, FlushBegin, FlushBlock, FlushWrote, LogWrote, FlushEnd, ReclaimBegin, ReclaimRead, ReclaimForget, ReclaimCleaned}
use Rattle.foyer_core_model.specs.Reply.{Done, Received, Began, Written, Next, Committed, Ended, Picked, Scans, Listed, Cleans}
use Rattle.foyer_core_model.specs.Index.{forgotten, unmarked}
use Rattle.foyer_core_model.specs.Layout.{writes_in}
use Rattle.foyer_core_model.specs.Queue.{queued}
use Rattle.foyer_core_model.specs.Receive.{pieces_of, turned, pushed_to}
use Rattle.foyer_core_model.specs.Flush.{is_some, invalidated_unless, block_issued, write_done, block_done}
use Rattle.foyer_core_model.specs.Reclaim.{marked, reclaiming, reclaimed}
use Rattle.foyer_core_model.specs.World.{World, WorldEvent, Applies, ScanBegins, ScanEnds, WriteBegins, WriteEnds, CleanBegins, CleanEnds, after, MayHappen}
use Rattle.foyer_core_model.specs.SmallCore.{small, IsSmall, three, one_spread, no_spread, SmallSplits}
use Rattle.foyer_core_model.proofs.SmallRun.{empty, first_address, batch_in, writing_at, scan_at, counted, index_bytes, index_length, index_here}
use Rattle.foyer_core_model.proofs.RunWaits.{w57}

abbrev n57 : State ℕ
n57 = record w57.core { place = put w57.core.place 0 Reclaims; reclaims = put w57.core.reclaims 0 (Some (record { stage = AtIndex 0; listed = []; requeued = [] })); stats = marked (0 ∷ []) w57.core.place w57.core.stats }

abbrev pub e57 : WorldEvent ℕ
e57 = Applies (ReclaimBegin) (Picked 0 (None ∷ []) (0 ∷ [])) (counted w57.core n57)

abbrev pub w58 : World ℕ
w58 = after small w57 e57

pub may57 : MayHappen small SmallSplits IsSmall w57 e57
may57 = (tt, (lit< tt, record { wanted = inl (lit< tt); free = lit< tt; some_block = (0, lit< tt, refl); quiet = refl }, (n57, (lit< tt, refl, refl, (λ d is. absurd (let e : None ≡ Some d = is in cc)), refl), refl)))

abbrev pub e58 : WorldEvent ℕ
e58 = ScanBegins 0

abbrev pub w59 : World ℕ
w59 = after small w58 e58

pub may58 : MayHappen small SmallSplits IsSmall w58 e58
may58 = tt

abbrev pub e59 : WorldEvent ℕ
e59 = ScanEnds 0 (Bytes index_bytes)

abbrev pub w60 : World ℕ
w60 = after small w59 e59

pub may59 : MayHappen small SmallSplits IsSmall w59 e59
may59 = (index_length, λ i lt clear. index_here i lt)

abbrev n60 : State ℕ
n60 = reclaiming small w60.core 0 (record { stage = AtRecord 7 first_address [] 4099; listed = (7, first_address) ∷ []; requeued = [] })

abbrev pub e60 : WorldEvent ℕ
e60 = Applies (ReclaimRead 0 (Bytes index_bytes)) (Scans 0 4096 3 (true ∷ [])) (counted w60.core n60)

abbrev pub w61 : World ℕ
w61 = after small w60 e60

pub may60 : MayHappen small SmallSplits IsSmall w60 e60
may60 = ((scan_at w60.scans 0, refl, refl), (lit< tt, (lit< tt, index_length), (n60, (true ∷ [], refl, refl, refl), refl)))

abbrev pub e61 : WorldEvent ℕ
e61 = ScanBegins 0

abbrev pub w62 : World ℕ
w62 = after small w61 e61

pub may61 : MayHappen small SmallSplits IsSmall w61 e61
may61 = tt

here62 : (i : ℕ) → i < 3 → slice_index (7 ∷ 1 ∷ 5 ∷ []) i ≡ w62.bytes 0 (4096 + i)
here62 zero lt = refl
here62 (suc zero) lt = refl
here62 (suc (suc zero)) lt = refl
here62 (suc (suc (suc i))) lt = absurd (omega arith)

abbrev pub e62 : WorldEvent ℕ
e62 = ScanEnds 0 (Bytes (7 ∷ 1 ∷ 5 ∷ []))

abbrev pub w63 : World ℕ
w63 = after small w62 e62

pub may62 : MayHappen small SmallSplits IsSmall w62 e62
may62 = (refl, λ i lt clear. here62 i lt)

abbrev n63 : State ℕ
n63 = record (queued small w63.core 0 (Reinsert 7 (7 ∷ 1 ∷ 5 ∷ []) first_address)) { reclaims = put w63.core.reclaims 0 (Some (record { stage = AllListed; listed = (7, first_address) ∷ []; requeued = (7, first_address) ∷ [] })) }

abbrev pub e63 : WorldEvent ℕ
e63 = Applies (ReclaimRead 0 (Bytes (7 ∷ 1 ∷ 5 ∷ []))) (Listed []) (counted w63.core n63)

abbrev pub w64 : World ℕ
w64 = after small w63 e63

pub may63 : MayHappen small SmallSplits IsSmall w63 e63
may63 = ((scan_at w63.scans 0, refl, refl), (lit< tt, (lit< tt, refl), (n63, (refl, refl), refl)))

abbrev n64 : State ℕ
n64 = record w64.core { index = forgotten [] w64.core.index; reclaims = put w64.core.reclaims 0 (Some (record { stage = ToClean; listed = (7, first_address) ∷ []; requeued = (7, first_address) ∷ [] })) }

abbrev pub e64 : WorldEvent ℕ
e64 = Applies (ReclaimForget 0) (Cleans 0) (counted w64.core n64)

abbrev pub w65 : World ℕ
w65 = after small w64 e64

pub may64 : MayHappen small SmallSplits IsSmall w64 e64
may64 = (tt, (lit< tt, (lit< tt, refl), (n64, (refl, refl), refl)))

abbrev pub e65 : WorldEvent ℕ
e65 = CleanBegins 0

abbrev pub w66 : World ℕ
w66 = after small w65 e65

pub may65 : MayHappen small SmallSplits IsSmall w65 e65
may65 = tt

abbrev pub e66 : WorldEvent ℕ
e66 = CleanEnds 0 true (w66.bytes 0)

abbrev pub w67 : World ℕ
w67 = after small w66 e66

pub may66 : MayHappen small SmallSplits IsSmall w66 e66
may66 = (λ o past. refl)

abbrev n67 : State ℕ
n67 = record (reclaimed small w67.core 0) { waiting = []; place = put w67.core.place 0 (Writes 0); filling = put w67.core.filling 0 (w67.core.filling 0 + 1); flushers = put w67.core.flushers 0 (record (w67.core.flushers 0) { ready = Some 0 }) }

abbrev pub e67 : WorldEvent ℕ
e67 = Applies (ReclaimCleaned 0 true) (Done) (counted w67.core n67)

abbrev pub w68 : World ℕ
w68 = after small w67 e67

pub may67 : MayHappen small SmallSplits IsSmall w67 e67
may67 = (refl, (lit< tt, (lit< tt, refl), (n67, inl (0, [], refl, lit< tt, refl), refl)))

abbrev n68 : State ℕ
n68 = block_issued small w68.core 0 0 (batch_in (w68.core.flushers 0).batch) (no_spread empty) []

abbrev pub e68 : WorldEvent ℕ
e68 = Applies (FlushBlock 0) (Written 0 (writes_in small (no_spread empty).parts)) (counted w68.core n68)

abbrev pub w69 : World ℕ
w69 = after small w68 e68

pub may68 : MayHappen small SmallSplits IsSmall w68 e68
may68 = (tt, (lit< tt, (lit< tt, ((λ e. cc), refl)), (n68, (no_spread empty, [], refl, refl, inr (inl (refl, refl, refl))), refl)))

abbrev n69 : State ℕ
n69 = turned small w69.core 0 (record (w69.core.flushers 0) { batch = Some (record (batch_in (w69.core.flushers 0).batch) { logged = Some true }) })

abbrev pub e69 : WorldEvent ℕ
e69 = Applies (LogWrote 0 true) (Done) (counted w69.core n69)

abbrev pub w70 : World ℕ
w70 = after small w69 e69

pub may69 : MayHappen small SmallSplits IsSmall w69 e69
may69 = (tt, (lit< tt, (lit< tt, refl, refl), (n69, refl, refl)))

abbrev n70 : State ℕ
n70 = record (turned small w70.core 0 (record (w70.core.flushers 0) { batch = None })) { index = unmarked (batch_in (w70.core.flushers 0).batch).marks w70.core.index; stats = invalidated_unless w70.core.place w70.core.filling (batch_in (w70.core.flushers 0).batch).logged (batch_in (w70.core.flushers 0).batch).invalidated w70.core.stats }

abbrev pub e70 : WorldEvent ℕ
e70 = Applies (FlushEnd 0) (Ended [] (2 ∷ [])) (counted w70.core n70)

abbrev pub w71 : World ℕ
w71 = after small w70 e70

pub may70 : MayHappen small SmallSplits IsSmall w70 e70
may70 = (tt, (lit< tt, (lit< tt, (refl, refl, inr (true, refl))), (n70, (refl, refl, refl), refl)))

abbrev n71 : State ℕ
n71 = pushed_to small w71.core 0 [] (three 7 1 7 1 5 (Reread first_address))

abbrev pub e71 : WorldEvent ℕ
e71 = Applies (Receive 0) (Received None) (counted w71.core n71)

abbrev pub w72 : World ℕ
w72 = after small w71 e71

pub may71 : MayHappen small SmallSplits IsSmall w71 e71
may71 = (tt, (lit< tt, lit< tt, (n71, inl (refl, (omega arith, (omega arith, omega arith)), refl), refl)))

abbrev n72 : State ℕ
n72 = turned small w72.core 0 (record (w72.core.flushers 0) {
  buffer = [];
  marks = [];
  invalidated = [];
  waits = [];
  context = (one_spread 4096 (three 7 1 7 1 5 (Reread first_address))).end;
  batch = Some (record { blocks = one_spread 4096 (three 7 1 7 1 5 (Reread first_address)) ∷ []; continues_own_block = is_some (w72.core.flushers 0).own; writing = None; marks = (w72.core.flushers 0).marks; invalidated = (w72.core.flushers 0).invalidated; pieces = pieces_of (w72.core.flushers 0).buffer; waits = (w72.core.flushers 0).waits; logged = None });
})

abbrev pub e72 : WorldEvent ℕ
e72 = Applies (FlushBegin 0) (Began (one_spread 4096 (three 7 1 7 1 5 (Reread first_address)) ∷ []) []) (counted w72.core n72)

abbrev pub w73 : World ℕ
w73 = after small w72 e72

pub may72 : MayHappen small SmallSplits IsSmall w72 e72
may72 = (tt, (lit< tt, (lit< tt, refl, inl (λ e. cc)), (n72, (refl, inr (inl (7, 1, 7, 1, 5, Reread first_address, refl, refl, refl)), refl), refl)))

abbrev n73 : State ℕ
n73 = block_issued small w73.core 0 0 (batch_in (w73.core.flushers 0).batch) (one_spread 4096 (three 7 1 7 1 5 (Reread first_address))) []

abbrev pub e73 : WorldEvent ℕ
e73 = Applies (FlushBlock 0) (Written 0 (writes_in small (one_spread 4096 (three 7 1 7 1 5 (Reread first_address))).parts)) (counted w73.core n73)

abbrev pub w74 : World ℕ
w74 = after small w73 e73

pub may73 : MayHappen small SmallSplits IsSmall w73 e73
may73 = (tt, (lit< tt, (lit< tt, ((λ e. cc), refl)), (n73, (one_spread 4096 (three 7 1 7 1 5 (Reread first_address)), [], refl, refl, inl (refl, refl, refl)), refl)))

abbrev pub e74 : WorldEvent ℕ
e74 = WriteBegins 0

abbrev pub w75 : World ℕ
w75 = after small w74 e74

pub may74 : MayHappen small SmallSplits IsSmall w74 e74
may74 = tt

abbrev pub e75 : WorldEvent ℕ
e75 = WriteEnds 0 true (w75.bytes 0)

abbrev pub w76 : World ℕ
w76 = after small w75 e75

pub may75 : MayHappen small SmallSplits IsSmall w75 e75
may75 = (λ o beside. refl)

abbrev pub e76 : WorldEvent ℕ
e76 = WriteBegins 0

abbrev pub w77 : World ℕ
w77 = after small w76 e76

pub may76 : MayHappen small SmallSplits IsSmall w76 e76
may76 = tt

abbrev pub e77 : WorldEvent ℕ
e77 = WriteEnds 0 true (w77.bytes 0)

abbrev pub w78 : World ℕ
w78 = after small w77 e77

pub may77 : MayHappen small SmallSplits IsSmall w77 e77
may77 = (λ o beside. refl)

abbrev n78 : State ℕ
n78 = write_done small w78.core 0 (batch_in (w78.core.flushers 0).batch) (writing_at (batch_in (w78.core.flushers 0).batch).writing) ((record { role = Index; offset = 0; bytes = [] }) ∷ [])

abbrev pub e78 : WorldEvent ℕ
e78 = Applies (FlushWrote 0 true) (Next) (counted w78.core n78)

abbrev pub w79 : World ℕ
w79 = after small w78 e78

pub may78 : MayHappen small SmallSplits IsSmall w78 e78
may78 = (refl, (lit< tt, (lit< tt, (writing_at (batch_in (w78.core.flushers 0).batch).writing, refl)), (n78, (writing_at (batch_in (w78.core.flushers 0).batch).writing, (record { role = Data; offset = 4096; bytes = 7 ∷ 1 ∷ 5 ∷ [] }), (record { role = Index; offset = 0; bytes = [] }), [], refl, refl, refl), refl)))

abbrev n79 : State ℕ
n79 = block_done small w79.core 0 (batch_in (w79.core.flushers 0).batch) (writing_at (batch_in (w79.core.flushers 0).batch).writing)

abbrev pub e79 : WorldEvent ℕ
e79 = Applies (FlushWrote 0 true) (Committed 1) (counted w79.core n79)

abbrev pub w80 : World ℕ
w80 = after small w79 e79

pub may79 : MayHappen small SmallSplits IsSmall w79 e79
may79 = (refl, (lit< tt, (lit< tt, (writing_at (batch_in (w79.core.flushers 0).batch).writing, refl)), (n79, (writing_at (batch_in (w79.core.flushers 0).batch).writing, (record { role = Index; offset = 0; bytes = [] }), refl, refl, refl, refl), refl)))

abbrev n80 : State ℕ
n80 = turned small w80.core 0 (record (w80.core.flushers 0) { batch = Some (record (batch_in (w80.core.flushers 0).batch) { logged = Some true }) })

abbrev pub e80 : WorldEvent ℕ
e80 = Applies (LogWrote 0 true) (Done) (counted w80.core n80)

abbrev pub w81 : World ℕ
w81 = after small w80 e80

pub may80 : MayHappen small SmallSplits IsSmall w80 e80
may80 = (tt, (lit< tt, (lit< tt, refl, refl), (n80, refl, refl)))

abbrev n81 : State ℕ
n81 = record (turned small w81.core 0 (record (w81.core.flushers 0) { batch = None })) { index = unmarked (batch_in (w81.core.flushers 0).batch).marks w81.core.index; stats = invalidated_unless w81.core.place w81.core.filling (batch_in (w81.core.flushers 0).batch).logged (batch_in (w81.core.flushers 0).batch).invalidated w81.core.stats }

abbrev pub e81 : WorldEvent ℕ
e81 = Applies (FlushEnd 0) (Ended [] []) (counted w81.core n81)

abbrev pub w82 : World ℕ
w82 = after small w81 e81

pub may81 : MayHappen small SmallSplits IsSmall w81 e81
may81 = (tt, (lit< tt, (lit< tt, (refl, refl, inr (true, refl))), (n81, (refl, refl, refl), refl)))
