-- What a step in turn does if it isn't refused: each reply with its condition, and the state that it leaves.
use Rattle.foyer_core_model.specs.State.{State}
use Rattle.foyer_core_model.specs.Rules.{Rules, Splitting}
use Rattle.foyer_core_model.specs.Step.{Step, Enqueue, Delete, Wait, MayContains, LoadBegin, LoadEnd, Receive, FlushBegin, FlushBlock, FlushWrote, LogWrote, FlushEnd, ReclaimBegin, ReclaimRead, ReclaimForget, ReclaimCleaned, ReclaimIdle, DestroyBegin, DestroyClear, DestroyCleaned, Close}
use Rattle.foyer_core_model.specs.Reply.{Reply}
use Rattle.foyer_core_model.specs.Queue.{Enqueues, Deletes, Waits, Asks, Closes}
use Rattle.foyer_core_model.specs.Load.{Looks, Ends}
use Rattle.foyer_core_model.specs.Receive.{Receives}
use Rattle.foyer_core_model.specs.Flush.{Begins, Describes, Wrote, Logs, Finishes}
use Rattle.foyer_core_model.specs.Reclaim.{Picks, Rereads, Forgets, Cleaned, Idles}
use Rattle.foyer_core_model.specs.Destroy.{BeginsDestroy, Clears, CleansOne}

module _ {C : Type 0} (rules : Rules C) (Splits : Splitting C) (old : State C) where
  -- what a step in turn does, by step
  abbrev pub Changes : Step C → Reply C → State C → Type 0
  Changes (Enqueue h n age c) reply new = Enqueues rules old h n age c reply new
  Changes (Delete h) reply new = Deletes rules old h reply new
  Changes (Wait f i) reply new = Waits rules old f i reply new
  Changes (MayContains h) reply new = Asks rules old h reply new
  Changes (LoadBegin h throttled) reply new = Looks rules old h throttled (old.index h) reply new
  Changes (LoadEnd t came) reply new = Ends rules old t came reply new
  Changes (Receive f) reply new = Receives rules old f reply new
  Changes (FlushBegin f) reply new = Begins rules Splits old f reply new
  Changes (FlushBlock f) reply new = Describes rules old f (old.flushers f).batch reply new
  Changes (FlushWrote f ok) reply new = Wrote rules old f ok (old.flushers f).batch reply new
  Changes (LogWrote f ok) reply new = Logs rules old f ok (old.flushers f).batch reply new
  Changes (FlushEnd f) reply new = Finishes rules old f (old.flushers f).batch reply new
  Changes ReclaimBegin reply new = Picks rules old reply new
  Changes (ReclaimRead b came) reply new = Rereads rules old b (old.reclaims b) came reply new
  Changes (ReclaimForget b) reply new = Forgets rules old b (old.reclaims b) reply new
  Changes (ReclaimCleaned b ok) reply new = Cleaned rules old b reply new
  Changes ReclaimIdle reply new = Idles rules old reply new
  Changes DestroyBegin reply new = BeginsDestroy rules old reply new
  Changes DestroyClear reply new = Clears rules old reply new
  Changes (DestroyCleaned b ok) reply new = CleansOne rules old b ok old.destroy reply new
  Changes Close reply new = Closes rules old reply new
