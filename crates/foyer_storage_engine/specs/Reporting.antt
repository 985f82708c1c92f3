-- What a worker does at its disk, and what its session shows that it reported.
use Rattle.std.specs.Prelude.{◌≡◌, ℕ, Some, Result, OnOk, OnErr}
use Rattle.foyer_core_model.specs.Numbers.{page}
use Rattle.foyer_core_access.specs.Reclaims.{IsCleaned}
use Rattle.foyer_core_shared.specs.Briefs.{outcome_of}
use Rattle.foyer_core_shared.specs.Sessions.{SessionState}
use Rattle.foyer_core_shared.specs.declared.brief.ReplyBrief.{ReplyBrief}
use Rattle.foyer_core_shared.specs.declared.brief.StepBrief.TheVariants as asked
use Rattle.foyer_device_page.specs.declared.error.Error.{Error}
use Rattle.foyer_io_disk.specs.Disk.{IsTorn}

-- The newest step reports the outcome of the clean of a block that is reclaimed, which the disk did, or failed at unless it surely comes; it got
-- this reply.
pub record ReportsClean (block : ℕ) (old new : ℕ → ℕ → ℕ) (surely_came : Type 0) (session : SessionState) : Type 0 where
  pub outcome : Result (Unit {0}) Error
  pub answer : ReplyBrief
  pub newest : session.newest ≡ Some (record { step = asked.ReclaimCleaned block (outcome_of outcome); reply = answer })
  pub cleaned : OnOk outcome (IsCleaned old block new)
  pub torn : OnErr outcome (IsTorn old block 0 page new)
  pub fails : OnErr outcome (surely_came → ⊥)
