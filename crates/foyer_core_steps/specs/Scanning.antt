-- What a reclaim's step answers if the reclaim goes on.
use Rattle.std.specs.Prelude.{◌≡◌, ℕ, Bool, List, Option, Some, None, Result, Ok, Err}
use Rattle.std.specs.declared.vec.Vec.{Vec}
use Rattle.foyer_device_page.specs.declared.error.Error.{Error}
use Rattle.foyer_policy_filter.specs.declared.verdict.StorageFilterResult.{StorageFilterResult}
use Rattle.foyer_device_statistics.specs.declared.state.IoState.{IoState}
use Rattle.foyer_core_steps.specs.Reclaiming.{IsReread, Reclaiming, index_infos, reclaim_at, verdict_list, wanted_of}
use Rattle.foyer_core_steps.specs.declared.block.reclaimer.Wanted.{Wanted}
use Rattle.foyer_core_steps.specs.declared.block.reclaimer.Wanted.TheVariants as wanted
use Rattle.foyer_core_steps.specs.declared.reply.Reply.{Reply}
use Rattle.foyer_core_steps.specs.declared.reply.Reply.TheVariants as reply
use Rattle.foyer_core_steps.specs.declared.state.Core.{Core}

-- the read of what is wanted: an index, or a record
abbrev pub scan_reply : {K V P A : Type 0} → (block index_size : ℕ) → Option Wanted → Option (Vec Bool A) → Reply K V P A
scan_reply block index_size None verdicts = reply.Listed verdicts
scan_reply block index_size (Some (wanted.Index place)) verdicts = reply.Scan block place index_size verdicts
scan_reply block index_size (Some (wanted.Record e)) verdicts = reply.Scan block (e.address).offset (e.address).len verdicts

-- the verdicts on what was read: of an index the filter's, one on each entry; of a record there are none
abbrev pub AreOn : {Q : Type 0} → (Q → IoState → ℕ → ℕ → StorageFilterResult → Type 0) → Option (List Q) → IoState → List ℕ → Reclaiming → Option Wanted → Option (List Bool) → Type 0
AreOn may filter io bytes r (Some (wanted.Index place)) vs = IsReread may filter io (index_infos bytes r) vs
AreOn may filter io bytes r w vs = vs ≡ None

-- and of a read that failed, or of a block that isn't reclaimed, there are none
abbrev pub HasJudged : {A Q : Type 0} → (Q → IoState → ℕ → ℕ → StorageFilterResult → Type 0) → Option (List Q) → IoState → Result (Vec ℕ A) Error → Option Reclaiming → Option (List Bool) → Type 0
HasJudged may filter io (Ok bytes) (Some r) vs = AreOn may filter io bytes.items r (wanted_of r) vs
HasJudged may filter io (Ok bytes) None vs = vs ≡ None
HasJudged may filter io (Err e) o vs = vs ≡ None

-- the reply to a reclaim's read has the verdicts of the borrowed filter, unless it returns the read
abbrev pub IsJudged : {K V P A Q : Type 0} → (Q → IoState → ℕ → ℕ → StorageFilterResult → Type 0) → Option (List Q) → IoState → (block : ℕ) → Result (Vec ℕ A) Error → Reply K V P A → Core K V P A → Type 0
IsJudged may filter io b came (reply.Scan c offset len verdicts) old = HasJudged may filter io came (reclaim_at old.reclaims b) (verdict_list verdicts)
IsJudged may filter io b came (reply.Listed verdicts) old = HasJudged may filter io came (reclaim_at old.reclaims b) (verdict_list verdicts)
IsJudged may filter io b came answer old = Unit {0}

-- no verdicts come with it
abbrev pub HasNoVerdicts : {K V P A : Type 0} → Reply K V P A → Type 0
HasNoVerdicts (reply.Scan c offset len verdicts) = verdicts ≡ None
HasNoVerdicts (reply.Listed verdicts) = verdicts ≡ None
HasNoVerdicts answer = Unit {0}
