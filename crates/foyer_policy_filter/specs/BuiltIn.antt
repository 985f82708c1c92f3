-- The answers of a condition of this crate.
use Rattle.std.specs.Prelude.{ℕ}
use Rattle.foyer_device_statistics.specs.declared.state.IoState.{IoState}
use Rattle.foyer_policy_filter.specs.declared.verdict.StorageFilterResult.{StorageFilterResult}
use Rattle.foyer_policy_filter.specs.declared.any.BuiltInCondition.{BuiltInCondition}
use Rattle.foyer_policy_filter.specs.declared.any.BuiltInCondition.TheVariants as one
use Rattle.foyer_policy_filter.specs.Conditions.{Decides, IsThrottledBy}
use Rattle.foyer_policy_filter.specs.Verdict.{IsAdmit, IsReject}

abbrev pub MayAnswerBuiltIn : BuiltInCondition → IoState → ℕ → StorageFilterResult → Type 0
MayAnswerBuiltIn (one.AdmitAll q) io size a = IsAdmit a
MayAnswerBuiltIn (one.RejectAll q) io size a = IsReject a
MayAnswerBuiltIn (one.IoThrottle q) io size a = IsThrottledBy io.write_throttle a
MayAnswerBuiltIn (one.EstimatedSize q) io size a = Decides q size a
