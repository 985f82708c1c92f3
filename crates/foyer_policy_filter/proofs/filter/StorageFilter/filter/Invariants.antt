use Rattle.std.proofs.Common.{take}
use Rattle.std.specs.Duration.{as_nanos}
use Rattle.foyer_policy_filter.proofs.VerdictLemmas.{Asked}
use Rattle.foyer_policy_filter.proofs.filter.StorageFilter.filter.Given as goal

abbrev pub invariant-loop-condition : goal.invariant-loop-condition
invariant-loop-condition g l =
    Asked (λ c a. g.C.StorageFilterCondition.may_answer c l.io l.hash l.size a) (take l.condition-index l.condition-items) (as_nanos l.wait)
