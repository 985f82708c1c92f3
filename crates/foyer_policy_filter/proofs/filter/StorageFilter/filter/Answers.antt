use Rattle.std.proofs.Common.{◌+◌, List, take, sym, subst}
use Rattle.std.specs.Duration.{as_nanos}
use Rattle.std.specs.declared.time.Duration.{Duration}
use Rattle.foyer_policy_filter.specs.Verdict.{AreAnswers, IsVerdict}
use Rattle.foyer_policy_filter.specs.declared.verdict.StorageFilterResult.{StorageFilterResult}
use Rattle.foyer_policy_filter.proofs.VerdictLemmas.{Asked, admits_at, throttles_at, rejects_at}
use Rattle.foyer_policy_filter.proofs.filter.StorageFilter.filter.Goals.{in-Admit, in-Throttled}
use Rattle.foyer_policy_filter.proofs.filter.StorageFilter.filter.Goals as goal

pub returns-in-Reject : goal.returns-in-Reject
returns-in-Reject g c =
    let may = λ (x : g.row.C.Denot) (a : StorageFilterResult). g.C.StorageFilterCondition.may_answer x c.args.io.now c.args.hash c.args.size a in
    let Judged : List g.row.C.Denot → Type 0 = λ cs. (answers : List StorageFilterResult) × AreAnswers may cs answers × IsVerdict answers c.filter-answer.result in
    subst Judged c.conditions-condition-items.ensures
    (subst (λ r. (answers : List StorageFilterResult) × AreAnswers may c.conditions-condition-items.result.now answers × IsVerdict answers r) (sym c.in-Reject.is)
    (rejects_at may c.conditions-condition-items.result.now c.loop-condition.condition-index c.condition-item.result (as_nanos c.loop-condition.wait) c.loop-condition-test.true c.condition-item.is c.loop-condition.invariant c.in-Reject.ensures))

pub loop-condition-preserved : goal.loop-condition-preserved
loop-condition-preserved g c =
    let may = λ (x : g.row.C.Denot) (a : StorageFilterResult). g.C.StorageFilterCondition.may_answer x c.args.io.now c.args.hash c.args.size a in
    let items = c.conditions-condition-items.result.now in
    let Kept : Duration → Type 0 = λ d. Asked may (take (c.loop-condition.condition-index + 1) items) (as_nanos d) in
    elim c.match-answer.branch [
      | in-Admit w ↦ subst Kept (sym w.wait-is)
          (admits_at may items c.loop-condition.condition-index c.condition-item.result (as_nanos c.loop-condition.wait) c.loop-condition-test.true c.condition-item.is c.loop-condition.invariant w.in-Admit.ensures)
      | in-Throttled w ↦ subst Kept (sym w.wait-is)
          (throttles_at may items c.loop-condition.condition-index c.condition-item.result (as_nanos c.loop-condition.wait) _ _ c.loop-condition-test.true c.condition-item.is c.loop-condition.invariant w.in-Throttled.ensures w.add_waits-wait.ensures)
    ]
