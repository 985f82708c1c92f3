use Rattle.std.proofs.Common.{◌+◌, ◌<◌, sym, ap, ◌∙◌, subst}
use Rattle.foyer_core_chronicle.specs.Rights.{times}
use Rattle.foyer_core_told.specs.ToldRights.{writes_right}
use Rattle.test_shared.proofs.tests.told.run.Goals as goal

pub values-init : goal.values-init
values-init g c = (
  (
    c.split-two.ensures.same.0 ∙ c.in_ok-shared.ensures.mine.0,
    ap (λ x. x.1) c.split-two.ensures.same.1 ∙ c.in_ok-shared.ensures.mine.1,
    c.split-two.ensures.left.0 ∙ c.in_ok-shared.ensures.parts,
    subst (λ x. 0 < times (writes_right 0) x.0.has) (sym c.split-two.ensures.same.1) c.in_ok-shared.ensures.right,
  ),
  (c.split-two.ensures.seen.0 ∙ c.in_ok-shared.ensures.mine.0, ap (λ x. x.1) c.split-two.ensures.seen.1, ap (λ s. s.parts) c.split-two.ensures.given),
)

pub values-preserved : goal.values-preserved
values-preserved g c = (
  (c.put.ensures.mine.0, c.put.ensures.mine.1, ap (λ n. n + 1) c.put.ensures.parts ∙ c.values.invariant.0.2, c.put.ensures.right),
  (c.value_of.ensures.mine.0, c.value_of.ensures.mine.1, c.value_of.ensures.parts ∙ c.values.invariant.1.2),
)
