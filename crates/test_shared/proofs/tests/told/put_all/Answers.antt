use Rattle.std.proofs.Common.{◌<◌, refl, sym, ◌∙◌, subst}
use Rattle.test_shared.proofs.tests.told.put_all.Goals as goal

pub values-init : goal.values-init
values-init g c = (c.requires.mine.0, c.requires.mine.1, refl, c.requires.right)

pub put-requires-clause-mine : goal.put-requires-clause-mine
put-requires-clause-mine g c = (c.values.invariant.0, c.values.invariant.1)

pub put-requires-clause-right : goal.put-requires-clause-right
put-requires-clause-right g c = c.values.invariant.3

pub put-requires-clause-part : goal.put-requires-clause-part
put-requires-clause-part g c = subst (λ n. 0 < n) (sym c.values.invariant.2) c.requires.part

pub values-preserved : goal.values-preserved
values-preserved g c = (c.put.ensures.mine.0, c.put.ensures.mine.1, c.put.ensures.parts ∙ c.values.invariant.2, c.put.ensures.right)
