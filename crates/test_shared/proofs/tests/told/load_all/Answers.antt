use Rattle.std.proofs.Common.{◌<◌, refl, sym, subst}
use Rattle.test_shared.proofs.tests.told.load_all.Goals as goal

pub loads-init : goal.loads-init
loads-init g c = (c.requires.mine.0, c.requires.mine.1, refl)

pub value_of-requires-clause-mine : goal.value_of-requires-clause-mine
value_of-requires-clause-mine g c = (c.loads.invariant.0, c.loads.invariant.1)

pub value_of-requires-clause-part : goal.value_of-requires-clause-part
value_of-requires-clause-part g c = subst (λ n. 0 < n) (sym c.loads.invariant.2) c.requires.part
