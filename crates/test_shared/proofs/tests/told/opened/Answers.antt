use Rattle.std.proofs.Common.{Result, Ok, Err, arith}
use Rattle.std.specs.Result.{IfOk}
use Rattle.foyer_core_told.specs.ToldRights.{writes_right}
use Rattle.foyer_core_told.proofs.ToldRightLemmas.{rights_there}
use Rattle.test_shared.proofs.tests.told.opened.Goals as goal

of_ok : {T E : Type 0} (Q R : T → Type 0) → ((x : T) → Q x → R x) → (r : Result T E) → IfOk r Q → IfOk r R
of_ok Q R so (Ok x) is = so x is
of_ok Q R so (Err e) is = tt

pub returns-clause-right : goal.returns-clause-right
returns-clause-right g c = of_ok _ _ (λ r rights. rights (writes_right 0) (omega arith) (rights_there.writes 0 (omega arith))) c.open.result c.open.ensures.rights
