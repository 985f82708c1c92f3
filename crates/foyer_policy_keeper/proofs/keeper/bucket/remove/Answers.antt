use Rattle.std.proofs.Common.{rules}
use Rattle.std.proofs.lemmas.Fn.{filter_same}
use borrow.Author.Tests.{tests}
use Rattle.foyer_policy_keeper.proofs.keeper.bucket.remove.Goals as goal

pub returns : goal.returns
returns g c = filter_same _ _ _ (λ x b q k. search (rules, tests)) _ _ c.retain.ensures.filtered
