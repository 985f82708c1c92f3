use Rattle.std.proofs.Common.{◌<◌, ap, sym, subst}
use Rattle.foyer_storage_history.specs.HistoryCalls.{is_nil}
use Rattle.foyer_storage_history.proofs.maintainer.Maintainer.pick.Goals as goal

pub invariant_of-self : goal.invariant_of-self
invariant_of-self g c = record {
  mine = (c.pick.ensures.mine.0, ap is_nil c.pick.ensures.mine.1);
  some_part = subst (λ n. 0 < n) (sym c.pick.ensures.parts) c.args.self.now.some_part;
  rights = λ k above below. c.pick.ensures.on.rights k above (c.args.self.now.rights k above below);
  sizes = c.pick.ensures.on.sizes c.args.self.now.settings c.args.self.now.sizes;
}

pub returns-clause-picked : goal.returns-clause-picked
returns-clause-picked g c = λ block answers probation is. c.pick.ensures.picked block answers probation c.args.self.now.settings c.args.self.now.sizes is
