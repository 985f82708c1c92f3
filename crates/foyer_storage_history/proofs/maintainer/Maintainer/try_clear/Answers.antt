use Rattle.std.proofs.Common.{◌<◌, ap, sym, subst}
use Rattle.foyer_storage_history.specs.HistoryCalls.{is_nil}
use Rattle.foyer_storage_history.proofs.maintainer.Maintainer.try_clear.Goals as goal

pub invariant_of-self : goal.invariant_of-self
invariant_of-self g c = record {
  mine = (c.clear.ensures.mine.0, ap is_nil c.clear.ensures.mine.1);
  some_part = subst (λ n. 0 < n) (sym c.clear.ensures.parts) c.args.self.now.some_part;
  rights = λ k above below. c.clear.ensures.on.rights k above (c.args.self.now.rights k above below);
  sizes = c.clear.ensures.on.sizes c.args.self.now.settings c.args.self.now.sizes;
}

pub returns-clause-issued : goal.returns-clause-issued
returns-clause-issued g c = λ block below is. c.clear.ensures.issued block c.args.self.now.settings c.args.self.now.sizes below is
