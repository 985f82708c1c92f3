use Rattle.std.proofs.Common.{◌<◌, ap, sym, subst}
use Rattle.foyer_storage_history.specs.HistoryCalls.{is_nil}
use Rattle.foyer_storage_history.proofs.maintainer.Maintainer.forget.Goals as goal

pub invariant_of-self : goal.invariant_of-self
invariant_of-self g c = record {
  mine = (c.forget.ensures.mine.0, ap is_nil c.forget.ensures.mine.1);
  some_part = subst (λ n. 0 < n) (sym c.forget.ensures.parts) c.args.self.now.some_part;
  rights = λ k above below. c.forget.ensures.on.rights k above (c.args.self.now.rights k above below);
  sizes = c.forget.ensures.on.sizes c.args.self.now.settings c.args.self.now.sizes;
}
