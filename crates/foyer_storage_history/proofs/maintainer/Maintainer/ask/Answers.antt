use Rattle.std.proofs.Common.{◌<◌, ap, sym, subst}
use Rattle.foyer_storage_history.specs.HistoryCalls.{is_nil}
use Rattle.foyer_storage_history.proofs.maintainer.Maintainer.ask.Goals as goal

pub invariant_of-self : goal.invariant_of-self
invariant_of-self g c = record {
  mine = (c.ask_again.ensures.mine.0, ap is_nil c.ask_again.ensures.mine.1);
  some_part = subst (λ n. 0 < n) (sym c.ask_again.ensures.parts) c.args.self.now.some_part;
  rights = λ k above below. c.ask_again.ensures.on.rights k above (c.args.self.now.rights k above below);
  sizes = c.ask_again.ensures.on.sizes c.args.self.now.settings c.args.self.now.sizes;
}
