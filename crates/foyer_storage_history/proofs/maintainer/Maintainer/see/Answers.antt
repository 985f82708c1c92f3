use Rattle.std.proofs.Common.{◌<◌, ap, sym, subst, ◌∙◌}
use Rattle.foyer_storage_history.specs.HistoryCalls.{is_nil}
use Rattle.foyer_storage_history.proofs.maintainer.Maintainer.see.Goals as goal

pub invariant_of-self : goal.invariant_of-self
invariant_of-self g c = record {
  mine = (c.see.ensures.same.0 ∙ c.args.self.now.mine.0, ap is_nil c.see.ensures.same.1);
  some_part = subst (λ s. 0 < s.shares.parts) (sym c.see.ensures.same.2) c.args.self.now.some_part;
  rights = λ k above below. c.see.ensures.on.rights k above (c.args.self.now.rights k above below);
  sizes = c.see.ensures.on.sizes c.args.self.now.settings c.args.self.now.sizes;
}
