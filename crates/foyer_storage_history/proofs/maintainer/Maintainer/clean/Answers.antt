use Rattle.std.proofs.Common.{◌<◌, ap, sym, subst, arith}
use Rattle.foyer_core_threads.proofs.HistoryJoins.{cleans_above}
use Rattle.foyer_storage_history.proofs.HistoryLemmas.{cleans_below}
use Rattle.foyer_storage_history.specs.HistoryCalls.{is_nil}
use Rattle.foyer_storage_history.proofs.maintainer.Maintainer.clean.Goals as goal

pub invariant_of-self : goal.invariant_of-self
invariant_of-self g c = record {
  mine = (c.clean.ensures.mine.0, ap is_nil c.clean.ensures.mine.1);
  some_part = subst (λ n. 0 < n) (sym c.clean.ensures.parts) c.args.self.now.some_part;
  rights = λ k above below. c.clean.ensures.on.rights k above (c.args.self.now.rights k above below);
  sizes = c.clean.ensures.on.sizes c.args.self.now.settings c.args.self.now.sizes;
}

pub clean-requires-clause-right : goal.clean-requires-clause-right
clean-requires-clause-right g c = c.args.self.now.rights _ (cleans_above c.args.block) (cleans_below c.args.block (let fits = c.ranges.block.fits in omega arith))
