use Rattle.std.proofs.Common.{◌<◌, ap, sym, subst, arith}
use Rattle.foyer_core_threads.proofs.HistoryJoins.{writes_above}
use Rattle.foyer_storage_history.proofs.HistoryLemmas.{writes_below}
use Rattle.foyer_storage_history.specs.HistoryCalls.{is_nil}
use Rattle.foyer_storage_history.proofs.maintainer.Maintainer.write_all.Goals as goal

pub invariant_of-self : goal.invariant_of-self
invariant_of-self g c = record {
  mine = (c.write_all.ensures.mine.0, ap is_nil c.write_all.ensures.mine.1);
  some_part = subst (λ n. 0 < n) (sym c.write_all.ensures.parts) c.args.self.now.some_part;
  rights = λ k above below. c.write_all.ensures.on.rights k above (c.args.self.now.rights k above below);
  sizes = c.write_all.ensures.on.sizes c.args.self.now.settings c.args.self.now.sizes;
}

pub write_all-requires-clause-right : goal.write_all-requires-clause-right
write_all-requires-clause-right g c = c.args.self.now.rights _ (writes_above c.args.flusher) (writes_below c.args.flusher (let fits = c.ranges.flusher.fits in omega arith))
