use Rattle.std.proofs.Common.{◌<◌, ap, sym, subst, arith}
use Rattle.foyer_core_threads.proofs.HistoryJoins.{cleans_above}
use Rattle.foyer_storage_history.proofs.HistoryLemmas.{cleans_below, seen_self}
use Rattle.foyer_storage_history.specs.HistoryCalls.{is_nil}
use Rattle.foyer_storage_history.proofs.maintainer.Maintainer.clean_one.Goals as goal

pub invariant_of-self : goal.invariant_of-self
invariant_of-self g c = record {
  mine = (c.clean_cleared.ensures.mine.0, ap is_nil c.clean_cleared.ensures.mine.1);
  some_part = subst (λ n. 0 < n) (sym c.clean_cleared.ensures.parts) c.args.self.now.some_part;
  rights = λ k above below. c.clean_cleared.ensures.on.rights k above (c.args.self.now.rights k above below);
  sizes = c.clean_cleared.ensures.on.sizes c.args.self.now.settings c.args.self.now.sizes;
}

pub clean_cleared-requires-clause-right : goal.clean_cleared-requires-clause-right
clean_cleared-requires-clause-right g c = c.args.self.now.rights _ (cleans_above c.args.block) (cleans_below c.args.block (let fits = c.ranges.block.fits in omega arith))

pub returns-clause-others : goal.returns-clause-others
returns-clause-others g c = λ other apart below issued.
    c.clean_cleared.ensures.others other apart (c.args.self.now.rights _ (cleans_above other) (cleans_below other below)) issued

pub returns-clause-cleaned : goal.returns-clause-cleaned
returns-clause-cleaned g c = record {
  next = c.args.self.now.told.witness.me.0;
  reply = c.clean_cleared.result;
  first = seen_self c.args.self.now.told.witness.me.0;
  clean = c.clean_cleared.ensures.told;
  said = c.destroyed_of.ensures;
}
