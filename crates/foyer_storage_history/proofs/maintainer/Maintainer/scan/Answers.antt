use Rattle.std.proofs.Common.{◌<◌, ap, sym, subst, ◌∙◌, arith}
use Rattle.foyer_core_threads.proofs.HistoryJoins.{scans_above}
use Rattle.foyer_storage_history.proofs.HistoryLemmas.{scan_of, scans_below}
use Rattle.foyer_storage_history.specs.HistoryCalls.{is_nil}
use Rattle.foyer_storage_history.proofs.maintainer.Maintainer.scan.Goals as goal

pub invariant_of-self : goal.invariant_of-self
invariant_of-self g c = record {
  mine = (c.scan-reply.ensures.mine.0, ap is_nil c.scan-reply.ensures.mine.1);
  some_part = subst (λ n. 0 < n) (sym c.scan-reply.ensures.parts) c.args.self.now.some_part;
  rights = λ k above below. c.scan-reply.ensures.on.rights k above (c.args.self.now.rights k above below);
  sizes = c.scan-reply.ensures.on.sizes c.args.self.now.settings c.args.self.now.sizes;
}

pub scan-reply-requires-clause-right : goal.scan-reply-requires-clause-right
scan-reply-requires-clause-right g c = c.args.self.now.rights _ (scans_above c.args.block) (scans_below c.args.block (let fits = c.ranges.block.fits in omega arith))

pub returns-clause-next : goal.returns-clause-next
returns-clause-next g c = λ more is.
    let of = scan_of c.scan-reply.result more (sym c.next_part.ensures ∙ is) in
    c.scan-reply.ensures.next of.0 of.1 more of.2
