use Rattle.std.proofs.Common.{sym}
use Rattle.foyer_core_threads.proofs.NotedLemmas.{noted_first, opening_fresh}
use Rattle.foyer_core_threads.proofs.locked.ToldCore.new.Goals as goal

pub invariant_of-result : goal.invariant_of-result
invariant_of-result g c =
    let o = c.requires.opening in (
      c.requires.history.0,
      c.requires.history.1,
      c.requires.right,
      sym (opening_fresh c.args.witness.me.0.seen o.0 c.args.locked.noted.core o.1 o.2 o.3),
      c.requires.told,
      noted_first c.into_places.result c.args.witness.me.0.seen o.0 c.args.locked.noted.core o.1 c.into_places.ensures o.2 o.3,
    )
