use Rattle.std.proofs.Common.{rules}
use Rattle.foyer_storage_engine.proofs.HoldingLemmas.{counts_made}
use Rattle.foyer_storage_engine.proofs.engine.BlockEngine.step_again.Goals as goal

pub returns-in_default-clause-counted : goal.returns-in_default-clause-counted
returns-in_default-clause-counted g c =
    counts_made g.N.Noting.keeps c.args.session.now c.loop.session c.step.new.session c.args.step c.in_default-1.reply c.loop.invariant.2 (search rules) (search rules)
