use Rattle.foyer_core_flusher.proofs.FilledLemmas.{pushed_some}
use Rattle.foyer_core_flusher.proofs.filled.push_open.Goals as goal

pub returns-clause-some : goal.returns-clause-some
returns-clause-some g c = pushed_some c.push.result c.args.buffer.now c.push.new.self c.args.hash c.args.sequence _ _ c.push.ensures.pushed c.push.ensures.kept c.push.ensures.refused
