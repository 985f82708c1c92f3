use Rattle.foyer_core_flusher.proofs.OffsetLemmas.{now_writing}
use Rattle.foyer_core_flusher.proofs.batch.Batch.take_writing.Goals as goal

pub returns-clause-rest : goal.returns-clause-rest
returns-clause-rest g c = now_writing c.args.self.now c.take.ensures.after
