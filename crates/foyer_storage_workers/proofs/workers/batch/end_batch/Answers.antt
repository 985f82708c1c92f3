use Rattle.foyer_storage_workers.proofs.workers.batch.end_batch.Goals as goal

pub returns-clause-ended : goal.returns-clause-ended
returns-clause-ended g c = record {
  answer = c.step_again-reply.result;
  newest = c.step_again-reply.ensures.newest;
  given = c.do_end-end.ensures;
}
