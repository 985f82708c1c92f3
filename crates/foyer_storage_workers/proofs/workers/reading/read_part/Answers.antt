use Rattle.std.proofs.Common.{◌∙◌, sym}
use Rattle.foyer_core_shared.specs.Briefs.{len_of, reply_brief}
use Rattle.foyer_storage_workers.proofs.TurnLemmas.{part_is, reads_none}
use Rattle.foyer_storage_workers.proofs.workers.reading.read_part.Goals as goal

pub returns-clause-reports : goal.returns-clause-reports
returns-clause-reports g c = λ known. record {
  outcome = c.read_again-outcome.result;
  answer = reply_brief c.step_again-reply.result;
  newest = c.step_again-reply.ensures.newest;
  read = c.read_again-outcome.ensures.read known;
  whole = c.read_again-outcome.ensures.len;
  next = c.next_part.ensures ∙ part_is c.step_again-reply.result;
}

pub returns-clause-last : goal.returns-clause-last
returns-clause-last g c = λ none. record {
  outcome = len_of c.read_again-outcome.result;
  answer = reply_brief c.step_again-reply.result;
  newest = c.step_again-reply.ensures.newest;
  ended = reads_none c.step_again-reply.result (sym none ∙ c.next_part.ensures);
}
