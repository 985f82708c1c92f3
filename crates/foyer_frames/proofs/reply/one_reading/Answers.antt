use Rattle.foyer_frames.proofs.Replies.{one_way, reply_again}
use Rattle.foyer_frames.proofs.reply.one_reading.Goals as goal

pub returns-clause-again : goal.returns-clause-again
returns-clause-again c = reply_again

pub returns-clause-prefix : goal.returns-clause-prefix
returns-clause-prefix c = one_way
