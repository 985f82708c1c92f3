use Rattle.foyer_frames.proofs.Requests.{one_way, request_again}
use Rattle.foyer_frames.proofs.request.one_reading.Goals as goal

pub returns-clause-again : goal.returns-clause-again
returns-clause-again c = request_again

pub returns-clause-prefix : goal.returns-clause-prefix
returns-clause-prefix c = one_way
