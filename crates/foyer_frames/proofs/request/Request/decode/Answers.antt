use Rattle.std.proofs.Common.{arith}
use Rattle.foyer_frames.proofs.Requests.{is_found, is_only}
use Rattle.foyer_frames.proofs.request.Request.decode.Goals as goal

pub returns-clause-found : goal.returns-clause-found
returns-clause-found c = is_found c.args.limits c.args.bytes.now c.read_request.result (λ i. omega (arith, c.type_inv.bytes i)) c.read_request.ensures

pub returns-clause-only : goal.returns-clause-only
returns-clause-only c = is_only c.args.limits c.args.bytes.now c.read_request.result c.read_request.ensures
