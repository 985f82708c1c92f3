use Rattle.std.proofs.Common.{arith}
use Rattle.foyer_frames.proofs.Replies.{is_found, is_only}
use Rattle.foyer_frames.proofs.reply.Reply.decode.Goals as goal

pub returns-clause-found : goal.returns-clause-found
returns-clause-found c = is_found c.args.limit c.args.bytes.now c.read_reply.result (λ i. omega (arith, c.type_inv.bytes i)) c.read_reply.ensures

pub returns-clause-only : goal.returns-clause-only
returns-clause-only c = is_only c.args.limit c.args.bytes.now c.read_reply.result c.read_reply.ensures
