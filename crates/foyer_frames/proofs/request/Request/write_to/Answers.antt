use Rattle.std.proofs.Common.{◌++◌, ap}
use Rattle.foyer_frames.proofs.Writes.{in_three}
use Rattle.foyer_frames.proofs.request.Request.write_to.Goals as goal

pub returns-clause-written : goal.returns-clause-written
returns-clause-written g c =
    let r = c.args.self.now in
    in_three c.write_part-3.result _ _ _ _ _ _ _ _ c.in_ok-write_part.ensures.bytes c.in_ok-write_part-2.ensures.bytes c.write_part-3.ensures.bytes (ap (λ t. t ++ (r.key.now ++ r.value.now)) c.request_head.ensures)
