use Rattle.std.proofs.Common.{◌≤◌, length, ap, sym, ◌∙◌, arith}
use Rattle.foyer_frames.specs.Request.{head_at}
use Rattle.foyer_frames.specs.Stream.{held}
use Rattle.foyer_frames.proofs.Streams.{held_len, is_short}
use Rattle.foyer_frames.proofs.window.Window.is_partial.Goals as goal

pub returns-in-Ok : goal.returns-in-Ok
returns-in-Ok g c =
    let w = c.args.self.now in
    let within : w.end ≤ length w.bytes.items = omega arith in
    is_short w.limits (held w) c.in-Ok.head _ (ap (head_at w.limits) (sym c.as_slice.ensures) ∙ sym c.in-Ok.ensures) (held_len w.bytes.items w.start w.end w.in_order within)
