use Rattle.std.proofs.Common.{◌≤◌, length, refl, ap, sym, ◌∙◌, arith}
use Rattle.std.proofs.lemmas.Bool.{lt-ltb}
use Rattle.foyer_frames.specs.Request.{head_at}
use Rattle.foyer_frames.specs.Stream.{held}
use Rattle.foyer_frames.proofs.Streams.{held_len, is_short, places}
use Rattle.foyer_frames.proofs.window.Window.take.Goals as goal

pub returns-clause-taken : goal.returns-clause-taken
returns-clause-taken g c =
    let w = c.args.self.now in
    let within : w.end ≤ length w.bytes.items = omega arith in
    places w.limits w.bytes.items w.start w.end c.in-Ok.head w.in_order within (ap (head_at w.limits) (sym c.as_slice.ensures) ∙ sym c.in-Ok.ensures) (omega arith)

pub returns-then-self-keys-clause-taken : goal.returns-then-self-keys-clause-taken
returns-then-self-keys-clause-taken g c =
    let w = c.args.self.now in
    let within : w.end ≤ length w.bytes.items = omega arith in
    let short = is_short w.limits (held w) c.in-Ok.head _ (ap (head_at w.limits) (sym c.as_slice.ensures) ∙ sym c.in-Ok.ensures) (held_len w.bytes.items w.start w.end w.in_order within) in
    (short.0 (lt-ltb _ _ c.if-self-keys.true), refl)
