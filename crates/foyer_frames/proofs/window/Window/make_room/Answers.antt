use Rattle.std.proofs.Common.{◌≡◌, ◌+◌, ◌<◌, ◌≤◌, ◌-◌, length, ap, arith}
use Rattle.foyer_frames.specs.Stream.{held}
use Rattle.foyer_frames.proofs.Streams.{held_len, short_below}
use Rattle.foyer_frames.proofs.window.Window.make_room.Goals as goal

pub lengthen-requires : goal.lengthen-requires
lengthen-requires g c =
    let old = c.args.self.now in
    let w = c.move_to_front.new.self in
    let within : w.end ≤ length w.bytes.items = omega arith in
    let len : length (held w) ≡ w.end - w.start = held_len w.bytes.items w.start w.end w.in_order within in
    let same : length (held w) ≡ length (held old) = ap length c.move_to_front.ensures.held in
    let short : length (held old) < 13 + (old.limits.key + old.limits.value) = short_below old.limits (held old) c.requires in
    let keys : w.limits.key ≡ old.limits.key = ap (λ l. l.key) c.move_to_front.ensures.limits in
    let values : w.limits.value ≡ old.limits.value = ap (λ l. l.value) c.move_to_front.ensures.limits in
    omega (arith, c.min.ensures, c.saturating_add.ensures)

pub returns-in_ok-lengthen-clause-room : goal.returns-in_ok-lengthen-clause-room
returns-in_ok-lengthen-clause-room g c =
    let old = c.args.self.now in
    let w = c.move_to_front.new.self in
    let within : w.end ≤ length w.bytes.items = omega arith in
    let len : length (held w) ≡ w.end - w.start = held_len w.bytes.items w.start w.end w.in_order within in
    let same : length (held w) ≡ length (held old) = ap length c.move_to_front.ensures.held in
    let short : length (held old) < 13 + (old.limits.key + old.limits.value) = short_below old.limits (held old) c.requires in
    let keys : w.limits.key ≡ old.limits.key = ap (λ l. l.key) c.move_to_front.ensures.limits in
    let values : w.limits.value ≡ old.limits.value = ap (λ l. l.value) c.move_to_front.ensures.limits in
    omega (arith, c.min.ensures, c.saturating_add.ensures, c.in_ok-lengthen.ensures.ok)
