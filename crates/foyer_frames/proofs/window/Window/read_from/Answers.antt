use Rattle.std.proofs.Common.{◌≡◌, ℕ, List, ◌++◌, ◌+◌, ◌-◌, ◌≤◌, length, take, drop, slice_range, sym, ap, ◌∙◌, arith}
use borrow.Rule.Slice.PartMut.{put_mid, post_of}
use Rattle.std.proofs.lemmas.List.{with_items_is, length-append, length-take, length-drop}
use Rattle.foyer_frames.proofs.Windows.{grown}
use Rattle.foyer_frames.proofs.window.Window.read_from.Goals as goal

pub returns-clause-ok : goal.returns-clause-ok
returns-clause-ok g c =
    let w = c.args.self.now in
    let n = c.in_ok-count.count in
    let bound = c.in_ok-count.ensures.bound in
    let xs = c.as_mut_slice.result.now in
    let room = c.read_some.new.room in
    let all : length xs ≡ w.bytes.len = omega (arith, ap length c.as_mut_slice.ensures.value) in
    let within : w.end ≤ length xs = omega arith in
    let size : length (put_mid w.end (length xs - w.end) xs room) ≡ w.bytes.len = omega (arith, length-append (take w.end xs) (room ++ post_of w.end (length xs - w.end) xs), length-append room (post_of w.end (length xs - w.end) xs), length-take w.end xs, length-drop (length xs - w.end) (drop w.end xs), length-drop w.end xs) in
    let whole = ap (λ (t : List ℕ). slice_range t w.start (w.end + n)) (with_items_is w.bytes (put_mid w.end (length xs - w.end) xs room) size) in
    let grew = grown xs room w.start w.end (length xs - w.end) n w.in_order within bound.0 in
    let back = ap (λ (t : List ℕ). slice_range t w.start w.end ++ take n room) c.as_mut_slice.ensures.value in
    (take n room, sym bound.1, whole ∙ grew ∙ back, c.in_ok-count.ensures.ok)
