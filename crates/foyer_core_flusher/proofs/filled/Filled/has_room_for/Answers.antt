use Rattle.std.proofs.Common.{ap, arith}
use Rattle.std.specs.Prelude.{IsTrue, false}
use Rattle.foyer_format_layout.proofs.PageLaws.{page_up-holds, page_up-fewest}
use Rattle.foyer_core_flusher.specs.Filled.{HasRoomFor}
use Rattle.foyer_core_flusher.proofs.filled.Filled.has_room_for.Goals.{then-len-eq0-via-then-len-eq0, then-len-eq0-via-else-len-eq0+then-self-len}
use Rattle.foyer_core_flusher.proofs.filled.Filled.has_room_for.Goals as goal

pub returns-then-len-eq0 : goal.returns-then-len-eq0
returns-then-len-eq0 g c = (
  (λ t. absurd (let e : IsTrue false = t in cc)),
  λ (h : HasRoomFor c.args.self.now c.args.len). elim c.then-len-eq0.branch [
    | then-len-eq0-via-then-len-eq0 w ↦ absurd (omega (arith, h.some, w.if-len-eq0.true))
    | then-len-eq0-via-else-len-eq0+then-self-len w ↦
        absurd (omega (arith, page_up-holds c.args.len, h.greatest, w.if-self-len.true, ap (λ b. b.greatest) c.self.view_is))
  ],
)

pub whole_pages-pages-requires : goal.whole_pages-pages-requires
whole_pages-pages-requires g c = omega (arith, page_up-fewest c.args.len, c.if-self-len.false, c.self.invariant.1)
