use Rattle.std.proofs.Common.{◌+◌, ◌≤◌, length, ap, arith}
use Rattle.std.specs.Prelude.{IsTrue, false}
use Rattle.foyer_format_layout.proofs.PageLaws.{page_up-holds, page_up-fewest}
use Rattle.foyer_format_layout.specs.Page.{page_up}
use Rattle.foyer_core_flusher.specs.Filled.{HasRoom}
use Rattle.foyer_core_flusher.proofs.filled.Filled.has_room.Goals as goal

pub returns-then-self-estimated : goal.returns-then-self-estimated
returns-then-self-estimated g c = λ key value.
    let n = length (g.V.Code.encoding c.args.value.now) + length (g.K.Code.encoding c.args.key.now) in (
      λ t. absurd (let e : IsTrue false = t in cc),
      λ (h : HasRoom c.args.self.now n).
          let holds : 36 + n ≤ page_up (36 + n) = page_up-holds (36 + n) in
          absurd (omega (arith, holds, h.greatest, c.estimated_size-estimated.ensures key value, c.if-self-estimated.true, c.self.invariant.1, ap (λ b. b.greatest) c.self.view_is)),
    )

pub whole_pages-requires : goal.whole_pages-requires
whole_pages-requires g c =
    omega (arith, page_up-fewest (c.serialized_len.result + c.estimated_size-estimated.result), c.serialized_len.ensures, c.if-self-estimated.false, c.self.invariant.1)
