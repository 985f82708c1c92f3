use Rattle.std.proofs.Common.{◌≡◌, ◌++◌, ◌∷◌, [], length, sym, ap, subst, ◌∙◌, arith, append_assoc}
use Rattle.std.proofs.lemmas.List.{append-nil}
use Rattle.foyer_core_flusher.specs.Issuing.{writes_of}
use Rattle.foyer_core_flusher.specs.Offsets.{PartFits}
use Rattle.foyer_core_flusher.proofs.IssueLemmas.{writes_more, none_left}
use Rattle.foyer_format_layout.specs.Each.{Each}
use Rattle.foyer_core_flusher.proofs.issuing.writes_of.Goals as goal

pub loop-part-preserved : goal.loop-part-preserved
loop-part-preserved g c =
    let n = c.args.block_size in
    let before = c.loop-part.issued.items in
    let later = c.next.new.self.rest.items in
    let is = c.in-Some.ensures.steps.0 in
    let inv = c.loop-part.invariant in
    let count : length c.loop-part.part-iterator.rest.items ≡ length (c.in-Some.part ∷ later) = ap length is in (
      tt,
      tt,
      ap (λ l. l ++ writes_of n later) c.issue_part.ensures.issued
          ∙ append_assoc before (writes_of n (c.in-Some.part ∷ [])) (writes_of n later)
          ∙ ap (λ l. before ++ l) (writes_more n c.in-Some.part later ∙ ap (writes_of n) (sym is)) ∙ inv.2,
      omega (arith, c.issue_part.ensures.len, c.issue_part.ensures.room, inv.3, count),
      (subst (Each PartFits) is inv.4).1,
    )

pub returns : goal.returns
returns g c =
    let n = c.args.block_size in
    let left = c.loop-part.part-iterator.rest in
    let none : length left.items ≡ 0 = omega (arith, left.ok, c.in-None.ensures.steps.0) in
    sym (append-nil c.loop-part.issued.items) ∙ ap (λ l. c.loop-part.issued.items ++ writes_of n l) (sym (none_left left.items none)) ∙ c.loop-part.invariant.2
