use Rattle.std.proofs.Common.{◌≡◌, ◌+◌, ◌-◌, ◌<◌, ◌≤◌, ◌/◌, length, slice_index, ap, subst, ◌∙◌, arith}
use Rattle.foyer_block_index.proofs.Halving.{turns_on, all_below, all_above, lacks_at_gap}
use Rattle.foyer_block_index.proofs.probe.search.Goals as goal

pub halving-preserved-then-there-hash-2 : goal.halving-preserved-then-there-hash-2
halving-preserved-then-there-hash-2 c =
    let xs = c.args.probe.now.hashes in
    let place = c.halving.low + c.halving.size / 2 in
    let some : 0 < c.halving.size = c.halving-test.true in
    let within : c.halving.low + c.halving.size ≤ length xs = c.halving.invariant.within in
    let there : c.at-there.result ≡ slice_index xs place = c.at-there.ensures.hash ∙ ap (λ l. slice_index l place) c.halving.invariant.hashes in
    let less : slice_index xs place < c.args.hash = subst (λ x. x < c.args.hash) there c.if-there-hash-2.true in
    let end : c.halving.low + c.halving.size / 2 + 1 + (c.halving.size - c.halving.size / 2 - 1) ≡ c.halving.low + c.halving.size = omega arith in
    record {
      hashes = c.at-there.ensures.hashes ∙ c.halving.invariant.hashes;
      within = omega arith;
      below = all_below xs place c.args.hash c.len-size.ensures.ascending (omega arith) less;
      above = λ k more lt. c.halving.invariant.above k (omega arith) lt;
      turns = turns_on (length xs) c.args.probe.now.turns c.halving.probe.turns c.at-there.new.self.turns c.halving.size (c.halving.size - c.halving.size / 2 - 1)
          some (omega arith) (omega (arith, c.at-there.ensures.turns)) c.halving.invariant.turns;
    }

pub halving-preserved : goal.halving-preserved
halving-preserved c =
    let xs = c.args.probe.now.hashes in
    let place = c.halving.low + c.halving.size / 2 in
    let some : 0 < c.halving.size = c.halving-test.true in
    let within : c.halving.low + c.halving.size ≤ length xs = c.halving.invariant.within in
    let there : c.at-there.result ≡ slice_index xs place = c.at-there.ensures.hash ∙ ap (λ l. slice_index l place) c.halving.invariant.hashes in
    let not_less : c.args.hash ≤ c.at-there.result = c.if-there-hash-2.false in
    let other : c.at-there.result ≡ c.args.hash → _ = c.if-there-hash.false in
    let more : c.args.hash < c.at-there.result = omega arith in
    record {
      hashes = c.at-there.ensures.hashes ∙ c.halving.invariant.hashes;
      within = omega arith;
      below = c.halving.invariant.below;
      above = λ k from lt. all_above xs place c.args.hash c.len-size.ensures.ascending (subst (λ x. c.args.hash < x) there more) k from lt;
      turns = turns_on (length xs) c.args.probe.now.turns c.halving.probe.turns c.at-there.new.self.turns c.halving.size (c.halving.size / 2)
          some (omega arith) (omega (arith, c.at-there.ensures.turns)) c.halving.invariant.turns;
    }

pub returns-clause-place : goal.returns-clause-place
returns-clause-place c =
    let none : c.halving.size ≤ 0 = c.halving-test.false in
    lacks_at_gap c.args.probe.now.hashes c.halving.low c.args.hash c.halving.invariant.below (λ k from lt. c.halving.invariant.above k (omega arith) lt)
