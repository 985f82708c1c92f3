use Rattle.std.proofs.Common.{◌≡◌, ◌≤◌, length, replicate, true, vec_len, ap, ◌∙◌, arith}
use Rattle.foyer_core_run.proofs.ListLemmas.{all_same}
use Rattle.foyer_core_run.proofs.moves.steps.note_all.Goals as goal

pub returns : goal.returns
returns g c =
    let cleans = c.each_block.cleans in
    let count : length cleans.items ≡ vec_len c.args.cleans.now = omega (arith, c.each_block.invariant.count, c.args.cleans.now.ok) in
    let over : length cleans.items ≤ c.each_block.block = omega (arith, count, c.each_block-test.false, c.len-block-end.ensures) in
    record { noted = all_same cleans.items true (λ i lt. c.each_block.invariant.set i (omega (arith, lt, over))) ∙ ap (λ n. replicate n true) count }
