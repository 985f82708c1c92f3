use Rattle.std.proofs.Common.{◌≡◌, ◌%◌, length, ap, arith}
use Rattle.foyer_block_index.proofs.Filling.{filled_removed}
use Rattle.foyer_block_index.proofs.shards.remove.Goals as goal

pub returns-then-is_held-clause-filled : goal.returns-then-is_held-clause-filled
returns-then-is_held-clause-filled g c =
    let count : length c.args.shards.now.items ≡ c.len.result = omega (arith, c.len.ensures, c.vacate-is_held.ensures.len) in
    filled_removed c.args.shards.now.items c.vacate-is_held.new.shards.items c.sweep.new.shards.items c.args.hash _ c.vacate-is_held.ensures.len c.sweep.ensures.len
    (ap (λ n. c.args.hash % n) count) c.if-is_held.ensures.removed c.sweep.ensures.same c.vacate-is_held.ensures.places c.sweep.ensures.places c.sweep.ensures.filled
