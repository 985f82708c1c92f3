use Rattle.std.proofs.Common.{◌≡◌, ◌∷◌, [], ◌++◌, length, ap, arith, length-append}
use Rattle.foyer_block_index.proofs.Found.{map_of-no_entries, no_entries-push}
use Rattle.foyer_block_index.proofs.shards.empty.Goals as goal

pub loop-preserved : goal.loop-preserved
loop-preserved g c =
    let pushed : length c.push.new.self.items ≡ length (c.loop.made.items ++ c.new.result ∷ []) = ap length c.in_ok-push.ensures.items in
    record {
      len = omega (arith, pushed, length-append c.loop.made.items (c.new.result ∷ []), c.loop.invariant.len);
      none = rw c.in_ok-push.ensures.items (no_entries-push c.loop.made.items c.new.result c.new.ensures c.loop.invariant.none);
    }

pub returns-clause-empty : goal.returns-clause-empty
returns-clause-empty g c = map_of-no_entries c.loop.made.items c.loop.invariant.none
