use Rattle.std.proofs.Common.{refl, sym, ◌∙◌}
use Rattle.foyer_block_index.proofs.Found.{shard_of, get-here}
use Rattle.foyer_block_index.proofs.shards.find.Goals as goal

pub returns : goal.returns
returns g c =
    let own = shard_of c.args.shards.now c.args.hash _ c.index-shards-hash.result refl c.requires c.index-shards-hash.is in
    c.get.ensures ∙ sym (get-here c.args.shards.now c.args.hash _ c.index-shards-hash.result c.index-shards-hash.result own)
