use Rattle.std.proofs.Common.{◌≡◌, None, replicate}
use Rattle.foyer_block_recover.proofs.block.listing.Listings.new.Given as goal

abbrev pub invariant-each_block : goal.invariant-each_block
invariant-each_block g l = l.slots.items ≡ replicate l.counter None
