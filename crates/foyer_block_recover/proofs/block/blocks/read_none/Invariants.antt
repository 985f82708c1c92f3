use Rattle.std.proofs.Common.{[]}
use Rattle.foyer_block_recover.specs.BlocksKept.{HoldsKept}
use Rattle.foyer_block_recover.proofs.block.blocks.read_none.Given as goal

abbrev pub invariant-each_id : goal.invariant-each_id
invariant-each_id g l = HoldsKept l.read l.block (λ b. [])
