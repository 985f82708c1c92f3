use Rattle.foyer_block_tombstone.proofs.MemoryLemmas.{lent_memory}
use Rattle.foyer_block_tombstone.proofs.block.tombstone.page.PageBuffer.as_mut_slice.Goals as goal

pub invariant_of-self-lent : goal.invariant_of-self-lent
invariant_of-self-lent g c = λ bytes. lent_memory c.self.inside.page c.self.inside.shown c.self.inside.spare bytes c.self.invariant
