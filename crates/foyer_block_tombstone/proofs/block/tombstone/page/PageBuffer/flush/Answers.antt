use Rattle.foyer_block_tombstone.proofs.block.tombstone.page.PageBuffer.flush.Goals as goal

pub returns-clause-written : goal.returns-clause-written
returns-clause-written g c = rw (← c.self.view_is, c.in-Some.is, ← c.deref.ensures.value, ← c.as_slice.ensures.value) c.write_page.ensures.written
