use Rattle.foyer_block_index.specs.declared.tombstone.Tombstone.{Tombstone}
use Rattle.foyer_block_recover.specs.declared.block.blocks.BlocksRead.{BlocksRead}
use Rattle.foyer_block_recover.proofs.MarkLemmas.{marked_more}
use Rattle.foyer_block_recover.proofs.block.blocks.BlocksRead.take_marks.Goals as goal

pub each_mark-preserved : goal.each_mark-preserved
each_mark-preserved g c =
    let none : Tombstone = record { hash = 0; sequence = 0 } in
    let before = c.each_mark.self in
    let after : BlocksRead g.row.A.Denot = record { index = c.remove_older.new.index; inserted = before.inserted; greatest = c.max-self.result; clean = before.clean } in
    record {
      taken = marked_more c.args.self.now before after c.args.marks.now c.each_mark.mark-index none c.each_mark-test.true c.max-self.ensures c.remove_older.ensures c.each_mark.invariant.taken;
      clean = c.each_mark.invariant.clean;
    }
