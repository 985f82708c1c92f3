use Rattle.std.proofs.Common.{sym}
use Rattle.foyer_block_recover.proofs.MarkLemmas.{goes_older}
use Rattle.foyer_block_recover.proofs.block.marks.remove_older.Goals as goal

pub returns : goal.returns
returns g c = goes_older c.args.index.now.slots c.args.mark.now.hash c.args.mark.now.sequence c.remove.new.self.slots c.in-Some.address c.remove.result (sym c.in-Some.ensures) c.if-address-mark.false
    c.remove.ensures.answer c.remove.ensures.removed
