use Rattle.std.proofs.Common.{◌≡◌, ◌++◌, List, take}
use Rattle.foyer_block_recover.specs.BlocksKept.{HoldsFound}
use Rattle.foyer_block_recover.specs.Opening.{Found, all_marked}
use Rattle.foyer_block_recover.specs.Recovery.{marks_of}
use Rattle.foyer_block_recover.proofs.block.blocks.BlocksRead.take_marks.Given as goal

abbrev pub invariant-each_mark : goal.invariant-each_mark
invariant-each_mark g l = record {
  taken : (found : List Found) → HoldsFound l.fn.self found → HoldsFound l.self (found ++ all_marked (marks_of (take l.mark-index l.marks)));
  clean : l.self.clean ≡ l.fn.self.clean;
}
