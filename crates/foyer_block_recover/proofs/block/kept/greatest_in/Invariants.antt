use Rattle.std.proofs.Common.{◌≡◌, drop}
use Rattle.foyer_block_recover.specs.Kept.{greatest_in}
use Rattle.foyer_block_recover.proofs.block.kept.greatest_in.Given as goal

abbrev pub invariant-each_entry : goal.invariant-each_entry
invariant-each_entry l = greatest_in l.greatest (drop l.entry-index l.batch) ≡ greatest_in l.fn.least l.batch
