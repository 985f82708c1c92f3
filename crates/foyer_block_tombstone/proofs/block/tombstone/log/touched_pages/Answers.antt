use Rattle.std.proofs.Common.{arith, ◌∙◌}
use Rattle.foyer_block_tombstone.proofs.WriteLemmas.{touched_all, touched_is}
use Rattle.foyer_block_tombstone.proofs.block.tombstone.log.touched_pages.Goals as goal

pub returns-then-count-pages-clause-exact : goal.returns-then-count-pages-clause-exact
returns-then-count-pages-clause-exact c = touched_all c.args.start c.args.count c.args.pages (omega arith) (omega arith)

pub returns-clause-exact : goal.returns-clause-exact
returns-clause-exact c = c.min.ensures ∙ touched_is c.args.start c.args.count c.args.pages c.requires.some
