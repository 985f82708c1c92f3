use Rattle.std.proofs.Common.{sym}
use Rattle.foyer_block_tombstone.specs.Pages.{PageAt}
use Rattle.foyer_block_tombstone.proofs.LocateLemmas.{has_at}
use Rattle.foyer_block_tombstone.proofs.block.tombstone.pages.write_page.Goals as goal

pub returns-clause-outside : goal.returns-clause-outside
returns-clause-outside g c = λ d known refused.
    let h = rw c.into_inner-outcome.ensures at (c.write.ensures.outside d known) in
    let at : PageAt = record { extent = g.P.Partition.extent c.in-Some.partition.now; size = g.P.Partition.bytes c.in-Some.partition.now; offset = c.in-Some.offset } in
    has_at at (sym c.in-Some.ensures) (rw c.requires at (h refused))
