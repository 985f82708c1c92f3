use Rattle.std.proofs.Common.{◌*◌, sym, ◌∙◌}
use Rattle.foyer_block_tombstone.specs.PageBytes.{ring_on}
use Rattle.foyer_block_tombstone.proofs.StageLemmas.{goes_on}
use Rattle.foyer_block_tombstone.proofs.block.tombstone.log.TombstoneLog.open.Goals as goal

pub returns-in-Ok-clause-slot : goal.returns-in-Ok-clause-slot
returns-in-Ok-clause-slot g c = λ d known.
    let read = c.in-Ok.ensures.read d (sym c.read_pages.ensures.kept ∙ known) in
    rw (c.read_pages.ensures.places, ← c.in-Some.ensures.some.0)
    (goes_on (ring_on d c.in_ok-buffer.buffer.places) (256 * c.in-Some.pages) c.args.tombstones.now.items c.read_pages.new.tombstones.items
    c.in-Ok.newest.mark c.in-Ok.newest.slot read)
