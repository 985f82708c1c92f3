use Rattle.std.proofs.Common.{◌≡◌, ◌≤◌, ◌*◌, length, take}
use Rattle.std.specs.Prelude.{IfSome}
use Rattle.foyer_io_engine.specs.Disk.{IfKnown}
use Rattle.foyer_block_tombstone.specs.PageBytes.{HoldsPage, ring_on}
use Rattle.foyer_block_tombstone.specs.Ring.{IsRead}
use Rattle.foyer_block_tombstone.proofs.block.tombstone.log.read_pages.Given as goal

abbrev pub invariant-pages : goal.invariant-pages
invariant-pages g l = record {
  places : l.buffer.places ≡ l.fn.buffer.places;
  kept : g.E.IoEngine.disk l.buffer.engine ≡ g.E.IoEngine.disk l.fn.buffer.engine;
  writes : l.buffer.writes ≡ l.fn.buffer.writes;
  read : IfKnown (g.E.IoEngine.disk l.fn.buffer.engine) (λ d.
      IsRead (ring_on d l.fn.buffer.places) (256 * l.page) l.fn.tombstones.items l.tombstones.items l.newest.mark l.newest.slot);
  counted : g.E.IoEngine.faults l.fn.buffer.engine ≤ g.E.IoEngine.faults l.buffer.engine;
  fresh : IfSome l.buffer.page (λ n. IfKnown (g.E.IoEngine.disk l.buffer.engine) (λ d. HoldsPage d l.fn.buffer.places n l.buffer.bytes));
  before : (length l.fn.tombstones.items ≤ length l.tombstones.items) × (take (length l.fn.tombstones.items) l.tombstones.items ≡ l.fn.tombstones.items);
}
