use Rattle.std.proofs.Common.{◌≡◌, ◌*◌, ◌+◌, ◌<◌, ◌≤◌, ℕ, List, length, take, slice_index}
use Rattle.foyer_block_index.specs.declared.tombstone.Tombstone.{Tombstone}
use Rattle.foyer_block_tombstone.specs.Mark.{mark_at}
use Rattle.foyer_block_tombstone.specs.Ring.{IsRead}
use Rattle.foyer_block_tombstone.proofs.block.tombstone.marks.take_marks.Given as goal

abbrev pub invariant-slots : goal.invariant-slots
invariant-slots g l = record {
  read : (ring : ℕ → Tombstone) (base : List Tombstone) → ((j : ℕ) → j < 256 → ring (256 * l.page + j) ≡ mark_at (slice_index l.bytes) (16 * j))
      → IsRead ring (256 * l.page) base l.fn.tombstones.items l.fn.newest.mark l.fn.newest.slot
      → IsRead ring (256 * l.page + l.j) base l.tombstones.items l.newest.mark l.newest.slot;
  before : (length l.fn.tombstones.items ≤ length l.tombstones.items) × (take (length l.fn.tombstones.items) l.tombstones.items ≡ l.fn.tombstones.items);
}
