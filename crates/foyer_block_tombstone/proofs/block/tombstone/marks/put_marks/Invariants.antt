use Rattle.std.proofs.Common.{◌≡◌, ◌*◌, ◌+◌, ◌<◌, ◌≤◌, ℕ, slice_index}
use Rattle.foyer_block_tombstone.specs.Mark.{mark_at}
use Rattle.foyer_block_tombstone.specs.Ring.{IsPutAt}
use Rattle.foyer_block_tombstone.proofs.block.tombstone.marks.put_marks.Given as goal

abbrev pub invariant-slots : goal.invariant-slots
invariant-slots l = record {
  done : (i : ℕ) → i < l.j → IsPutAt l.slots l.start l.marks (256 * l.page + i) (mark_at (slice_index l.fn.bytes) (16 * i)) (mark_at (slice_index l.bytes) (16 * i));
  rest : (o : ℕ) → 16 * l.j ≤ o → slice_index l.bytes o ≡ slice_index l.fn.bytes o;
}
