use Rattle.std.proofs.Common.{◌≡◌, ℕ, ◌<◌, length, slice_get, Some, true}
use Rattle.foyer_core_run.proofs.moves.steps.note_all.Given as goal

abbrev pub invariant-each_block : goal.invariant-each_block
invariant-each_block g l = record {
  count : length l.cleans.items ≡ length l.fn.cleans.items;
  set : (i : ℕ) → i < l.block → slice_get l.cleans.items i ≡ Some true;
}
