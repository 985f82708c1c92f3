use Rattle.std.proofs.Common.{◌≡◌, ◌*◌, ◌%◌, ◌≤◌}
use Rattle.std.specs.Prelude.{All}
use Rattle.foyer_format_buffer.specs.Position.{FitsBlock, taken}
use Rattle.test_format.proofs.tests.split.split.Given as goal

abbrev pub invariant-records : goal.invariant-records
invariant-records l = record {
  each : All (FitsBlock l.fn.ctx.sizes) l.infos.items;
  sum : taken l.infos.items ≡ l.room;
  small : l.room ≤ 12288 * l.hash-index;
}
