use Rattle.std.proofs.Common.{◌≡◌, ◌+◌, ◌<◌, drop}
use Rattle.foyer_format_blob.specs.Blob.{capacity_of}
use Rattle.foyer_format_buffer.specs.Position.{taken}
use Rattle.foyer_format_buffer.specs.Splitting.{Going, sizes_of}
use Rattle.foyer_format_buffer.proofs.split.Splitter.split.Given as goal

abbrev pub invariant-infos : goal.invariant-infos
invariant-infos g l = record {
  going : Going l.fn.bytes l.fn.ctx.filling l.info-items l.split (drop l.info-index l.info-items);
  sizes : sizes_of l.split ≡ l.fn.ctx.sizes;
  sum : l.split.start + l.split.size + taken (drop l.info-index l.info-items) ≡ taken l.info-items;
  room : l.split.index.count < capacity_of l.split.index_size;
}
