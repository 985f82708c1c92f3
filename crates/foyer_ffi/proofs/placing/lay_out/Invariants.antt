use Rattle.std.proofs.Common.{◌≡◌, ◌-◌, length}
use Rattle.foyer_format_layout.specs.Page.{page_up}
use Rattle.foyer_ffi.proofs.LayoutLemmas.{AreTaken}
use Rattle.foyer_ffi.proofs.placing.lay_out.Given as goal

abbrev pub invariant-buffers : goal.invariant-buffers
invariant-buffers l = record {
  value : l.value.items ≡ l.fn.value;
  block : l.ctx.sizes.block ≡ 16777216;
  index : l.ctx.sizes.index ≡ 4096;
  room : length l.pages ≡ page_up l.size;
  taken : AreTaken l.fn.value l.records l.key l.taken;
}

abbrev pub decreases-buffers : goal.decreases-buffers
decreases-buffers l = l.records - l.key
