use Rattle.std.proofs.Common.{◌≡◌, ◌+◌, ◌<◌, ◌≤◌, length}
use Rattle.foyer_format_layout.specs.Page.{page_up}
use Rattle.foyer_ffi.specs.LaidOut.{record_len}
use Rattle.foyer_ffi.proofs.LayoutLemmas.{AreLong}
use Rattle.foyer_ffi.proofs.placing.fill.Given as goal

abbrev pub invariant-keys : goal.invariant-keys
invariant-keys l = record {
  each : AreLong (record_len (length l.value.items)) l.buffer.entries;
  within : 0 < length l.buffer.entries → page_up (record_len (length l.value.items)) ≤ l.buffer.greatest;
  greatest : l.buffer.greatest ≡ l.fn.buffer.greatest;
  room : l.buffer.room ≡ l.fn.buffer.room;
  count : l.key-counter ≡ l.first + length l.buffer.entries;
}
