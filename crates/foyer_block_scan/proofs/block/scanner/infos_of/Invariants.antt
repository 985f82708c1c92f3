use Rattle.std.proofs.Common.{◌≡◌, take}
use Rattle.foyer_format_buffer.specs.Listing.{placed}
use Rattle.foyer_block_scan.specs.Scan.{infos_of}
use Rattle.foyer_block_scan.proofs.block.scanner.infos_of.Given as goal

abbrev pub invariant-each_entry : goal.invariant-each_entry
invariant-each_entry g l = l.infos.items ≡ infos_of l.block l.filling (placed l.blob_offset (take l.entry-index l.entries))
