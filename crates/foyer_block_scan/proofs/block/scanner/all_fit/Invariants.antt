use Rattle.std.proofs.Common.{◌≡◌, drop}
use Rattle.foyer_block_scan.specs.IndexBytes.{all_fit}
use Rattle.foyer_block_scan.proofs.block.scanner.all_fit.Given as goal

abbrev pub invariant-loop-entry : goal.invariant-loop-entry
invariant-loop-entry l =
    all_fit (record { block = l.block_size; index = l.index_size }) l.blob_offset l.entries
    ≡ all_fit (record { block = l.block_size; index = l.index_size }) l.blob_offset (drop l.entry-index l.entries)
