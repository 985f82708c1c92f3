use Rattle.std.proofs.Common.{◌≡◌, ◌<◌, ◌≤◌, ◌+◌, List, [], ◌∷◌, ◌++◌, length, slice_index_or, ap, sym, ◌∙◌, arith}
use Rattle.foyer_format_layout.specs.Page.{page_up}
use Rattle.foyer_format_layout.proofs.PageLaws.{page_up-holds}
use Rattle.foyer_format_layout.specs.Position.{Sizes}
use Rattle.foyer_format_buffer.specs.Listing.{Fits, placed}
use Rattle.foyer_block_scan.specs.Scan.{infos_of}
use Rattle.foyer_block_scan.specs.declared.block.scanner.EntryInfo.{EntryInfo}
use Rattle.foyer_block_scan.proofs.ScanLemmas.{fit_at, infos_more}
use Rattle.foyer_format_buffer.specs.BlobEntryIndex.{BlobEntryIndex}
use Rattle.foyer_block_scan.proofs.block.scanner.infos_of.Goals as goal

pub overflow_cast-blob_offset : goal.overflow_cast-blob_offset
overflow_cast-blob_offset g c =
    let s : Sizes = record { block = c.args.block_size; index = c.args.index_size } in
    let none : BlobEntryIndex = record { hash = 0; sequence = 0; offset = 0; len = 0 } in
    let e : BlobEntryIndex = slice_index_or c.args.entries.now c.each_entry.entry-index none in
    let lt : c.each_entry.entry-index < length c.args.entries.now = omega arith in
    let f : Fits s c.args.blob_offset e = fit_at s c.args.blob_offset c.args.entries.now c.each_entry.entry-index none c.requires.within lt in
    let some : 0 < e.len = f.some in
    let within : c.args.blob_offset + e.offset + page_up e.len ≤ c.args.block_size = f.within in
    let holds : e.len ≤ page_up e.len = page_up-holds e.len in
    omega arith

pub each_entry-preserved : goal.each_entry-preserved
each_entry-preserved g c =
    let none : BlobEntryIndex = record { hash = 0; sequence = 0; offset = 0; len = 0 } in
    let lt : c.each_entry.entry-index < length c.args.entries.now = omega arith in
    let more = infos_more c.args.block c.args.filling c.args.blob_offset c.args.entries.now c.each_entry.entry-index none lt in
    c.in_ok-push.ensures.items ∙ ap (λ (l : List EntryInfo). l ++ infos_of c.args.block c.args.filling (placed c.args.blob_offset (slice_index_or c.args.entries.now c.each_entry.entry-index none ∷ []))) c.each_entry.invariant ∙ sym more
