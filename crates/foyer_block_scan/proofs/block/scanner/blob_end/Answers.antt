use Rattle.std.proofs.Common.{◌≡◌, ℕ, ◌+◌, ◌-◌, ◌<◌, ◌≤◌, length, slice_index_or, ap, ◌∙◌, arith}
use Rattle.foyer_format_layout.specs.Page.{page_up}
use Rattle.foyer_format_layout.specs.Position.{Sizes}
use Rattle.foyer_format_buffer.specs.Listing.{Fits}
use Rattle.foyer_block_scan.proofs.ScanLemmas.{fit_at, behind_last, some_there}
use Rattle.foyer_format_buffer.specs.BlobEntryIndex.{BlobEntryIndex}
use Rattle.foyer_block_scan.proofs.block.scanner.blob_end.Goals as goal

pub overflow_add-result-3 : goal.overflow_add-result-3
overflow_add-result-3 c =
    let s : Sizes = record { block = c.args.block_size; index = c.args.index_size } in
    let none : BlobEntryIndex = record { hash = 0; sequence = 0; offset = 0; len = 0 } in
    let i : ℕ = length c.args.entries.now - 1 in
    let lt : 0 < length c.args.entries.now = some_there (length c.args.entries.now) c.is_empty.result c.is_empty.ensures c.if-is_empty.false in
    let f : Fits s c.args.blob_offset (slice_index_or c.args.entries.now i none) =
    fit_at s c.args.blob_offset c.args.entries.now i none c.requires.within (omega arith) in
    let within : c.args.blob_offset + (slice_index_or c.args.entries.now i none).offset + page_up (slice_index_or c.args.entries.now i none).len ≤ c.args.block_size = f.within in
    let is : c.aligned.result ≡ page_up (slice_index_or c.args.entries.now i none).len = c.aligned.ensures in
    omega arith

pub returns-clause-behind : goal.returns-clause-behind
returns-clause-behind c =
    let s : Sizes = record { block = c.args.block_size; index = c.args.index_size } in
    let none : BlobEntryIndex = record { hash = 0; sequence = 0; offset = 0; len = 0 } in
    let i : ℕ = length c.args.entries.now - 1 in
    let lt : 0 < length c.args.entries.now = some_there (length c.args.entries.now) c.is_empty.result c.is_empty.ensures c.if-is_empty.false in
    ap (λ n. c.args.blob_offset + (slice_index_or c.args.entries.now i none).offset + n) c.aligned.ensures
    ∙ behind_last s c.args.blob_offset c.args.entries.now i none (omega arith)

pub returns-clause-small : goal.returns-clause-small
returns-clause-small c =
    let s : Sizes = record { block = c.args.block_size; index = c.args.index_size } in
    let none : BlobEntryIndex = record { hash = 0; sequence = 0; offset = 0; len = 0 } in
    let i : ℕ = length c.args.entries.now - 1 in
    let lt : 0 < length c.args.entries.now = some_there (length c.args.entries.now) c.is_empty.result c.is_empty.ensures c.if-is_empty.false in
    let f : Fits s c.args.blob_offset (slice_index_or c.args.entries.now i none) =
    fit_at s c.args.blob_offset c.args.entries.now i none c.requires.within (omega arith) in
    let within : c.args.blob_offset + (slice_index_or c.args.entries.now i none).offset + page_up (slice_index_or c.args.entries.now i none).len ≤ c.args.block_size = f.within in
    let is : c.aligned.result ≡ page_up (slice_index_or c.args.entries.now i none).len = c.aligned.ensures in
    omega arith
