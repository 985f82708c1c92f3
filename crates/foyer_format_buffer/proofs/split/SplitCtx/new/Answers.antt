use Rattle.std.proofs.Common.{◌≡◌, ℕ, List, [], length, ap, ◌∙◌, arith}
use Rattle.std.proofs.lemmas.List.{length-replicate}
use Rattle.foyer_format_buffer.specs.Position.{Context}
use Rattle.foyer_format_blob.specs.OpenIndex.{entries_of}
use Rattle.foyer_format_blob.specs.declared.blob.BlobEntryIndex.{BlobEntryIndex}
use Rattle.foyer_format_blob.proofs.BlobLemmas.{entries_none}
use Rattle.foyer_format_layout.proofs.PageLaws.{page_up-even}
use Rattle.foyer_format_buffer.proofs.split.SplitCtx.new.Goals as goal

pub new-requires-2 : goal.new-requires-2
new-requires-2 g c =
    let len : length c.in_ok-bytes.bytes ≡ c.args.blob_index_size =
    ap length c.in_ok-bytes.ensures.zeros ∙ length-replicate _ 0 ∙ page_up-even c.args.blob_index_size c.requires.index_pages in
    record { some = omega (arith, c.requires.some, len); small = omega (arith, c.requires.small, c.requires.order, len) }

pub invariant_of-result : goal.invariant_of-result
invariant_of-result g c =
    let r = c.requires in
    let len : length c.in_ok-bytes.bytes ≡ c.args.blob_index_size =
    ap length c.in_ok-bytes.ensures.zeros ∙ length-replicate _ 0 ∙ page_up-even c.args.blob_index_size r.index_pages in (
      r.order,
      omega (arith, r.some, r.index_pages),
      r.small,
      omega arith,
      ap length c.new-2.ensures.bytes ∙ len,
      omega (arith, r.order),
      λ _. omega (arith, r.order),
      omega (arith, c.new-2.ensures.empty, r.some, r.index_pages),
    )

with_listed : ℕ → ℕ → List BlobEntryIndex → Context
with_listed block index listed =
    record { sizes = record { block = block; index = index }; filling = record { blob = 0; at = index; listed = listed } }

pub returns-clause-fresh : goal.returns-clause-fresh
unfolding with_listed
returns-clause-fresh g c =
    let r = c.new-2.result in
    let empty : entries_of r ≡ [] =
    ap (λ (n : ℕ). entries_of (record { bytes = r.bytes; count = n })) c.new-2.ensures.empty ∙ entries_none r.bytes in
    ap (with_listed c.args.block_size c.args.blob_index_size) empty
