use Rattle.std.proofs.Common.{◌≡◌, [], ap, ◌∙◌}
use Rattle.foyer_format_blob.proofs.BlobLemmas.{entries_none}
use Rattle.foyer_format_blob.specs.Blob.{entries_in}
use Rattle.foyer_format_blob.specs.OpenIndex.{entries_of}
use Rattle.foyer_format_buffer.specs.Position.{Context, fresh_context}
use Rattle.foyer_format_buffer.proofs.split.SplitCtx.reset.Goals as goal

pub returns : goal.returns
returns g c =
    let i = c.self.inside in
    let none : entries_of c.reset.new.self ≡ [] = ap (entries_in c.reset.new.self.bytes) c.reset.ensures.empty ∙ entries_none c.reset.new.self.bytes in
    ap (λ l. record { sizes = record { block = i.block_size; index = i.blob_index_size }; filling = record { blob = 0; at = i.blob_index_size; listed = l } }) none
    ∙ ap (λ (v : Context). fresh_context v.sizes) c.self.view_is
