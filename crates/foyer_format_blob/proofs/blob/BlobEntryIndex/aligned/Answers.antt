use Rattle.std.proofs.Common.{rules}
use Rattle.foyer_format_layout.proofs.PageLaws.{pages}
use Rattle.foyer_format_blob.proofs.blob.BlobEntryIndex.aligned.Goals as goal

pub returns : goal.returns
returns c = search (rules, pages) depth 1
