use Rattle.std.proofs.Common.{rules}
use Rattle.foyer_format_blob.proofs.blob.BlobEntryIndex.serialized_len.Goals as goal

pub returns : goal.returns
returns c = search rules depth 1
