use Rattle.std.proofs.Common.{rules}
use Rattle.foyer_format_blob.proofs.blob.BlobIndex.capacity.Goals as goal

pub returns : goal.returns
returns g c = search rules depth 1
