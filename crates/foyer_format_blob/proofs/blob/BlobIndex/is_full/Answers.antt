use Rattle.std.proofs.Common.{rules}
use Rattle.foyer_format_blob.proofs.blob.BlobIndex.is_full.Goals as goal

pub returns-clause-full : goal.returns-clause-full
returns-clause-full g c = search rules depth 1
