use Rattle.std.proofs.Common.{rules}
use Rattle.foyer_format_blob.proofs.blob.BlobIndex.reset.Goals as goal

pub returns-clause-empty : goal.returns-clause-empty
returns-clause-empty g c = search rules depth 1
