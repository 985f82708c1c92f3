use Rattle.std.proofs.Common.{arith}
use Rattle.std.proofs.lemmas.Grind.{common_steps}
use Rattle.foyer_format_blob.specs.Blob.{entry_bytes}
use Rattle.foyer_format_blob.proofs.blob.BlobEntryIndex.write.Goals as goal

pub returns-clause-fits : goal.returns-clause-fits
returns-clause-fits c = record { hash = omega arith; sequence = omega arith; offset = omega arith; len = omega arith }

pub returns-clause-bytes : goal.returns-clause-bytes
unfolding entry_bytes
returns-clause-bytes c = grind (arith, common_steps)
