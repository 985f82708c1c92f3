use Rattle.std.proofs.Common.{arith}
use Rattle.std.proofs.lemmas.Grind.{common_steps}
use Rattle.foyer_format_blob.specs.Blob.{entry_of}
use Rattle.foyer_format_record.specs.Header.{number_at}
use Rattle.foyer_format_blob.proofs.blob.BlobEntryIndex.read.Goals as goal

pub returns : goal.returns
unfolding entry_of number_at
returns c = grind (arith, common_steps)
