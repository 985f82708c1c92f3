use Rattle.std.proofs.Common.{◌≡◌}
use Rattle.foyer_format_blob.specs.Blob.{entries_in}
use Rattle.foyer_format_blob.proofs.blob.BlobIndexReader.read.Given as goal

abbrev pub invariant-entries : goal.invariant-entries
invariant-entries g l = l.entries.items ≡ entries_in l.bytes l.i
