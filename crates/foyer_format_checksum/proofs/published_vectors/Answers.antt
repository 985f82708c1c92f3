use Rattle.foyer_format_checksum.proofs.Vectors32.{xxh32_vectors}
use Rattle.foyer_format_checksum.proofs.Vectors64.{xxh64_vectors}
use Rattle.foyer_format_checksum.proofs.published_vectors.Goals as goal

pub returns-clause-long : goal.returns-clause-long
returns-clause-long c = xxh64_vectors

pub returns-clause-short : goal.returns-clause-short
returns-clause-short c = xxh32_vectors
