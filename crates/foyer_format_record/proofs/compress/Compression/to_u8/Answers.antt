use Rattle.std.proofs.Common.{rules}
use Rattle.foyer_format_record.proofs.compress.Compression.to_u8.Goals as goal

pub returns-in-Zstd : goal.returns-in-Zstd
returns-in-Zstd c = search rules depth 1

pub returns-in-Lz4 : goal.returns-in-Lz4
returns-in-Lz4 c = search rules depth 1
