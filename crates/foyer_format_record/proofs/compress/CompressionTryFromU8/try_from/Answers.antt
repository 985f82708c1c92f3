use Rattle.std.proofs.Common.{rules}
use Rattle.foyer_format_record.proofs.compress.CompressionTryFromU8.try_from.Goals as goal

pub returns-in_default : goal.returns-in_default
returns-in_default c = search rules depth 1
