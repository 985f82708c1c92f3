use Rattle.std.proofs.Common.{rules}
use Rattle.foyer_format_record.proofs.serde.ages.AgeDefault.default.Goals as goal

pub returns : goal.returns
returns c = search rules depth 1
