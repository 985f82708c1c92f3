use Rattle.std.proofs.Common.{rules}
use Rattle.foyer_format_record.proofs.serde.entries.EntrySerializer.estimated_size.Goals as goal

pub returns : goal.returns
returns g c = search rules depth 1
