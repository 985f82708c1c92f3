use Rattle.foyer_format_buffer.proofs.StoredLemmas.{records_entries}
use Rattle.foyer_format_buffer.proofs.laws.records_are_entries.Goals as goal

pub returns : goal.returns
returns c = records_entries
