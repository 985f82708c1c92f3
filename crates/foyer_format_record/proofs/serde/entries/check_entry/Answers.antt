use Rattle.std.proofs.Common.{rules}
use Rattle.foyer_format_record.specs.Record.{outer_fault}
use Rattle.foyer_format_record.proofs.serde.entries.check_entry.Goals as goal

pub returns : goal.returns
unfolding outer_fault
returns c = search rules depth 1

pub returns-in_default-compression : goal.returns-in_default-compression
unfolding outer_fault
returns-in_default-compression c = search rules depth 1
