use Rattle.std.proofs.Common.{rules}
use Rattle.foyer_format_buffer.proofs.EntriesLemmas.{no_entries}
use Rattle.foyer_format_buffer.proofs.entries.Buffer.new.Goals as goal

pub returns-clause-greatest : goal.returns-clause-greatest
returns-clause-greatest g c = search (rules, no_entries) depth 1

pub invariant_of-result-2 : goal.invariant_of-result-2
invariant_of-result-2 g c = search (rules, no_entries) depth 1
