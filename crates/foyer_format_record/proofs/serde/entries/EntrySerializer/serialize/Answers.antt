use Rattle.std.proofs.Common.{arith, rules}
use Rattle.std.proofs.lemmas.Grind.{common_steps}
use Rattle.foyer_format_code.proofs.WritingLemmas.{two_writes}
use Rattle.foyer_format_record.proofs.serde.entries.EntrySerializer.serialize.Goals as goal

pub returns-in_err-encode_into-clause-refused : goal.returns-in_err-encode_into-clause-refused
returns-in_err-encode_into-clause-refused g c = search (rules, two_writes) depth 1

pub returns-in_err-encode_into-2-clause-refused : goal.returns-in_err-encode_into-2-clause-refused
returns-in_err-encode_into-2-clause-refused g c = search (rules, two_writes) depth 1

pub returns-clause-plain : goal.returns-clause-plain
returns-clause-plain g c = search (rules, two_writes) depth 1

pub returns-clause-bytes : goal.returns-clause-bytes
returns-clause-bytes g c = search (rules, two_writes) depth 1

pub returns-clause-lens : goal.returns-clause-lens
returns-clause-lens g c = search (rules, two_writes) depth 1

pub returns-in_err-encode_into-2-clause-kept : goal.returns-in_err-encode_into-2-clause-kept
returns-in_err-encode_into-2-clause-kept g c = grind (arith, common_steps)
