use Rattle.std.proofs.Common.{arith, rules}
use Rattle.std.proofs.lemmas.Grind.{common_steps}
use Rattle.foyer_format_code.proofs.WritingLemmas.{two_writes}
use Rattle.foyer_format_code.specs.CodeLaws.{sized_number}
use Rattle.foyer_format_code.proofs.codes.counted.VecU8Code.encode_into.Goals as goal

pub returns-clause-bytes : goal.returns-clause-bytes
returns-clause-bytes g c = grind (arith, common_steps, two_writes, sized_number)

pub returns-clause-taken : goal.returns-clause-taken
returns-clause-taken g c = search (rules, two_writes, sized_number) depth 1

pub returns-clause-kept : goal.returns-clause-kept
returns-clause-kept g c = grind (arith, common_steps)
