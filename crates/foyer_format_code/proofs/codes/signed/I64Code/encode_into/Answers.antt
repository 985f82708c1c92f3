use Rattle.std.proofs.Common.{arith, rules}
use Rattle.foyer_format_code.specs.IntLaws.{ints}
use Rattle.foyer_format_code.proofs.codes.signed.I64Code.encode_into.Goals as goal

pub returns-clause-bytes : goal.returns-clause-bytes
returns-clause-bytes g c = search (rules, ints) depth 1

pub returns-clause-room : goal.returns-clause-room
returns-clause-room g c = grind (arith, ints)

pub returns-clause-taken : goal.returns-clause-taken
returns-clause-taken g c = grind (arith, ints)

pub returns-clause-refused : goal.returns-clause-refused
returns-clause-refused g c = grind (arith, ints)
