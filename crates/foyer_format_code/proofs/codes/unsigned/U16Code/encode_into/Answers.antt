use Rattle.foyer_format_code.specs.CodeLaws.{numbers}
use Rattle.std.proofs.Common.{arith}
use Rattle.foyer_format_code.proofs.codes.unsigned.U16Code.encode_into.Goals as goal

pub returns-clause-bytes : goal.returns-clause-bytes
returns-clause-bytes g c = grind (arith, numbers)

pub returns-clause-room : goal.returns-clause-room
returns-clause-room g c = grind (arith, numbers)

pub returns-clause-taken : goal.returns-clause-taken
returns-clause-taken g c = grind (arith, numbers)

pub returns-clause-refused : goal.returns-clause-refused
returns-clause-refused g c = grind (arith, numbers)
