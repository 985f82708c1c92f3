use Rattle.foyer_format_code.specs.IntLaws.{ints}
use Rattle.std.proofs.Common.{arith}
use Rattle.foyer_format_code.proofs.codes.signed.I8Code.encode_into.Goals as goal

pub returns-clause-bytes : goal.returns-clause-bytes
returns-clause-bytes g c = grind (arith, ints)

pub returns-clause-room : goal.returns-clause-room
returns-clause-room g c = grind (arith, ints)

pub returns-clause-taken : goal.returns-clause-taken
returns-clause-taken g c = grind (arith, ints)

pub returns-clause-refused : goal.returns-clause-refused
returns-clause-refused g c = grind (arith, ints)
