use Rattle.std.proofs.Common.{arith, rules}
use Rattle.std.proofs.lemmas.Grind.{common_steps}
use Rattle.foyer_format_code.proofs.codes.flags.BoolCode.decode.Goals as goal

pub returns-in-1-clause-found : goal.returns-in-1-clause-found
returns-in-1-clause-found g c = grind (arith, common_steps)

pub returns-in-1-clause-is_decodable : goal.returns-in-1-clause-is_decodable
returns-in-1-clause-is_decodable g c = search rules depth 1

pub returns-in-0-clause-found : goal.returns-in-0-clause-found
returns-in-0-clause-found g c = grind (arith, common_steps)
