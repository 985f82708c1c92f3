use Rattle.std.proofs.Common.{rules}
use Rattle.foyer_format_code.proofs.codes.counted.VecU8Code.decode.Goals as goal

pub returns-in_ok-from_slice-in-Some-clause-found :
    goal.returns-in_ok-from_slice-in-Some-clause-found
returns-in_ok-from_slice-in-Some-clause-found g c = search rules depth 1
