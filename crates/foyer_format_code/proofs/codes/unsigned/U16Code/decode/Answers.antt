-- The bytes are those of the number that was read.
use Rattle.std.proofs.Common.{rules}
use Rattle.std.specs.Int.{w16}
use Rattle.foyer_format_code.specs.CodeLaws.{number_found}
use Rattle.foyer_format_code.proofs.codes.unsigned.U16Code.decode.Goals as goal

pub returns-clause-found : goal.returns-clause-found
returns-clause-found g c =
    number_found w16 c.args.bytes.now c.from_le_bytes.result (search rules) (λ i. search rules) (search rules) (search rules)
