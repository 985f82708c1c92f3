-- The bytes are those of the number that was read.
use Rattle.std.proofs.Common.{rules, ap, ◌∙◌}
use Rattle.std.proofs.lemmas.Int.{to_z-of_z}
use Rattle.std.specs.Int.{w8}
use Rattle.std.specs.Int.RustNames.{FitsSigned}
use Rattle.foyer_format_code.specs.Codes.{int_bytes}
use Rattle.foyer_format_code.specs.IntLaws.{int_found}
use Rattle.foyer_format_code.proofs.codes.signed.I8Code.decode.Goals as goal

pub returns-clause-found : goal.returns-clause-found
returns-clause-found g c =
    let z = c.from_le_bytes.result in
    let fits : FitsSigned w8 z = search rules in
    ap (int_bytes w8) (to_z-of_z w8 z fits)
    ∙ int_found w8 c.args.bytes.now z (search rules) (λ i. search rules) fits (search rules)
