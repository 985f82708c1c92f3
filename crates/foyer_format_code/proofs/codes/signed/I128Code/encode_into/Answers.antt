use Rattle.foyer_format_code.specs.IntLaws.{ints, bytes_of_int}
use Rattle.std.proofs.Common.{arith, ◌≡◌, rules, ap, sym, ◌∙◌}
-- What is written is the number's encoding.
use Rattle.std.proofs.lemmas.Int.{to_z-of_z}
use Rattle.std.specs.Int.{w128, to_le_bytes, cast_unsigned}
use Rattle.std.specs.Int.RustNames.{FitsSigned}
use Rattle.foyer_format_code.specs.Codes.{int_bytes}
use Rattle.foyer_format_code.proofs.codes.signed.I128Code.encode_into.Goals as goal

pub returns-clause-bytes : goal.returns-clause-bytes
returns-clause-bytes g c =
    let z = c.args.self.now in
    let fits : FitsSigned w128 z = search rules in
    let given = c.to_le_bytes.ensures ∙ ap (λ y. to_le_bytes w128 (cast_unsigned w128 y)) (to_z-of_z w128 z fits) in
    let same : int_bytes w128 z ≡ c.to_le_bytes.result = bytes_of_int w128 z fits ∙ sym given in
    rw same c.put.ensures.bytes

pub returns-clause-room : goal.returns-clause-room
returns-clause-room g c = grind (arith, ints)

pub returns-clause-taken : goal.returns-clause-taken
returns-clause-taken g c = grind (arith, ints)

pub returns-clause-refused : goal.returns-clause-refused
returns-clause-refused g c = grind (arith, ints)
