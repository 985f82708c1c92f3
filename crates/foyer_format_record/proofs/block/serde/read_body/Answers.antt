use Rattle.foyer_format_record.proofs.RecordLemmas.{bodies}
use Rattle.std.proofs.Common.{arith}
use Rattle.foyer_format_record.proofs.block.serde.read_body.Goals as goal

pub returns-then-eq-clause-absent : goal.returns-then-eq-clause-absent
returns-then-eq-clause-absent g c = grind (arith, bodies)

pub returns-in-Ok-clause-pair : goal.returns-in-Ok-clause-pair
returns-in-Ok-clause-pair g c = grind (arith, bodies)

pub returns-else-eq-2-clause-fault : goal.returns-else-eq-2-clause-fault
returns-else-eq-2-clause-fault g c = grind (arith, bodies)
