use Rattle.std.proofs.Common.{arith}
use Rattle.std.proofs.lemmas.Grind.{common_steps}
use Rattle.foyer_format_record.specs.Header.{header_of, number_at}
use Rattle.foyer_format_record.proofs.block.serde.EntryHeader.read_exactly.Goals as goal

pub returns-in-Err : goal.returns-in-Err
unfolding header_of number_at
returns-in-Err c = grind (arith, common_steps)

pub returns-in-Ok : goal.returns-in-Ok
unfolding header_of number_at
returns-in-Ok c = grind (arith, common_steps)

pub returns-then-word : goal.returns-then-word
unfolding header_of number_at
returns-then-word c = grind (arith, common_steps)
