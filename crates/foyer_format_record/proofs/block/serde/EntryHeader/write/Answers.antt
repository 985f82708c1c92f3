use Rattle.std.proofs.Common.{arith}
use Rattle.std.proofs.lemmas.Grind.{common_steps}
use Rattle.foyer_format_record.specs.Header.{header_bytes}
use Rattle.foyer_format_record.proofs.block.serde.EntryHeader.write.Goals as goal

pub returns : goal.returns
unfolding header_bytes
returns c = grind (arith, common_steps)
