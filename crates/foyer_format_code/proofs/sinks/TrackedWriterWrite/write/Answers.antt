use Rattle.std.proofs.Common.{rules}
use Rattle.foyer_format_code.proofs.sinks.TrackedWriterWrite.write.Goals as goal

pub returns-clause-written : goal.returns-clause-written
returns-clause-written g c = search rules depth 1
