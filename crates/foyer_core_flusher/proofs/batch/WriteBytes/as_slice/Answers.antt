use Rattle.std.proofs.Common.{sym, ap}
use Rattle.foyer_core_flusher.specs.Issuing.{written_bytes}
use Rattle.foyer_core_flusher.proofs.batch.WriteBytes.as_slice.Goals as goal

pub returns-in-Zeros : goal.returns-in-Zeros
returns-in-Zeros g c = sym (ap written_bytes c.in-Zeros.is)
