use Rattle.foyer_format_buffer.proofs.HoldsLemmas.{holds_fresh}
use Rattle.foyer_format_buffer.proofs.laws.fresh_holds.Goals as goal

pub returns : goal.returns
returns c = holds_fresh
