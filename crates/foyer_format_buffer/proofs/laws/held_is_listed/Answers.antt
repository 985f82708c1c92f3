use Rattle.foyer_format_buffer.proofs.HoldsLemmas.{holds_lists}
use Rattle.foyer_format_buffer.proofs.laws.held_is_listed.Goals as goal

pub returns : goal.returns
returns c = holds_lists
