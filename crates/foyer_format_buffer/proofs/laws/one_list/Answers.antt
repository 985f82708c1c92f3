use Rattle.foyer_format_buffer.proofs.ListingLemmas.{lists_one}
use Rattle.foyer_format_buffer.proofs.laws.one_list.Goals as goal

pub returns : goal.returns
returns c = lists_one
