use Rattle.foyer_memcached.proofs.Items.{item_again, one_item}
use Rattle.foyer_memcached.proofs.item.one_reading.Goals as goal

pub returns-clause-again : goal.returns-clause-again
returns-clause-again c = item_again

pub returns-clause-only : goal.returns-clause-only
returns-clause-only c = one_item
