use Rattle.foyer_memcached.proofs.Orders.{in_order}
use Rattle.foyer_memcached.proofs.answer.in_order.Goals as goal

pub returns-clause-order : goal.returns-clause-order
returns-clause-order c = in_order
