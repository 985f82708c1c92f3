use Rattle.std.proofs.Common.{arith}
use Rattle.foyer_memcached.proofs.Items.{is_found}
use Rattle.foyer_memcached.proofs.item.Item.decode.Goals as goal

pub returns-clause-found : goal.returns-clause-found
returns-clause-found c = is_found c.args.bytes.now c.read_item.result (λ i. omega (arith, c.type_inv.bytes i)) c.read_item.ensures
