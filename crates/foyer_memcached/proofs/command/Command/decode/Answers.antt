use Rattle.foyer_memcached.proofs.Laws.{leaves_fewer, stays, holds_few}
use Rattle.foyer_memcached.proofs.command.Command.decode.Goals as goal

pub returns-clause-progress : goal.returns-clause-progress
returns-clause-progress c = leaves_fewer c.args.limits c.args.bytes.now c.read_command.result c.read_command.ensures

pub returns-clause-cuts : goal.returns-clause-cuts
returns-clause-cuts c = stays c.args.limits c.args.bytes.now c.read_command.result c.read_command.ensures

pub returns-clause-bound : goal.returns-clause-bound
returns-clause-bound c = holds_few c.args.limits c.args.bytes.now c.read_command.result c.read_command.ensures
