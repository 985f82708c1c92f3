use Rattle.foyer_memcached.proofs.Laws.{same_command, still_refused, fewer, bounded}
use Rattle.foyer_memcached.proofs.Sent.{command_again}
use Rattle.foyer_memcached.proofs.Spelled.{line_again}
use Rattle.foyer_memcached.proofs.command.one_reading.Goals as goal

pub returns-clause-cuts : goal.returns-clause-cuts
returns-clause-cuts c limits bytes more rest command e = same_command limits bytes more (command, rest) e

pub returns-clause-refused : goal.returns-clause-refused
returns-clause-refused c = still_refused

pub returns-clause-progress : goal.returns-clause-progress
returns-clause-progress c limits bytes rest command e = fewer limits bytes (command, rest) e

pub returns-clause-bound : goal.returns-clause-bound
returns-clause-bound c = bounded

pub returns-clause-again : goal.returns-clause-again
returns-clause-again c = command_again

pub returns-clause-words : goal.returns-clause-words
returns-clause-words c = line_again
