use Rattle.foyer_memcached.proofs.Turns.{by_mode, by_cas, by_add}
use Rattle.foyer_memcached.proofs.turn.one_version.Goals as goal

pub returns-clause-fresh : goal.returns-clause-fresh
returns-clause-fresh c now cas s value found p e = by_mode now cas s value s.mode found p e

pub returns-clause-own : goal.returns-clause-own
returns-clause-own c now cas s value found p is e = by_cas now cas s value s.mode found p is e

pub returns-clause-add : goal.returns-clause-add
returns-clause-add c now cas s value found p is e = by_add now cas s value s.mode found p is e
