use Rattle.std.proofs.Common.{◌+◌, ◌≤◌, length, vec_len}
use Rattle.foyer_storage_workers.proofs.recover.list_blocks.Given as goal

abbrev pub invariant-each_recoverer : goal.invariant-each_recoverer
invariant-each_recoverer g l = (vec_len l.listed ≤ 0) × (vec_len l.running + length l.recoverer-iterator.rest.items ≤ vec_len l.fn.recoverers)

abbrev pub invariant-each_thread : goal.invariant-each_thread
invariant-each_thread g l = vec_len l.listed + length l.thread-iterator.rest.items ≤ vec_len l.fn.recoverers
