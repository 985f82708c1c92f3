use Rattle.std.proofs.Common.{◌≡◌, ◌+◌, ◌≤◌, ◌++◌, map, drop, length}
use Rattle.std.specs.VecDeque.{deque_len, deque_capacity}
use Rattle.foyer_core_steps.specs.Reclaiming.{hashed_of, chosen}
use Rattle.foyer_core_steps.proofs.block.reclaimer.admit_all.Given as goal

-- what is left comes behind what was admitted, and finds room
abbrev pub invariant-each_info : goal.invariant-each_info
invariant-each_info g l = record {
  room : deque_len l.admitted + length (drop l.i l.infos) ≤ deque_capacity l.admitted;
  all : length l.verdicts ≡ length l.infos;
  admitted : l.admitted.items ++ chosen (drop l.i l.verdicts) (map hashed_of (drop l.i l.infos)) ≡ l.fn.admitted.items ++ chosen l.verdicts (map hashed_of l.infos);
}
