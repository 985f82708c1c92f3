use Rattle.std.proofs.Common.{◌≡◌, ◌+◌, ◌≤◌, ◌++◌, map, drop, length, vec_len, vec_capacity}
use Rattle.foyer_core_steps.specs.Reclaiming.{hashed_of}
use Rattle.foyer_core_steps.proofs.block.reclaimer.list_all.Given as goal

-- what is left to be listed comes behind what is, and finds room
abbrev pub invariant-each_info : goal.invariant-each_info
invariant-each_info g l = record {
  room : vec_len l.listed + length (drop l.info-index l.infos) ≤ vec_capacity l.listed;
  listed : l.listed.items ++ map hashed_of (drop l.info-index l.infos) ≡ l.fn.listed.items ++ map hashed_of l.infos;
}
