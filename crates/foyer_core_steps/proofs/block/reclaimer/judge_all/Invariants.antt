use Rattle.std.proofs.Common.{◌≡◌, ◌≤◌, ◌+◌, take, drop, length, vec_len, vec_capacity}
use Rattle.std.specs.List.{AllZip}
use Rattle.foyer_core_steps.specs.Reclaiming.{IsVerdictOn}
use Rattle.foyer_core_steps.proofs.block.reclaimer.judge_all.Given as goal

-- what is left to be judged finds room, and the verdicts so far are those on what comes before
abbrev pub invariant-each_info : goal.invariant-each_info
invariant-each_info g l = record {
  room : vec_len l.verdicts + length (drop l.info-index l.infos) ≤ vec_capacity l.verdicts;
  count : vec_len l.verdicts ≡ l.info-index;
  verdicts : AllZip (IsVerdictOn g.C.StorageFilterCondition.may_answer l.filter l.io) (take l.info-index l.infos) l.verdicts.items;
}
