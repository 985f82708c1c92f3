use Rattle.std.proofs.Common.{◌≡◌, ◌+◌, ◌≤◌, drop, take, length, vec_len, vec_capacity, sym, subst, arith}
use Rattle.std.specs.List.{AllZip}
use Rattle.foyer_core_steps.specs.Reclaiming.{IsVerdictOn}
use Rattle.foyer_core_steps.proofs.AdmitLemmas.{zipped_more, less_left}
use Rattle.foyer_core_steps.proofs.block.reclaimer.judge_all.Goals as goal

pub each_info-preserved : goal.each_info-preserved
each_info-preserved g c =
    let infos = c.args.infos.now in
    let i = c.each_info.info-index in
    let left : length (drop i infos) ≡ length (drop (i + 1) infos) + 1 = less_left infos i c.each_info-test.true in
    let long : vec_len c.push_reserved.new.self ≡ vec_len c.each_info.verdicts + 1 = c.push_reserved.ensures.len in
    let room : vec_capacity c.push_reserved.new.self ≡ vec_capacity c.each_info.verdicts = c.push_reserved.ensures.capacity in
    let fits : vec_len c.each_info.verdicts + length (drop i infos) ≤ vec_capacity c.each_info.verdicts = c.each_info.invariant.room in
    let count : vec_len c.each_info.verdicts ≡ i = c.each_info.invariant.count in
    record {
      room = omega arith;
      count = omega arith;
      verdicts = subst (λ vs. AllZip (IsVerdictOn g.C.StorageFilterCondition.may_answer c.args.filter.now c.args.io.now) (take (i + 1) infos) vs) (sym c.push_reserved.ensures.items)
          (zipped_more (IsVerdictOn g.C.StorageFilterCondition.may_answer c.args.filter.now c.args.io.now) infos i _ c.each_info.verdicts.items c.is_admitted.result c.each_info-test.true c.each_info.invariant.verdicts c.is_admitted.ensures);
    }
