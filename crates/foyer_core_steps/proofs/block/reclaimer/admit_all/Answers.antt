use Rattle.std.proofs.Common.{◌≡◌, ◌+◌, ◌≤◌, ◌++◌, ◌∷◌, [], map, drop, length, sym, ap, ◌∙◌, arith}
use Rattle.std.specs.VecDeque.{deque_len, deque_capacity}
use Rattle.foyer_core_steps.specs.Reclaiming.{chosen, hashed_of}
use Rattle.foyer_core_steps.proofs.AdmitLemmas.{chosen_one, chosen_none, less_left, put_behind}
use Rattle.foyer_core_steps.proofs.block.reclaimer.admit_all.Goals.{then-verdicts-i, else-verdicts-i}
use Rattle.foyer_core_steps.proofs.block.reclaimer.admit_all.Goals as goal

pub each_info-preserved : goal.each_info-preserved
each_info-preserved g c =
    let infos = c.args.infos.now in
    let verdicts = c.args.verdicts.now in
    let i = c.each_info.i in
    let left : length (drop i infos) ≡ length (drop (i + 1) infos) + 1 = less_left infos i c.each_info-test.true in
    let fits : deque_len c.each_info.admitted + length (drop i infos) ≤ deque_capacity c.each_info.admitted = c.each_info.invariant.room in
    elim c.if-verdicts-i.branch [
      | then-verdicts-i w ↦
          let long : deque_len w.push_back_reserved.new.self ≡ deque_len c.each_info.admitted + 1 = w.push_back_reserved.ensures.len in
          let room : deque_capacity w.push_back_reserved.new.self ≡ deque_capacity c.each_info.admitted = w.push_back_reserved.ensures.capacity in
          record {
            room = rw w.admitted-is (omega arith);
            all = c.requires.all;
            admitted = ap (λ l. l.items ++ chosen (drop (i + 1) verdicts) (map hashed_of (drop (i + 1) infos))) w.admitted-is
                ∙ ap (λ l. l ++ chosen (drop (i + 1) verdicts) (map hashed_of (drop (i + 1) infos))) (w.push_back_reserved.ensures.items ∙ ap (λ e. c.each_info.admitted.items ++ e ∷ []) w.hashed.ensures)
                ∙ sym (put_behind c.each_info.admitted.items _ (chosen (drop (i + 1) verdicts) (map hashed_of (drop (i + 1) infos))))
                ∙ ap (λ l. c.each_info.admitted.items ++ l) (sym (chosen_one hashed_of verdicts infos i _ _ c.each_info-test.true c.requires.all w.if-verdicts-i.true))
                ∙ c.each_info.invariant.admitted;
          }
      | else-verdicts-i w ↦
          record {
            room = rw w.admitted-is (omega arith);
            all = c.requires.all;
            admitted = ap (λ l. l.items ++ chosen (drop (i + 1) verdicts) (map hashed_of (drop (i + 1) infos))) w.admitted-is
                ∙ ap (λ l. c.each_info.admitted.items ++ l) (sym (chosen_none hashed_of verdicts infos i _ c.each_info-test.true c.requires.all w.if-verdicts-i.false))
                ∙ c.each_info.invariant.admitted;
          }
    ]
