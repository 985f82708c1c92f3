use Rattle.std.proofs.Common.{◌∙◌, sym, arith}
use Rattle.foyer_memcached.proofs.Blanks.{less_by_one, all_taken, nothing_taken}
use Rattle.foyer_memcached.proofs.turn.trim.Goals as goal
use Rattle.foyer_memcached.proofs.turn.trim.Goals.{then-loop-end-test+else-value-end-eq32, else-loop-end-test}

pub loop-end-preserved : goal.loop-end-preserved
loop-end-preserved c =
    let l = c.loop-end in
    record {
      within = omega (arith, l.invariant.within);
      same = less_by_one l.end c.args.value.now c.loop-end-test.true l.invariant.within c.if-value-end-eq32.true ∙ l.invariant.same;
    }

pub returns : goal.returns
returns c =
    let l = c.loop-end in
    sym (elim c.loop-end-test.branch [
      | then-loop-end-test+else-value-end-eq32 w ↦ all_taken l.end c.args.value.now w.loop-end-test.true l.invariant.within w.if-value-end-eq32.false
      | else-loop-end-test w ↦ nothing_taken l.end c.args.value.now w.loop-end-test.false
    ]) ∙ l.invariant.same
