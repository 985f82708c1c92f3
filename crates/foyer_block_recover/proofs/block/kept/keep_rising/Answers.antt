use Rattle.std.proofs.Common.{◌∙◌, refl, sym, subst}
use Rattle.foyer_block_recover.specs.Placed.{AllHashed}
use Rattle.foyer_block_recover.proofs.RisingLemmas.{rising_more, last_more, pushed_more}
use Rattle.foyer_block_recover.proofs.block.kept.keep_rising.Goals as goal

pub each_info-init : goal.each_info-init
each_info-init g c = record {
  kept = rw c.in-Some.is refl;
  hashed = rw c.in-Some.is (λ h. h);
  last = rw c.in-Some.is refl;
}

pub each_info-preserved : goal.each_info-preserved
each_info-preserved g c =
    let inv = c.each_info.invariant in
    let more = rising_more c.each_info.least c.each_info.info-index _ c.args.infos.now c.each_info-test.true c.if-info-least.false in
    record {
      kept = pushed_more _ _ _ _ _ _ c.in_ok-push.ensures.items more c.in_range.ensures.same ∙ inv.kept;
      hashed = λ h. inv.hashed (subst AllHashed (sym more) (c.in_range.ensures.range, h));
      last = sym (last_more c.each_info.least c.each_info.info-index _ c.args.infos.now c.each_info-test.true c.if-info-least.false) ∙ inv.last;
    }
