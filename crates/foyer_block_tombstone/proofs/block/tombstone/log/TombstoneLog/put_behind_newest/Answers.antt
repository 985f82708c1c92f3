use Rattle.std.proofs.Common.{◌≡◌, ◌∙◌, refl, sym, true, false, is_ok}
use Rattle.foyer_block_tombstone.proofs.OutcomeLemmas.{no_err, no_ok, on_err, on_ok}
use Rattle.foyer_block_tombstone.proofs.block.tombstone.log.TombstoneLog.put_behind_newest.Goals as goal

pub returns-then-is_ok : goal.returns-then-is_ok
returns-then-is_ok g c = record {
  end = c.put-outcome.new.self;
  put = c.put-outcome.ensures;
  done = on_ok _ c.put-outcome.result (rw (← c.self.view_is) refl);
  back = no_err _ c.put-outcome.result (sym c.is_ok.ensures.value ∙ c.if-is_ok.true);
}

pub returns-else-is_ok : goal.returns-else-is_ok
returns-else-is_ok g c = record {
  end = c.put-outcome.new.self;
  put = c.put-outcome.ensures;
  done = no_ok _ c.put-outcome.result (sym c.is_ok.ensures.value ∙ c.if-is_ok.false);
  back = on_err _ c.put-outcome.result refl;
}
