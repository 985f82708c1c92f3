use Rattle.std.proofs.Common.{◌∙◌, sym}
use Rattle.foyer_memcached.proofs.FlagTexts.{one_more, no_more}
use Rattle.foyer_memcached.proofs.meta_reply.add_flags.Goals as goal

pub loop-word-preserved : goal.loop-word-preserved
loop-word-preserved g c = one_more _ _ _ _ _ _ _ c.in-Some.word.now _ _ _ c.in-Some.ensures.words c.letter-first.ensures c.in_ok-add_flag.ensures c.after_flag-told.ensures ∙ c.loop-word.invariant

pub returns : goal.returns
returns g c = sym (no_more _ _ _ _ _ _ c.in_default.ensures.words) ∙ c.loop-word.invariant
