use Rattle.std.proofs.Common.{◌∙◌, sym}
use Rattle.foyer_memcached.proofs.Keys.{long_first, short_first, none_long}
use Rattle.foyer_memcached.proofs.line.has_long.Goals as goal

pub returns-then-word-gt-KEY_MOST : goal.returns-then-word-gt-KEY_MOST
returns-then-word-gt-KEY_MOST c = sym (sym c.loop-word.invariant ∙ sym (sym (long_first _ _ c.in-Some.word.now c.in-Some.ensures.words c.if-word-gt-KEY_MOST.true)))

pub loop-word-preserved : goal.loop-word-preserved
loop-word-preserved c = sym (short_first _ _ c.in-Some.word.now c.in-Some.ensures.words c.if-word-gt-KEY_MOST.false) ∙ c.loop-word.invariant

pub returns : goal.returns
returns c = sym (sym c.loop-word.invariant ∙ none_long _ c.in_default.ensures.words)
