use Rattle.std.proofs.Common.{◌∙◌, sym}
use Rattle.foyer_memcached.proofs.Flags.{begins_here, begins_later, begins_nowhere}
use Rattle.foyer_memcached.proofs.meta.is_repeated.Goals as goal

pub returns-then-letter-first : goal.returns-then-letter-first
returns-then-letter-first c = sym (sym c.loop-word.invariant ∙ begins_here _ _ _ c.in-Some.word.now _ c.in-Some.ensures.words c.letter.ensures c.if-letter-first.true)

pub loop-word-preserved : goal.loop-word-preserved
loop-word-preserved c = sym (begins_later _ _ _ c.in-Some.word.now _ c.in-Some.ensures.words c.letter.ensures c.if-letter-first.false) ∙ c.loop-word.invariant

pub returns : goal.returns
returns c = sym (sym c.loop-word.invariant ∙ begins_nowhere _ _ c.in_default.ensures.words)
