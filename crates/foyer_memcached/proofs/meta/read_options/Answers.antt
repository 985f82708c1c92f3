use Rattle.std.proofs.Common.{◌∙◌, sym, ap}
use Rattle.foyer_memcached.specs.Meta.{options_from}
use Rattle.foyer_memcached.specs.Words.{words}
use Rattle.foyer_memcached.proofs.Flags.{comes_again, next_option, no_option, no_more}
use Rattle.foyer_memcached.proofs.meta.read_options.Goals as goal

pub loop-word-init : goal.loop-word-init
loop-word-init c = ap (λ o. options_from o (words c.args.args.now)) c.none-options.ensures

pub returns-then-is_repeated : goal.returns-then-is_repeated
returns-then-is_repeated c = sym (comes_again _ _ _ c.in-Some.word.now _ _ c.in-Some.ensures.words c.letter.ensures c.is_repeated.ensures c.if-is_repeated.true) ∙ c.loop-word.invariant

pub returns-in-Err : goal.returns-in-Err
returns-in-Err c = sym (no_option _ _ _ _ c.in-Some.word.now _ _ c.in-Some.ensures.words c.letter.ensures c.is_repeated.ensures c.if-is_repeated.false (sym c.in-Err.is ∙ c.option_at.ensures)) ∙ c.loop-word.invariant

pub loop-word-preserved : goal.loop-word-preserved
loop-word-preserved c = sym (next_option _ _ _ _ c.in-Some.word.now _ _ c.in-Some.ensures.words c.letter.ensures c.is_repeated.ensures c.if-is_repeated.false (sym c.in-Ok.is ∙ c.option_at.ensures)) ∙ c.loop-word.invariant

pub returns : goal.returns
returns c = sym (no_more _ _ c.in_default.ensures.words) ∙ c.loop-word.invariant
