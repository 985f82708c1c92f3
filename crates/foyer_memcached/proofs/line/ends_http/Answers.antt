use Rattle.std.proofs.Common.{◌∙◌, sym}
use Rattle.foyer_memcached.proofs.Keys.{http_first, http_last}
use Rattle.foyer_memcached.proofs.line.ends_http.Goals as goal

pub loop-word-preserved : goal.loop-word-preserved
loop-word-preserved c = sym (http_first _ _ _ c.in-Some.word.now _ c.in-Some.ensures.words c.is_http-is_last.ensures) ∙ c.loop-word.invariant

pub returns : goal.returns
returns c = sym (http_last _ _ c.in_default.ensures.words) ∙ c.loop-word.invariant
