use Rattle.std.proofs.Common.{◌∙◌, ◌+◌, ap, sym, drop, get_or}
use Rattle.std.proofs.lemmas.List.{drop_more}
use Rattle.foyer_memcached.specs.Words.{words}
use Rattle.foyer_memcached.proofs.Lines.{words_blank}
use Rattle.foyer_memcached.proofs.words.skip_blanks.Goals as goal

pub loop-i-preserved : goal.loop-i-preserved
loop-i-preserved c =
    let i = c.loop-i.i in
    let line = c.args.line.now in
    sym (words_blank (drop (i + 1) line) (get_or line i 0) c.if-byte-ne32.false) ∙ sym (ap words (drop_more line i 0 c.loop-i-test.true)) ∙ c.loop-i.invariant
