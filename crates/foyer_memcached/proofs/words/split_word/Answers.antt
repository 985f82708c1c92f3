use Rattle.std.proofs.Common.{◌∙◌, sym, length, arith}
use Rattle.std.proofs.lemmas.Bool.{eqb-true, eqb-false}
use Rattle.foyer_memcached.proofs.Lines.{word_found, word_alone, words_empty, some_length, shorter_behind}
use Rattle.foyer_memcached.proofs.words.split_word.Goals as goal

pub returns-then-is_empty : goal.returns-then-is_empty
returns-then-is_empty c =
    let rest = c.skip_blanks-rest in
    record { words = sym rest.ensures.words ∙ words_empty rest.result.now (eqb-true (length rest.result.now) 0 (sym c.is_empty.ensures ∙ c.if-is_empty.true)); shorter = tt }

pub returns-in-Some : goal.returns-in-Some
returns-in-Some c =
    let rest = c.skip_blanks-rest in
    let some = some_length rest.result.now (eqb-false (length rest.result.now) 0 (sym c.is_empty.ensures ∙ c.if-is_empty.false)) in
    record { words = sym rest.ensures.words ∙ word_found c.in-Some.end rest.result.now some (rest.ensures.first some) c.in-Some.ensures; shorter = shorter_behind c.in-Some.end rest.result.now c.args.line.now rest.ensures.len some }

pub returns-in-None : goal.returns-in-None
returns-in-None c =
    let rest = c.skip_blanks-rest in
    let some = some_length rest.result.now (eqb-false (length rest.result.now) 0 (sym c.is_empty.ensures ∙ c.if-is_empty.false)) in
    record { words = sym rest.ensures.words ∙ word_alone rest.result.now some c.in-None.ensures; shorter = omega (arith, some, rest.ensures.len) }
