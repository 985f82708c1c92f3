use Rattle.std.proofs.Common.{Some, None, arith}
use Rattle.std.proofs.lemmas.Str.Pattern.{split_parts}
use Rattle.foyer_pipe.proofs.WordLemmas.{is_word, no_word}
use Rattle.foyer_pipe.proofs.options.PipeOptions.with_word.Goals as goal

pub returns : goal.returns
returns c =
    let byte = c.in_ok-name.ensures.byte (omega arith) (λ w o h. h) in
    is_word c.args.word.now c.in_ok-name.name.now c.in_ok-name.text.now c.args.self c.with.result c.with.ensures byte.0 byte.1
    (split_parts 61 c.args.word.now (Some (c.in_ok-name.name, c.in_ok-name.text)) c.in_ok-name.ensures.cases (omega arith)).0
