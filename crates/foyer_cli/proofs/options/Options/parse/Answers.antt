use Rattle.std.proofs.Common.{sym, subst, ap, ◌∙◌}
use Rattle.std.specs.Prelude.{MatchOption, string_bytes}
use Rattle.foyer_cli.specs.Arguments.{AreWords}
use Rattle.foyer_cli.specs.Lines.{IsNumber}
use Rattle.foyer_cli.specs.declared.options.Options.{Options}
use Rattle.foyer_cli.proofs.ArgumentLemmas.{second_number}
use Rattle.foyer_cli.proofs.options.Options.parse.Goals as goal

pub returns-in_err-number-2 : goal.returns-in_err-number-2
returns-in_err-number-2 g c =
    let words = c.args.words.now in
    subst (λ r. MatchOption r ((o : Options) → ¬ (AreWords words o)) (AreWords words)) (sym c.from_residual-in_err-number-2.ensures)
    (λ o are. c.in_err-number-2.ensures o.block_size
    (subst (λ bs. IsNumber bs o.block_size) (sym (c.as_bytes-2.ensures.value ∙ ap string_bytes c.index-words-2.is)) (second_number words o c.index-words-2.result are)))
