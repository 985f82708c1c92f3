use Rattle.foyer_cli.proofs.ArgumentLemmas.{too_few}
use Rattle.foyer_cli.proofs.words.sizes_of.Goals as goal

pub returns-then-words-lt3-clause-refused : goal.returns-then-words-lt3-clause-refused
returns-then-words-lt3-clause-refused g c = λ o. too_few c.args.words.now o c.if-words-lt3.true
