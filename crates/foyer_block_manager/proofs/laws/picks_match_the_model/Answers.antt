use Rattle.foyer_block_manager.proofs.ModelPickLemmas.{picks_match}
use Rattle.foyer_block_manager.proofs.laws.picks_match_the_model.Goals as goal

pub returns : goal.returns
returns c = λ m s says st. picks_match m s st says
