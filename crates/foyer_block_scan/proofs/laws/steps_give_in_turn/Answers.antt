use Rattle.foyer_block_scan.proofs.RunLemmas.{gives_in_turn}
use Rattle.foyer_block_scan.proofs.laws.steps_give_in_turn.Goals as goal

pub returns : goal.returns
returns c = gives_in_turn
