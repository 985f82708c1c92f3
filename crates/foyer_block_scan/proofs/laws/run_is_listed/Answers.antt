use Rattle.std.proofs.Common.{◌≡◌, ◌∙◌}
use Rattle.foyer_block_scan.proofs.RunLemmas.{gives_in_turn, run_gives}
use Rattle.foyer_block_scan.proofs.WalkLemmas.{walk_lists}
use Rattle.foyer_block_scan.proofs.laws.run_is_listed.Goals as goal

pub returns : goal.returns
returns c = λ B failed s infos sizes at run. (run_gives B failed s infos sizes run ∙ (gives_in_turn B failed s sizes).start at, walk_lists s.sizes B failed sizes)
