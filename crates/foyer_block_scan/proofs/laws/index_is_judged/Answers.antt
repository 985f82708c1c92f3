use Rattle.foyer_block_scan.proofs.IndexBytesLemmas.{judged}
use Rattle.foyer_block_scan.proofs.laws.index_is_judged.Goals as goal

pub returns : goal.returns
returns c = judged
