use Rattle.foyer_format_buffer.proofs.HoldsLemmas.{finished_all, finished_each}
use Rattle.foyer_format_buffer.proofs.laws.finished_fits.Goals as goal

pub returns : goal.returns
returns c = λ s b bytes infos finished room some. (finished_all s b bytes infos finished room some, finished_each s b bytes infos finished room some)
