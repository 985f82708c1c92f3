use Rattle.foyer_format_buffer.proofs.FillsLemmas.{fills_laid}
use Rattle.foyer_format_buffer.proofs.laws.block_is_laid.Goals as goal

pub returns : goal.returns
returns g c = λ s whole start f h infos parts past room fills. fills_laid s whole start f infos parts h past room fills
