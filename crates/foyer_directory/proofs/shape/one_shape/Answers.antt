use Rattle.foyer_directory.proofs.ShapeLemmas.{one_line}
use Rattle.foyer_directory.proofs.shape.one_shape.Goals as goal

pub returns : goal.returns
returns c = one_line
