use Rattle.foyer_core_told.proofs.WrittenLemmas.{left_is_written_lem}
use Rattle.foyer_core_told.proofs.laws.left_is_written.Goals as goal

pub returns : goal.returns
returns g c m s sound byte_at = left_is_written_lem m s sound byte_at
