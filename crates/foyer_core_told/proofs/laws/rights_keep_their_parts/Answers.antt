use Rattle.foyer_core_told.proofs.ToldRightLemmas.{excluded, kept_by_rights}
use Rattle.foyer_core_told.proofs.laws.rights_keep_their_parts.Goals as goal

pub returns : goal.returns
returns g c m s sound byte_at seen since u some run = (excluded since, kept_by_rights m s sound byte_at seen since u some run)
