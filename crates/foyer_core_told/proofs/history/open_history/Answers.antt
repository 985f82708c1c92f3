use Rattle.std.proofs.Common.{inl, refl}
use Rattle.foyer_core_told.specs.ToldRights.{rights_count}
use Rattle.foyer_core_told.proofs.ToldRightLemmas.{are_rights}
use Rattle.foyer_core_told.proofs.history.open_history.Goals as goal

pub open-requires : goal.open-requires
open-requires g c = (inl refl, are_rights rights_count)
