use Rattle.foyer_core_rights.proofs.FrameLemmas.{frames}
use Rattle.foyer_core_rights.proofs.frames_hold.Goals as goal

pub returns : goal.returns
returns g c = frames
