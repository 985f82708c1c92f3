use Rattle.foyer_core_layout.proofs.RoomLemmas.{fits_agree}
use Rattle.foyer_core_layout.proofs.fits_agree.Goals as goal

pub returns : goal.returns
returns g c = fits_agree
