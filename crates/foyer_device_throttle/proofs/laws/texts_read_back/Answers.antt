use Rattle.foyer_device_throttle.proofs.TextLemmas.{read_back}
use Rattle.foyer_device_throttle.proofs.laws.texts_read_back.Goals as goal

pub returns : goal.returns
returns c = read_back
