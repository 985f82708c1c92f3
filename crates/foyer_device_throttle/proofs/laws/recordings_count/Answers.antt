use Rattle.foyer_device_throttle.proofs.QuotaLemmas.{recorded_more}
use Rattle.foyer_device_throttle.proofs.laws.recordings_count.Goals as goal

pub returns : goal.returns
returns c = recorded_more
