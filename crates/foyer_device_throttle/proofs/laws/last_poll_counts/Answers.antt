use Rattle.foyer_device_throttle.proofs.QuotaLemmas.{last_poll}
use Rattle.foyer_device_throttle.proofs.laws.last_poll_counts.Goals as goal

pub returns : goal.returns
returns c = last_poll
