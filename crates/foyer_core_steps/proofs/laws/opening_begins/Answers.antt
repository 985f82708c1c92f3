use Rattle.foyer_core_steps.proofs.OpenedLemmas.{opened_stands}
use Rattle.foyer_core_flusher.proofs.OpenedWorlds.{world_opened}
use Rattle.foyer_core_steps.proofs.laws.opening_begins.Goals as goal

pub returns-clause-stands : goal.returns-clause-stands
returns-clause-stands g c = λ m s sound marks o core opening opened. opened_stands m s sound marks o core opening opened

pub returns-clause-opened : goal.returns-clause-opened
returns-clause-opened g c = λ is_key is_value s sound marks o opening bytes. world_opened is_key is_value s sound marks o opening bytes
