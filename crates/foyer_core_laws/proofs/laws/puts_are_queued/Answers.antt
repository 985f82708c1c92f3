use Rattle.foyer_core_laws.specs.CoreRules.{layout}
use Rattle.foyer_core_laws.specs.CoreRules.{rules_of, IsEncoded}
use Rattle.foyer_core_model.proofs.PutsQueued.{puts_are_queued_lem}
use Rattle.foyer_core_laws.proofs.laws.puts_are_queued.Goals as goal

pub returns : goal.returns
returns c = λ is_key is_value s sound. puts_are_queued_lem (rules_of is_key is_value s sound) (layout s) (IsEncoded is_key is_value)
