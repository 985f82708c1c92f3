use Rattle.foyer_core_laws.specs.CoreRules.{rules_of, layout, IsEncoded}
use Rattle.foyer_core_store_runs.proofs.QueuedFound.{queued_are_found_lem}
use Rattle.foyer_core_returns.proofs.core_queued_are_found.Goals as goal

pub returns : goal.returns
returns g c = λ same key_of hash_of is_key is_value s sound. queued_are_found_lem same key_of hash_of (rules_of is_key is_value s sound) (layout s) (IsEncoded is_key is_value)
