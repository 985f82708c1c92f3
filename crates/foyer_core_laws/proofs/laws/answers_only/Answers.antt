use Rattle.foyer_core_laws.specs.CoreRules.{layout}
use Rattle.foyer_core_laws.specs.CoreRules.{rules_of, IsEncoded}
use Rattle.foyer_core_model.proofs.Answered.{answers_only_lem}
use Rattle.foyer_core_model.proofs.Promises.{answers_newest_lem}
use Rattle.foyer_core_laws.proofs.laws.answers_only.Goals as goal

pub returns-clause-entry : goal.returns-clause-entry
returns-clause-entry c = λ is_key is_value s sound. answers_only_lem (rules_of is_key is_value s sound) (layout s) (IsEncoded is_key is_value)

pub returns-clause-run : goal.returns-clause-run
returns-clause-run c = λ is_key is_value s sound. answers_newest_lem (rules_of is_key is_value s sound) (layout s) (IsEncoded is_key is_value)
