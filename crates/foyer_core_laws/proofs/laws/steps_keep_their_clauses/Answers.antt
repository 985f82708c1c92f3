use Rattle.foyer_core_laws.specs.CoreRules.{layout}
use Rattle.foyer_core_laws.specs.CoreRules.{rules_of, IsEncoded}
use Rattle.foyer_core_model.proofs.Companions.{queue_keeps_lem, commit_keeps_lem, not_now_keeps_lem}
use Rattle.foyer_core_model.proofs.Determined.{is_determined_lem}
use Rattle.foyer_core_model.proofs.Replies.{in_turn_replies_lem}
use Rattle.foyer_core_laws.proofs.laws.steps_keep_their_clauses.Goals as goal

pub returns-clause-queue : goal.returns-clause-queue
returns-clause-queue c = λ is_key is_value s sound. queue_keeps_lem (rules_of is_key is_value s sound) (layout s)

pub returns-clause-commit : goal.returns-clause-commit
returns-clause-commit c = λ is_key is_value s sound. commit_keeps_lem (rules_of is_key is_value s sound) (layout s)

pub returns-clause-not_now : goal.returns-clause-not_now
returns-clause-not_now c = λ is_key is_value s sound. not_now_keeps_lem (rules_of is_key is_value s sound) (layout s)

pub returns-clause-determined : goal.returns-clause-determined
returns-clause-determined c = λ is_key is_value s sound. is_determined_lem (rules_of is_key is_value s sound) (layout s)

pub returns-clause-replies : goal.returns-clause-replies
returns-clause-replies c = λ is_key is_value s sound. in_turn_replies_lem (rules_of is_key is_value s sound) (layout s) (IsEncoded is_key is_value)
