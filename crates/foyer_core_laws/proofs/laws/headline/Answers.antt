use Rattle.foyer_core_model.proofs.Companions.{queue_keeps_lem, commit_keeps_lem, reclaim_keeps_lem, not_now_keeps_lem}
use Rattle.foyer_core_model.proofs.Promises.{answers_newest_lem, missed_newest_lem}
use Rattle.foyer_core_laws.specs.CoreRules.{rules_of, layout, IsEncoded}
use Rattle.foyer_core_laws.proofs.OpenedWorlds.{world_opened}
use Rattle.foyer_core_laws.proofs.laws.headline.Goals as goal

pub returns : goal.returns
returns c = λ is_key is_value s sound. record {
  answers_only = answers_newest_lem (rules_of is_key is_value s sound) (layout s) (IsEncoded is_key is_value);
  missed_only = missed_newest_lem (rules_of is_key is_value s sound) (layout s) (IsEncoded is_key is_value);
  opening = λ marks o opening bytes. world_opened is_key is_value s sound marks o opening bytes;
  queue = queue_keeps_lem (rules_of is_key is_value s sound) (layout s);
  commit = commit_keeps_lem (rules_of is_key is_value s sound) (layout s);
  reclaim = reclaim_keeps_lem (rules_of is_key is_value s sound) (layout s);
  not_now = not_now_keeps_lem (rules_of is_key is_value s sound) (layout s);
}
