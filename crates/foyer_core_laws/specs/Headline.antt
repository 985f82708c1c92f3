-- The headline, in one piece: what a load answers, what it misses, and the clauses without which that would be cheap.
use Rattle.std.specs.Prelude.{ℕ, Bool, List}
use Rattle.foyer_core_model.specs.Companions.{QueueKeeps, CommitKeeps, ReclaimKeeps, NotNowKeeps}
use Rattle.foyer_core_model.specs.Laws.{AnswersNewest, MissedNewest}
use Rattle.foyer_core_model.specs.Opened.{IsOpened}
use Rattle.foyer_core_model.specs.Record.{Address}
use Rattle.foyer_core_restart.specs.Opening.{Opened}
use Rattle.foyer_core_restart.specs.Placed.{IsOpening}
use Rattle.foyer_core_laws.specs.Begins.{opened_world}
use Rattle.foyer_core_laws.specs.CoreRules.{rules_of, layout, IsEncoded}
use Rattle.foyer_core_settings.specs.Sizes.{AreValid, sizes_in}
use Rattle.foyer_core_settings.specs.declared.settings.Settings.{Settings}

-- Whatever an opening found, with some marks, over any bytes: a world with it, whose history has a put for each address
-- that was found, is one that the laws begin with.
abbrev pub Begins : (is_key is_value : List ℕ → Bool) (s : Settings) → AreValid s → Type 0
Begins is_key is_value s sound =
    (marks : List (ℕ × ℕ)) (o : Opened) → IsOpening (sizes_in s) s.blocks marks o → (bytes : ℕ → ℕ → ℕ)
    → (found : List (ℕ × Address)) × IsOpened (rules_of is_key is_value s sound) (opened_world (rules_of is_key is_value s sound) bytes o found)

-- of every list of events of the world of these codes and sizes
pub record IsHeadline (is_key is_value : List ℕ → Bool) (s : Settings) (sound : AreValid s) : Type 0 where
  pub answers_only : AnswersNewest (rules_of is_key is_value s sound) (layout s) (IsEncoded is_key is_value)
  pub missed_only : MissedNewest (rules_of is_key is_value s sound) (layout s) (IsEncoded is_key is_value)
  pub opening : Begins is_key is_value s sound
  pub queue : QueueKeeps (rules_of is_key is_value s sound) (layout s)
  pub commit : CommitKeeps (rules_of is_key is_value s sound) (layout s)
  pub reclaim : ReclaimKeeps (rules_of is_key is_value s sound) (layout s)
  pub not_now : NotNowKeeps (rules_of is_key is_value s sound) (layout s)
