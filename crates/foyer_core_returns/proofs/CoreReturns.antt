-- The laws at a core's rules and its layout, for every code and all sizes that go together.
use Rattle.std.proofs.Common.{ℕ, Bool, List}
use Rattle.foyer_core_laws.specs.CoreRules.{rules_of, layout, IsEncoded}
use Rattle.foyer_core_laws.specs.Sizes.{AreValid}
use Rattle.foyer_core_laws.specs.Settings.{Settings}
use Rattle.foyer_core_laws.proofs.FormatLemmas.{core_format}
use Rattle.foyer_core_laws.proofs.LawLemmas.{demands}
use Rattle.foyer_core_returns.specs.EndedLives.{EndedIsGone}
use Rattle.foyer_core_returns.specs.Returns.{NothingReturns}
use Rattle.foyer_core_returns.proofs.EndedLaw.{laid_ended_law_lem}
use Rattle.foyer_core_returns.proofs.ReturnsLaw.{laid_returns_law_lem}

pub nothing_returns_lem : (is_key is_value : List ℕ → Bool) (s : Settings) (sound : AreValid s)
    → NothingReturns (rules_of is_key is_value s sound) (layout s) (IsEncoded is_key is_value)
nothing_returns_lem is_key is_value s sound = laid_returns_law_lem (rules_of is_key is_value s sound) (IsEncoded is_key is_value)
    (core_format is_key is_value s sound) sound.offsets_fit (demands is_key is_value s sound).trips

pub ended_is_gone_lem : (is_key is_value : List ℕ → Bool) (s : Settings) (sound : AreValid s)
    → EndedIsGone (rules_of is_key is_value s sound) (layout s) (IsEncoded is_key is_value)
ended_is_gone_lem is_key is_value s sound = laid_ended_law_lem (rules_of is_key is_value s sound) (IsEncoded is_key is_value)
    (core_format is_key is_value s sound) sound.offsets_fit (demands is_key is_value s sound).trips
