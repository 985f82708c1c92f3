-- A core that was just opened, with its disk, begins a history.
use Rattle.std.specs.Prelude.{◌≡◌, ℕ, List, []}
use Rattle.foyer_core_model.specs.Record.{Address}
use Rattle.foyer_block_recover.specs.Opening.{Opened}
use Rattle.foyer_block_recover.specs.Recovery.{IsRecovered}
use Rattle.foyer_block_recover.specs.declared.block.recover.RecoverMode.{RecoverMode}
use Rattle.foyer_core_laws.specs.Begins.{opened_world}
use Rattle.foyer_core_laws.specs.Content.{Meaning}
use Rattle.foyer_core_laws.specs.CoreRules.{machine}
use Rattle.foyer_core_laws.specs.Sizes.{AreValid, sizes_in}
use Rattle.foyer_core_laws.specs.Settings.{Settings}
use Rattle.foyer_core_steps.specs.declared.state.Core.{Core}
use Rattle.foyer_core_run.specs.Newest.{IsHistory}

-- The history begins with a put for each address that was found over these bytes. If the disk shows them, what was found is exactly what
-- the bytes and these marks give.
pub record IsBegun {K V P A : Type 0} (m : Meaning K V P) (s : Settings) (sound : AreValid s) (bytes : ℕ → ℕ → ℕ) (surely_has : ℕ → ℕ → ℕ → Type 0) (mode : RecoverMode) (marks : List (ℕ × ℕ)) (is_seen : Type 0) (core : Core K V P A) (now : ℕ → ℕ → ℕ) : Type 0 where
  pub found : Opened
  pub addresses : List (ℕ × Address)
  pub recovered : is_seen → IsRecovered (sizes_in s) s.blocks bytes surely_has mode marks found
  pub history : IsHistory m s sound (opened_world (machine m s sound) bytes found addresses) [] core now

-- The history begins with nothing: no address was found, and the first sequence is drawn next.
pub record IsBegunEmpty {K V P A : Type 0} (m : Meaning K V P) (s : Settings) (sound : AreValid s) (bytes : ℕ → ℕ → ℕ) (core : Core K V P A) (now : ℕ → ℕ → ℕ) : Type 0 where
  pub found : Opened
  pub next : found.next ≡ 1
  pub history : IsHistory m s sound (opened_world (machine m s sound) bytes found []) [] core now
