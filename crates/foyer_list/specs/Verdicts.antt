-- The addresses that an opening finds.
use Rattle.std.specs.Prelude.{◌≡◌, ◌⊎◌, ℕ, []}
use Rattle.std.specs.FinMap as finite
use Rattle.foyer_block_index.specs.Index.{IndexMap}
use Rattle.foyer_format_layout.specs.Position.{Sizes}
use Rattle.foyer_device_page.specs.declared.error.Error.{Error}
use Rattle.foyer_device_page.specs.declared.error.Error.TheVariants as error
use Rattle.foyer_block_recover.specs.Opening.{Opened}
use Rattle.foyer_block_recover.specs.Recovery.{IsRecovered, held_slot}
use Rattle.foyer_block_recover.specs.declared.block.recover.RecoverMode.TheVariants as recover_mode
use Rattle.foyer_core_settings.specs.Sizes.{AreValid}
use Rattle.foyer_core_settings.specs.declared.settings.Settings.{Settings}

-- An index holds what an opening of n blocks of these bytes finds, without marks of deletes.
pub record HoldsWinners (s : Sizes) (n : ℕ) (bytes : ℕ → ℕ → ℕ) (surely_has : ℕ → ℕ → ℕ → Type 0) (found : IndexMap) : Type 0 where
  pub opened : Opened
  pub is : IsRecovered s n bytes surely_has recover_mode.Quiet [] opened
  pub same : (h : ℕ) → opened.index h ≡ held_slot (finite.get found h)

-- what the search for them may be refused as: wrong sizes, the last sequence, or memory
abbrev pub MayRefuseWinners : Settings → Error → Type 0
MayRefuseWinners s e = ((e ≡ error.Config) × (AreValid s → ⊥)) ⊎ (e ≡ error.SequenceEnd) ⊎ (e ≡ error.Memory)
