-- Steps that take no right and bring no outcome.
use Rattle.std.proofs.Common.{◌≡◌, ℕ, Bool, true, true≢false, List, ◌&&◌, refl, sym, Option}
use Rattle.foyer_core_chronicle.specs.declared.View.{View}
use Rattle.foyer_format_record.specs.declared.serde.ages.Age.{Age}
use Rattle.foyer_core_model.specs.World.{World, IsFed}
use Rattle.foyer_core_laws.specs.Content.{Content, Meaning, content, meaning}
use Rattle.foyer_core_laws.specs.CoreRules.{layout, machine, IsEncoded}
use Rattle.foyer_core_laws.specs.Sizes.{AreValid}
use Rattle.foyer_core_laws.specs.Settings.{Settings}
use Rattle.foyer_core_steps.specs.Asked.{step_of}
use Rattle.foyer_core_steps.specs.declared.step.Step.{Step}
use Rattle.foyer_core_steps.specs.declared.step.Step.TheVariants as steps
use Rattle.foyer_core_told.specs.declared.event.Told.{Told}
use Rattle.foyer_core_told.specs.ToldRights.{step_takes}
use Rattle.foyer_core_told.specs.Telling.{BringsTrue}
use Rattle.foyer_core_threads.specs.Asking.{IsPlain}
use Rattle.foyer_core_threads.specs.Going.{IsRepeatable}

-- what can be encoded is encoded as its codes say
abbrev pub Encodes : {K V P : Type 0} → Meaning K V P → Type 0
Encodes {K} {V} m = (k : K) (v : V) → IsEncoded m.is_key m.is_value (content m k v)

both_true : (a b : Bool) → (a && b) ≡ true → (a ≡ true) × (b ≡ true)
both_true true true is = (refl, refl)
both_true true b is = (refl, is)
both_true a b is = absurd (true≢false (sym is))

pub encodes_as : {K V P : Type 0} (key_of : K → List ℕ) (value_of : V → List ℕ) (encodes_key : K → Bool) (encodes_value : V → Bool) (is_key is_value : List ℕ → Bool) (age_of : P → Option Age)
    → ((k : K) → encodes_key k ≡ true → is_key (key_of k) ≡ true) → ((v : V) → encodes_value v ≡ true → is_value (value_of v) ≡ true)
    → Encodes (meaning key_of value_of encodes_key encodes_value is_key is_value age_of)
encodes_as key_of value_of encodes_key encodes_value is_key is_value age_of key value k v e =
    let both = both_true (encodes_key k) (encodes_value v) e in (key k both.0, value v both.1)

module _ {K V P A D : Type 0} (m : Meaning K V P) (byte_at : D → ℕ → ℕ → ℕ) where
  plain_fed : Encodes m → (s : Settings) (sound : AreValid s) (w : World Content) (step : Step K V P A) → IsPlain step → IsFed (machine m s sound) (layout s) (IsEncoded m.is_key m.is_value) w (step_of m step)
  plain_fed encodes s sound w (steps.Enqueue piece size) plain = (plain, encodes piece.piece.key piece.piece.value)
  plain_fed encodes s sound w (steps.Delete hash) plain = plain
  plain_fed encodes s sound w (steps.LoadEnd ticket outcome) plain = absurd plain
  plain_fed encodes s sound w (steps.FlushWrote flusher outcome) plain = absurd plain
  plain_fed encodes s sound w (steps.ReclaimRead block outcome) plain = absurd plain
  plain_fed encodes s sound w (steps.ReclaimCleaned block outcome) plain = absurd plain
  plain_fed encodes s sound w (steps.DestroyCleaned block outcome) plain = absurd plain
  plain_fed encodes s sound w step plain = tt

  pub plain_brings : Encodes m → (mine : View (Told K V P A D)) (step : Step K V P A) → IsPlain step → BringsTrue m byte_at mine step
  plain_brings encodes mine step plain s sound log u kept run = plain_fed encodes s sound u step plain

  -- the issue of a block's writes brings nothing either
  pub issue_brings : (mine : View (Told K V P A D)) (flusher : ℕ) → BringsTrue m byte_at mine (steps.FlushBlock flusher)
  issue_brings mine flusher s sound log u kept run = tt

pub plain_takes : {K V P A : Type 0} (step : Step K V P A) (k : ℕ) → IsPlain step → step_takes step k ≡ true → ⊥
plain_takes (steps.FlushBlock flusher) k plain taken = plain
plain_takes (steps.FlushWrote flusher outcome) k plain taken = plain
plain_takes (steps.ReclaimRead block outcome) k plain taken = plain
plain_takes (steps.ReclaimCleaned block outcome) k plain taken = plain
plain_takes (steps.DestroyCleaned block outcome) k plain taken = plain
plain_takes step k plain taken = true≢false (sym taken)

-- and it may be made again
pub plain_repeats : {K V P A : Type 0} (step : Step K V P A) → IsPlain step → IsRepeatable step
plain_repeats (steps.LoadEnd ticket outcome) plain = plain
plain_repeats step plain = tt
