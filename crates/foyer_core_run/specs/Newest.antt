-- What a load answers, whatever led to the core and the bytes that it began with.
use Rattle.std.specs.Prelude.{◌≡◌, ◌≢◌, ℕ, ◌+◌, ◌<◌, ◌⊎◌, List, Some}
use Rattle.foyer_device_page.specs.declared.error.ErrorKind.{ErrorKind}
use Rattle.foyer_device_page.specs.declared.error.ErrorKind.TheVariants as kind
use Rattle.foyer_core_model.specs.Event.{Put, newest}
use Rattle.foyer_core_model.specs.Numbers.{last_number}
use Rattle.foyer_core_model.specs.Opened.{IsOpened as IsOpenedWorld}
use Rattle.foyer_core_model.specs.Record.{Outcome, NoRecord, NotSupported, Undecodable, Holds}
use Rattle.foyer_core_model.specs.World.{World, WorldEvent, MayAllHappen, after_all}
use Rattle.foyer_core_laws.specs.Content.{Content, Meaning, content}
use Rattle.foyer_core_laws.specs.CoreRules.{layout}
use Rattle.foyer_core_laws.specs.CoreRules.{machine}
use Rattle.foyer_core_laws.specs.CoreRules.{IsEncoded}
use Rattle.foyer_core_laws.specs.Sizes.{AreValid}
use Rattle.foyer_core_steps.specs.StateOf.{IsStateOf}
use Rattle.foyer_core_steps.specs.declared.reply.Reply.{Reply}
use Rattle.foyer_core_steps.specs.declared.reply.Reply.TheVariants as reply
use Rattle.foyer_core_laws.specs.Settings.{Settings}
use Rattle.foyer_core_steps.specs.declared.state.Core.{Core}

-- these events led from an opened world, whatever it found, to this core and these bytes
pub record IsHistory {K V P A : Type 0} (m : Meaning K V P) (s : Settings) (sound : AreValid s) (first : World Content) (events : List (WorldEvent Content)) (core : Core K V P A) (bytes : ℕ → ℕ → ℕ) : Type 0 where
  pub opened : IsOpenedWorld (machine m s sound) first
  pub happened : MayAllHappen (machine m s sound) (layout s) (IsEncoded m.is_key m.is_value) first events
  pub stands : IsStateOf m s core (after_all (machine m s sound) first events).core
  pub same : (b o : ℕ) → (after_all (machine m s sound) first events).bytes b o ≡ bytes b o

-- in every history that led here, the newest event of the hash is a put of the entry that is answered
abbrev pub IsNewest : {K V P A : Type 0} → Meaning K V P → ℕ → Core K V P A → (ℕ → ℕ → ℕ) → Reply K V P A → Type 0
IsNewest m h core bytes (reply.Entry key value age) =
    (s : Settings) (sound : AreValid s) (first : World Content) (events : List (WorldEvent Content)) → IsHistory m s sound first events core bytes
    → (sequence : ℕ) × (newest h (after_all (machine m s sound) first events).history ≡ Some (Put h sequence (Holds (content m key value))))
IsNewest m h core bytes answer = Unit {0}

-- The fault for which a record isn't answered: its read failed, or memory was refused. One that was found and is none of a
-- pair that the codes read is named by its own.
abbrev pub MayFail : Outcome Content → ErrorKind → Type 0
MayFail (Holds c) why = (why ≡ kind.Io) ⊎ (why ≡ kind.Memory)
MayFail Undecodable why = (why ≡ kind.Io) ⊎ (why ≡ kind.Parse) ⊎ (why ≡ kind.Memory)
MayFail NotSupported why = (why ≡ kind.Io) ⊎ (why ≡ kind.Unsupported)
MayFail NoRecord why = ⊥

-- the content that was put, or the fault for which it isn't answered
abbrev pub IsPutOrFault : {K V P A : Type 0} → Meaning K V P → Outcome Content → Reply K V P A → Type 0
IsPutOrFault m x (reply.Entry key value age) = x ≡ Holds (content m key value)
IsPutOrFault m x (reply.Refused why back) = MayFail x why
IsPutOrFault m x answer = ⊥

-- What holds, in every history that led here, of the record whose put is the newest event of the hash. Neither a reclaim of its block nor a
-- destroy began since, and two steps more are to be had. A record that was found but is no record is left out.
abbrev pub OfPut : {K V P A : Type 0} → Meaning K V P → ℕ → Core K V P A → (ℕ → ℕ → ℕ) → (Outcome Content → Type 0) → Type 0
OfPut m h core bytes Is =
    (s : Settings) (sound : AreValid s) (first : World Content) (events : List (WorldEvent Content)) → IsHistory m s sound first events core bytes
    → core.steps + 1 < last_number → (b sequence : ℕ) (x : Outcome Content)
    → (after_all (machine m s sound) first events).kept h ≡ Some b
    → newest h (after_all (machine m s sound) first events).history ≡ Some (Put h sequence x)
    → x ≢ NoRecord → Is x

-- such a put, or a fault, is answered: no miss
abbrev pub IsMissedForCause : {K V P A : Type 0} → Meaning K V P → ℕ → Core K V P A → (ℕ → ℕ → ℕ) → Reply K V P A → Type 0
IsMissedForCause m h core bytes answer = OfPut m h core bytes (λ x. IsPutOrFault m x answer)
