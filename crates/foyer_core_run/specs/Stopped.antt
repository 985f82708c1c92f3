-- A run that was stopped, and what a core has that was opened on what it left.
use Rattle.std.specs.Prelude.{◌≡◌, ◌≢◌, ◌⊎◌, ℕ, Bool, false, List, [], ◌∷◌, Some, None}
use Rattle.foyer_core_model.specs.Opened.{IsOpened as IsOpenedWorld}
use Rattle.foyer_core_model.specs.Record.{Address, Indexed}
use Rattle.foyer_core_model.specs.State.{Writing}
use Rattle.foyer_core_model.specs.World.{World, WorldEvent, MayAllHappen, after_all}
use Rattle.foyer_block_recover.specs.Opening.{Opened}
use Rattle.foyer_block_recover.specs.declared.block.recover.RecoverMode.{RecoverMode}
use Rattle.foyer_block_recover.specs.declared.block.recover.RecoverMode.TheVariants as recover_mode
use Rattle.foyer_core_restart.specs.Restart.{AllGoWell, AllRefused, HasNoStrays, IsWriting, IsBeingWritten}
use Rattle.foyer_core_laws.specs.Begins.{opened_world}
use Rattle.foyer_core_laws.specs.Content.{Content, Meaning}
use Rattle.foyer_core_laws.specs.CoreRules.{layout}
use Rattle.foyer_core_laws.specs.CoreRules.{machine}
use Rattle.foyer_core_laws.specs.CoreRules.{IsEncoded}
use Rattle.foyer_core_laws.specs.Sizes.{AreValid}
use Rattle.foyer_core_laws.specs.Settings.{Settings}
use Rattle.foyer_core_steps.specs.Opened.{IsOpened}
use Rattle.foyer_core_steps.specs.Reclaiming.{verdicts_of}
use Rattle.foyer_core_steps.specs.Reopened.{HasAgain, HasNewer, BeginsWithNewest}
use Rattle.foyer_core_steps.specs.declared.reply.Reply.{Reply}
use Rattle.foyer_core_steps.specs.declared.reply.Reply.TheVariants as reply
use Rattle.foyer_core_steps.specs.declared.state.Core.{Core}
use Rattle.foyer_core_run.specs.Causes.{has_fault}
use Rattle.foyer_core_run.specs.Moves.{AreMade}
use Rattle.foyer_core_run.specs.declared.moves.Move.{Move}

-- A reply by which a caller sees that nothing was given up: no block's records, and no record is read back for reinsertion.
abbrev pub SaysWell : {K V P A : Type 0} → Reply K V P A → Type 0
SaysWell reply.Failed = ⊥
SaysWell (reply.Scan block offset len verdicts) = AllRefused (verdicts_of verdicts)
SaysWell (reply.Listed verdicts) = AllRefused (verdicts_of verdicts)
SaysWell answer = Unit {0}

-- each of these is one
abbrev pub AllSayWell : {K V P A : Type 0} → List (Reply K V P A) → Type 0
AllSayWell [] = Unit {0}
AllSayWell (answer ∷ said) = SaysWell answer × AllSayWell said

module _ {K V P : Type 0} (m : Meaning K V P) (s : Settings) (sound : AreValid s) where
  -- over zeros, of which no address was found
  abbrev pub zeroed_world : Opened → World Content
  zeroed_world found = opened_world (machine m s sound) (λ b o. 0) found []

  -- Events that may happen from such a world on, which these moves name and whose replies these are, whether an access of
  -- them failed or not: they lead to a world with these bytes.
  pub record IsRunOverZeros {A : Type 0} (failed : Bool) (moves : List (Move K V P A)) (said : List (Reply K V P A)) (bytes : ℕ → ℕ → ℕ) : Type 0 where
    pub found : Opened
    pub opened : IsOpenedWorld (machine m s sound) (zeroed_world found)
    pub empty : (h : ℕ) → found.index h ≡ None
    pub events : List (WorldEvent Content)
    pub happened : MayAllHappen (machine m s sound) (layout s) (IsEncoded m.is_key m.is_value) (zeroed_world found) events
    pub made : AreMade m s sound (zeroed_world found) (zeroed_world found) moves events said
    pub faults : has_fault events ≡ failed
    pub same : (b o : ℕ) → (after_all (machine m s sound) (zeroed_world found) events).bytes b o ≡ bytes b o

  -- About a run that was stopped in this world, and a core with this opening over the bytes that the run left. Each address
  -- that the run's index had is found again, or a newer record of its hash is, unless the block of the address was being
  -- written. If no flush was under way, each address is found again. What is found again was newest at the stop.
  pub record KeepsIndexed {A : Type 0} (w : World Content) (bytes : ℕ → ℕ → ℕ) (o : Opened) (core : Core K V P A) : Type 0 where
    pub again : (h : ℕ) (a : Address) → w.core.index h ≡ Some (Indexed a) → (IsBeingWritten w.core a.block → ⊥) → HasAgain core h a ⊎ HasNewer w bytes core h a
    pub all : (h : ℕ) (a : Address) → w.core.index h ≡ Some (Indexed a) → ((f : ℕ) (r : Writing Content) → IsWriting w.core f r → ⊥) → HasAgain core h a
    pub newest : (h : ℕ) (a : Address) → w.core.index h ≡ Some (Indexed a) → HasAgain core h a → BeginsWithNewest m.is_key m.is_value s sound w bytes o h

  -- Such a run left these bytes, and the core was opened on them. The core keeps what was indexed if blocks are read, each
  -- event of the run went well, and the bytes have no stray index. Each event went well if no access failed and all replies say
  -- so.
  pub record IsReopenedRun {A : Type 0} (failed : Bool) (mode : RecoverMode) (moves : List (Move K V P A)) (said : List (Reply K V P A)) (core : Core K V P A) (bytes : ℕ → ℕ → ℕ) : Type 0 where
    pub run : IsRunOverZeros failed moves said bytes
    pub found : Opened
    pub opened : IsOpened s found core
    pub well : failed ≡ false → AllSayWell said → AllGoWell run.events
    pub keeps : mode ≢ recover_mode.None → AllGoWell run.events
        → HasNoStrays (machine m s sound) (after_all (machine m s sound) (zeroed_world run.found) run.events) bytes
        → KeepsIndexed (after_all (machine m s sound) (zeroed_world run.found) run.events) bytes found core
