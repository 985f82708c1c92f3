-- What a thread must know to tell the opening or a step, and what it knows then.
use Rattle.std.specs.Prelude.{◌≡◌, ℕ, ◌<◌, true, List, [], ◌∷◌, ◌++◌}
use Rattle.foyer_core_chronicle.specs.Rights.{times}
use Rattle.foyer_core_chronicle.specs.SharedHistory.{Continues, rights_of, viewer}
use Rattle.foyer_core_chronicle.specs.declared.View.{View}
use Rattle.foyer_block_recover.specs.Opening.{Opened}
use Rattle.foyer_block_recover.specs.Placed.{IsOpening}
use Rattle.foyer_core_model.specs.World.{World, IsFed}
use Rattle.foyer_core_laws.specs.Content.{Content, Meaning}
use Rattle.foyer_core_laws.specs.CoreRules.{layout, machine, IsEncoded}
use Rattle.foyer_core_laws.specs.Sizes.{AreValid, sizes_in}
use Rattle.foyer_core_laws.specs.Settings.{Settings}
use Rattle.foyer_core_steps.specs.Asked.{step_of}
use Rattle.foyer_core_steps.specs.Opened.{IsOpened}
use Rattle.foyer_core_steps.specs.Refines.{Refines}
use Rattle.foyer_core_steps.specs.StateOf.{IsStateOf}
use Rattle.foyer_core_steps.specs.declared.state.Core.{Core}
use Rattle.foyer_core_steps.specs.declared.reply.Reply.{Reply}
use Rattle.foyer_core_steps.specs.declared.step.Step.{Step}
use Rattle.foyer_core_told.specs.declared.event.Told.{Told}
use Rattle.foyer_core_told.specs.declared.event.Told.TheVariants as told
use Rattle.foyer_core_told.specs.ToldRuns.{IsRun, IsTold, Knows}
use Rattle.foyer_core_told.specs.ToldSteps.{IsOpeningOf, AreAccesses}
use Rattle.foyer_core_told.specs.ToldLoads.{is_read, tickets_in}
use Rattle.foyer_core_told.specs.ToldRights.{core_right, disk_right, ticket_right, step_takes, takes}

-- the core is one that was opened with its settings
abbrev pub WasOpened : {K V P A : Type 0} → Core K V P A → Type 0
WasOpened core =
    AreValid core.settings × ((marks : List (ℕ × ℕ)) × (o : Opened) × IsOpening (sizes_in core.settings) core.settings.blocks marks o × IsOpened core.settings o core)

-- the rights of flushers, blocks and tickets stay
abbrev pub KeepsRights : List ℕ → List ℕ → Type 0
KeepsRights had has = (k : ℕ) → disk_right < k → 0 < times k had → 0 < times k has

module _ {K V P A D : Type 0} where
  -- a witness of nothing, with the rights of the core and of the disk
  abbrev pub IsNew : View (Told K V P A D) → Type 0
  IsNew v = (v.seen ≡ []) × (0 < times core_right v.has) × (0 < times disk_right v.has)

  -- it has seen the opening then, and has the rights that it had
  abbrev pub HasOpened : View (Told K V P A D) → Core K V P A → D → View (Told K V P A D) → Type 0
  HasOpened v core disk w = (e : Told K V P A D) × IsOpeningOf core disk e × (w ≡ viewer (e ∷ []) (rights_of v))

  -- the event is this step with this reply, which left this core
  abbrev pub IsEventOf : Step K V P A → Reply K V P A → Core K V P A → Told K V P A D → Type 0
  IsEventOf step reply core (told.Steps made gave left) = (made.value ≡ step) × (gave.value ≡ reply) × (left.value ≡ core)
  IsEventOf step reply core event = ⊥

  -- the event is this step with this reply
  abbrev pub IsStep : Step K V P A → Reply K V P A → Told K V P A D → Type 0
  IsStep step reply (told.Steps made gave left) = (made.value ≡ step) × (gave.value ≡ reply)
  IsStep step reply event = ⊥

  -- What the core's lock has seen once a step is told: all that it had seen, accesses alone since then, and the step at the end.
  pub record HasAdded (own after : View (Told K V P A D)) (step : Step K V P A) (reply : Reply K V P A) (core : Core K V P A) : Type 0 where
    pub since : List (Told K V P A D)
    pub event : Told K V P A D
    pub accesses : AreAccesses since
    pub seen : after.seen ≡ (own.seen ++ since) ++ event ∷ []
    pub is : IsEventOf step reply core event

  -- the core's lock has the right of the core, and the caller that of the step
  abbrev pub MayStep : (own mine : View (Told K V P A D)) → Step K V P A → Type 0
  MayStep own mine step = (0 < times core_right own.has) × ((k : ℕ) → step_takes step k ≡ true → 0 < times k mine.has)

  module _ (m : Meaning K V P) (byte_at : D → ℕ → ℕ → ℕ) where
    -- What a thread has seen once an event of its own is told: all that it had seen, what others told since without its rights, and this
    -- event at the end.
    pub record HasGoneOn (mine after : View (Told K V P A D)) (Is : Told K V P A D → Type 0) : Type 0 where
      pub log : List (Told K V P A D)
      pub event : Told K V P A D
      pub kept : Continues takes log mine.seen mine.has
      pub seen : after.seen ≡ log ++ event ∷ []
      pub rights : KeepsRights mine.has after.has
      pub is : Is event
      pub goes_on : IsTold m byte_at (log ++ event ∷ [])

    -- it is known that the core stands for the state that a run leads to
    abbrev pub StandsAt : List (Told K V P A D) → Core K V P A → Type 0
    StandsAt log core = Knows m byte_at log (λ s u. IsStateOf m s core u.core)

    -- what the step brings has come, by what a thread has seen and the rights that it has
    abbrev pub BringsTrue : View (Told K V P A D) → Step K V P A → Type 0
    BringsTrue mine step =
        (s : Settings) (sound : AreValid s) (log : List (Told K V P A D)) (u : World Content) → Continues takes log mine.seen mine.has → IsRun m s sound byte_at log u
        → IsFed (machine m s sound) (layout s) (IsEncoded m.is_key m.is_value) u (step_of m step)

    -- the core before, which stood for what was seen, made this step as the model has it
    abbrev pub IsCoreStep : View (Told K V P A D) → Step K V P A → Reply K V P A → Core K V P A → Type 0
    IsCoreStep v step reply new = (old : Core K V P A) × StandsAt v.seen old × Refines m step reply old new

    -- The history went on by this step with this reply, after all that the caller had seen. The number is that of the next ticket before
    -- it, and whoever is issued a read has its right.
    pub record HasStepped (mine after : View (Told K V P A D)) (step : Step K V P A) (reply : Reply K V P A) (number : ℕ) : Type 0 where
      pub gone : HasGoneOn mine after (IsStep step reply)
      pub number_is : number ≡ tickets_in gone.log
      pub ticket : is_read reply ≡ true → 0 < times (ticket_right number) after.has
