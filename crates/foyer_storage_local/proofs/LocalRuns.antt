-- What leads an engine on, one after the other.
use Rattle.std.proofs.Common.{◌≡◌, ℕ, List, [], ◌∷◌, Option, None, Ok, Err, inr, sym, subst, ◌∙◌, arith}
use Rattle.std.specs.Prelude.{IfOk, OnErr, Result}
use Rattle.foyer_io_disk.specs.Disk.{HasFailed, SurelyCame}
use Rattle.foyer_io_disk.proofs.FaultLemmas.{not_both}
use Rattle.foyer_core_laws.specs.Content.{Content, Meaning}
use Rattle.foyer_core_laws.specs.CoreRules.{layout, machine, IsEncoded}
use Rattle.foyer_core_laws.specs.Sizes.{AreValid}
use Rattle.foyer_core_laws.specs.Settings.{Settings}
use Rattle.foyer_core_model.specs.State.{State}
use Rattle.foyer_core_model.specs.World.{World, WorldEvent, IsFed}
use Rattle.foyer_core_steps.specs.Asked.{step_of}
use Rattle.foyer_core_steps.specs.Refines.{Refines}
use Rattle.foyer_core_steps.specs.declared.reply.Reply.{Reply}
use Rattle.foyer_core_steps.specs.declared.reply.Reply.TheVariants as reply
use Rattle.foyer_core_steps.specs.declared.state.Core.{Core}
use Rattle.foyer_core_steps.specs.declared.step.Step.{Step}
use Rattle.foyer_core_steps.specs.declared.step.Step.TheVariants as step
use Rattle.foyer_block_recover.specs.declared.block.recover.RecoverMode.TheVariants as recover_mode
use Rattle.foyer_core_run.specs.AtRest.{ComesToRest, IsAtRest, IsFlusherIdle, KeepsIdle, KeepsOthers, KeepsOthersIdle, Leads, LeavesAllIdle, LeavesIdle, Without}
use Rattle.foyer_core_run.specs.Batches.{Appending, IsBatchBegun}
use Rattle.foyer_core_run.specs.Begun.{IsBegun, IsBegunEmpty}
use Rattle.foyer_core_run.specs.Causes.{DrivesForCause, HasCome}
use Rattle.foyer_core_run.specs.Destroys.{HasDestroyed, IsClearing, IsDestroying, IsUncleared}
use Rattle.foyer_core_run.specs.Reclaims.{IsReclaim}
use Rattle.foyer_core_run.specs.Waiting.{AllSteps, DrivesBy, IsClosing, IsWaiting}
use Rattle.foyer_core_run.proofs.BatchRuns.{begun_for_cause}
use Rattle.foyer_core_run.proofs.CauseLemmas.{cause_drives, cause_fewer, cause_more, cause_none, cause_stepped, come_before, come_behind}
use Rattle.foyer_core_run.proofs.DestroyLemmas.{destroys_begun, destroys_cleared, destroys_if, destroys_kept, destroys_more, destroys_none, destroys_waiting}
use Rattle.foyer_core_run.proofs.OpenedRuns.{begun_empty}
use Rattle.foyer_core_run.proofs.ReclaimRuns.{reclaims_for_cause}
use Rattle.foyer_core_run.proofs.RestLemmas.{IsAny, keeps_idle, leads_more}
use Rattle.foyer_core_run.proofs.WaitingLemmas.{all_join, closing_join}
use Rattle.foyer_device_page.specs.declared.error.Error.{Error}
use Rattle.foyer_storage_local.specs.EntryCalls.{IsCleanFault, KeepsLies, LeadsForCause}
use Rattle.foyer_storage_local.specs.declared.engine.LocalEngine.{LocalEngine}

-- a wait's steps lead from one engine to another
abbrev pub Waited : {K V P H A D L E C : Type 0} → Meaning K V P → (is_known : D → Type 0) (byte_at : D → ℕ → ℕ → ℕ) (lies : D → ℕ → ℕ → ℕ → Type 0) (faults : D → ℕ) → LocalEngine K V P H A D L E C → LocalEngine K V P H A D L E C → Type 0
Waited m is_known byte_at lies faults a b = LeadsForCause is_known byte_at lies faults (AllSteps IsWaiting) m a.core a.disk b.core b.disk

-- and a destroy's steps, which destroyed everything if this condition holds
abbrev pub Destroyed : {K V P H A D L E C : Type 0} → Type 0 → Meaning K V P → (is_known : D → Type 0) (byte_at : D → ℕ → ℕ → ℕ) (lies : D → ℕ → ℕ → ℕ → Type 0) (faults : D → ℕ) → LocalEngine K V P H A D L E C → LocalEngine K V P H A D L E C → Type 0
Destroyed IsDone m is_known byte_at lies faults a b =
    LeadsForCause is_known byte_at lies faults (λ events. AllSteps IsDestroying events × (IsDone → HasDestroyed events)) m a.core a.disk b.core b.disk

-- what surely lies in disks, one after the other
module _ {D : Type 0} (lies : D → ℕ → ℕ → ℕ → Type 0) (faults : D → ℕ) where
  pub lies_none : (a : D) → KeepsLies lies faults a a
  lies_none a = ((λ b o n lie. lie), omega arith)

  pub lies_more : (a b c : D) → KeepsLies lies faults a b → KeepsLies lies faults b c → KeepsLies lies faults a c
  lies_more a b c one two = ((λ x o n lie. two.0 x o n (one.0 x o n lie)), omega (arith, one.1, two.1))

  -- what a disk may answer to a clean, what it was before may have become
  pub fault_since : (may_answer : D → ℕ → ℕ → ℕ → Error → Type 0) (old later : D) (e : Error) → KeepsLies lies faults old later
      → IsCleanFault lies faults may_answer later e → IsCleanFault lies faults may_answer old e
  fault_since may_answer old later e keeps is = record {
    disk = is.disk;
    block = is.block;
    keeps = lies_more old later is.disk keeps is.keeps;
    answers = is.answers;
  }

-- if writes to what lies in the disk fail only if the disk failed, a failed write didn't surely come
pub failed_unsure : {X D : Type 0} (outcome : Result X Error) (lies : D → ℕ → ℕ → ℕ → Type 0) (faults : D → ℕ) (old new : D) (b o n len : ℕ) → len ≡ n
    → (lies old b o len → OnErr outcome (HasFailed (faults old) (faults new))) → OnErr outcome (HasCome lies faults old new b o n → ⊥)
failed_unsure (Ok x) lies faults old new b o n len is failed = tt
failed_unsure (Err e) lies faults old new b o n len is failed = λ come. not_both (faults old) (faults new) (failed (subst (lies old b o) (sym is) come.1)) come.0

module _ {K V P A D : Type 0} (m : Meaning K V P) (is_known : D → Type 0) (byte_at : D → ℕ → ℕ → ℕ) (lies : D → ℕ → ℕ → ℕ → Type 0) (faults : D → ℕ) where
  -- nothing happens
  pub waits_here : (core : Core K V P A) (disk : D) → LeadsForCause is_known byte_at lies faults (AllSteps IsWaiting) m core disk core disk
  waits_here core disk = (lies_none lies faults disk, λ known. (known, cause_none m (HasCome lies faults disk disk) (AllSteps IsWaiting) tt core (byte_at disk)))

  -- one after the other
  pub waits_on : (a b c : Core K V P A) (x y z : D) → LeadsForCause is_known byte_at lies faults (AllSteps IsWaiting) m a x b y → LeadsForCause is_known byte_at lies faults (AllSteps IsWaiting) m b y c z
      → LeadsForCause is_known byte_at lies faults (AllSteps IsWaiting) m a x c z
  waits_on a b c x y z one two = (
    lies_more lies faults x y z one.0 two.0,
    λ known.
        let first = one.1 known in
        let second = two.1 first.0 in (
          second.0,
          cause_more m (HasCome lies faults x z) (HasCome lies faults x y) (HasCome lies faults y z)
              (come_before lies faults x y z (one.0).1 (two.0).1) (come_behind lies faults x y z (one.0).1 (two.0).1 (one.0).0)
              (AllSteps IsWaiting) (AllSteps IsWaiting) (AllSteps IsWaiting) (all_join IsWaiting) a b c (byte_at x) (byte_at y) (byte_at z) first.1 second.1,
        ),
  )

  -- a step that brings no result
  pub waits_stepped : (given : Step K V P A) (answer : Reply K V P A) (a b : Core K V P A) (disk : D)
      → ((s : Settings) (sound : AreValid s) (w : World Content) → IsFed (machine m s sound) (layout s) (IsEncoded m.is_key m.is_value) w (step_of m given)) → IsWaiting (step_of m given)
      → Refines m given answer a b → LeadsForCause is_known byte_at lies faults (AllSteps IsWaiting) m a disk b disk
  waits_stepped given answer a b disk fed is meets = (
    lies_none lies faults disk,
    λ known. (known, cause_stepped m (HasCome lies faults disk disk) (AllSteps IsWaiting) given answer a b (byte_at disk) fed (λ it st. (is, tt)) meets),
  )

  -- a batch that begins
  pub waits_begun : (f : ℕ) {L : Type 0} (Appends : Appending L) (from to : L) (answer : Reply K V P A) (a b : Core K V P A) (disk : D)
      → ((bytes : ℕ → ℕ → ℕ) → DrivesBy (IsBatchBegun m f Appends from to answer) m a b bytes bytes) → LeadsForCause is_known byte_at lies faults (AllSteps IsWaiting) m a disk b disk
  waits_begun f Appends from to answer a b disk begins = (
    lies_none lies faults disk,
    λ known. (known, begun_for_cause m f Appends from (HasCome lies faults disk disk) to answer a b (byte_at disk) (begins (byte_at disk))),
  )

  -- a block and its writes
  pub waits_written : (has : ℕ → ℕ → ℕ → Type 0) (a b : Core K V P A) (x y : D) → KeepsLies lies faults x y → (is_known x → is_known y)
      → (is_known x → DrivesForCause (SurelyCame has (lies x) (faults x) (faults y)) (AllSteps IsWaiting) m a b (byte_at x) (byte_at y))
      → LeadsForCause is_known byte_at lies faults (AllSteps IsWaiting) m a x b y
  waits_written has a b x y keeps stays writes = (
    keeps,
    λ known. (
      stays known,
      cause_fewer m (HasCome lies faults x y) (SurelyCame has (lies x) (faults x) (faults y)) (λ b o n come. inr come) (AllSteps IsWaiting) a b (byte_at x) (byte_at y) (writes known),
    ),
  )

  -- a reclaim of a block
  pub waits_reclaimed : (last : Reply K V P A) (a b : Core K V P A) (x y : D) → KeepsLies lies faults x y → (is_known x → is_known y)
      → (is_known x → DrivesForCause (HasCome lies faults x y) (IsReclaim m last) m a b (byte_at x) (byte_at y)) → LeadsForCause is_known byte_at lies faults (AllSteps IsWaiting) m a x b y
  waits_reclaimed last a b x y keeps stays reclaims = (keeps, λ known. (stays known, reclaims_for_cause m last (HasCome lies faults x y) a b (byte_at x) (byte_at y) (reclaims known)))

  -- by these events, whatever failed
  pub leads_by : (Are : List (WorldEvent Content) → Type 0) (a : Core K V P A) (x : D) (b : Core K V P A) (y : D) → LeadsForCause is_known byte_at lies faults Are m a x b y
      → is_known x → is_known y × DrivesBy Are m a b (byte_at x) (byte_at y)
  leads_by Are a x b y leads known = let driven = leads.1 known in (driven.0, cause_drives m (HasCome lies faults x y) Are a b (byte_at x) (byte_at y) driven.1)

  -- a destroy that begins
  pub destroy_begun : (last : Reply K V P A) (a b : Core K V P A) (disk : D) → Refines m step.DestroyBegin last a b
      → LeadsForCause is_known byte_at lies faults (λ events. AllSteps IsDestroying events × (⊥ → HasDestroyed events)) m a disk b disk
  destroy_begun last a b disk meets = (lies_none lies faults disk, λ known. (known, destroys_begun m (HasCome lies faults disk disk) last a b (byte_at disk) meets))

  -- a wait's steps are a destroy's
  pub destroy_waited : (a b : Core K V P A) (x y : D) → LeadsForCause is_known byte_at lies faults (AllSteps IsWaiting) m a x b y
      → LeadsForCause is_known byte_at lies faults (λ events. AllSteps IsDestroying events × (⊥ → HasDestroyed events)) m a x b y
  destroy_waited a b x y waits = (waits.0, λ known. let waited = waits.1 known in (waited.0, destroys_waiting m (HasCome lies faults x y) a b (byte_at x) (byte_at y) waited.1))

  -- everything is destroyed if a condition holds that holds only if the earlier one did
  pub destroyed_if : (Was Is : Type 0) (a b : Core K V P A) (x y : D) → (Is → Was) → LeadsForCause is_known byte_at lies faults (λ events. AllSteps IsDestroying events × (Was → HasDestroyed events)) m a x b y
      → LeadsForCause is_known byte_at lies faults (λ events. AllSteps IsDestroying events × (Is → HasDestroyed events)) m a x b y
  destroyed_if Was Is a b x y only leads = (leads.0, λ known. let driven = leads.1 known in (driven.0, destroys_if m (HasCome lies faults x y) Was Is a b (byte_at x) (byte_at y) only driven.1))

  -- nothing happens
  pub destroys_here : (core : Core K V P A) (disk : D) → LeadsForCause is_known byte_at lies faults (λ events. AllSteps IsDestroying events × (⊥ → HasDestroyed events)) m core disk core disk
  destroys_here core disk = (lies_none lies faults disk, λ known. (known, destroys_none m (HasCome lies faults disk disk) core (byte_at disk)))

  -- the index was cleared, and each block cleaned
  pub destroy_cleared : (Was : Type 0) (n : ℕ) (last : Reply K V P A) (a b : Core K V P A) (x y : D) → KeepsLies lies faults x y → (is_known x → is_known y) → (Was → last ≡ reply.Destroyed None)
      → (is_known x → DrivesForCause (HasCome lies faults x y) (IsClearing m n last) m a b (byte_at x) (byte_at y))
      → LeadsForCause is_known byte_at lies faults (λ events. AllSteps IsDestroying events × (Was → HasDestroyed events)) m a x b y
  destroy_cleared Was n last a b x y keeps stays ended clears = (keeps, λ known. (stays known, destroys_cleared m (HasCome lies faults x y) Was n last a b (byte_at x) (byte_at y) ended (clears known)))

  -- or it wasn't
  pub destroy_kept : (back : Reply K V P A) (a b : Core K V P A) (x y : D) → KeepsLies lies faults x y → (is_known x → is_known y) → DrivesBy (IsUncleared m back) m a b (byte_at x) (byte_at y)
      → LeadsForCause is_known byte_at lies faults (λ events. AllSteps IsDestroying events × (⊥ → HasDestroyed events)) m a x b y
  destroy_kept back a b x y keeps stays kept = (keeps, λ known. (stays known, destroys_kept m (HasCome lies faults x y) back a b (byte_at x) (byte_at y) kept))

  -- one destroy's steps behind another's
  pub known_destroys : (Was Is : Type 0) (a b c : Core K V P A) (x y z : D) → LeadsForCause is_known byte_at lies faults (λ events. AllSteps IsDestroying events × (Was → HasDestroyed events)) m a x b y
      → LeadsForCause is_known byte_at lies faults (λ events. AllSteps IsDestroying events × (Is → HasDestroyed events)) m b y c z
      → LeadsForCause is_known byte_at lies faults (λ events. AllSteps IsDestroying events × (Is → HasDestroyed events)) m a x c z
  known_destroys Was Is a b c x y z one two = (
    lies_more lies faults x y z one.0 two.0,
    λ known.
        let first = one.1 known in
        let second = two.1 first.0 in (
          second.0,
          destroys_more m (HasCome lies faults x z) (HasCome lies faults x y) (HasCome lies faults y z)
              (come_before lies faults x y z (one.0).1 (two.0).1) (come_behind lies faults x y z (one.0).1 (two.0).1 (one.0).0) Was Is a b c (byte_at x) (byte_at y) (byte_at z) first.1 second.1,
        ),
  )

module _ {K V P A : Type 0} (m : Meaning K V P) where
  -- a Close
  pub close_alone : (came : ℕ → ℕ → ℕ → Type 0) (last : Reply K V P A) (a b : Core K V P A) (bytes : ℕ → ℕ → ℕ) → Refines m step.Close last a b → DrivesForCause came IsClosing m a b bytes bytes
  close_alone came last a b bytes meets = cause_stepped m came IsClosing step.Close last a b bytes (λ s sound w. tt) (λ it st. tt) meets

  -- and a wait behind it
  pub close_before : (came : ℕ → ℕ → ℕ → Type 0) (a b c : Core K V P A) (x y z : ℕ → ℕ → ℕ) → DrivesForCause came IsClosing m a b x y → DrivesForCause came (AllSteps IsWaiting) m b c y z
      → DrivesForCause came IsClosing m a c x z
  close_before came a b c x y z first then =
      cause_more m came came came (λ d o n is. is) (λ d o n is. is) IsClosing (AllSteps IsWaiting) IsClosing closing_join a b c x y z first then

  -- a core that was opened over zeros, in what was opened
  pub zeroed : {X D : Type 0} (core_of : X → Core K V P A) (disk_of : X → D) (s : Settings) (byte_at : D → ℕ → ℕ → ℕ) (surely : X → ℕ → ℕ → ℕ → Type 0) (seen : Type 0) → seen → (disk : D) → ((b o : ℕ) → byte_at disk b o ≡ 0)
      → (opened : Result X Error)
      → IfOk opened (λ engine. (sound : AreValid s) → IsBegun m s sound (byte_at disk) (surely engine) recover_mode.None [] seen (core_of engine) (byte_at (disk_of engine)))
      → IfOk opened (λ engine. (sound : AreValid s) → IsBegunEmpty m s sound (λ b o. 0) (core_of engine) (byte_at (disk_of engine)))
  zeroed core_of disk_of s byte_at surely seen is_seen disk zeros (Ok engine) begins = λ sound.
      begun_empty m s sound (core_of engine) (byte_at disk) (λ b o. 0) (byte_at (disk_of engine)) (surely engine) seen is_seen (begins sound) zeros
  zeroed core_of disk_of s byte_at surely seen is_seen disk zeros (Err e) begins = tt

  -- what leads a core on, one after the other
  module _ {F : Type 0} (filter other : Option F) (same : other ≡ filter) (f : ℕ) (a b c : Core K V P A) where
    pub others_more : Leads m (KeepsOthersIdle filter f) a b → Leads m (KeepsOthersIdle other f) b c → Leads m (KeepsOthersIdle filter f) a c
    others_more led writes =
        leads_more m (KeepsOthersIdle filter f) (KeepsOthersIdle other f) (KeepsOthersIdle filter f) a b c (λ x y z one two none g ne idle. two (same ∙ none) g ne (one none g ne idle)) led writes

    pub written_reclaimed : Leads m (KeepsOthers f) a b → Leads m (Without other KeepsIdle) b c → Leads m (KeepsOthersIdle filter f) a c
    written_reclaimed writes reclaims =
        leads_more m (KeepsOthers f) (Without other KeepsIdle) (KeepsOthersIdle filter f) a b c (λ x y z one two none g ne idle. two (same ∙ none) g (keeps_idle filter f x y one none g ne idle)) writes reclaims

    pub waited_idle : Leads m (KeepsOthers f) a b → Leads m (LeavesIdle other f) b c → Leads m (LeavesIdle filter f) a c
    waited_idle waits led =
        leads_more m (KeepsOthers f) (LeavesIdle other f) (LeavesIdle filter f) a b c
        (λ x y z one two. ((λ none g ne idle. two.0 (same ∙ none) g ne (keeps_idle filter f x y one none g ne idle)), two.1)) waits led

  -- a block that was written alone
  pub written_alone : {F : Type 0} (filter : Option F) (f : ℕ) (a b : Core K V P A) → Leads m (KeepsOthers f) a b → Leads m (KeepsOthersIdle filter f) a b
  written_alone filter f a b writes = λ s sound it at. let led = writes s sound it at in (led.0, led.1, keeps_idle filter f it led.0 led.2)

  -- a flusher that is idle is left so
  pub left_alone : {F : Type 0} (filter : Option F) (f : ℕ) (core : Core K V P A) → IsFlusherIdle m f core → Leads m (LeavesIdle filter f) core core
  left_alone filter f core still = λ s sound it at. (it, at, ((λ none g ne idle. idle), still s it at))

  -- without a filter from here on
  pub filtered_not : {F : Type 0} (filter other : Option F) → other ≡ None → (R : State Content → State Content → Type 0) (a b : Core K V P A) → Leads m (Without other R) a b → Leads m (Without filter R) a b
  filtered_not filter other none R a b led = λ s sound it at. let l = led s sound it at in (l.0, l.1, (λ _. l.2 none))

  -- whatever a core is led to behind any states
  pub any_then : (R : State Content → State Content → Type 0) (a b c : Core K V P A) → Leads m IsAny a b → Leads m R b c → Leads m IsAny a c
  any_then R a b c led more = leads_more m IsAny R IsAny a b c (λ x y z one two. tt) led more

  -- a core that is led to, and is at rest
  pub led_to_rest : (a b : Core K V P A) → Leads m IsAny a b → IsAtRest m b → Leads m LeavesAllIdle a b
  led_to_rest a b led rest = λ s sound it at. let l = led s sound it at in (l.0, l.1, (λ f. rest f s l.0 l.1))

  pub rests : (a b : Core K V P A) → IsAtRest m b → ComesToRest m a b
  rests a b rest = λ s sound it at. rest
