-- The rights that the events take, by their numbers, and what stays of the world while others lack them.
use Rattle.std.specs.Prelude.{◌≡◌, ◌≢◌, ℕ, ◌+◌, ◌^◌, ◌<◌, ◌==◌, ◌||◌, Bool, false, List, [], ◌++◌, Option, Some}
use Rattle.foyer_core_chronicle.specs.SharedHistory.{IsUntouched}
use Rattle.foyer_core_model.specs.Access.{CleanIssued, CleanDone, ReadState, Scan}
use Rattle.foyer_core_model.specs.Event.{Event}
use Rattle.foyer_core_model.specs.Step as model_step
use Rattle.foyer_core_model.specs.World.{World}
use Rattle.foyer_core_rights.specs.Frames.{IsSettled, HasLoad}
use Rattle.foyer_core_laws.specs.Content.{Content, Meaning}
use Rattle.foyer_core_laws.specs.Sizes.{AreValid}
use Rattle.foyer_core_laws.specs.Settings.{Settings}
use Rattle.foyer_core_steps.specs.declared.step.Step.{Step}
use Rattle.foyer_core_steps.specs.declared.step.Step.TheVariants as steps
use Rattle.foyer_core_told.specs.declared.event.Told.{Told}
use Rattle.foyer_core_told.specs.declared.event.Told.TheVariants as told
use Rattle.foyer_core_told.specs.ToldRuns.{IsRun}
use Rattle.foyer_core_told.specs.ToldSteps.{AreAccesses}
use Rattle.foyer_core_told.specs.ToldLoads.{AreOthers}

-- the right to make a step, and that to use the disk
abbrev pub core_right : ℕ
core_right = 0

abbrev pub disk_right : ℕ
disk_right = 1

-- the right of a flusher's writes: to have them issued, to do them and to report them
abbrev pub writes_right : ℕ → ℕ
writes_right f = 2 + (f + (f + f))

-- the right of a block's clean: to do it and to report it
abbrev pub clean_right : ℕ → ℕ
clean_right b = 3 + (b + (b + b))

-- the right of the reads for a block's reclaim: to do each and to report it
abbrev pub scan_right : ℕ → ℕ
scan_right b = 4 + (b + (b + b))

-- So many rights there are from the start: those of 2^32 flushers and blocks. It is no abbreviation, since nothing is to count so far.
unfoldable pub rights_count : ℕ
rights_count = 12884901890

-- the right of a ticket's read, which is made when the ticket is issued
abbrev pub ticket_right : ℕ → ℕ
ticket_right n = rights_count + n

-- the rights of all flushers and blocks that 32 bits count are there from the start, and are apart
pub record RightsAreThere : Type 0 where
  pub core : core_right < rights_count
  pub disk : disk_right < rights_count
  pub writes : (f : ℕ) → f < 2 ^ 32 → writes_right f < rights_count
  pub cleans : (b : ℕ) → b < 2 ^ 32 → clean_right b < rights_count
  pub scans : (b : ℕ) → b < 2 ^ 32 → scan_right b < rights_count
  pub no_clean : (f b : ℕ) → writes_right f ≢ clean_right b
  pub no_scan : (f b : ℕ) → writes_right f ≢ scan_right b
  pub no_clean_scan : (b c : ℕ) → clean_right b ≢ scan_right c

-- the right that a step takes beside that of the core
abbrev pub step_takes : {K V P A : Type 0} → Step K V P A → ℕ → Bool
step_takes (steps.FlushBlock flusher) k = k == writes_right flusher
step_takes (steps.FlushWrote flusher outcome) k = k == writes_right flusher
step_takes (steps.ReclaimRead block outcome) k = k == scan_right block
step_takes (steps.ReclaimCleaned block outcome) k = k == clean_right block
step_takes (steps.DestroyCleaned block outcome) k = k == clean_right block
step_takes step k = false

abbrev pub takes : {K V P A D : Type 0} → Told K V P A D → ℕ → Bool
takes (told.Opened core disk) k = (k == core_right) || (k == disk_right)
takes (told.Steps step reply core) k = (k == core_right) || step_takes step.value k
takes (told.Reads number outcome) k = (k == disk_right) || (k == ticket_right number)
takes (told.Scans block outcome) k = (k == disk_right) || (k == scan_right block)
takes (told.Writes flusher is_ok disk) k = (k == disk_right) || (k == writes_right flusher)
takes (told.Cleans block is_ok disk) k = (k == disk_right) || (k == clean_right block)

-- If no event took the right of a ticket's number, no event is a read of that ticket. If no event took the core's right, all
-- events are accesses.
pub record RightsExclude {K V P A D : Type 0} (es : List (Told K V P A D)) : Type 0 where
  pub others : (n : ℕ) → IsUntouched takes (ticket_right n) es → AreOthers n es
  pub accesses : IsUntouched takes core_right es → AreAccesses es

-- These events lead from one world to another. What a right is for stays if no event took the right. A read only stays so if it
-- isn't under way, and a clean only if it was issued or is done.
pub record RightsKeep {K V P A D : Type 0} (w : World Content) (es : List (Told K V P A D)) (u : World Content) : Type 0 where
  pub core : IsUntouched takes core_right es → u.core ≡ w.core
  pub history : IsUntouched takes core_right es → u.history ≡ w.history
  pub disk : IsUntouched takes disk_right es → u.bytes ≡ w.bytes
  pub writes : (f : ℕ) → IsUntouched takes (writes_right f) es → u.block_writes f ≡ w.block_writes f
  pub scans : (b : ℕ) (scan : Scan) → IsSettled scan.read_state → IsUntouched takes (scan_right b) es → w.scans b ≡ Some scan → u.scans b ≡ Some scan
  pub cleans : (b : ℕ) → IsUntouched takes (clean_right b) es → w.clean_states b ≡ CleanIssued → u.clean_states b ≡ CleanIssued
  pub cleaned : (b : ℕ) (ok : Bool) → IsUntouched takes (clean_right b) es → w.clean_states b ≡ CleanDone ok → u.clean_states b ≡ CleanDone ok
  pub loads : (n : ℕ) (t : model_step.Ticket) (promise : Option (Event Content)) (state : ReadState) → IsSettled state → IsUntouched takes (ticket_right n) es → HasLoad w n t promise state → HasLoad u n t promise state

-- Whatever is told after what a thread has seen.
abbrev pub RightsKeepTheirParts : (K V P A D : Type 0) → Type 0
RightsKeepTheirParts K V P A D =
    (m : Meaning K V P) (s : Settings) (sound : AreValid s) (byte_at : D → ℕ → ℕ → ℕ) (seen since : List (Told K V P A D)) (u : World Content)
    → (seen ≡ [] → ⊥) → IsRun m s sound byte_at (seen ++ since) u
    → RightsExclude since × ((v : World Content) × IsRun m s sound byte_at seen v × RightsKeep v since u)
