-- A core's step as the model's.
use Rattle.std.specs.Prelude.{ℕ, Bool, true, false, Option, Some, None, Result, Ok, Err}
use Rattle.foyer_device_page.specs.declared.error.Error.{Error}
use Rattle.foyer_device_page.specs.declared.error.Error.TheVariants as error
use Rattle.foyer_format_record.specs.declared.serde.ages.Age.{Age}
use Rattle.foyer_format_record.specs.declared.serde.ages.Age.TheVariants as age
use Rattle.std.specs.declared.vec.Vec.{Vec}
use Rattle.foyer_core_model.specs.Kind.{Kind, Io, Memory}
use Rattle.foyer_core_model.specs.Step as model_step
use Rattle.foyer_core_flusher.specs.Content.{Content, Meaning, content_of}
use Rattle.foyer_core_flusher.specs.Addresses.{address_of}
use Rattle.foyer_core_steps.specs.declared.step.Step.{Step}
use Rattle.foyer_core_steps.specs.declared.step.Step.TheVariants as step
use Rattle.foyer_core_steps.specs.declared.step.Ticket.{Ticket}

abbrev pub ticket_of : Ticket → model_step.Ticket
ticket_of t = record { hash = t.hash; address = address_of t.address }

abbrev pub age_of : Age → model_step.Age
age_of age.Fresh = model_step.Fresh
age_of age.Young = model_step.Young
age_of age.Old = model_step.Old

-- without an age a piece is fresh
abbrev pub known_age : Option Age → model_step.Age
known_age None = model_step.Fresh
known_age (Some a) = age_of a

abbrev pub came_of : {A : Type 0} → Result (Vec ℕ A) Error → model_step.ReadResult
came_of (Ok bytes) = model_step.Bytes bytes.items
came_of (Err e) = model_step.Fault

abbrev pub went_well : {X : Type 0} → Result X Error → Bool
went_well (Ok x) = true
went_well (Err e) = false

-- the fault of an access, if it failed: memory was refused, or the device failed
abbrev pub fault_of : {X : Type 0} → Result X Error → Option Kind
fault_of (Ok x) = None
fault_of (Err error.Memory) = Some Memory
fault_of (Err e) = Some Io

abbrev pub step_of : {K V P A : Type 0} → Meaning K V P → Step K V P A → model_step.Step Content
step_of m (step.Enqueue piece size) = model_step.Enqueue piece.piece.hash size (known_age (m.age_of piece.piece.properties)) (content_of m piece)
step_of m (step.Delete hash) = model_step.Delete hash
step_of m (step.Wait flusher id) = model_step.Wait flusher id
step_of m (step.MayContains hash) = model_step.MayContains hash
step_of m (step.LoadBegin hash throttled) = model_step.LoadBegin hash throttled
step_of m (step.LoadEnd ticket outcome) = model_step.LoadEnd (ticket_of ticket) (came_of outcome)
step_of m (step.Receive flusher) = model_step.Receive flusher
step_of m (step.FlushBegin flusher) = model_step.FlushBegin flusher
step_of m (step.FlushBlock flusher) = model_step.FlushBlock flusher
step_of m (step.FlushWrote flusher outcome) = model_step.FlushWrote flusher (went_well outcome)
step_of m (step.LogWrote flusher outcome) = model_step.LogWrote flusher (went_well outcome)
step_of m (step.FlushEnd flusher) = model_step.FlushEnd flusher
step_of m step.ReclaimBegin = model_step.ReclaimBegin
step_of m (step.ReclaimRead block outcome) = model_step.ReclaimRead block (came_of outcome)
step_of m (step.ReclaimForget block) = model_step.ReclaimForget block
step_of m (step.ReclaimCleaned block outcome) = model_step.ReclaimCleaned block (went_well outcome)
step_of m step.ReclaimIdle = model_step.ReclaimIdle
step_of m step.DestroyBegin = model_step.DestroyBegin
step_of m step.DestroyClear = model_step.DestroyClear
step_of m (step.DestroyCleaned block outcome) = model_step.DestroyCleaned block (fault_of outcome)
step_of m step.Close = model_step.Close
