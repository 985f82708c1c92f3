-- Faults and their causes in lists of events.
use Rattle.std.proofs.Common.{◌≡◌, ℕ, Bool, true, false, not, ◌||◌, List, [], ◌∷◌, ◌++◌, Option, Some, None, Result, Ok, Err, inr, refl, ap, ◌∙◌}
use Rattle.std.proofs.lemmas.Bool.{or_parts}
use Rattle.std.specs.Prelude.{OnErr}
use Rattle.std.specs.declared.vec.Vec.{Vec}
use Rattle.foyer_device_page.specs.declared.error.Error.{Error}
use Rattle.foyer_io_disk.specs.Disk.{SurelyCame}
use Rattle.foyer_core_model.specs.Access.{BlockWrites, Idle, Issued, InFlight, Load}
use Rattle.foyer_core_model.specs.Numbers.{page}
use Rattle.foyer_core_model.specs.Rules.{Rules}
use Rattle.foyer_core_model.specs.Step as model_step
use Rattle.foyer_core_model.specs.World.{World, WorldEvent, ReadEnds, ScanEnds, WriteEnds, CleanEnds, after, after_all}
use Rattle.foyer_core_steps.specs.Asked.{came_of, went_well}
use Rattle.foyer_core_run.specs.Causes.{AreForCause, HasCome, HasReadCome, HasWriteCome, IsForCause, has_fault, is_fault}

-- what holds of one list and of the next holds of both
pub causes_join : {C : Type 0} (came : ℕ → ℕ → ℕ → Type 0) (rules : Rules C) (w : World C) (one two : List (WorldEvent C))
    → AreForCause came rules w one → AreForCause came rules (after_all rules w one) two → AreForCause came rules w (one ++ two)
causes_join came rules w [] two first more = more
causes_join came rules w (event ∷ one) two first more = (first.0, causes_join came rules (after rules w event) one two first.1 more)

module _ {fewer more : ℕ → ℕ → ℕ → Type 0} (within : (b o n : ℕ) → fewer b o n → more b o n) where
  write_within : (pending : BlockWrites) → HasWriteCome fewer pending → HasWriteCome more pending
  write_within Idle is = is
  write_within (Issued b results ws) is = is
  write_within (InFlight b results x ws) is = within b x.offset _ is

  read_within : {C : Type 0} (load : Option (Load C)) → HasReadCome fewer load → HasReadCome more load
  read_within None is = is
  read_within (Some l) is = within l.ticket.address.block l.ticket.address.offset l.ticket.address.len is

  cause_within : {C : Type 0} (rules : Rules C) (w : World C) (event : WorldEvent C) → IsForCause more rules w event → IsForCause fewer rules w event
  cause_within rules w (ReadEnds n result) is = λ failed comes. is failed (read_within (w.loads n) comes)
  cause_within rules w (WriteEnds f ok torn) is = λ failed comes. is failed (write_within (w.block_writes f) comes)
  cause_within rules w (CleanEnds b ok torn) is = λ failed comes. is failed (within b 0 page comes)
  cause_within rules w event is = is

  -- if fewer accesses are sure, no more accesses failed without a cause
  pub causes_within : {C : Type 0} (rules : Rules C) (w : World C) (events : List (WorldEvent C)) → AreForCause more rules w events → AreForCause fewer rules w events
  causes_within rules w [] are = tt
  causes_within rules w (event ∷ events) are = (cause_within rules w event are.0, causes_within rules (after rules w event) events are.1)

not_failed : (ok : Bool) → not ok ≡ false → ok ≡ false → ⊥
not_failed true e failed = let f : true ≡ false = failed in cc
not_failed false e failed = let f : true ≡ false = e in cc

no_fault_read : (result : model_step.ReadResult) → is_fault result ≡ false → result ≡ model_step.Fault → ⊥
no_fault_read (model_step.Bytes bs) e is = let f : model_step.Bytes bs ≡ model_step.Fault = is in cc
no_fault_read model_step.Fault e is = let f : true ≡ false = e in cc

-- events without a fault have no cause to name
pub causes_none : {C : Type 0} (came : ℕ → ℕ → ℕ → Type 0) (rules : Rules C) (w : World C) (events : List (WorldEvent C)) → has_fault events ≡ false → AreForCause came rules w events
causes_none came rules w [] none = tt
causes_none came rules w (ReadEnds n result ∷ events) none =
    let both = or_parts (is_fault result) (has_fault events) none in
    ((λ failed comes. no_fault_read result both.0 failed), causes_none came rules (after rules w (ReadEnds n result)) events both.1)
causes_none came rules w (ScanEnds b result ∷ events) none =
    let both = or_parts (is_fault result) (has_fault events) none in
    (tt, causes_none came rules (after rules w (ScanEnds b result)) events both.1)
causes_none came rules w (WriteEnds f ok torn ∷ events) none =
    let both = or_parts (not ok) (has_fault events) none in
    ((λ failed comes. not_failed ok both.0 failed), causes_none came rules (after rules w (WriteEnds f ok torn)) events both.1)
causes_none came rules w (CleanEnds b ok torn ∷ events) none =
    let both = or_parts (not ok) (has_fault events) none in
    ((λ failed comes. not_failed ok both.0 failed), causes_none came rules (after rules w (CleanEnds b ok torn)) events both.1)
causes_none came rules w (event ∷ events) none = (tt, causes_none came rules (after rules w event) events none)

or_left : (a b c : Bool) → (a || (b || c)) ≡ ((a || b) || c)
or_left true b c = refl
or_left false b c = refl

-- whether one of both lists has a fault
pub faults_join : {C : Type 0} (one two : List (WorldEvent C)) → has_fault (one ++ two) ≡ (has_fault one || has_fault two)
faults_join [] two = refl
faults_join (ReadEnds n result ∷ one) two = ap (λ t. is_fault result || t) (faults_join one two) ∙ or_left (is_fault result) (has_fault one) (has_fault two)
faults_join (ScanEnds b result ∷ one) two = ap (λ t. is_fault result || t) (faults_join one two) ∙ or_left (is_fault result) (has_fault one) (has_fault two)
faults_join (WriteEnds f ok torn ∷ one) two = ap (λ t. not ok || t) (faults_join one two) ∙ or_left (not ok) (has_fault one) (has_fault two)
faults_join (CleanEnds b ok torn ∷ one) two = ap (λ t. not ok || t) (faults_join one two) ∙ or_left (not ok) (has_fault one) (has_fault two)
faults_join (event ∷ one) two = faults_join one two

-- an access that failed isn't one of which it is sure
pub unsure_failed : {X : Type 0} (outcome : Result X Error) {Came : Type 0} → OnErr outcome (Came → ⊥) → went_well outcome ≡ false → Came → ⊥
unsure_failed (Ok x) unsure failed = absurd (let f : true ≡ false = failed in cc)
unsure_failed (Err e) unsure failed = unsure

-- by the ranges alone that surely lie in the disk
pub unsure_lying : {D X : Type 0} (outcome : Result X Error) (has : ℕ → ℕ → ℕ → Type 0) (lies : D → ℕ → ℕ → ℕ → Type 0) (faults : D → ℕ) (old new : D) (b o n : ℕ)
    → OnErr outcome (SurelyCame has (lies old) (faults old) (faults new) b o n → ⊥) → OnErr outcome (HasCome lies faults old new b o n → ⊥)
unsure_lying (Ok x) has lies faults old new b o n unsure = tt
unsure_lying (Err e) has lies faults old new b o n unsure = λ come. unsure (inr come)

-- the same of what was read
pub unsure_read : {A : Type 0} (outcome : Result (Vec ℕ A) Error) {Came : Type 0} → OnErr outcome (Came → ⊥) → came_of outcome ≡ model_step.Fault → Came → ⊥
unsure_read (Ok bytes) unsure failed = absurd (let f : model_step.Bytes bytes.items ≡ model_step.Fault = failed in cc)
unsure_read (Err e) unsure failed = unsure

-- what was read is a fault if the read failed
pub fault_read : {A : Type 0} (outcome : Result (Vec ℕ A) Error) → is_fault (came_of outcome) ≡ not (went_well outcome)
fault_read (Ok bytes) = refl
fault_read (Err e) = refl

pub or_none : (t : Bool) → (t || false) ≡ t
or_none true = refl
or_none false = refl
