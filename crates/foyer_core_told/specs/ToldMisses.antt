-- What a look-up and the end of a load are answered if a put is newest, and the told cause if the put is missed.
use Rattle.std.specs.Prelude.{◌≡◌, ◌≢◌, ◌⊎◌, ℕ, ◌<◌, ◌==◌, Bool, true, false, ◌||◌, List, [], ◌∷◌, ◌++◌, Some, None, Result, Ok, Err}
use Rattle.std.specs.declared.vec.Vec.{Vec}
use Rattle.foyer_device_page.specs.declared.error.Error.{Error}
use Rattle.foyer_format_record.specs.declared.serde.ages.Age.{Age}
use Rattle.foyer_core_model.specs.Kind.{Kind, Io, Memory, Parse, Unsupported}
use Rattle.foyer_core_model.specs.Numbers.{last_number}
use Rattle.foyer_core_model.specs.Record.{Outcome, NoRecord, NotSupported, Undecodable, Holds}
use Rattle.foyer_core_model.specs.Event.{Event, Put, newest}
use Rattle.foyer_core_model.specs.Step as model_step
use Rattle.foyer_core_model.specs.World.{World}
use Rattle.foyer_core_laws.specs.Content.{Content, Meaning, content}
use Rattle.foyer_core_laws.specs.Sizes.{AreValid}
use Rattle.foyer_core_laws.specs.Settings.{Settings}
use Rattle.foyer_core_steps.specs.Asked.{step_of, ticket_of, came_of}
use Rattle.foyer_core_steps.specs.Destroying.{kind_of}
use Rattle.foyer_core_steps.specs.declared.step.Ticket.{Ticket}
use Rattle.foyer_core_steps.specs.declared.step.Step.TheVariants as steps
use Rattle.foyer_core_steps.specs.declared.reply.Reply.{Reply}
use Rattle.foyer_core_steps.specs.declared.reply.Reply.TheVariants as replies
use Rattle.foyer_core_told.specs.declared.event.Told.{Told}
use Rattle.foyer_core_told.specs.declared.event.Told.TheVariants as told
use Rattle.foyer_core_told.specs.ToldRuns.{LeadsTo, IsRun}
use Rattle.foyer_core_told.specs.ToldLoads.{tickets_in, steps_in, IssuesTicket, IsReadOf, AreOthers}

-- a look-up of this hash had this reply
abbrev pub LooksUp : {K V P A D : Type 0} → Told K V P A D → (hash : ℕ) → (throttled : Bool) → Reply K V P A → Type 0
LooksUp (told.Steps step reply core) h throttled answer = (step.value ≡ steps.LoadBegin h throttled) × (reply.value ≡ answer)
LooksUp event h throttled answer = ⊥

-- the end of the load of this ticket, by what was read, had this reply
abbrev pub EndsLoad : {K V P A D : Type 0} → Told K V P A D → Ticket → Result (Vec ℕ A) Error → Reply K V P A → Type 0
EndsLoad (told.Steps step reply core) ticket outcome answer = (step.value ≡ steps.LoadEnd ticket outcome) × (reply.value ≡ answer)
EndsLoad event ticket outcome answer = ⊥

-- the reply begins the reclaim of this block
abbrev pub IsPick : {K V P A : Type 0} → Reply K V P A → ℕ → Type 0
IsPick (replies.Picked c answers probation) b = c ≡ b
IsPick reply b = ⊥

abbrev pub IsPickOf : {K V P A D : Type 0} → Told K V P A D → ℕ → Type 0
IsPickOf (told.Steps step reply core) b = IsPick reply.value b
IsPickOf event b = ⊥

-- the reply begins the reclaim of this block, or says that a destroy cleared the index
abbrev pub takes_away : {K V P A : Type 0} → ℕ → Reply K V P A → Bool
takes_away b (replies.Picked c answers probation) = b == c
takes_away b replies.Cleared = true
takes_away b reply = false

-- one of these events does
abbrev pub is_taken_in : {K V P A D : Type 0} → ℕ → List (Told K V P A D) → Bool
is_taken_in b [] = false
is_taken_in b (told.Steps step reply core ∷ es) = takes_away b reply.value || is_taken_in b es
is_taken_in b (e ∷ es) = is_taken_in b es

module _ {K V P A D : Type 0} (m : Meaning K V P) (s : Settings) (sound : AreValid s) (byte_at : D → ℕ → ℕ → ℕ) where
  -- In this history, which tells a run to this world, the reclaim of the block in which the put stood began while it was newest, and
  -- nothing of its hash was committed since.
  pub record IsTaken (log : List (Told K V P A D)) (to : World Content) (h : ℕ) (put : Event Content) : Type 0 where
    pub early : List (Told K V P A D)
    pub began : Told K V P A D
    pub late : List (Told K V P A D)
    pub there : World Content
    pub block : ℕ
    pub is : log ≡ early ++ began ∷ late
    pub before : IsRun m s sound byte_at early there
    pub since : LeadsTo m s sound byte_at there (began ∷ late) to
    pub newest_there : newest h there.history ≡ Some put
    pub stood : there.kept h ≡ Some block
    pub picked : IsPickOf began block
    pub gone : to.kept h ≡ None

-- a look-up issued a read of exactly this, or was throttled as its caller asked
abbrev pub IsFound : {K V P A : Type 0} → (hash sequence : ℕ) → (throttled : Bool) → Reply K V P A → Type 0
IsFound h n throttled answer =
    ((throttled ≡ true) × (answer ≡ replies.Throttled))
    ⊎ ((throttled ≡ false) × ((ticket : Ticket) × (answer ≡ replies.Read ticket) × (ticket.hash ≡ h) × (ticket.address.sequence ≡ n)))

-- the end of a load was refused for this cause, and returned
abbrev pub IsRefusedFor : {K V P A : Type 0} → Meaning K V P → Kind → Ticket → Result (Vec ℕ A) Error → Reply K V P A → Type 0
IsRefusedFor m kind ticket outcome (replies.Refused why back) =
    (kind_of why ≡ Some kind) × (step_of m back ≡ model_step.LoadEnd (ticket_of ticket) (came_of outcome))
IsRefusedFor m kind ticket outcome reply = ⊥

-- what the end of a load is answered, by what was newest: Io if the read failed; the record's content, or Memory, if the record
-- holds content; a miss if it is a broken recovered one; Parse, or Memory, if it doesn't decode; Unsupported if it isn't
-- supported
abbrev pub IsAnswerTo : {K V P A : Type 0} → Meaning K V P → Ticket → Result (Vec ℕ A) Error → Outcome Content → Reply K V P A → Type 0
IsAnswerTo m ticket (Err e) x answer = IsRefusedFor m Io ticket (Err e) answer
IsAnswerTo m ticket (Ok bytes) NoRecord answer = answer ≡ replies.Miss
IsAnswerTo m ticket (Ok bytes) NotSupported answer = IsRefusedFor m Unsupported ticket (Ok bytes) answer
IsAnswerTo m ticket (Ok bytes) Undecodable answer = IsRefusedFor m Parse ticket (Ok bytes) answer ⊎ IsRefusedFor m Memory ticket (Ok bytes) answer
IsAnswerTo {K} {V} m ticket (Ok bytes) (Holds c) answer =
    ((key : K) × (value : V) × (age : Age) × (answer ≡ replies.Entry key value age) × (content m key value ≡ c)) ⊎ IsRefusedFor m Memory ticket (Ok bytes) answer

-- This holds of a look-up whatever threads did before, in whatever run they tell, while fewer than 2^64 - 1 steps counted. If
-- what was newest of its hash was the put of a record that isn't broken, there are three cases. The record is read, or the
-- look-up was throttled as asked, or the reclaim of the record's block had begun in the history before.
abbrev pub LooksUpToldNewest : (K V P A D : Type 0) → Type 0
LooksUpToldNewest K V P A D =
    (m : Meaning K V P) (s : Settings) (sound : AreValid s) (byte_at : D → ℕ → ℕ → ℕ) (before after : List (Told K V P A D)) (looked : Told K V P A D)
    (h : ℕ) (throttled : Bool) (answer : Reply K V P A) (u : World Content)
    → LooksUp looked h throttled answer → steps_in before < last_number
    → IsRun m s sound byte_at (before ++ looked ∷ after) u
    → (v : World Content) × IsRun m s sound byte_at before v
    × ((n : ℕ) (x : Outcome Content) → newest h v.history ≡ Some (Put h n x) → x ≢ NoRecord
    → IsFound h n throttled answer ⊎ IsTaken m s sound byte_at before v h (Put h n x))

-- The same holds of a look-up, its own read and its end. If what was newest of its hash when it looked was the put of a record,
-- there are three cases. The answer is as `IsAnswerTo` says of that record; or the reclaim of the record's block had begun before
-- the look-up; or that reclaim began, or a destroy cleared the index, between the look-up and the end.
abbrev pub EndsAsToldNewest : (K V P A D : Type 0) → Type 0
EndsAsToldNewest K V P A D =
    (m : Meaning K V P) (s : Settings) (sound : AreValid s) (byte_at : D → ℕ → ℕ → ℕ) (before mid late : List (Told K V P A D)) (looked read ended : Told K V P A D)
    (ticket : Ticket) (outcome : Result (Vec ℕ A) Error) (answer : Reply K V P A) (u : World Content)
    → IssuesTicket looked ticket → AreOthers (tickets_in before) mid → IsReadOf read (tickets_in before) outcome → AreOthers (tickets_in before) late
    → EndsLoad ended ticket outcome answer
    → steps_in (before ++ looked ∷ (mid ++ read ∷ late)) < last_number
    → IsRun m s sound byte_at (before ++ looked ∷ (mid ++ read ∷ (late ++ ended ∷ []))) u
    → (v : World Content) × IsRun m s sound byte_at before v
    × ((n : ℕ) (x : Outcome Content) → newest ticket.hash v.history ≡ Some (Put ticket.hash n x)
    → IsAnswerTo m ticket outcome x answer
    ⊎ (IsTaken m s sound byte_at before v ticket.hash (Put ticket.hash n x)
    ⊎ ((block : ℕ) × (v.kept ticket.hash ≡ Some block) × (is_taken_in block (mid ++ read ∷ late) ≡ true))))

-- So a miss has its cause in the history. A look-up that misses a put that is newest and not broken: the reclaim of its block had
-- begun before.
abbrev pub LookUpMissesAreCaused : (K V P A D : Type 0) → Type 0
LookUpMissesAreCaused K V P A D =
    (m : Meaning K V P) (s : Settings) (sound : AreValid s) (byte_at : D → ℕ → ℕ → ℕ) (before after : List (Told K V P A D)) (looked : Told K V P A D)
    (h : ℕ) (throttled : Bool) (u : World Content)
    → LooksUp looked h throttled replies.Miss → steps_in before < last_number
    → IsRun m s sound byte_at (before ++ looked ∷ after) u
    → (v : World Content) × IsRun m s sound byte_at before v
    × ((n : ℕ) (x : Outcome Content) → newest h v.history ≡ Some (Put h n x) → x ≢ NoRecord → IsTaken m s sound byte_at before v h (Put h n x))

-- A load that read its bytes and misses a record that was newest when it looked: the reclaim of its block had begun before the
-- look-up; or that reclaim began, or a destroy cleared the index, between the look-up and the end.
abbrev pub EndMissesAreCaused : (K V P A D : Type 0) → Type 0
EndMissesAreCaused K V P A D =
    (m : Meaning K V P) (s : Settings) (sound : AreValid s) (byte_at : D → ℕ → ℕ → ℕ) (before mid late : List (Told K V P A D)) (looked read ended : Told K V P A D)
    (ticket : Ticket) (bytes : Vec ℕ A) (u : World Content)
    → IssuesTicket looked ticket → AreOthers (tickets_in before) mid → IsReadOf read (tickets_in before) (Ok bytes) → AreOthers (tickets_in before) late
    → EndsLoad ended ticket (Ok bytes) replies.Miss
    → steps_in (before ++ looked ∷ (mid ++ read ∷ late)) < last_number
    → IsRun m s sound byte_at (before ++ looked ∷ (mid ++ read ∷ (late ++ ended ∷ []))) u
    → (v : World Content) × IsRun m s sound byte_at before v
    × ((n : ℕ) (c : Content) → newest ticket.hash v.history ≡ Some (Put ticket.hash n (Holds c))
    → IsTaken m s sound byte_at before v ticket.hash (Put ticket.hash n (Holds c))
    ⊎ ((block : ℕ) × (v.kept ticket.hash ≡ Some block) × (is_taken_in block (mid ++ read ∷ late) ≡ true)))
