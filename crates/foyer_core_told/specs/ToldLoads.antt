-- A look-up, its read and its answer, among whatever else threads did.
use Rattle.std.specs.Prelude.{◌≡◌, ℕ, ◌+◌, Bool, true, false, List, [], ◌∷◌, ◌++◌, Some, Result}
use Rattle.std.specs.declared.vec.Vec.{Vec}
use Rattle.foyer_device_page.specs.declared.error.Error.{Error}
use Rattle.foyer_format_record.specs.declared.serde.ages.Age.{Age}
use Rattle.foyer_core_chronicle.specs.SharedHistory.{made}
use Rattle.foyer_core_model.specs.Record.{Holds}
use Rattle.foyer_core_model.specs.Event.{Put, newest}
use Rattle.foyer_core_model.specs.World.{World}
use Rattle.foyer_core_laws.specs.Content.{Content, Meaning, content}
use Rattle.foyer_core_laws.specs.Sizes.{AreValid}
use Rattle.foyer_core_laws.specs.Settings.{Settings}
use Rattle.foyer_core_steps.specs.declared.step.Ticket.{Ticket}
use Rattle.foyer_core_steps.specs.declared.step.Step.TheVariants as steps
use Rattle.foyer_core_steps.specs.declared.reply.Reply.{Reply}
use Rattle.foyer_core_steps.specs.declared.reply.Reply.TheVariants as replies
use Rattle.foyer_core_told.specs.declared.event.Told.{Told}
use Rattle.foyer_core_told.specs.declared.event.Told.TheVariants as told
use Rattle.foyer_core_told.specs.ToldRuns.{IsRun}

-- whether a reply issues a ticket
abbrev pub is_read : {K V P A : Type 0} → Reply K V P A → Bool
is_read (replies.Read ticket) = true
is_read reply = false

abbrev pub makes_ticket : {K V P A D : Type 0} → Told K V P A D → Bool
makes_ticket (told.Steps step reply core) = is_read reply.value
makes_ticket event = false

-- how many tickets these events issued: that is the number of the next one
abbrev pub tickets_in : {K V P A D : Type 0} → List (Told K V P A D) → ℕ
tickets_in es = made makes_ticket es

-- a step that isn't returned counts
abbrev pub count_of : {K V P A : Type 0} → Reply K V P A → ℕ
count_of (replies.NotNow back) = 0
count_of (replies.Refused why back) = 0
count_of reply = 1

-- how many steps of these events count
abbrev pub steps_in : {K V P A D : Type 0} → List (Told K V P A D) → ℕ
steps_in [] = 0
steps_in (told.Steps step reply core ∷ es) = count_of reply.value + steps_in es
steps_in (e ∷ es) = steps_in es

-- In whatever run is told, tickets and steps are those that the history counts.
abbrev pub RunsAreCounted : (K V P A D : Type 0) → Type 0
RunsAreCounted K V P A D =
    (m : Meaning K V P) (s : Settings) (sound : AreValid s) (byte_at : D → ℕ → ℕ → ℕ) (log : List (Told K V P A D)) (u : World Content)
    → IsRun m s sound byte_at log u → (u.issued ≡ tickets_in log) × (u.core.steps ≡ steps_in log)

-- a look-up got this ticket
abbrev pub IssuesTicket : {K V P A D : Type 0} → Told K V P A D → Ticket → Type 0
IssuesTicket (told.Steps step reply core) ticket = ((h : ℕ) × (throttled : Bool) × (step.value ≡ steps.LoadBegin h throttled)) × (reply.value ≡ replies.Read ticket)
IssuesTicket event ticket = ⊥

-- the read of the ticket of this number gave this
abbrev pub IsReadOf : {K V P A D : Type 0} → Told K V P A D → ℕ → Result (Vec ℕ A) Error → Type 0
IsReadOf (told.Reads number gave) n outcome = (number ≡ n) × (gave.value ≡ outcome)
IsReadOf event n outcome = ⊥

-- it is no read of the ticket of this number
abbrev pub IsOther : {K V P A D : Type 0} → ℕ → Told K V P A D → Type 0
IsOther n (told.Reads number gave) = number ≡ n → ⊥
IsOther n event = Unit {0}

abbrev pub AreOthers : {K V P A D : Type 0} → ℕ → List (Told K V P A D) → Type 0
AreOthers n [] = Unit {0}
AreOthers n (e ∷ es) = IsOther n e × AreOthers n es

-- what was read for the ticket was answered with this entry
abbrev pub AnswersEntry : {K V P A D : Type 0} → Told K V P A D → Ticket → Result (Vec ℕ A) Error → K → V → Type 0
AnswersEntry (told.Steps step reply core) ticket outcome key value = (step.value ≡ steps.LoadEnd ticket outcome) × ((age : Age) × (reply.value ≡ replies.Entry key value age))
AnswersEntry event ticket outcome key value = ⊥

-- Of a look-up, its own read and its answer, whatever threads did before and between, in whatever run they tell: the entry was the
-- newest put of its hash when it was looked up.
abbrev pub AnswersToldNewest : (K V P A D : Type 0) → Type 0
AnswersToldNewest K V P A D =
    (m : Meaning K V P) (s : Settings) (sound : AreValid s) (byte_at : D → ℕ → ℕ → ℕ) (before mid late : List (Told K V P A D)) (looked read answered : Told K V P A D)
    (ticket : Ticket) (outcome : Result (Vec ℕ A) Error) (key : K) (value : V) (u : World Content)
    → IssuesTicket looked ticket → AreOthers (tickets_in before) mid → IsReadOf read (tickets_in before) outcome → AreOthers (tickets_in before) late
    → AnswersEntry answered ticket outcome key value
    → IsRun m s sound byte_at (before ++ looked ∷ (mid ++ read ∷ (late ++ answered ∷ []))) u
    → (v : World Content) × IsRun m s sound byte_at before v
    × (newest ticket.hash v.history ≡ Some (Put ticket.hash ticket.address.sequence (Holds (content m key value))))
