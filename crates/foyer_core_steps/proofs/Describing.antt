-- What replies issue, from what the methods behind `apply` say of them.
use Rattle.std.proofs.Common.{List, ℕ}
use Rattle.std.specs.Prelude.{Bool}
use Rattle.foyer_core_steps.specs.declared.reply.Reply.{Reply}
use Rattle.foyer_core_steps.specs.declared.reply.Reply.TheVariants as reply
use Rattle.foyer_core_steps.specs.declared.state.Core.{Core}
use Rattle.foyer_core_steps.specs.declared.step.Step.{Step}
use Rattle.foyer_core_steps.specs.declared.step.Step.TheVariants as step
use Rattle.foyer_core_steps.specs.Answered.{Describes, DescribesNothing, Enqueues, Deleting, Looking, AnswersPair, Idling}

pub issues_nothing : {K V P A : Type 0} (is_key is_value : List ℕ → Bool) (key_of : K → List ℕ) (value_of : V → List ℕ)
    → (given : Step K V P A) (answer : Reply K V P A) (old new : Core K V P A) → DescribesNothing answer
    → Describes is_key is_value key_of value_of given answer old new
issues_nothing is_key is_value key_of value_of given (reply.Entry key value age) old new issues = absurd issues
issues_nothing is_key is_value key_of value_of given (reply.Ignored back) old new issues = absurd issues
issues_nothing is_key is_value key_of value_of given (reply.Queued sequence) old new issues = absurd issues
issues_nothing is_key is_value key_of value_of given (reply.Dropped back sequence) old new issues = absurd issues
issues_nothing is_key is_value key_of value_of given (reply.Deleted sequence) old new issues = absurd issues
issues_nothing is_key is_value key_of value_of given (reply.Answer answer) old new issues = absurd issues
issues_nothing is_key is_value key_of value_of given (reply.Read ticket) old new issues = absurd issues
issues_nothing is_key is_value key_of value_of given answer old new issues = tt

pub issues_queued : {K V P A : Type 0} (is_key is_value : List ℕ → Bool) (key_of : K → List ℕ) (value_of : V → List ℕ)
    → (given : Step K V P A) (answer : Reply K V P A) (old new : Core K V P A) → Enqueues given answer old new
    → Describes is_key is_value key_of value_of given answer old new
issues_queued is_key is_value key_of value_of given (reply.Entry key value age) old new issues = absurd issues
issues_queued is_key is_value key_of value_of given (reply.Ignored back) old new issues = issues
issues_queued is_key is_value key_of value_of given (reply.Queued sequence) old new issues = issues
issues_queued is_key is_value key_of value_of given (reply.Dropped back sequence) old new issues = issues
issues_queued is_key is_value key_of value_of given (reply.Deleted sequence) old new issues = absurd issues
issues_queued is_key is_value key_of value_of given (reply.Answer answer) old new issues = absurd issues
issues_queued is_key is_value key_of value_of given (reply.Read ticket) old new issues = absurd issues
issues_queued is_key is_value key_of value_of given answer old new issues = tt

pub issues_deleted : {K V P A : Type 0} (is_key is_value : List ℕ → Bool) (key_of : K → List ℕ) (value_of : V → List ℕ)
    → (given : Step K V P A) (answer : Reply K V P A) (old new : Core K V P A) → Deleting given answer old new
    → Describes is_key is_value key_of value_of given answer old new
issues_deleted is_key is_value key_of value_of given (reply.Entry key value age) old new issues = absurd issues
issues_deleted is_key is_value key_of value_of given (reply.Ignored back) old new issues = absurd issues
issues_deleted is_key is_value key_of value_of given (reply.Queued sequence) old new issues = absurd issues
issues_deleted is_key is_value key_of value_of given (reply.Dropped back sequence) old new issues = absurd issues
issues_deleted is_key is_value key_of value_of given (reply.Deleted sequence) old new issues = issues
issues_deleted is_key is_value key_of value_of given (reply.Answer answer) old new issues = absurd issues
issues_deleted is_key is_value key_of value_of given (reply.Read ticket) old new issues = absurd issues
issues_deleted is_key is_value key_of value_of given answer old new issues = tt

pub issues_looked : {K V P A : Type 0} (is_key is_value : List ℕ → Bool) (key_of : K → List ℕ) (value_of : V → List ℕ)
    → (given : Step K V P A) (answer : Reply K V P A) (old new : Core K V P A) → Looking given answer old
    → Describes is_key is_value key_of value_of given answer old new
issues_looked is_key is_value key_of value_of given (reply.Entry key value age) old new issues = absurd issues
issues_looked is_key is_value key_of value_of given (reply.Ignored back) old new issues = absurd issues
issues_looked is_key is_value key_of value_of given (reply.Queued sequence) old new issues = absurd issues
issues_looked is_key is_value key_of value_of given (reply.Dropped back sequence) old new issues = absurd issues
issues_looked is_key is_value key_of value_of given (reply.Deleted sequence) old new issues = absurd issues
issues_looked is_key is_value key_of value_of given (reply.Answer answer) old new issues = absurd issues
issues_looked is_key is_value key_of value_of given (reply.Read ticket) old new issues = issues
issues_looked is_key is_value key_of value_of given answer old new issues = tt

pub issues_pair : {K V P A : Type 0} (is_key is_value : List ℕ → Bool) (key_of : K → List ℕ) (value_of : V → List ℕ)
    → (given : Step K V P A) (answer : Reply K V P A) (old new : Core K V P A) → AnswersPair is_key is_value key_of value_of given answer
    → Describes is_key is_value key_of value_of given answer old new
issues_pair is_key is_value key_of value_of given (reply.Entry key value age) old new issues = issues
issues_pair is_key is_value key_of value_of given (reply.Ignored back) old new issues = absurd issues
issues_pair is_key is_value key_of value_of given (reply.Queued sequence) old new issues = absurd issues
issues_pair is_key is_value key_of value_of given (reply.Dropped back sequence) old new issues = absurd issues
issues_pair is_key is_value key_of value_of given (reply.Deleted sequence) old new issues = absurd issues
issues_pair is_key is_value key_of value_of given (reply.Answer answer) old new issues = absurd issues
issues_pair is_key is_value key_of value_of given (reply.Read ticket) old new issues = absurd issues
issues_pair is_key is_value key_of value_of given answer old new issues = tt

pub issues_idle : {K V P A : Type 0} (is_key is_value : List ℕ → Bool) (key_of : K → List ℕ) (value_of : V → List ℕ)
    → (given : Step K V P A) (answer : Reply K V P A) (old new : Core K V P A) → Idling given answer old
    → Describes is_key is_value key_of value_of given answer old new
issues_idle is_key is_value key_of value_of given (reply.Entry key value age) old new issues = absurd issues
issues_idle is_key is_value key_of value_of given (reply.Ignored back) old new issues = absurd issues
issues_idle is_key is_value key_of value_of given (reply.Queued sequence) old new issues = absurd issues
issues_idle is_key is_value key_of value_of given (reply.Dropped back sequence) old new issues = absurd issues
issues_idle is_key is_value key_of value_of given (reply.Deleted sequence) old new issues = absurd issues
issues_idle is_key is_value key_of value_of given (reply.Answer answer) old new issues = issues
issues_idle is_key is_value key_of value_of given (reply.Read ticket) old new issues = absurd issues
issues_idle is_key is_value key_of value_of given answer old new issues = tt

-- a step more is counted
pub issues_counted : {K V P A : Type 0} (is_key is_value : List ℕ → Bool) (key_of : K → List ℕ) (value_of : V → List ℕ)
    → (given : Step K V P A) (answer : Reply K V P A) (old new : Core K V P A) (n : ℕ)
    → Describes is_key is_value key_of value_of given answer old new
    → Describes is_key is_value key_of value_of given answer old (record new { steps = n })
issues_counted is_key is_value key_of value_of given (reply.Entry key value age) old new n issues = issues
issues_counted is_key is_value key_of value_of (step.Enqueue piece size) (reply.Ignored back) old new n issues = issues
issues_counted is_key is_value key_of value_of given (reply.Ignored back) old new n issues = absurd issues
issues_counted is_key is_value key_of value_of (step.Enqueue piece size) (reply.Queued sequence) old new n issues = issues
issues_counted is_key is_value key_of value_of given (reply.Queued sequence) old new n issues = absurd issues
issues_counted is_key is_value key_of value_of (step.Enqueue piece size) (reply.Dropped back sequence) old new n issues = issues
issues_counted is_key is_value key_of value_of given (reply.Dropped back sequence) old new n issues = absurd issues
issues_counted is_key is_value key_of value_of (step.Delete hash) (reply.Deleted sequence) old new n issues = issues
issues_counted is_key is_value key_of value_of given (reply.Deleted sequence) old new n issues = absurd issues
issues_counted is_key is_value key_of value_of given (reply.Answer answer) old new n issues = issues
issues_counted is_key is_value key_of value_of given (reply.Read ticket) old new n issues = issues
issues_counted is_key is_value key_of value_of given answer old new n issues = tt

pub ruleset issuing = (issues_nothing, issues_queued, issues_deleted, issues_looked, issues_pair, issues_idle)
