-- Replies that issue accesses, in the core and in the model.
use Rattle.std.proofs.Common.{◌≡◌, ℕ, Some, None, refl, sym, ap, ◌∙◌}
use Rattle.foyer_core_model.specs.Reply as model_reply
use Rattle.foyer_core_steps.specs.Asked.{ticket_of}
use Rattle.foyer_core_laws.specs.Content.{Content, Meaning}
use Rattle.foyer_core_steps.specs.Refines.{IsHandedBack}
use Rattle.foyer_core_steps.specs.Replied.{IsReply}
use Rattle.foyer_core_steps.specs.declared.reply.Reply.{Reply}
use Rattle.foyer_core_steps.specs.declared.reply.Reply.TheVariants as reply
use Rattle.foyer_core_steps.specs.Write.{Write}
use Rattle.foyer_core_steps.specs.declared.step.Ticket.{Ticket}
use Rattle.std.specs.declared.vec.Vec.{Vec}
use Rattle.foyer_core_run.specs.Running.{ticket_in, block_in}
use Rattle.foyer_core_steps.proofs.RefinesLemmas.{IsOrdinary}
use Rattle.foyer_core_run.proofs.DueLemmas.{IssuesNoRead, IssuesNoWrite, EndsWrites}

-- which access a reply is about
pub data Sort : Type 0 where
  Reads : Sort
  Writes : Sort
  GoesOn : Sort
  Back : Sort
  Picks : Sort
  Scans : Sort
  Cleans : Sort
  Clears : Sort
  Other : Sort

abbrev pub sort : model_reply.Reply Content → Sort
sort (model_reply.Read t) = Reads
sort (model_reply.Written b ws) = Writes
sort model_reply.Next = GoesOn
sort (model_reply.NotNow back) = Back
sort (model_reply.Refused kind back) = Back
sort (model_reply.Picked b answers probation) = Picks
sort (model_reply.Scans b offset len verdicts) = Scans
sort (model_reply.Cleans b) = Cleans
sort (model_reply.Cleared bs) = Clears
sort it = Other

abbrev pub sort_of : {K V P A : Type 0} → Reply K V P A → Sort
sort_of (reply.Read t) = Reads
sort_of (reply.Write b ws) = Writes
sort_of reply.Next = GoesOn
sort_of (reply.NotNow back) = Back
sort_of (reply.Refused why back) = Back
sort_of (reply.Picked b answers probation) = Picks
sort_of (reply.Scan b offset len verdicts) = Scans
sort_of (reply.Clean b) = Cleans
sort_of reply.Cleared = Clears
sort_of answer = Other

reads_none : (it : model_reply.Reply Content) → (sort it ≡ Reads → ⊥) → IssuesNoRead it
reads_none (model_reply.Read t) ne = absurd (ne refl)
reads_none it ne = tt

writes_none : (it : model_reply.Reply Content) → (sort it ≡ Writes → ⊥) → IssuesNoWrite it
writes_none (model_reply.Written b ws) ne = absurd (ne refl)
writes_none it ne = tt

wants_next_write : (it : model_reply.Reply Content) → (sort it ≡ GoesOn → ⊥) → EndsWrites it
wants_next_write model_reply.Next ne = absurd (ne refl)
wants_next_write it ne = tt

counts : (it : model_reply.Reply Content) → (sort it ≡ Back → ⊥) → IsOrdinary it
counts (model_reply.NotNow back) ne = absurd (ne refl)
counts (model_reply.Refused kind back) ne = absurd (ne refl)
counts it ne = tt

module _ {K V P A : Type 0} (m : Meaning K V P) where
  pub sorted : (answer : Reply K V P A) (it : model_reply.Reply Content) → IsReply m answer it → sort it ≡ sort_of answer
  sorted (reply.NotNow back) it is = ap sort is
  sorted (reply.Refused why back) it is = ap sort is.2
  sorted (reply.Ignored piece) it is = ap sort is
  sorted (reply.Queued q) it is = ap sort is
  sorted (reply.Dropped piece q) it is = ap sort is
  sorted (reply.Deleted q) it is = ap sort is
  sorted reply.Done it is = ap sort is
  sorted (reply.Answer b) it is = ap sort is
  sorted reply.Miss it is = ap sort is
  sorted reply.Throttled it is = ap sort is
  sorted (reply.Read t) it is = ap sort is
  sorted (reply.Entry key value age) it is = ap sort is
  sorted reply.Empty it is = ap sort is
  sorted (reply.Received back) it is = ap sort is
  sorted (reply.Began blocks marks) it is = ap sort is.2
  sorted (reply.Write block writes) it is = ap sort is
  sorted reply.NoBlock it is = ap sort is
  sorted reply.Next it is = ap sort is
  sorted (reply.Committed n) it is = ap sort is
  sorted reply.Failed it is = ap sort is
  sorted (reply.Ended pieces waits) it is = ap sort is.2
  sorted (reply.Picked block answers probation) it is = ap sort is
  sorted (reply.Scan block offset len verdicts) it is = ap sort is
  sorted (reply.Listed verdicts) it is = ap sort is
  sorted (reply.Clean block) it is = ap sort is
  sorted (reply.Destroying q) it is = ap sort is
  sorted reply.Cleared it is = ap sort is.1
  sorted (reply.Destroyed first) it is = ap sort is.2

  not_read : (answer : Reply K V P A) → ticket_in answer ≡ None → sort_of answer ≡ Reads → ⊥
  not_read (reply.Read t) none e = let f : Some t ≡ None = none in cc
  not_read (reply.Write b ws) none e = let f : Writes ≡ Reads = e in cc
  not_read reply.Next none e = let f : GoesOn ≡ Reads = e in cc
  not_read (reply.NotNow back) none e = let f : Back ≡ Reads = e in cc
  not_read (reply.Refused why back) none e = let f : Back ≡ Reads = e in cc
  not_read (reply.Picked b answers probation) none e = let f : Picks ≡ Reads = e in cc
  not_read (reply.Scan b offset len verdicts) none e = let f : Scans ≡ Reads = e in cc
  not_read (reply.Clean b) none e = let f : Cleans ≡ Reads = e in cc
  not_read reply.Cleared none e = let f : Clears ≡ Reads = e in cc
  not_read answer none e = let f : Other ≡ Reads = e in cc

  not_write : (answer : Reply K V P A) → block_in answer ≡ None → sort_of answer ≡ Writes → ⊥
  not_write (reply.Read t) none e = let f : Reads ≡ Writes = e in cc
  not_write (reply.Write b ws) none e = let f : Some b ≡ None = none in cc
  not_write reply.Next none e = let f : GoesOn ≡ Writes = e in cc
  not_write (reply.NotNow back) none e = let f : Back ≡ Writes = e in cc
  not_write (reply.Refused why back) none e = let f : Back ≡ Writes = e in cc
  not_write (reply.Picked b answers probation) none e = let f : Picks ≡ Writes = e in cc
  not_write (reply.Scan b offset len verdicts) none e = let f : Scans ≡ Writes = e in cc
  not_write (reply.Clean b) none e = let f : Cleans ≡ Writes = e in cc
  not_write reply.Cleared none e = let f : Clears ≡ Writes = e in cc
  not_write answer none e = let f : Other ≡ Writes = e in cc

  not_next : (answer : Reply K V P A) → (answer ≡ reply.Next → ⊥) → sort_of answer ≡ GoesOn → ⊥
  not_next (reply.Read t) none e = let f : Reads ≡ GoesOn = e in cc
  not_next (reply.Write b ws) none e = let f : Writes ≡ GoesOn = e in cc
  not_next reply.Next none e = none refl
  not_next (reply.NotNow back) none e = let f : Back ≡ GoesOn = e in cc
  not_next (reply.Refused why back) none e = let f : Back ≡ GoesOn = e in cc
  not_next (reply.Picked b answers probation) none e = let f : Picks ≡ GoesOn = e in cc
  not_next (reply.Scan b offset len verdicts) none e = let f : Scans ≡ GoesOn = e in cc
  not_next (reply.Clean b) none e = let f : Cleans ≡ GoesOn = e in cc
  not_next reply.Cleared none e = let f : Clears ≡ GoesOn = e in cc
  not_next answer none e = let f : Other ≡ GoesOn = e in cc

  not_back : (answer : Reply K V P A) → (IsHandedBack answer → ⊥) → sort_of answer ≡ Back → ⊥
  not_back (reply.NotNow back) none e = none tt
  not_back (reply.Refused why back) none e = none tt
  not_back (reply.Read t) none e = let f : Reads ≡ Back = e in cc
  not_back (reply.Write b ws) none e = let f : Writes ≡ Back = e in cc
  not_back reply.Next none e = let f : GoesOn ≡ Back = e in cc
  not_back (reply.Picked b answers probation) none e = let f : Picks ≡ Back = e in cc
  not_back (reply.Scan b offset len verdicts) none e = let f : Scans ≡ Back = e in cc
  not_back (reply.Clean b) none e = let f : Cleans ≡ Back = e in cc
  not_back reply.Cleared none e = let f : Clears ≡ Back = e in cc
  not_back answer none e = let f : Other ≡ Back = e in cc

  -- what doesn't come back counts
  pub ordinary : (answer : Reply K V P A) (it : model_reply.Reply Content) → (IsHandedBack answer → ⊥) → IsReply m answer it → IsOrdinary it
  ordinary answer it none is = counts it (λ e. not_back answer none (sym (sorted answer it is) ∙ e))

  pub no_read : (answer : Reply K V P A) (it : model_reply.Reply Content) → ticket_in answer ≡ None → IsReply m answer it → IssuesNoRead it
  no_read answer it none is = reads_none it (λ e. not_read answer none (sym (sorted answer it is) ∙ e))

  pub no_write : (answer : Reply K V P A) (it : model_reply.Reply Content) → block_in answer ≡ None → IsReply m answer it → IssuesNoWrite it
  no_write answer it none is = writes_none it (λ e. not_write answer none (sym (sorted answer it is) ∙ e))

  pub no_next : (answer : Reply K V P A) (it : model_reply.Reply Content) → (answer ≡ reply.Next → ⊥) → IsReply m answer it → EndsWrites it
  no_next answer it none is = wants_next_write it (λ e. not_next answer none (sym (sorted answer it is) ∙ e))

  pub reads : (answer : Reply K V P A) (it : model_reply.Reply Content) (t : Ticket) → ticket_in answer ≡ Some t → IsReply m answer it → it ≡ model_reply.Read (ticket_of t)
  reads (reply.Read u) it t e is = let f : Some u ≡ Some t = e in let same : u ≡ t = cc in is ∙ ap (λ k. model_reply.Read (ticket_of k)) same
  reads answer it t e is = absurd (let f : None ≡ Some t = e in cc)

-- a step that comes back issues nothing
pub back_issued : {K V P A : Type 0} (answer : Reply K V P A) → IsHandedBack answer → ticket_in answer ≡ None
back_issued (reply.NotNow back) handed = refl
back_issued (reply.Refused why back) handed = refl
back_issued answer handed = absurd handed

pub back_block : {K V P A : Type 0} (answer : Reply K V P A) → IsHandedBack answer → block_in answer ≡ None
back_block (reply.NotNow back) handed = refl
back_block (reply.Refused why back) handed = refl
back_block answer handed = absurd handed

-- a reply into whose block writes are issued
pub writes_are : {K V P A : Type 0} (answer : Reply K V P A) (b : ℕ) → block_in answer ≡ Some b
    → (writes : Vec (Write A) A) × (answer ≡ reply.Write b writes)
writes_are (reply.Write c writes) b e = let f : Some c ≡ Some b = e in let same : c ≡ b = cc in (writes, ap (λ k. reply.Write k writes) same)
writes_are answer b e = absurd (let f : None ≡ Some b = e in cc)
