-- What is noted of a step and of its reply: all but contents.
use Rattle.std.specs.Prelude.{ℕ, Bool, Option, Some, None, Result, Ok, Err, vec_len}
use Rattle.std.specs.declared.vec.Vec.{Vec}
use Rattle.foyer_device_page.specs.Error.{kind_of}
use Rattle.foyer_device_page.specs.declared.error.Error.{Error}
use Rattle.foyer_device_page.specs.declared.error.ErrorKind.{ErrorKind}
use Rattle.foyer_core_steps.specs.declared.reply.Reply.{Reply}
use Rattle.foyer_core_steps.specs.declared.reply.Reply.TheVariants as reply
use Rattle.foyer_core_steps.specs.declared.step.Step.{Step}
use Rattle.foyer_core_steps.specs.declared.step.Step.TheVariants as step
use Rattle.foyer_core_shared.specs.declared.brief.Brief.{Brief}
use Rattle.foyer_core_shared.specs.declared.brief.ReplyBrief.{ReplyBrief}
use Rattle.foyer_core_shared.specs.declared.brief.ReplyBrief.TheVariants as replied
use Rattle.foyer_core_shared.specs.declared.brief.StepBrief.{StepBrief}
use Rattle.foyer_core_shared.specs.declared.brief.StepBrief.TheVariants as asked

-- how many bytes a read gave, or the kind of its fault
abbrev pub len_of : {A : Type 0} → Result (Vec ℕ A) Error → Result ℕ ErrorKind
len_of (Ok bytes) = Ok (vec_len bytes)
len_of (Err e) = Err (kind_of e)

-- that a write went well, or the kind of its fault
abbrev pub outcome_of : Result (Unit {0}) Error → Result (Unit {0}) ErrorKind
outcome_of (Ok done) = Ok tt
outcome_of (Err e) = Err (kind_of e)

-- how many entries have a verdict, if an index was read
abbrev pub listed_in : {A : Type 0} → Option (Vec Bool A) → Option ℕ
listed_in None = None
listed_in (Some verdicts) = Some (vec_len verdicts)

-- a step without the piece or the bytes that it brings
abbrev pub step_brief : {K V P A : Type 0} → Step K V P A → StepBrief
step_brief (step.Enqueue piece size) = asked.Enqueue piece.piece.hash size
step_brief (step.Delete hash) = asked.Delete hash
step_brief (step.Wait flusher id) = asked.Wait flusher id
step_brief (step.MayContains hash) = asked.MayContains hash
step_brief (step.LoadBegin hash throttled) = asked.LoadBegin hash throttled
step_brief (step.LoadEnd ticket outcome) = asked.LoadEnd ticket (len_of outcome)
step_brief (step.Receive flusher) = asked.Receive flusher
step_brief (step.FlushBegin flusher) = asked.FlushBegin flusher
step_brief (step.FlushBlock flusher) = asked.FlushBlock flusher
step_brief (step.FlushWrote flusher outcome) = asked.FlushWrote flusher (outcome_of outcome)
step_brief (step.LogWrote flusher outcome) = asked.LogWrote flusher (outcome_of outcome)
step_brief (step.FlushEnd flusher) = asked.FlushEnd flusher
step_brief step.ReclaimBegin = asked.ReclaimBegin
step_brief (step.ReclaimRead block outcome) = asked.ReclaimRead block (len_of outcome)
step_brief (step.ReclaimForget block) = asked.ReclaimForget block
step_brief (step.ReclaimCleaned block outcome) = asked.ReclaimCleaned block (outcome_of outcome)
step_brief step.ReclaimIdle = asked.ReclaimIdle
step_brief step.DestroyBegin = asked.DestroyBegin
step_brief step.DestroyClear = asked.DestroyClear
step_brief (step.DestroyCleaned block outcome) = asked.DestroyCleaned block (outcome_of outcome)
step_brief step.Close = asked.Close

-- a reply without the pieces, pairs and lists that it has
abbrev pub reply_brief : {K V P A : Type 0} → Reply K V P A → ReplyBrief
reply_brief (reply.NotNow back) = replied.NotNow
reply_brief (reply.Refused kind back) = replied.Refused kind
reply_brief (reply.Ignored piece) = replied.Ignored
reply_brief (reply.Queued sequence) = replied.Queued sequence
reply_brief (reply.Dropped piece sequence) = replied.Dropped sequence
reply_brief (reply.Deleted sequence) = replied.Deleted sequence
reply_brief reply.Done = replied.Done
reply_brief (reply.Answer answer) = replied.Answer answer
reply_brief reply.Miss = replied.Miss
reply_brief reply.Throttled = replied.Throttled
reply_brief (reply.Read ticket) = replied.Read ticket
reply_brief (reply.Entry key value age) = replied.Entry
reply_brief reply.Empty = replied.Empty
reply_brief (reply.Received None) = replied.Received
reply_brief (reply.Received (Some piece)) = replied.HandedBack
reply_brief (reply.Began blocks marks) = replied.Began blocks (vec_len marks)
reply_brief (reply.Write block writes) = replied.Write block (vec_len writes)
reply_brief reply.NoBlock = replied.NoBlock
reply_brief reply.Next = replied.Next
reply_brief (reply.Committed puts) = replied.Committed puts
reply_brief reply.Failed = replied.Failed
reply_brief (reply.Ended pieces waits) = replied.Ended (vec_len pieces) (vec_len waits)
reply_brief (reply.Picked block answers probation) = replied.Picked block (vec_len answers) (vec_len probation)
reply_brief (reply.Scan block offset len verdicts) = replied.Scan block offset len (listed_in verdicts)
reply_brief (reply.Listed verdicts) = replied.Listed (listed_in verdicts)
reply_brief (reply.Clean block) = replied.Clean block
reply_brief (reply.Destroying sequence) = replied.Destroying sequence
reply_brief reply.Cleared = replied.Cleared
reply_brief (reply.Destroyed first) = replied.Destroyed first

abbrev pub brief_of : {K V P A : Type 0} → Step K V P A → Reply K V P A → Brief
brief_of given answer = record { step = step_brief given; reply = reply_brief answer }
