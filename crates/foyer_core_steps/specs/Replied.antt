-- A core's reply as the model's.
use Rattle.std.specs.Prelude.{◌≡◌, ℕ, List, map, length, Option, Some}
use Rattle.foyer_core_model.specs.Position as model_position
use Rattle.foyer_core_model.specs.Reply as model_reply
use Rattle.foyer_core_steps.specs.Asked.{ticket_of, age_of, step_of}
use Rattle.foyer_core_flusher.specs.Issuing.{write_of}
use Rattle.foyer_core_flusher.specs.Content.{Content, Meaning, content, content_of, contents_of, returned}
use Rattle.foyer_core_flusher.specs.Addresses.{mark_of}
use Rattle.foyer_core_steps.specs.Destroying.{kind_of, IsFaultAs}
use Rattle.foyer_core_steps.specs.Reclaiming.{verdicts_of}
use Rattle.foyer_core_steps.specs.declared.reply.Reply.{Reply}
use Rattle.foyer_core_steps.specs.declared.reply.Reply.TheVariants as reply

-- What a reply says. How a batch was laid out isn't said, but into how many blocks; nor is a list of all blocks.
abbrev pub IsReply : {K V P A : Type 0} → Meaning K V P → Reply K V P A → model_reply.Reply Content → Type 0
IsReply m (reply.NotNow back) it = it ≡ model_reply.NotNow (step_of m back)
IsReply m (reply.Refused why back) it = (k : model_reply.Kind) × (kind_of why ≡ Some k) × (it ≡ model_reply.Refused k (step_of m back))
IsReply m (reply.Ignored piece) it = it ≡ model_reply.Ignored (content_of m piece)
IsReply m (reply.Queued sequence) it = it ≡ model_reply.Queued sequence
IsReply m (reply.Dropped piece sequence) it = it ≡ model_reply.Dropped (content_of m piece) sequence
IsReply m (reply.Deleted sequence) it = it ≡ model_reply.Deleted sequence
IsReply m reply.Done it = it ≡ model_reply.Done
IsReply m (reply.Answer b) it = it ≡ model_reply.Answer b
IsReply m reply.Miss it = it ≡ model_reply.Miss
IsReply m reply.Throttled it = it ≡ model_reply.Throttled
IsReply m (reply.Read ticket) it = it ≡ model_reply.Read (ticket_of ticket)
IsReply m (reply.Entry key value age) it = it ≡ model_reply.Entry (content m key value) (age_of age)
IsReply m reply.Empty it = it ≡ model_reply.Empty
IsReply m (reply.Received back) it = it ≡ model_reply.Received (returned m back)
IsReply m (reply.Began blocks marks) it =
    (ss : List (model_position.BlockLayout Content)) × (length ss ≡ blocks) × (it ≡ model_reply.Began ss (map mark_of marks.items))
IsReply m (reply.Write block writes) it = it ≡ model_reply.Written block (map write_of writes.items)
IsReply m reply.NoBlock it = it ≡ model_reply.NoBlock
IsReply m reply.Next it = it ≡ model_reply.Next
IsReply m (reply.Committed puts) it = it ≡ model_reply.Committed puts
IsReply m reply.Failed it = it ≡ model_reply.Failed
IsReply m (reply.Ended pieces waits) it =
    (ps : List (ℕ × Content)) × (contents_of ps ≡ map (content_of m) pieces.items) × (it ≡ model_reply.Ended ps waits.items)
IsReply m (reply.Picked block answers probation) it = it ≡ model_reply.Picked block answers.items probation.items
IsReply m (reply.Scan block offset len verdicts) it = it ≡ model_reply.Scans block offset len (verdicts_of verdicts)
IsReply m (reply.Listed verdicts) it = it ≡ model_reply.Listed (verdicts_of verdicts)
IsReply m (reply.Clean block) it = it ≡ model_reply.Cleans block
IsReply m (reply.Destroying sequence) it = it ≡ model_reply.Destroying sequence
IsReply m reply.Cleared it = (blocks : List ℕ) × (it ≡ model_reply.Cleared blocks)
IsReply m (reply.Destroyed first) it = (fault : Option model_reply.Kind) × IsFaultAs first fault × (it ≡ model_reply.Destroyed fault)
