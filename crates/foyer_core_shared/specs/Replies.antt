-- Which replies a caller's step may get, and why it may be refused.
use Rattle.std.specs.Prelude.{Bool, true, false, not}
use Rattle.foyer_core_steps.specs.Asked.{went_well}
use Rattle.foyer_core_steps.specs.declared.reply.Reply.{Reply}
use Rattle.foyer_core_steps.specs.declared.reply.Reply.TheVariants as reply
use Rattle.foyer_core_steps.specs.declared.step.Step.{Step}
use Rattle.foyer_core_steps.specs.declared.step.Step.TheVariants as step
use Rattle.foyer_device_page.specs.declared.error.ErrorKind.{ErrorKind}
use Rattle.foyer_device_page.specs.declared.error.ErrorKind.TheVariants as kind

-- A put or a delete is refused if the core is closed, if memory is refused, or if no sequence or step is left. A step that a
-- worker or a wait asks is refused for no other cause.
abbrev pub is_draw_refusal : ErrorKind → Bool
is_draw_refusal kind.Closed = true
is_draw_refusal kind.Memory = true
is_draw_refusal kind.SequenceEnd = true
is_draw_refusal other = false

-- A question or a look-up is refused if no step is left.
abbrev pub is_question_refusal : ErrorKind → Bool
is_question_refusal kind.SequenceEnd = true
is_question_refusal other = false

-- The end of a load is refused if the read failed. Only this refusal is Io. If the read went well, the end is refused if memory
-- is refused or the entry isn't readable. It is also refused if no step is left.
abbrev pub is_end_refusal : (has_read : Bool) → ErrorKind → Bool
is_end_refusal has_read kind.Io = not has_read
is_end_refusal has_read kind.Memory = has_read
is_end_refusal has_read kind.Parse = has_read
is_end_refusal has_read kind.Unsupported = has_read
is_end_refusal has_read kind.SequenceEnd = true
is_end_refusal has_read other = false

module _ {K V P A : Type 0} where
  abbrev pub is_enqueue_reply : Reply K V P A → Bool
  is_enqueue_reply (reply.Ignored piece) = true
  is_enqueue_reply (reply.Queued sequence) = true
  is_enqueue_reply (reply.Dropped piece sequence) = true
  is_enqueue_reply (reply.Refused kind back) = is_draw_refusal kind
  is_enqueue_reply other = false

  abbrev pub is_delete_reply : Reply K V P A → Bool
  is_delete_reply (reply.Deleted sequence) = true
  is_delete_reply (reply.Refused kind back) = is_draw_refusal kind
  is_delete_reply other = false

  abbrev pub is_question_reply : Reply K V P A → Bool
  is_question_reply (reply.Answer answer) = true
  is_question_reply (reply.Refused kind back) = is_question_refusal kind
  is_question_reply other = false

  -- Throttled is for a caller who throttles, and a read for one who doesn't
  abbrev pub is_look_up_reply : (throttled : Bool) → Reply K V P A → Bool
  is_look_up_reply throttled reply.Miss = true
  is_look_up_reply throttled reply.Throttled = throttled
  is_look_up_reply throttled (reply.Read ticket) = not throttled
  is_look_up_reply throttled (reply.Refused kind back) = is_question_refusal kind
  is_look_up_reply throttled other = false

  -- an entry and a miss end a load only if the read went well, and nothing ends it as throttled
  abbrev pub is_end_reply : (has_read : Bool) → Reply K V P A → Bool
  is_end_reply has_read reply.Miss = has_read
  is_end_reply has_read (reply.Entry key value age) = has_read
  is_end_reply has_read reply.Throttled = false
  is_end_reply has_read (reply.Refused kind back) = is_end_refusal has_read kind
  is_end_reply has_read other = true

  -- and so of all that a worker or a wait asks
  abbrev pub is_other_reply : Reply K V P A → Bool
  is_other_reply (reply.Refused kind back) = is_draw_refusal kind
  is_other_reply other = true

  -- the reply is one that the step may get, whatever the core was
  abbrev pub may_reply : Step K V P A → Reply K V P A → Bool
  may_reply (step.Enqueue piece size) answer = is_enqueue_reply answer
  may_reply (step.Delete hash) answer = is_delete_reply answer
  may_reply (step.MayContains hash) answer = is_question_reply answer
  may_reply (step.LoadBegin hash throttled) answer = is_look_up_reply throttled answer
  may_reply (step.LoadEnd ticket outcome) answer = is_end_reply (went_well outcome) answer
  may_reply given answer = is_other_reply answer
