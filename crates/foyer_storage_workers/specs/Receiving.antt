-- What a hold of the core's lock took of a flusher's queue, and how it ended.
use Rattle.std.specs.Prelude.{◌≡◌, ◌⊎◌, ℕ, Bool, true, false, Option, Some, None}
use Rattle.foyer_device_page.specs.declared.error.ErrorKind.{ErrorKind}
use Rattle.foyer_device_page.specs.declared.error.ErrorKind.TheVariants as kind
use Rattle.foyer_policy_release.specs.declared.shown.Released.{Released}
use Rattle.foyer_core_shared.specs.Briefs.{reply_brief}
use Rattle.foyer_core_shared.specs.Reply.{Reply}
use Rattle.foyer_core_shared.specs.Reply.TheVariants as reply
use Rattle.foyer_core_shared.specs.Sessions.{SessionState}
use Rattle.foyer_core_shared.specs.Step.{Step}
use Rattle.foyer_core_shared.specs.declared.brief.ReplyBrief.{ReplyBrief}
use Rattle.foyer_core_shared.specs.declared.brief.ReplyBrief.TheVariants as replied
use Rattle.foyer_core_shared.specs.declared.brief.StepBrief.TheVariants as asked
use Rattle.foyer_storage_workers.specs.declared.workers.receiving.Held.{Held}
use Rattle.foyer_storage_workers.specs.declared.workers.receiving.Held.TheVariants as held
use Rattle.foyer_storage_workers.specs.declared.workers.receiving.HoldEnd.{HoldEnd}
use Rattle.foyer_storage_workers.specs.declared.workers.receiving.HoldEnd.TheVariants as end

-- the newest step takes the front of this flusher's queue, and got this reply
abbrev pub GotOfQueue : (flusher : ℕ) → SessionState → ReplyBrief → Type 0
GotOfQueue flusher session answer = session.newest ≡ Some (record { step = asked.Receive flusher; reply = answer })

-- a submission was taken off the queue, into the buffer or back
abbrev pub takes_off : ReplyBrief → Bool
takes_off replied.Received = true
takes_off replied.HandedBack = true
takes_off other = false

module _ {K V P A : Type 0} where
  -- The newest step takes the front of this flusher's queue, and got this reply; or, if notes are kept, no memory was found for its note.
  abbrev pub IsReceived : (keeps : Bool) → (flusher : ℕ) → (old new : SessionState) → Reply K V P A → Type 0
  IsReceived keeps flusher old new answer =
      GotOfQueue flusher new (reply_brief answer)
      ⊎ ((keeps ≡ true) × (new ≡ old) × ((back : Step K V P A) × (answer ≡ reply.Refused kind.Memory back)))

  -- a take that was refused ends a hold; if memory was, it is to be tried again
  abbrev pub refused_end : (is_busy : Bool) → ErrorKind → HoldEnd K V P A
  refused_end is_busy kind.Memory = end.Refused
  refused_end is_busy other = end.Drained is_busy

  -- how the reply to a take ends a hold, if it does
  abbrev pub hold_end_of : (wants_flush is_busy : Bool) → Reply K V P A → Option (HoldEnd K V P A)
  hold_end_of wants_flush is_busy (reply.Received None) = None
  hold_end_of wants_flush is_busy (reply.Received (Some piece)) = Some (end.Back piece wants_flush)
  hold_end_of wants_flush is_busy (reply.Refused cause back) = Some (refused_end is_busy cause)
  hold_end_of wants_flush is_busy other = Some (end.Drained is_busy)

  -- How a hold ended, by its newest step: it took a piece that was returned, or something that wasn't, or nothing. If memory was
  -- refused, nothing is said.
  abbrev pub IsHoldEnd : (flusher : ℕ) → SessionState → HoldEnd K V P A → Type 0
  IsHoldEnd flusher session end.Enough = GotOfQueue flusher session replied.Received
  IsHoldEnd flusher session end.More = GotOfQueue flusher session replied.Received
  IsHoldEnd flusher session end.Refused = Unit {0}
  IsHoldEnd flusher session (end.Back piece wants_flush) = GotOfQueue flusher session replied.HandedBack
  IsHoldEnd flusher session (end.Drained took) = (answer : ReplyBrief) × GotOfQueue flusher session answer × (takes_off answer ≡ false)

  -- the same of a reply to a take, which may end none: then what was taken is in the buffer
  abbrev pub EndsOrGoesOn : (flusher : ℕ) → SessionState → Option (HoldEnd K V P A) → Type 0
  EndsOrGoesOn flusher session None = GotOfQueue flusher session replied.Received
  EndsOrGoesOn flusher session (Some end) = IsHoldEnd flusher session end

  -- what a hold ended with: a piece that didn't fit was released by its own number
  abbrev pub IsHeldAs : HoldEnd K V P A → Held → Type 0
  IsHeldAs end.Enough became = became ≡ held.Enough
  IsHeldAs end.More became = became ≡ held.More
  IsHeldAs end.Refused became = became ≡ held.Refused
  IsHeldAs (end.Back piece wants_flush) became = (shown : Released) × (became ≡ held.Back shown wants_flush) × (shown.hash ≡ piece.piece.hash) × (shown.number ≡ piece.number)
  IsHeldAs (end.Drained took) became = became ≡ held.Drained took
