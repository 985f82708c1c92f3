-- What a core's lock keeps of how pieces were queued at the flushers, and left them.
use Rattle.std.specs.Prelude.{◌≡◌, ◌⊎◌, ℕ, ◌+◌, ◌%◌, ◌^◌, ◌<◌, ◌≤◌, Bool, false, List, length, Some, slice_index}
use Rattle.foyer_core_steps.specs.declared.reply.Reply.{Reply}
use Rattle.foyer_core_steps.specs.declared.reply.Reply.TheVariants as replies
use Rattle.foyer_core_told.specs.declared.event.Told.{Told}
use Rattle.foyer_core_told.specs.declared.queued.Moving.{Moving}
use Rattle.foyer_core_told.specs.declared.queued.Moving.TheVariants as moving
use Rattle.foyer_core_told.specs.ToldQueued.{AreUpTo, HasLeft, passed_by, passed_in, queued_by, queued_in, returned_by, returned_in}

-- By flusher: how many pieces were queued and how many left it, how many of these from the front of its queue since its last batch began, and up to
-- which place they had left it when a batch ended. By class: at least the place of the last piece that was queued. If they are lost
-- nothing is known.
pub record Noted : Type 0 where
  pub last : List ℕ
  pub queued : List ℕ
  pub returned : List ℕ
  pub passed : List ℕ
  pub left : List ℕ
  pub is_lost : Bool

-- the class of a hash: its remainder by the number of classes
abbrev pub class_of : Noted → ℕ → ℕ
class_of noted hash = hash % length noted.last

-- The number of classes is a multiple of the number of flushers. So all hashes of a class belong to one flusher. The place that is kept for
-- the class is at most the number of pieces that were queued at this flusher.
pub record AreClassed (last queued : List ℕ) : Type 0 where
  pub some : 0 < length last
  pub whole : 0 < length queued → length last % length queued ≡ 0
  pub below : (r : ℕ) → slice_index last r ≤ slice_index queued (r % length queued)

-- nothing was queued
pub record AreNone (noted : Noted) : Type 0 where
  pub last : (r : ℕ) → slice_index noted.last r ≡ 0
  pub queued : (f : ℕ) → slice_index noted.queued f ≡ 0
  pub returned : (f : ℕ) → slice_index noted.returned f ≡ 0
  pub passed : (f : ℕ) → slice_index noted.passed f ≡ 0
  pub left : (f : ℕ) → slice_index noted.left f ≡ 0

-- the end of a batch of this flusher
abbrev pub EndsBatch : {K V P A : Type 0} → (f : ℕ) → Moving → Reply K V P A → Type 0
EndsBatch f (moving.Ends g) (replies.Ended pieces waits) = g ≡ f
EndsBatch f done answer = ⊥

-- the flusher is there, and its numbers have 64 bits with so many more
abbrev pub FitsQueued : ℕ → Noted → Type 0
FitsQueued hash old = (hash % length old.queued < length old.queued) × (slice_index old.queued (hash % length old.queued) + 1 < 2 ^ 64)

abbrev pub FitsPassed : ℕ → Noted → Type 0
FitsPassed f old = (f < length old.returned) × (f < length old.passed) × (slice_index old.returned f + 1 < 2 ^ 64) × (slice_index old.passed f + 1 < 2 ^ 64)

abbrev pub FitsEnded : (f pieces : ℕ) → Noted → Type 0
FitsEnded f pieces old = (f < length old.returned) × (f < length old.left) × (slice_index old.returned f + pieces < 2 ^ 64)

abbrev pub CanNote : {K V P A : Type 0} → Moving → Reply K V P A → Noted → Type 0
CanNote (moving.Queues hash) (replies.Queued sequence) old = FitsQueued hash old
CanNote (moving.Receives f) (replies.Received (Some piece)) old = FitsPassed f old
CanNote (moving.Begins f) (replies.Began blocks marks) old = f < length old.passed
CanNote (moving.Ends f) (replies.Ended pieces waits) old = FitsEnded f (length pieces.items) old
CanNote done answer old = Unit {0}

-- From these to those a step did this with pieces, and had this reply.
pub record HasNoted {K V P A : Type 0} (done : Moving) (answer : Reply K V P A) (old new : Noted) : Type 0 where
  pub kept : new.is_lost ≡ false → old.is_lost ≡ false
  pub keeps : old.is_lost ≡ false → CanNote done answer old → new.is_lost ≡ false
  pub flushers : length new.queued ≡ length old.queued
  pub queued : new.is_lost ≡ false → (f : ℕ) → f < length old.queued → slice_index new.queued f ≡ slice_index old.queued f + queued_by (length old.queued) f done answer
  pub returned : new.is_lost ≡ false → (f : ℕ) → slice_index new.returned f ≡ slice_index old.returned f + returned_by f done answer
  pub passed : new.is_lost ≡ false → (f : ℕ) → slice_index new.passed f ≡ passed_by f done answer (slice_index old.passed f)
  pub left : new.is_lost ≡ false → (f : ℕ) → (slice_index new.left f ≡ slice_index old.left f)
      ⊎ (EndsBatch f done answer × (slice_index new.left f + slice_index new.passed f ≤ slice_index new.returned f))
  pub reached : new.is_lost ≡ false → (f : ℕ) → EndsBatch f done answer → slice_index new.returned f ≤ slice_index new.left f + slice_index new.passed f
  pub classes : length new.last ≡ length old.last
  pub last : new.is_lost ≡ false → (r : ℕ) → slice_index old.last r ≤ slice_index new.last r
  pub placed : new.is_lost ≡ false → (hash sequence : ℕ) → done ≡ moving.Queues hash → answer ≡ replies.Queued sequence
      → (hash % length old.queued < length old.queued) × (slice_index new.queued (hash % length old.queued) ≤ slice_index new.last (class_of new hash))

-- They are those of the history, unless they are lost.
pub record AreOf {K V P A D : Type 0} (noted : Noted) (log : List (Told K V P A D)) : Type 0 where
  pub queued : (f : ℕ) → f < length noted.queued → slice_index noted.queued f ≡ queued_in (length noted.queued) f log
  pub returned : (f : ℕ) → slice_index noted.returned f ≡ returned_in f log
  pub passed : (f : ℕ) → slice_index noted.passed f ≡ passed_in f log 0
  pub up_to : (hash : ℕ) → AreUpTo (length noted.queued) hash (slice_index noted.last (class_of noted hash)) log
  pub left : (f : ℕ) → (slice_index noted.left f ≡ 0) ⊎ HasLeft f (slice_index noted.left f) log

abbrev pub AreNoted : {K V P A D : Type 0} → Noted → List (Told K V P A D) → Type 0
AreNoted noted log = noted.is_lost ≡ false → AreOf noted log

-- All pieces of the hash have left their flusher, of so many.
pub record HasSeenLeave (noted : Noted) (flushers hash : ℕ) : Type 0 where
  pub kept : noted.is_lost ≡ false
  pub flushers_are : length noted.queued ≡ flushers
  pub left : slice_index noted.last (class_of noted hash) ≤ slice_index noted.left (hash % flushers)
