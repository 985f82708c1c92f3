-- What shows that the laws speak of something: two runs of a small core that reach every reply of the table.
use Rattle.std.specs.Prelude.{◌≡◌, ◌≢◌, ℕ, Bool, true, ◌&&◌, List, [], ◌∷◌, ◌++◌, Some, None}
use Rattle.foyer_core_model.specs.Ids.{ids, is_id_in}
use Rattle.foyer_core_model.specs.Layout.{PlacesAll}
use Rattle.foyer_core_model.specs.Reply.{Io, Memory, Parse, Closed, Unsupported, SequenceEnd, Reply, NotNow, Refused, Ignored, Queued, Dropped, Deleted, Done, Answer, Miss, Throttled, Read, Entry, Empty, Received, Began, Written, NoBlock, Next, Committed, Failed, Ended, Picked, Scans, Listed, Cleans, Destroying, Cleared, Destroyed}
use Rattle.foyer_core_model.specs.World.{World, WorldEvent, Applies, MayAllHappen}
use Rattle.foyer_core_model.specs.Opened.{IsOpened}
use Rattle.foyer_core_model.specs.Laws.{Demands}
use Rattle.foyer_core_model.specs.SmallCore.{small, IsSmall, SmallSplits}

-- replies by number

-- the number of a reply, by its kind and not by what it carries
abbrev pub number_of : Reply ℕ → ℕ
number_of (NotNow step) = 0
number_of (Refused Io step) = 1
number_of (Refused Memory step) = 2
number_of (Refused Parse step) = 3
number_of (Refused Closed step) = 4
number_of (Refused Unsupported step) = 5
number_of (Refused SequenceEnd step) = 6
number_of (Ignored c) = 7
number_of (Queued s) = 8
number_of (Deleted s) = 9
number_of Done = 10
number_of (Answer b) = 11
number_of Miss = 12
number_of Throttled = 13
number_of (Read t) = 14
number_of (Entry c age) = 15
number_of Empty = 16
number_of (Received None) = 17
number_of (Received (Some c)) = 18
number_of (Began blocks marks) = 19
number_of (Written b writes) = 20
number_of NoBlock = 21
number_of Next = 22
number_of (Committed n) = 23
number_of Failed = 24
number_of (Ended pieces waits) = 25
number_of (Picked b answers probation) = 26
number_of (Scans b o n verdicts) = 27
number_of (Listed verdicts) = 28
number_of (Cleans b) = 29
number_of (Destroying s) = 30
number_of (Cleared bs) = 31
number_of (Destroyed ok) = 32
number_of (Dropped c s) = 33

-- the numbers of all replies of a run
abbrev pub numbers_of : List (WorldEvent ℕ) → List ℕ
numbers_of [] = []
numbers_of (Applies step reply new ∷ events) = number_of reply ∷ numbers_of events
numbers_of (event ∷ events) = numbers_of events

-- each of the first list is in the second
abbrev pub are_all_in : List ℕ → List ℕ → Bool
are_all_in [] ys = true
are_all_in (x ∷ xs) ys = is_id_in x ys && are_all_in xs ys

-- a run of the small core from an opened world
pub record IsRun (first : World ℕ) (events : List (WorldEvent ℕ)) : Type 0 where
  pub opened : IsOpened small first
  pub happened : MayAllHappen small SmallSplits IsSmall first events

-- What the laws demand holds of the small core, and a run from an empty core and one from recovered addresses reach
-- every reply and every refusal.
pub record ReachesEveryReply : Type 0 where
  pub demands : Demands small SmallSplits IsSmall
  pub places : PlacesAll small SmallSplits
  pub empty : World ℕ
  pub run : List (WorldEvent ℕ)
  pub is_run : IsRun empty run
  pub recovered : World ℕ
  pub is_recovered : recovered.history ≢ []
  pub second : List (WorldEvent ℕ)
  pub is_second : IsRun recovered second
  pub all : are_all_in (ids 34) (numbers_of run ++ numbers_of second) ≡ true
