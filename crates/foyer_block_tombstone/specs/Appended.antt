-- What an append makes of a log.
use Rattle.std.specs.Prelude.{◌≡◌, ◌⊎◌, ℕ, ◌+◌, ◌-◌, ◌*◌, ◌%◌, ◌<◌, ◌≤◌, ◌^◌, List, [], ◌∷◌, length, slice_get, Option, Some, None, Ok, Err, Result, IfErr, OnOk, OnErr, MatchResult}
use Rattle.foyer_block_index.specs.declared.tombstone.Tombstone.{Tombstone}
use Rattle.foyer_device_page.specs.declared.error.Error.{Error}
use Rattle.foyer_device_page.specs.declared.error.Error.TheVariants as error
use Rattle.foyer_io_engine.specs.Disk.{Disk, IfKnown, Becomes}
use Rattle.foyer_block_tombstone.specs.PageBytes.{CanHoldLog, ChangesPages, IsLogFault, ring_on}
use Rattle.foyer_block_tombstone.specs.Pages.{AreApart, pages_of}
use Rattle.foyer_block_tombstone.specs.Ring.{IsPut, IsTouched, touched}
use Rattle.foyer_block_tombstone.specs.Views.{LogView}
use Rattle.foyer_block_tombstone.specs.Writes.{HasWritten, HasWrittenAtMost}

-- Marks were put into a log in the pages of partitions from the log's number on, or that was refused.
pub record DidPut {E : Type 0} (disk : E → Option Disk) (faults : E → ℕ) (old : LogView E) (marks : List Tombstone) (new : LogView E) (outcome : Result Unit Error) : Type 0 where
  pub places : new.places ≡ old.places
  pub newest : new.newest ≡ old.newest
  pub slot : OnOk outcome ((old.slot + length marks < 2 ^ 64 → new.slot ≡ old.slot + length marks)
      × (new.slot % (256 * pages_of old.places) ≡ (old.slot + length marks) % (256 * pages_of old.places)))
  pub back : OnErr outcome ((new.slot ≡ old.slot) × (new.page ≡ None))
  pub put : OnOk outcome (Becomes (disk old.engine) (disk new.engine) (λ d e. AreApart old.places
      → IsPut (256 * pages_of old.places) (ring_on d old.places) old.slot marks (ring_on e old.places)))
  pub written : Becomes (disk old.engine) (disk new.engine) (λ d e. ChangesPages d old.places (IsTouched (256 * pages_of old.places) old.slot (length marks)) e)
  pub once : MatchResult outcome
      (λ _. HasWritten old.writes (touched old.slot (length marks) (pages_of old.places)) new.writes)
      (λ _. HasWrittenAtMost old.writes (touched old.slot (length marks) (pages_of old.places)) new.writes)
  pub outside : IfKnown (disk old.engine) (λ d. outcome ≡ Err error.OutOfRange → CanHoldLog d old.places → ⊥)
  pub nothing : marks ≡ [] → (outcome ≡ Ok tt) × (new ≡ old)
  pub counted : faults old.engine ≤ faults new.engine
  pub refused : IfErr outcome (IsLogFault (faults old.engine) (faults new.engine))

module _ {E : Type 0} (disk : E → Option Disk) (faults : E → ℕ) where
  -- Marks were put from this number on, and the log goes on where it did.
  pub record IsPutFrom (old : LogView E) (number : ℕ) (marks : List Tombstone) (new : LogView E) (outcome : Result Unit Error) : Type 0 where
    pub end : LogView E
    pub put : DidPut disk faults (record old { slot = number }) marks end outcome
    pub same : new ≡ record end { slot = old.slot }

  -- Marks were put behind the newest mark, and the last of them is the newest now.
  pub record IsPutBehind (old : LogView E) (marks : List Tombstone) (last : Tombstone) (new : LogView E) (outcome : Result Unit Error) : Type 0 where
    pub end : LogView E
    pub put : DidPut disk faults old marks end outcome
    pub done : OnOk outcome (new ≡ record end { newest = last })
    pub back : OnErr outcome (new ≡ end)

  -- Marks were put from the number of the newest mark on, which was put behind them before; or one of the two was refused.
  pub record IsPutBefore (old : LogView E) (marks : List Tombstone) (new : LogView E) (outcome : Result Unit Error) : Type 0 where
    pub between : LogView E
    pub first : Result Unit Error
    pub moved : IsPutFrom old (old.slot % (256 * pages_of old.places) + (length marks - 1)) (old.newest ∷ []) between first
    pub then : ((new ≡ between) × (outcome ≡ first) × OnOk first ⊥)
        ⊎ ((first ≡ Ok tt) × ((end : LogView E) × IsPutFrom between (old.slot % (256 * pages_of old.places) + (256 * pages_of old.places - 1)) marks end outcome
        × OnErr outcome (new ≡ end) × OnOk outcome ((new ≡ record end { slot = new.slot })
        × (old.slot + length marks < 2 ^ 64 → new.slot ≡ old.slot + length marks)
        × (new.slot % (256 * pages_of old.places) ≡ (old.slot + length marks) % (256 * pages_of old.places)))))

  -- Marks were appended to a log, or the append was refused. Older marks than the newest one are put before it, unless they are as many as
  -- the log has slots. Without marks nothing was done.
  abbrev pub DidAppend : LogView E → List Tombstone → LogView E → Result Unit Error → Type 0
  DidAppend old marks new outcome =
      ((marks ≡ []) × (outcome ≡ Ok tt) × (new ≡ old)) ⊎ ((last : Tombstone) × (slice_get marks (length marks - 1) ≡ Some last)
      × ((((old.newest.sequence ≤ last.sequence) ⊎ (256 * pages_of old.places ≤ length marks)) × IsPutBehind old marks last new outcome)
      ⊎ ((last.sequence < old.newest.sequence) × (length marks < 256 * pages_of old.places) × IsPutBefore old marks new outcome)))

-- a log that keeps nothing takes marks and is as it was
abbrev pub KeepsNothing : {L : Type 0} → L → List Tombstone → L → Result Unit Error → Type 0
KeepsNothing old marks new outcome = (outcome ≡ Ok tt) × (new ≡ old)

-- one that may be there
abbrev pub appends_in : {L : Type 0} → (L → List Tombstone → L → Result Unit Error → Type 0) → Option L → List Tombstone → Option L → Result Unit Error → Type 0
appends_in Appends None marks None outcome = outcome ≡ Ok tt
appends_in Appends (Some old) marks (Some new) outcome = Appends old marks new outcome
appends_in Appends old marks new outcome = ⊥
