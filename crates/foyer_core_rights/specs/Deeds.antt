-- What threads do under a lock, each in one go, as events of the world; and the rights by which they do it.
use Rattle.std.specs.Prelude.{◌≡◌, ℕ, ◌==◌, Bool, true, false, List, [], ◌∷◌}
use Rattle.foyer_core_model.specs.Ids.{is_id_in}
use Rattle.foyer_core_model.specs.Rules.{Rules}
use Rattle.foyer_core_model.specs.State.{State}
use Rattle.foyer_core_model.specs.Step.{ReadResult, Step, FlushBlock, FlushWrote, ReclaimRead, ReclaimForget, ReclaimCleaned, DestroyClear, DestroyCleaned}
use Rattle.foyer_core_model.specs.Reply.{Reply, Written, Next, Committed, Failed, Picked, Cleans, Cleared}
use Rattle.foyer_core_model.specs.World.{World, WorldEvent, Applies, ReadBegins, ReadEnds, ScanBegins, ScanEnds, WriteBegins, WriteEnds, CleanBegins, CleanEnds, after_all}

-- a step under the lock of the core, or a whole access under the lock of the disk
pub data Deed (C : Type 0) : Type 0 where
  Steps : Step C → Reply C → State C → Deed C
  ReadsAt : (ticket : ℕ) → ReadResult → Deed C
  ScansAt : (block : ℕ) → ReadResult → Deed C
  WritesAt : (flusher : ℕ) → (is_ok : Bool) → (torn : ℕ → ℕ) → Deed C
  CleansAt : (block : ℕ) → (is_ok : Bool) → (torn : ℕ → ℕ) → Deed C

-- Who may do what: make a step; use the disk; do and report the writes of a flusher; read for a ticket; read for the reclaim of a
-- block, and report it; clean a block, and report it.
pub data Right : Type 0 where
  OfCore : Right
  OfDisk : Right
  OfWrites : (flusher : ℕ) → Right
  OfLoad : (ticket : ℕ) → Right
  OfScan : (block : ℕ) → Right
  OfClean : (block : ℕ) → Right

module _ {C : Type 0} where
  abbrev pub events_in : Deed C → List (WorldEvent C)
  events_in (Steps step reply new) = Applies step reply new ∷ []
  events_in (ReadsAt n result) = ReadBegins n ∷ ReadEnds n result ∷ []
  events_in (ScansAt b result) = ScanBegins b ∷ ScanEnds b result ∷ []
  events_in (WritesAt f ok g) = WriteBegins f ∷ WriteEnds f ok g ∷ []
  events_in (CleansAt b ok g) = CleanBegins b ∷ CleanEnds b ok g ∷ []

  -- the world that a deed leaves
  abbrev pub after_deed : Rules C → World C → Deed C → World C
  after_deed rules w d = after_all rules w (events_in d)

  -- the step and its reply change which writes of this flusher were issued
  abbrev pub IsOfWrites : Step C → Reply C → ℕ → Type 0
  IsOfWrites (FlushBlock g) (Written b ws) f = g ≡ f
  IsOfWrites (FlushWrote g ok) Next f = g ≡ f
  IsOfWrites (FlushWrote g ok) (Committed n) f = g ≡ f
  IsOfWrites (FlushWrote g ok) Failed f = g ≡ f
  IsOfWrites step reply f = ⊥

  -- the step reports a read for the reclaim of this block
  abbrev pub IsOfScan : Step C → ℕ → Type 0
  IsOfScan (ReclaimRead c came) b = c ≡ b
  IsOfScan step b = ⊥

  -- the step reports the clean of this block
  abbrev pub IsOfClean : Step C → ℕ → Type 0
  IsOfClean (ReclaimCleaned c ok) b = c ≡ b
  IsOfClean (DestroyCleaned c fault) b = c ≡ b
  IsOfClean step b = ⊥

  abbrev pub Takes : Deed C → Right → Type 0
  Takes (Steps step reply new) OfCore = Unit {0}
  Takes (Steps step reply new) (OfWrites f) = IsOfWrites step reply f
  Takes (Steps step reply new) (OfScan b) = IsOfScan step b
  Takes (Steps step reply new) (OfClean b) = IsOfClean step b
  Takes (ReadsAt n result) OfDisk = Unit {0}
  Takes (ReadsAt n result) (OfLoad m) = n ≡ m
  Takes (ScansAt b result) OfDisk = Unit {0}
  Takes (ScansAt b result) (OfScan c) = b ≡ c
  Takes (WritesAt f ok g) OfDisk = Unit {0}
  Takes (WritesAt f ok g) (OfWrites h) = f ≡ h
  Takes (CleansAt b ok g) OfDisk = Unit {0}
  Takes (CleansAt b ok g) (OfClean c) = b ≡ c
  Takes deed right = ⊥

  -- the step issues the clean of this block
  abbrev pub IssuesClean : Deed C → ℕ → Type 0
  IssuesClean (Steps (ReclaimForget c) (Cleans d) new) b = c ≡ b
  IssuesClean (Steps DestroyClear (Cleared bs) new) b = is_id_in b bs ≡ true
  IssuesClean deed b = ⊥

  -- the reply begins the reclaim of this block
  abbrev pub PicksBlock : Reply C → ℕ → Type 0
  PicksBlock (Picked c answers probation) b = c ≡ b
  PicksBlock reply b = ⊥

  abbrev pub BeginsReclaim : Deed C → ℕ → Type 0
  BeginsReclaim (Steps step reply new) b = PicksBlock reply b
  BeginsReclaim deed b = ⊥

  -- the reply begins the reclaim of this block, or a destroy
  abbrev pub takes_block : ℕ → Reply C → Bool
  takes_block b (Picked c answers probation) = b == c
  takes_block b (Cleared bs) = true
  takes_block b reply = false

  abbrev pub deed_takes : ℕ → Deed C → Bool
  deed_takes b (Steps step reply new) = takes_block b reply
  deed_takes b deed = false
