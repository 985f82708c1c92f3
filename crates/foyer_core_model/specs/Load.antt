-- Loads.
use Rattle.std.specs.Prelude.{◌≡◌, ◌≢◌, ℕ, ◌==◌, Bool, true, false, if◌then◌else◌, List, length, take, Option, Some, None}
use Rattle.foyer_core_model.specs.Numbers.{put, plus}
use Rattle.foyer_core_model.specs.Record.{Slot, Indexed, Mark, Outcome, NoRecord, NotSupported, Undecodable, Holds}
use Rattle.foyer_core_model.specs.Index.{without}
use Rattle.foyer_core_model.specs.State.{Stats, State}
use Rattle.foyer_core_model.specs.Rules.{Rules}
use Rattle.foyer_core_model.specs.Step.{ReadResult, Bytes, Fault, Age, Young, Old, Ticket}
use Rattle.foyer_core_model.specs.Reply.{Reply, Miss, Throttled, Read, Entry}

module _ {C : Type 0} (rules : Rules C) (old : State C) where
  -- one more access of a block
  abbrev pub accessed : ℕ → ℕ → Stats
  accessed b = put old.stats b (record (old.stats b) { access = plus (old.stats b).access 1 })

  -- A look-up: without an address a miss; throttled if the caller says so; an address of an older filling leaves the index; else
  -- a read is issued.
  abbrev pub Looks : ℕ → Bool → Option Slot → Reply C → State C → Type 0
  Looks h throttled None Miss new = new ≡ old
  Looks h throttled (Some (Mark s)) Miss new = new ≡ old
  Looks h throttled (Some (Indexed a)) Throttled new = (throttled ≡ true) × (new ≡ old)
  Looks h throttled (Some (Indexed a)) Miss new =
      (throttled ≡ false) × (a.filling ≢ old.filling a.block) × (new ≡ record old { index = put old.index h None })
  Looks h throttled (Some (Indexed a)) (Read t) new =
      (throttled ≡ false) × (a.filling ≡ old.filling a.block) × (t ≡ record { hash = h; address = a })
      × (new ≡ record old { stats = accessed a.block })
  Looks h throttled slot reply new = ⊥

  -- What the bytes of a read are as the ticket's record. They are nothing if the ticket's block has begun a new filling. The record is the
  -- first bytes, as many as the address says.
  abbrev pub judged : Ticket → List ℕ → Outcome C
  judged t bs =
      if t.address.filling == old.filling t.address.block
      then rules.pair_of (take t.address.len bs) t.hash t.address.sequence
      else NoRecord

  -- an entry is old if its block is on probation
  abbrev pub age_at : ℕ → Age
  age_at b = if (old.stats b).probation then Old else Young

  -- bytes that aren't the ticket's record take the very address out of the index
  abbrev pub Judges : Ticket → Outcome C → Reply C → State C → Type 0
  Judges t NoRecord Miss new = new ≡ record old { index = put old.index t.hash (without t.address (old.index t.hash)) }
  Judges t (Holds c) (Entry d age) new = (d ≡ c) × (age ≡ age_at t.address.block) × (new ≡ old)
  Judges t outcome reply new = ⊥

  -- a fault is a refusal
  abbrev pub Ends : Ticket → ReadResult → Reply C → State C → Type 0
  Ends t Fault reply new = ⊥
  Ends t (Bytes bs) reply new = Judges t (judged t bs) reply new

  -- bytes are as many as were asked for, the record's
  abbrev pub HasLength : Ticket → ReadResult → Type 0
  HasLength t Fault = Unit {0}
  HasLength t (Bytes bs) = length bs ≡ t.address.len

  -- a key or a value is decoded, which takes memory
  abbrev pub IsDecoded : Outcome C → Type 0
  IsDecoded NoRecord = ⊥
  IsDecoded NotSupported = ⊥
  IsDecoded Undecodable = Unit {0}
  IsDecoded (Holds c) = Unit {0}
