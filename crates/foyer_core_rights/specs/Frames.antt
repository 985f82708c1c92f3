-- The part of the world that each right keeps.
use Rattle.std.specs.Prelude.{◌≡◌, ℕ, ◌<◌, Bool, false, Option, Some}
use Rattle.foyer_core_model.specs.Rules.{Rules, Splitting}
use Rattle.foyer_core_model.specs.Event.{Event}
use Rattle.foyer_core_model.specs.Step.{Ticket}
use Rattle.foyer_core_model.specs.Access.{CleanIssued, CleanDone, ReadState, ReadIssued, Reading, ReadDone, Load, Scan}
use Rattle.foyer_core_model.specs.World.{World, MayAllHappen}
use Rattle.foyer_core_model.specs.Laws.{Demands, IsReached}
use Rattle.foyer_core_rights.specs.Deeds.{Deed, OfCore, OfDisk, OfWrites, OfLoad, OfScan, OfClean, Takes, IssuesClean, BeginsReclaim, deed_takes, events_in, after_deed}

-- a read is not under way
abbrev pub IsSettled : ReadState → Type 0
IsSettled ReadIssued = Unit {0}
IsSettled (Reading covers) = ⊥
IsSettled (ReadDone result) = Unit {0}

module _ {C : Type 0} where
  -- the load of a ticket as its caller knows it
  pub record HasLoad (w : World C) (n : ℕ) (t : Ticket) (promised : Option (Event C)) (state : ReadState) : Type 0 where
    pub load : Load C
    pub at : w.loads n ≡ Some load
    pub below : n < w.issued
    pub ticket : load.ticket ≡ t
    pub promise : load.promise ≡ promised
    pub read_state : load.read_state ≡ state

  -- no reclaim of the block of its record's commit, and no destroy, began since
  pub record HasBlock (w : World C) (n b : ℕ) : Type 0 where
    pub load : Load C
    pub at : w.loads n ≡ Some load
    pub below : n < w.issued
    pub kept : load.kept ≡ Some b

  -- What stays if a deed doesn't take the right. A read for a reclaim stays unless another reclaim of the block begins. A clean that was
  -- issued stays issued, whoever issues it again. A clean that is done stays done until it is issued again.
  pub record FrameHolds (rules : Rules C) (w : World C) (d : Deed C) : Type 0 where
    pub core : (Takes d OfCore → ⊥) → (after_deed rules w d).core ≡ w.core
    pub history : (Takes d OfCore → ⊥) → (after_deed rules w d).history ≡ w.history
    pub disk : (Takes d OfDisk → ⊥) → (after_deed rules w d).bytes ≡ w.bytes
    pub writes : (f : ℕ) → (Takes d (OfWrites f) → ⊥) → (after_deed rules w d).block_writes f ≡ w.block_writes f
    pub scans : (b : ℕ) (s : Scan) → IsSettled s.read_state → (Takes d (OfScan b) → ⊥) → (BeginsReclaim d b → ⊥) → w.scans b ≡ Some s → (after_deed rules w d).scans b ≡ Some s
    pub cleans : (b : ℕ) → (Takes d (OfClean b) → ⊥) → w.clean_states b ≡ CleanIssued → (after_deed rules w d).clean_states b ≡ CleanIssued
    pub cleaned : (b : ℕ) (ok : Bool) → (Takes d (OfClean b) → ⊥) → (IssuesClean d b → ⊥) → w.clean_states b ≡ CleanDone ok → (after_deed rules w d).clean_states b ≡ CleanDone ok
    pub loads : (n : ℕ) (t : Ticket) (promise : Option (Event C)) (state : ReadState) → IsSettled state → (Takes d (OfLoad n) → ⊥) → HasLoad w n t promise state → HasLoad (after_deed rules w d) n t promise state
    pub blocks : (n b : ℕ) → deed_takes b d ≡ false → HasBlock w n b → HasBlock (after_deed rules w d) n b

abbrev pub FramesHold : (C : Type 0) → Type 0
FramesHold C = (rules : Rules C) (w : World C) (d : Deed C) → FrameHolds rules w d

-- If the world was reached and the deed may happen, no access is issued again before it is reported. A read for a reclaim stays while
-- nobody takes its right, and so does a clean that is done.
pub record IssuedStays {C : Type 0} (rules : Rules C) (w : World C) (d : Deed C) : Type 0 where
  pub scans : (b : ℕ) (s : Scan) → IsSettled s.read_state → (Takes d (OfScan b) → ⊥) → w.scans b ≡ Some s → (after_deed rules w d).scans b ≡ Some s
  pub cleaned : (b : ℕ) (ok : Bool) → (Takes d (OfClean b) → ⊥) → w.clean_states b ≡ CleanDone ok → (after_deed rules w d).clean_states b ≡ CleanDone ok

abbrev pub AllIssuedStays : {C : Type 0} → Rules C → Splitting C → (C → Type 0) → Type 0
AllIssuedStays {C} rules Splits is_value =
    (w : World C) (d : Deed C) → Demands rules Splits is_value → IsReached rules Splits is_value w → MayAllHappen rules Splits is_value w (events_in d) → IssuedStays rules w d
