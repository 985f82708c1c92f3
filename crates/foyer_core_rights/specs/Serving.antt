-- What a thread may do by its right, whatever others do between.
use Rattle.std.specs.Prelude.{◌≡◌, ◌⊎◌, ℕ, ◌+◌, ◌<◌, ◌≤◌, Bool, if◌then◌else◌, List, [], ◌∷◌, ◌++◌, length, slice_index, Option, Some}
use Rattle.foyer_format_layout.specs.BlockBytes.{Write, IsBeside, laid}
use Rattle.foyer_core_model.specs.Numbers.{put, last_number, page}
use Rattle.foyer_core_model.specs.Follows.{Follows}
use Rattle.foyer_core_model.specs.Rules.{Rules, Splitting}
use Rattle.foyer_core_model.specs.State.{State}
use Rattle.foyer_core_model.specs.Event.{Event, Put, newest}
use Rattle.foyer_core_model.specs.Record.{Outcome, Holds}
use Rattle.foyer_core_model.specs.Step.{ReadResult, Bytes, Fault, Age, Ticket, LoadBegin, LoadEnd}
use Rattle.foyer_core_model.specs.Reply.{Reply, Read, Entry}
use Rattle.foyer_core_model.specs.Access.{Issued, CleanIssued, CleanDone, cleaned_page, ReadIssued, ReadDone, Scan}
use Rattle.foyer_core_model.specs.World.{World, MayAllHappen}
use Rattle.foyer_core_model.specs.Laws.{Demands, IsReached, IsAnswer}
use Rattle.foyer_core_rights.specs.Deeds.{Deed, Steps, ReadsAt, ScansAt, WritesAt, CleansAt, BeginsReclaim, events_in, after_deed}
use Rattle.foyer_core_rights.specs.Frames.{HasLoad, HasBlock}

-- If a put is newest after a deed, its block is kept, or the put was newest before. In the second case what is kept is as it was, or the
-- reclaim of the block that was kept began.
abbrev pub LosesByReclaim : (C : Type 0) → Type 0
LosesByReclaim C =
    (rules : Rules C) (w : World C) (d : Deed C) (h s : ℕ) (x : Outcome C) → newest h (after_deed rules w d).history ≡ Some (Put h s x)
    → ((b : ℕ) × ((after_deed rules w d).kept h ≡ Some b))
    ⊎ ((newest h w.history ≡ Some (Put h s x)) × (((after_deed rules w d).kept h ≡ w.kept h) ⊎ ((b : ℕ) × BeginsReclaim d b × (w.kept h ≡ Some b))))

pub record Serves {C : Type 0} (rules : Rules C) (Splits : Splitting C) (is_value : C → Type 0) : Type 0 where
  -- a look-up that issues a read is promised what is newest just then
  pub looks : (w : World C) (h : ℕ) (throttled : Bool) (t : Ticket) (new : State C)
      → HasLoad (after_deed rules w (Steps (LoadBegin h throttled) (Read t) new)) w.issued t (newest t.hash w.history) ReadIssued
  -- and has the block of the last commit of its hash, if that block is kept
  pub keeps : (w : World C) (h : ℕ) (throttled : Bool) (t : Ticket) (new : State C) (b : ℕ) → w.kept t.hash ≡ Some b
      → HasBlock (after_deed rules w (Steps (LoadBegin h throttled) (Read t) new)) w.issued b
  -- a read that gives what the disk has is one that may happen
  pub reads : (w : World C) (n : ℕ) (t : Ticket) (promised : Option (Event C)) (bs : List ℕ) → HasLoad w n t promised ReadIssued
      → length bs ≡ t.address.len
      → ((i : ℕ) → i < length bs → slice_index bs i ≡ w.bytes t.address.block (t.address.offset + i))
      → MayAllHappen rules Splits is_value w (events_in (ReadsAt n (Bytes bs))) × HasLoad (after_deed rules w (ReadsAt n (Bytes bs))) n t promised (ReadDone (Bytes bs))
  -- and so is one that fails
  pub faults : (w : World C) (n : ℕ) (t : Ticket) (promised : Option (Event C)) → HasLoad w n t promised ReadIssued
      → MayAllHappen rules Splits is_value w (events_in (ReadsAt n Fault)) × HasLoad (after_deed rules w (ReadsAt n Fault)) n t promised (ReadDone Fault)
  -- the same of a read for a reclaim
  pub scans : (w : World C) (b : ℕ) (s : Scan) (bs : List ℕ) → w.scans b ≡ Some s → s.read_state ≡ ReadIssued → length bs ≡ s.len
      → ((i : ℕ) → i < length bs → slice_index bs i ≡ w.bytes b (s.offset + i))
      → MayAllHappen rules Splits is_value w (events_in (ScansAt b (Bytes bs))) × ((after_deed rules w (ScansAt b (Bytes bs))).scans b ≡ Some (record s { read_state = ReadDone (Bytes bs) }))
  pub scan_faults : (w : World C) (b : ℕ) (s : Scan) → w.scans b ≡ Some s → s.read_state ≡ ReadIssued
      → MayAllHappen rules Splits is_value w (events_in (ScansAt b Fault)) × ((after_deed rules w (ScansAt b Fault)).scans b ≡ Some (record s { read_state = ReadDone Fault }))
  -- a write that was issued may be done, and leaves its bytes; if it failed, it leaves any bytes in its range
  pub writes : (w : World C) (f b : ℕ) (results : List Bool) (write : Write) (left : List Write) (ok : Bool) (torn : ℕ → ℕ) → w.block_writes f ≡ Issued b results (write ∷ left)
      → ((o : ℕ) → IsBeside write o → torn o ≡ w.bytes b o)
      → MayAllHappen rules Splits is_value w (events_in (WritesAt f ok torn))
      × ((after_deed rules w (WritesAt f ok torn)).block_writes f ≡ Issued b (results ++ ok ∷ []) (if ok then left else []))
      × ((after_deed rules w (WritesAt f ok torn)).bytes ≡ put w.bytes b (if ok then laid write (w.bytes b) else torn))
  -- a clean that was issued may be done, and leaves zeros in its page; if it failed, it leaves any bytes there
  pub cleans : (w : World C) (b : ℕ) (ok : Bool) (torn : ℕ → ℕ) → w.clean_states b ≡ CleanIssued → ((o : ℕ) → page ≤ o → torn o ≡ w.bytes b o)
      → MayAllHappen rules Splits is_value w (events_in (CleansAt b ok torn))
      × ((after_deed rules w (CleansAt b ok torn)).clean_states b ≡ CleanDone ok)
      × ((after_deed rules w (CleansAt b ok torn)).bytes ≡ put w.bytes b (if ok then cleaned_page (w.bytes b) else torn))
  -- a load that ends with an entry has what was promised
  pub ends : (w : World C) (n : ℕ) (t : Ticket) (promised : Option (Event C)) (result : ReadResult) (c : C) (age : Age) (new : State C)
      → Demands rules Splits is_value → IsReached rules Splits is_value w → HasLoad w n t promised (ReadDone result) → Follows rules Splits w.core (LoadEnd t result) (Entry c age) new
      → promised ≡ Some (Put t.hash t.address.sequence (Holds c))
  -- and one whose block wasn't taken ends with what was promised, or with what is named for it
  pub answers : (w : World C) (n : ℕ) (t : Ticket) (result : ReadResult) (reply : Reply C) (new : State C) (b s : ℕ) (x : Outcome C)
      → Demands rules Splits is_value → IsReached rules Splits is_value w → w.core.steps < last_number
      → HasLoad w n t (Some (Put t.hash s x)) (ReadDone result) → HasBlock w n b → Follows rules Splits w.core (LoadEnd t result) reply new
      → IsAnswer t result x reply
