-- Loads and writes, whatever others do between.
use Rattle.std.proofs.Common.{◌≡◌, ℕ, ◌+◌, ◌<◌, ◌≤◌, Bool, if◌then◌else◌, List, [], ◌∷◌, ◌++◌, length, slice_index, Option, Some, refl, sym, ap, ◌∙◌, subst, arith}
use Rattle.foyer_format_layout.specs.BlockBytes.{Write, IsBeside, laid}
use Rattle.foyer_core_model.proofs.Basics.{put_same}
use Rattle.foyer_core_model.proofs.Answered.{answers_only_lem}
use Rattle.foyer_core_model.proofs.Missed.{loads_newest_lem}
use Rattle.foyer_core_model.specs.Numbers.{put, last_number, page}
use Rattle.foyer_core_model.specs.Rules.{Rules, Splitting}
use Rattle.foyer_core_model.specs.Record.{Outcome, Holds}
use Rattle.foyer_core_model.specs.State.{State}
use Rattle.foyer_core_model.specs.Event.{Event, Put, newest}
use Rattle.foyer_core_model.specs.Follows.{Follows}
use Rattle.foyer_core_model.specs.Step.{ReadResult, Bytes, Fault, Age, Ticket, LoadBegin, LoadEnd}
use Rattle.foyer_core_model.specs.Reply.{Reply, Read, Entry}
use Rattle.foyer_core_model.specs.Access.{Issued, InFlight, ReadState, ReadIssued, Reading, ReadDone, Load, Scan, begun, came, at_load, at_scan, writes_begun, writes_ended, bytes_ended, IsRead, IsTorn, CleanIssued, CleanInFlight, CleanDone, clean_begun, clean_ended, bytes_cleaned, cleaned_page, IsTornClean}
use Rattle.foyer_core_model.specs.World.{World, ReadBegins, ScanBegins, WriteBegins, CleanBegins, after, covers, IsReadAt, IsScanned, MayAllHappen}
use Rattle.foyer_core_model.specs.Laws.{Demands, IsReached, IsAnswer}
use Rattle.foyer_core_rights.specs.Deeds.{Steps, ReadsAt, ScansAt, WritesAt, CleansAt, events_in, after_deed}
use Rattle.foyer_core_rights.specs.Frames.{HasLoad, HasBlock}
use Rattle.foyer_core_rights.specs.Serving.{Serves}

module _ {C : Type 0} (rules : Rules C) (Splits : Splitting C) (is_value : C → Type 0) where
  pub looks : (w : World C) (h : ℕ) (throttled : Bool) (t : Ticket) (new : State C) → HasLoad (after_deed rules w (Steps (LoadBegin h throttled) (Read t) new)) w.issued t (newest t.hash w.history) ReadIssued
  looks w h throttled t new =
      record { load = record { ticket = t; promise = newest t.hash w.history; read_state = ReadIssued; kept = w.kept t.hash }; at = put_same w.loads w.issued _; below = omega arith; ticket = refl; promise = refl; read_state = refl }

  -- a read, from its beginning to its end
  read_through : (w : World C) (n : ℕ) (t : Ticket) (promised : Option (Event C)) (result : ReadResult) → HasLoad w n t promised ReadIssued
      → IsRead (w.bytes t.address.block) t.address.offset t.address.len (Reading (covers rules w t.address.block)) result
      → MayAllHappen rules Splits is_value w (events_in (ReadsAt n result)) × HasLoad (after_deed rules w (ReadsAt n result)) n t promised (ReadDone result)
  read_through w n t promised result h is =
      let l : Load C = h.load in
      let state : begun (covers rules w) l.ticket.address.block l.read_state ≡ Reading (covers rules w t.address.block) =
      ap (begun (covers rules w) l.ticket.address.block) h.read_state ∙ ap (λ (k : Ticket). Reading (covers rules w k.address.block)) h.ticket in
      let begins : (after rules w (ReadBegins n)).loads n ≡ Some (record l { read_state = begun (covers rules w) l.ticket.address.block l.read_state }) =
      put_same w.loads n _ ∙ ap (at_load (begun (covers rules w))) h.at in
      let gives : IsReadAt rules w.bytes (Some (record l { read_state = begun (covers rules w) l.ticket.address.block l.read_state })) result =
      subst (λ (x : Ticket × ReadState). IsRead (w.bytes x.0.address.block) x.0.address.offset x.0.address.len x.1 result) (λ i. (sym h.ticket i, sym state i)) is in (
        (tt, (subst (λ o. IsReadAt rules w.bytes o result) (sym begins) gives, tt)),
        record {
          load = record l { read_state = came result (begun (covers rules w) l.ticket.address.block l.read_state) };
          at = put_same (put w.loads n _) n _ ∙ ap (at_load (λ _. came result)) begins;
          below = h.below;
          ticket = h.ticket;
          promise = h.promise;
          read_state = ap (came result) state;
        },
      )

  -- a read that came
  pub read_done : (w : World C) (n : ℕ) (t : Ticket) (promised : Option (Event C)) (result : ReadResult) → HasLoad w n t promised ReadIssued → HasLoad (after_deed rules w (ReadsAt n result)) n t promised (ReadDone result)
  read_done w n t promised result h =
      let l : Load C = h.load in
      let begins : (after rules w (ReadBegins n)).loads n ≡ Some (record l { read_state = begun (covers rules w) l.ticket.address.block l.read_state }) =
      put_same w.loads n _ ∙ ap (at_load (begun (covers rules w))) h.at in
      record {
        load = record l { read_state = came result (begun (covers rules w) l.ticket.address.block l.read_state) };
        at = put_same (put w.loads n _) n _ ∙ ap (at_load (λ _. came result)) begins;
        below = h.below;
        ticket = h.ticket;
        promise = h.promise;
        read_state = ap (λ k. came result (begun (covers rules w) l.ticket.address.block k)) h.read_state;
      }

  pub reads : (w : World C) (n : ℕ) (t : Ticket) (promised : Option (Event C)) (bs : List ℕ) → HasLoad w n t promised ReadIssued → length bs ≡ t.address.len
      → ((i : ℕ) → i < length bs → slice_index bs i ≡ w.bytes t.address.block (t.address.offset + i))
      → MayAllHappen rules Splits is_value w (events_in (ReadsAt n (Bytes bs))) × HasLoad (after_deed rules w (ReadsAt n (Bytes bs))) n t promised (ReadDone (Bytes bs))
  reads w n t promised bs h len same = read_through w n t promised (Bytes bs) h (len, λ i below _. same i below)

  pub faults : (w : World C) (n : ℕ) (t : Ticket) (promised : Option (Event C)) → HasLoad w n t promised ReadIssued
      → MayAllHappen rules Splits is_value w (events_in (ReadsAt n Fault)) × HasLoad (after_deed rules w (ReadsAt n Fault)) n t promised (ReadDone Fault)
  faults w n t promised h = read_through w n t promised Fault h tt

  scan_begins : (w : World C) (b : ℕ) (s : Scan) → w.scans b ≡ Some s → s.read_state ≡ ReadIssued → (after rules w (ScanBegins b)).scans b ≡ Some (record s { read_state = Reading (covers rules w b) })
  scan_begins w b s at issued =
      put_same w.scans b _ ∙ ap (at_scan (begun (covers rules w)) b) at ∙ ap (λ (k : ReadState). Some (record s { read_state = begun (covers rules w) b k })) issued

  -- a read for a reclaim that came
  pub scan_done : (w : World C) (b : ℕ) (s : Scan) (result : ReadResult) → w.scans b ≡ Some s → s.read_state ≡ ReadIssued → (after_deed rules w (ScansAt b result)).scans b ≡ Some (record s { read_state = ReadDone result })
  scan_done w b s result at issued = put_same (put w.scans b _) b _ ∙ ap (at_scan (λ _. came result) b) (scan_begins w b s at issued)

  -- from its beginning to its end
  scan_through : (w : World C) (b : ℕ) (s : Scan) (result : ReadResult) → w.scans b ≡ Some s → s.read_state ≡ ReadIssued → IsRead (w.bytes b) s.offset s.len (Reading (covers rules w b)) result
      → MayAllHappen rules Splits is_value w (events_in (ScansAt b result)) × ((after_deed rules w (ScansAt b result)).scans b ≡ Some (record s { read_state = ReadDone result }))
  scan_through w b s result at issued is =
      ((tt, (subst (λ o. IsScanned (w.bytes b) o result) (sym (scan_begins w b s at issued)) is, tt)), scan_done w b s result at issued)

  pub scans : (w : World C) (b : ℕ) (s : Scan) (bs : List ℕ) → w.scans b ≡ Some s → s.read_state ≡ ReadIssued → length bs ≡ s.len
      → ((i : ℕ) → i < length bs → slice_index bs i ≡ w.bytes b (s.offset + i))
      → MayAllHappen rules Splits is_value w (events_in (ScansAt b (Bytes bs))) × ((after_deed rules w (ScansAt b (Bytes bs))).scans b ≡ Some (record s { read_state = ReadDone (Bytes bs) }))
  scans w b s bs at issued len same = scan_through w b s (Bytes bs) at issued (len, λ i below _. same i below)

  pub scan_faults : (w : World C) (b : ℕ) (s : Scan) → w.scans b ≡ Some s → s.read_state ≡ ReadIssued
      → MayAllHappen rules Splits is_value w (events_in (ScansAt b Fault)) × ((after_deed rules w (ScansAt b Fault)).scans b ≡ Some (record s { read_state = ReadDone Fault }))
  scan_faults w b s at issued = scan_through w b s Fault at issued tt

  pub wrote : (w : World C) (f b : ℕ) (results : List Bool) (write : Write) (left : List Write) (ok : Bool) (torn : ℕ → ℕ) → w.block_writes f ≡ Issued b results (write ∷ left)
      → (after_deed rules w (WritesAt f ok torn)).block_writes f ≡ Issued b (results ++ ok ∷ []) (if ok then left else [])
  wrote w f b results write left ok torn is =
      let flies : (after rules w (WriteBegins f)).block_writes f ≡ InFlight b results write left = put_same w.block_writes f _ ∙ ap writes_begun is in
      put_same (put w.block_writes f _) f _ ∙ ap (writes_ended ok) flies

  pub writes : (w : World C) (f b : ℕ) (results : List Bool) (write : Write) (left : List Write) (ok : Bool) (torn : ℕ → ℕ) → w.block_writes f ≡ Issued b results (write ∷ left)
      → ((o : ℕ) → IsBeside write o → torn o ≡ w.bytes b o)
      → MayAllHappen rules Splits is_value w (events_in (WritesAt f ok torn))
      × ((after_deed rules w (WritesAt f ok torn)).block_writes f ≡ Issued b (results ++ ok ∷ []) (if ok then left else []))
      × ((after_deed rules w (WritesAt f ok torn)).bytes ≡ put w.bytes b (if ok then laid write (w.bytes b) else torn))
  writes w f b results write left ok torn is beside =
      let flies : (after rules w (WriteBegins f)).block_writes f ≡ InFlight b results write left = put_same w.block_writes f _ ∙ ap writes_begun is in (
        (tt, (subst (λ p. IsTorn w.bytes p torn) (sym flies) beside, tt)),
        put_same (put w.block_writes f _) f _ ∙ ap (writes_ended ok) flies,
        ap (λ p. bytes_ended ok torn p w.bytes) flies,
      )

  pub cleaned : (w : World C) (b : ℕ) (ok : Bool) (torn : ℕ → ℕ) → w.clean_states b ≡ CleanIssued → (after_deed rules w (CleansAt b ok torn)).clean_states b ≡ CleanDone ok
  cleaned w b ok torn is =
      let flies : (after rules w (CleanBegins b)).clean_states b ≡ CleanInFlight = put_same w.clean_states b _ ∙ ap clean_begun is in
      put_same (put w.clean_states b _) b _ ∙ ap (clean_ended ok) flies

  pub cleans : (w : World C) (b : ℕ) (ok : Bool) (torn : ℕ → ℕ) → w.clean_states b ≡ CleanIssued → ((o : ℕ) → page ≤ o → torn o ≡ w.bytes b o)
      → MayAllHappen rules Splits is_value w (events_in (CleansAt b ok torn))
      × ((after_deed rules w (CleansAt b ok torn)).clean_states b ≡ CleanDone ok)
      × ((after_deed rules w (CleansAt b ok torn)).bytes ≡ put w.bytes b (if ok then cleaned_page (w.bytes b) else torn))
  cleans w b ok torn is beside =
      let flies : (after rules w (CleanBegins b)).clean_states b ≡ CleanInFlight = put_same w.clean_states b _ ∙ ap clean_begun is in (
        (tt, (subst (λ p. IsTornClean w.bytes b p torn) (sym flies) beside, tt)),
        cleaned w b ok torn is,
        ap (λ p. bytes_cleaned ok torn b p w.bytes) flies,
      )

  pub ends : (w : World C) (n : ℕ) (t : Ticket) (promised : Option (Event C)) (result : ReadResult) (c : C) (age : Age) (new : State C)
      → Demands rules Splits is_value → IsReached rules Splits is_value w → HasLoad w n t promised (ReadDone result) → Follows rules Splits w.core (LoadEnd t result) (Entry c age) new
      → promised ≡ Some (Put t.hash t.address.sequence (Holds c))
  ends w n t promised result c age new demands reached h follows =
      sym h.promise ∙ answers_only_lem rules Splits is_value w t result c age new n h.load demands reached ((n, h.load, h.at, h.ticket, h.read_state), follows) h.at h.ticket h.read_state

  pub keeps : (w : World C) (h : ℕ) (throttled : Bool) (t : Ticket) (new : State C) (b : ℕ) → w.kept t.hash ≡ Some b → HasBlock (after_deed rules w (Steps (LoadBegin h throttled) (Read t) new)) w.issued b
  keeps w h throttled t new b is =
      record { load = record { ticket = t; promise = newest t.hash w.history; read_state = ReadIssued; kept = w.kept t.hash }; at = put_same w.loads w.issued _; below = omega arith; kept = is }

  pub answers : (w : World C) (n : ℕ) (t : Ticket) (result : ReadResult) (reply : Reply C) (new : State C) (b s : ℕ) (x : Outcome C)
      → Demands rules Splits is_value → IsReached rules Splits is_value w → w.core.steps < last_number
      → HasLoad w n t (Some (Put t.hash s x)) (ReadDone result) → HasBlock w n b → Follows rules Splits w.core (LoadEnd t result) reply new
      → IsAnswer t result x reply
  answers w n t result reply new b s x demands reached few h k follows =
      let same : h.load ≡ k.load = (let e : Some h.load ≡ Some k.load = sym h.at ∙ k.at in cc) in
      loads_newest_lem rules Splits is_value w t result reply new n h.load b s x demands reached ((n, h.load, h.at, h.ticket, h.read_state), follows) few h.at h.ticket h.read_state
      (ap (λ (l : Load C). l.kept) same ∙ k.kept) h.promise

  pub served : Serves rules Splits is_value
  served = record { looks = looks; keeps = keeps; reads = reads; faults = faults; scans = scans; scan_faults = scan_faults; writes = writes; cleans = cleans; ends = ends; answers = answers }
