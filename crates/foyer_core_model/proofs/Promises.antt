-- The promise of a load stays.
use Rattle.std.proofs.Common.{◌≡◌, ℕ, ◌<◌, Bool, true, false, List, [], ◌∷◌, ◌++◌, Option, Some, None, inl, inr, refl, sym, ap, subst, ◌∙◌, arith}
use Rattle.foyer_core_model.specs.Numbers.{put}
use Rattle.foyer_core_model.specs.Record.{Slot, Indexed, Mark, Holds}
use Rattle.foyer_core_model.specs.State.{State}
use Rattle.foyer_core_model.specs.Rules.{Rules, Splitting}
use Rattle.foyer_core_model.specs.Step.{Ticket, Step, LoadBegin}
use Rattle.foyer_core_model.specs.Reply.{Reply, Read, Picked, Cleared}
use Rattle.foyer_format_layout.specs.BlockBytes.{read}
use Rattle.foyer_core_model.specs.Load.{Looks}
use Rattle.foyer_core_model.specs.Event.{Event, Put, newest}
use Rattle.foyer_core_model.specs.Kept.{unless}
use Rattle.foyer_core_model.specs.Access.{ReadState, ReadIssued, Load, load_unless, begun, read_torn, came, at_load, will_cover, clean_will_cover}
use Rattle.foyer_core_model.specs.World.{World, WorldEvent, Applies, ReadBegins, ReadEnds, ScanBegins, ScanEnds, WriteBegins, WriteEnds, CleanBegins, CleanEnds, covers, after, after_all, MayAllHappen}
use Rattle.foyer_core_model.specs.Laws.{IsReached, PromisesStay, AnswersNewest, MissedNewest}
use Rattle.foyer_core_model.proofs.Basics.{put_at, put_same, put_other}
use Rattle.foyer_core_model.proofs.FlushEnds.{ended}
use Rattle.foyer_core_model.proofs.Answered.{answers_only_lem}
use Rattle.foyer_core_model.proofs.FoundKept.{looked}
use Rattle.foyer_core_model.proofs.Missed.{loads_newest_lem, looks_up_newest_lem}

module _ {C : Type 0} (rules : Rules C) where
  -- a ticket that was issued keeps its load
  abbrev Stands : World C → ℕ → Ticket → Option (Event C) → Type 0
  Stands w n t p = (l : Load C) × (w.loads n ≡ Some l) × (l.ticket ≡ t) × (l.promise ≡ p) × (n < w.issued)

  -- its entry in another table
  abbrev Entered : Option (Load C) → Ticket → Option (Event C) → Type 0
  Entered o t p = (l : Load C) × (o ≡ Some l) × (l.ticket ≡ t) × (l.promise ≡ p)

  entered_at : (f : ℕ → ReadState → ReadState) (o : Option (Load C)) (t : Ticket) (p : Option (Event C)) → Entered o t p → Entered (at_load f o) t p
  entered_at f o t p (l, is, ticket, promise) = (record l { read_state = f l.ticket.address.block l.read_state }, ap (at_load f) is, ticket, promise)

  entered_unless : (f : Option ℕ → Option ℕ) (o : Option (Load C)) (t : Ticket) (p : Option (Event C)) → Entered o t p → Entered (load_unless f o) t p
  entered_unless f o t p (l, is, ticket, promise) = (record l { kept = f l.kept }, ap (load_unless f) is, ticket, promise)

  after_reply : (w : World C) (step : Step C) (reply : Reply C) (new : State C) (n : ℕ) (t : Ticket) (p : Option (Event C)) → Stands w n t p → Stands (after rules w (Applies step reply new)) n t p
  after_reply w step (Read u) new n t p (l, is, ticket, promise, lt) =
      (l, put_other w.loads w.issued (Some (record { ticket = u; promise = newest u.hash w.history; read_state = ReadIssued; kept = w.kept u.hash })) n (λ at. omega arith) ∙ is, ticket, promise, omega arith)
  after_reply w step (Picked b answers probation) new n t p (l, is, ticket, promise, lt) =
      let e : Entered (load_unless (unless b) (w.loads n)) t p = entered_unless (unless b) (w.loads n) t p (l, is, ticket, promise) in (e.0, e.1, e.2, e.3, lt)
  after_reply w step (Cleared bs) new n t p (l, is, ticket, promise, lt) =
      let e : Entered (load_unless (λ o. None) (w.loads n)) t p = entered_unless (λ o. None) (w.loads n) t p (l, is, ticket, promise) in (e.0, e.1, e.2, e.3, lt)
  after_reply w step reply new n t p stands = stands

  -- the state of one load changes
  one_read_state : (w : World C) (k : ℕ) (f : ℕ → ReadState → ReadState) (n : ℕ) (t : Ticket) (p : Option (Event C)) → Stands w n t p → Entered (put w.loads k (at_load f (w.loads k)) n) t p
  one_read_state w k f n t p (l, is, ticket, promise, lt) =
      put_at (λ o. Entered o t p) w.loads k (at_load f (w.loads k)) n
      (λ at. entered_at f (w.loads k) t p (l, ap w.loads (sym at) ∙ is, ticket, promise)) (λ _. (l, is, ticket, promise))

  after_one : (w : World C) (e : WorldEvent C) (n : ℕ) (t : Ticket) (p : Option (Event C)) → Stands w n t p → Stands (after rules w e) n t p
  after_one w (Applies step reply new) n t p stands = after_reply w step reply new n t p stands
  after_one w (ReadBegins k) n t p stands = let e : Entered (put w.loads k (at_load (begun (covers rules w)) (w.loads k)) n) t p = one_read_state w k (begun (covers rules w)) n t p stands in (e.0, e.1, e.2, e.3, stands.4)
  after_one w (ReadEnds k result) n t p stands = let e : Entered (put w.loads k (at_load (λ _. came result) (w.loads k)) n) t p = one_read_state w k (λ _. came result) n t p stands in (e.0, e.1, e.2, e.3, stands.4)
  after_one w (ScanBegins b) n t p stands = stands
  after_one w (ScanEnds b result) n t p stands = stands
  after_one w (WriteBegins f) n t p (l, is, ticket, promise, lt) =
      let e : Entered (at_load (read_torn (will_cover (w.block_writes f))) (w.loads n)) t p = entered_at (read_torn (will_cover (w.block_writes f))) (w.loads n) t p (l, is, ticket, promise) in (e.0, e.1, e.2, e.3, lt)
  after_one w (WriteEnds f ok g) n t p stands = stands
  after_one w (CleanBegins b) n t p (l, is, ticket, promise, lt) =
      let e : Entered (at_load (read_torn (clean_will_cover b (w.clean_states b))) (w.loads n)) t p = entered_at (read_torn (clean_will_cover b (w.clean_states b))) (w.loads n) t p (l, is, ticket, promise) in (e.0, e.1, e.2, e.3, lt)
  after_one w (CleanEnds b ok g) n t p stands = stands

  after_many : (w : World C) (events : List (WorldEvent C)) (n : ℕ) (t : Ticket) (p : Option (Event C)) → Stands w n t p → Stands (after_all rules w events) n t p
  after_many w [] n t p stands = stands
  after_many w (e ∷ es) n t p stands = after_many (after rules w e) es n t p (after_one w e n t p stands)

  looked_hash : (old done : State C) (h : ℕ) (throttled : Bool) (slot : Option Slot) (t : Ticket) → Looks rules old h throttled slot (Read t) done → t.hash ≡ h
  looked_hash old done h throttled None t ok = absurd ok
  looked_hash old done h throttled (Some (Mark s)) t ok = absurd ok
  looked_hash old done h throttled (Some (Indexed a)) t ok = ap (λ u. u.hash) ok.2

pub promises_stay_lem : {C : Type 0} (rules : Rules C) (Splits : Splitting C) (is_value : C → Type 0) → PromisesStay rules Splits is_value
promises_stay_lem {C} rules Splits is_value w h throttled t new events ok =
    let hash : t.hash ≡ h = looked_hash rules w.core ((ok.1).2).0 h throttled (w.core.index h) t ((ok.1).2).1 in
    let last : Stands rules (after_all rules w (Applies (LoadBegin h throttled) (Read t) new ∷ events)) w.issued t (newest h w.history) =
    after_many rules (after rules w (Applies (LoadBegin h throttled) (Read t) new)) events w.issued t (newest h w.history) (
      record { ticket = t; promise = newest t.hash w.history; read_state = ReadIssued; kept = w.kept t.hash },
      put_same w.loads w.issued (Some (record { ticket = t; promise = newest t.hash w.history; read_state = ReadIssued; kept = w.kept t.hash })),
      refl,
      ap (λ k. newest k w.history) hash,
      omega arith,
    ) in
    (last.0, last.1, last.2, last.3)

-- a run that goes on

after_more : {C : Type 0} (rules : Rules C) (w : World C) (xs ys : List (WorldEvent C)) → after_all rules w (xs ++ ys) ≡ after_all rules (after_all rules w xs) ys
after_more rules w [] ys = refl
after_more rules w (x ∷ xs) ys = after_more rules (after rules w x) xs ys

happen_more : {C : Type 0} (rules : Rules C) (Splits : Splitting C) (is_value : C → Type 0) (w : World C) (xs ys : List (WorldEvent C))
    → MayAllHappen rules Splits is_value w xs → MayAllHappen rules Splits is_value (after_all rules w xs) ys → MayAllHappen rules Splits is_value w (xs ++ ys)
happen_more rules Splits is_value w [] ys first more = more
happen_more rules Splits is_value w (x ∷ xs) ys first more = (first.0, happen_more rules Splits is_value (after rules w x) xs ys first.1 more)

pub reached_more : {C : Type 0} (rules : Rules C) (Splits : Splitting C) (is_value : C → Type 0) (w : World C) (events : List (WorldEvent C))
    → IsReached rules Splits is_value w → MayAllHappen rules Splits is_value w events → IsReached rules Splits is_value (after_all rules w events)
reached_more rules Splits is_value w events reached happened = record {
  first = reached.first;
  events = reached.events ++ events;
  opened = reached.opened;
  happened = happen_more rules Splits is_value reached.first reached.events events reached.happened
      (subst (λ v. MayAllHappen rules Splits is_value v events) (sym reached.is) happened);
  is = after_more rules reached.first reached.events events ∙ ap (λ v. after_all rules v events) reached.is;
}

pub answers_newest_lem : {C : Type 0} (rules : Rules C) (Splits : Splitting C) (is_value : C → Type 0) → AnswersNewest rules Splits is_value
answers_newest_lem {C} rules Splits is_value w h throttled t looked between result c age ended l demands reached happened last at read_state =
    let stays : (k : Load C) × ((after_all rules w (Applies (LoadBegin h throttled) (Read t) looked ∷ between)).loads w.issued ≡ Some k) × (k.ticket ≡ t) × (k.promise ≡ newest h w.history) =
    promises_stay_lem rules Splits is_value w h throttled t looked between happened.0 in
    let same : stays.0 ≡ l = (let e : Some stays.0 ≡ Some l = sym stays.1 ∙ at in cc) in
    let ticket : l.ticket ≡ t = ap (λ k. k.ticket) (sym same) ∙ stays.2 in
    let hash : t.hash ≡ h = looked_hash rules w.core (((happened.0).1).2).0 h throttled (w.core.index h) t (((happened.0).1).2).1 in
    let promise : l.promise ≡ Some (Put t.hash t.address.sequence (Holds c)) =
    answers_only_lem rules Splits is_value (after_all rules w (Applies (LoadBegin h throttled) (Read t) looked ∷ between)) t result c age ended w.issued l demands
    (reached_more rules Splits is_value w (Applies (LoadBegin h throttled) (Read t) looked ∷ between) reached happened) last at ticket read_state in
    sym stays.3 ∙ ap (λ k. k.promise) same ∙ promise ∙ ap (λ k. Some (Put k t.address.sequence (Holds c))) hash

pub missed_newest_lem : {C : Type 0} (rules : Rules C) (Splits : Splitting C) (is_value : C → Type 0) → MissedNewest rules Splits is_value
missed_newest_lem {C} rules Splits is_value w h reply looked b s x demands reached may few kept newer some =
    elim (looks_up_newest_lem rules Splits is_value w h false reply looked b s x demands reached may few kept newer some) [
      | inl throttled ↦ absurd (let e : false ≡ true = throttled.0 in cc)
      | inr read ↦ (
        (read.1).0,
        (read.1).1,
        λ between result answer ended l d happened last early at read_state left.
            let t : Ticket = (read.1).0 in
            let stays : (k : Load C) × ((after_all rules w (Applies (LoadBegin h false) (Read t) looked ∷ between)).loads w.issued ≡ Some k) × (k.ticket ≡ t) × (k.promise ≡ newest h w.history) =
            promises_stay_lem rules Splits is_value w h false t looked between happened.0 in
            let same : stays.0 ≡ l = (let e : Some stays.0 ≡ Some l = sym stays.1 ∙ at in cc) in
            let hash : t.hash ≡ h = (read.1).2 in
            loads_newest_lem rules Splits is_value (after_all rules w (Applies (LoadBegin h false) (Read t) looked ∷ between)) t result answer ended w.issued l d s x demands
            (reached_more rules Splits is_value w (Applies (LoadBegin h false) (Read t) looked ∷ between) reached happened) last early at
            (ap (λ k. k.ticket) (sym same) ∙ stays.2) read_state left
            (ap (λ k. k.promise) (sym same) ∙ stays.3 ∙ newer ∙ ap (λ k. Some (Put k s x)) (sym hash)),
      )
    ]
