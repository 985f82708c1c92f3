-- A load ends with the record that its look-up promised, unless a reclaim or a destroy may have taken it.
use Rattle.std.proofs.Common.{◌≡◌, ℕ, ◌<◌, ◌==◌, Bool, true, false, if◌then◌else◌, List, [], ◌∷◌, length, Option, Some, None, refl, sym, ap, subst, ◌∙◌}
use Rattle.std.proofs.lemmas.Bool.{eqb-false}
use Rattle.foyer_core_model.specs.Kind.{Kind}
use Rattle.foyer_core_model.specs.Destroy.{first_fault}
use Rattle.foyer_core_model.specs.Numbers.{put}
use Rattle.foyer_core_model.specs.Ids.{without_id}
use Rattle.foyer_core_model.specs.Record.{Address, Slot, Indexed, Mark, Outcome, NoRecord, Holds, IndexEntry}
use Rattle.foyer_core_model.specs.State.{Submission, Piece, Remove, Await, Reinsert, Writing, Batch, BlockSet, Clean, Reclaims, Stage, AtIndex, AtRecord, AllListed, ToClean, Reclaim, Destroy, NoDestroy, Begun, Cleaning, State}
use Rattle.foyer_core_model.specs.Rules.{Rules, Splitting}
use Rattle.foyer_core_model.specs.Step.{ReadResult, Bytes, Fault, Age, Ticket, Step, Enqueue, Delete, Wait, MayContains, LoadBegin, LoadEnd, Receive, FlushBegin, FlushBlock, FlushWrote, LogWrote, FlushEnd, ReclaimBegin, ReclaimRead, ReclaimForget, ReclaimCleaned, ReclaimIdle, DestroyBegin, DestroyClear, DestroyCleaned, Close}
use Rattle.foyer_core_model.specs.Reply.{Reply, NotNow, Refused, Done, Miss, Throttled, Read, Entry, Empty, Received, Began, Written, NoBlock, Next, Committed, Failed, Ended, Picked, Cleans, Destroying, Cleared}
use Rattle.foyer_core_model.specs.Queue.{Enqueues, Deletes, Waits}
use Rattle.foyer_core_model.specs.Load.{Looks, judged, Judges, Ends}
use Rattle.foyer_core_model.specs.Receive.{TakesFront}
use Rattle.foyer_core_model.specs.Flush.{Begins, Describes, Wrote, Logs, Finishes}
use Rattle.foyer_core_model.specs.Reclaim.{Picks, stage_after, issued_at, stage_behind, Lists, Scanned, Rereads, Forgets, Cleaned}
use Rattle.foyer_core_model.specs.Destroy.{issued_after_clean, BeginsDestroy, Clears, CleansOne}
use Rattle.foyer_core_model.specs.InTurn.{InTurn}
use Rattle.foyer_core_model.specs.Changes.{Changes}
use Rattle.foyer_core_model.specs.Follows.{Follows}
use Rattle.foyer_core_model.specs.Event.{Put, newest}
use Rattle.foyer_core_model.specs.Kept.{unless}
use Rattle.foyer_core_model.specs.Access.{ReadState, ReadIssued, Reading, ReadDone, Load, load_unless, loads_after, begun, read_torn, came, at_load, will_cover, clean_will_cover, IsRead}
use Rattle.foyer_core_model.specs.World.{World, WorldEvent, Applies, ReadBegins, ReadEnds, ScanBegins, ScanEnds, WriteBegins, WriteEnds, CleanBegins, CleanEnds, covers, after, after_all, IsReadAt, MayHappen, MayAllHappen}
use Rattle.foyer_core_model.specs.Laws.{Demands, IsReached}
use Rattle.foyer_core_model.proofs.Basics.{put_other, put_one}
use Rattle.foyer_core_model.proofs.Invariant.{ground_of, writing_in, WritingOk}
use Rattle.foyer_core_model.proofs.FlushEnds.{failed}
use Rattle.foyer_core_model.proofs.RereadsKept.{new_again}
use Rattle.foyer_core_model.proofs.SoundKept.{reclaims_at, IsKnown, known_keeps}
use Rattle.foyer_core_model.proofs.OpenedSound.{FoundOk, found_ok, new_sound, new_sets}
use Rattle.foyer_core_model.proofs.FoundKept.{Kept, event_kept, new_kept}
use Rattle.foyer_core_model.proofs.Settles.{Settles, TakesNone, does_settle}

-- what was read has the length that was issued
abbrev pub HasReadAll : {C : Type 0} → Rules C → ℕ → ReadState → Type 0
HasReadAll rules len ReadIssued = Unit {0}
HasReadAll rules len (Reading seen) = Unit {0}
HasReadAll rules len (ReadDone Fault) = Unit {0}
HasReadAll rules len (ReadDone (Bytes bs)) = length bs ≡ len

-- of a load: its block is there, what was read has the length that was issued, and while its block is kept it is in use
-- and, unless the record is broken, still in the ticket's filling
pub record IsHeld {C : Type 0} (rules : Rules C) (count : ℕ → ℕ) (sets : ℕ → BlockSet) (l : Load C) : Type 0 where
  pub below : l.ticket.address.block < rules.blocks
  pub all : HasReadAll rules l.ticket.address.len l.read_state
  pub stands : (b s : ℕ) (x : Outcome C) → l.kept ≡ Some b → l.promise ≡ Some (Put l.ticket.hash s x) → (x ≡ NoRecord → ⊥)
      → (l.ticket.address.block ≡ b) × (l.ticket.address.filling ≡ count b)
  pub safe : (b : ℕ) → l.kept ≡ Some b → (sets b ≡ Clean → ⊥) × (sets b ≡ Reclaims → ⊥)

abbrev pub HeldOk : {C : Type 0} → Rules C → (ℕ → ℕ) → (ℕ → BlockSet) → Option (Load C) → Type 0
HeldOk rules count sets None = Unit {0}
HeldOk rules count sets (Some l) = IsHeld rules count sets l

pub record AreHeld {C : Type 0} (rules : Rules C) (index : ℕ → Option Slot) (count : ℕ → ℕ) (sets : ℕ → BlockSet) (tickets : ℕ → Option (Load C)) : Type 0 where
  pub index_below : (h : ℕ) (a : Address) → index h ≡ Some (Indexed a) → a.block < rules.blocks
  pub loads : (n : ℕ) → HeldOk rules count sets (tickets n)

abbrev pub Held : {C : Type 0} → Rules C → World C → Type 0
Held rules w = AreHeld rules w.core.index w.core.filling w.core.place w.loads

module _ {C : Type 0} (rules : Rules C) (Splits : Splitting C) (is_value : C → Type 0) (demands : Demands rules Splits is_value) where
  held_settles : (c new : State C) (o : Option (Load C)) → Settles rules c new → HeldOk rules c.filling c.place o → HeldOk rules new.filling new.place o
  held_settles c new None settles ok = tt
  held_settles c new (Some l) settles ok = record {
    below = ok.below;
    all = ok.all;
    stands = λ b s x is promise some. let r : (l.ticket.address.block ≡ b) × (l.ticket.address.filling ≡ c.filling b) = ok.stands b s x is promise some in
        let q : (c.place b ≡ Clean → ⊥) × (c.place b ≡ Reclaims → ⊥) = ok.safe b is in (r.0, r.1 ∙ sym (settles.stays b q.0 q.1).0);
    safe = λ b is. let q : (c.place b ≡ Clean → ⊥) × (c.place b ≡ Reclaims → ⊥) = ok.safe b is in (settles.stays b q.0 q.1).1;
  }

  settles_held : (w : World C) (new : State C) → Settles rules w.core new → Held rules w → Held rules (record w { core = new })
  settles_held w new settles held = record { index_below = settles.below held.index_below; loads = λ n. held_settles w.core new (w.loads n) settles (held.loads n) }

  -- a look-up issues a read
  read_held : (w : World C) (h : ℕ) (a : Address) (state : State C) → w.core.index h ≡ Some (Indexed a) → Kept w → Held rules w → Held rules (record w { core = state })
      → state.filling ≡ w.core.filling → state.place ≡ w.core.place
      → Held rules (record w { core = state; loads = put w.loads w.issued (Some (record { ticket = record { hash = h; address = a }; promise = newest h w.history; read_state = ReadIssued; kept = w.kept h })) })
  read_held w h a state is kept held now filling place = record {
    index_below = now.index_below;
    loads = put_one (λ n o. HeldOk rules state.filling state.place o) w.loads w.issued _
        (record {
          below = held.index_below h a is;
          all = tt;
          stands = λ b s x at promise some. let r : (d : Address) × (w.core.index h ≡ Some (Indexed d)) × (d.block ≡ b) × (d.filling ≡ w.core.filling b) = kept.found h b s x at promise some in
              let same : a ≡ r.0 = (let e : Some (Indexed a) ≡ Some (Indexed r.0) = sym is ∙ r.1 in cc) in
              (ap (λ k. k.block) same ∙ r.2, ap (λ k. k.filling) same ∙ r.3 ∙ ap (λ m. m b) (sym filling));
          safe = λ b at. subst (λ m. (m b ≡ Clean → ⊥) × (m b ≡ Reclaims → ⊥)) (sym place) (kept.safe h b at);
        })
        (λ n _. now.loads n);
  }

  look_held : (w : World C) (h : ℕ) (throttled : Bool) (slot : Option Slot) (reply : Reply C) (new : State C) → w.core.index h ≡ slot → Looks rules w.core h throttled slot reply new → Kept w
      → Settles rules w.core new → Held rules w → Held rules (after rules w (Applies (LoadBegin h throttled) reply new))
  look_held w h throttled None Miss new is ok kept settles held = settles_held w new settles held
  look_held w h throttled (Some (Mark s)) Miss new is ok kept settles held = settles_held w new settles held
  look_held w h throttled (Some (Indexed a)) Throttled new is ok kept settles held = settles_held w new settles held
  look_held w h throttled (Some (Indexed a)) Miss new is ok kept settles held = settles_held w new settles held
  look_held w h throttled (Some (Indexed a)) (Read t) new is ok kept settles held =
      subst (λ u. Held rules (record w { core = new; loads = put w.loads w.issued (Some (record { ticket = u; promise = newest u.hash w.history; read_state = ReadIssued; kept = w.kept u.hash })) })) (sym ok.2)
      (read_held w h a new is kept held (settles_held w new settles held) (ap (λ k. k.filling) ok.3) (ap (λ k. k.place) ok.3))
  look_held w h throttled slot reply new is ok kept settles held = absurd ok

  unless_some : (b c : ℕ) (kept : Option ℕ) → unless b kept ≡ Some c → (kept ≡ Some c) × (c ≡ b → ⊥)
  unless_some b c None e = absurd (let f : None ≡ Some c = e in cc)
  unless_some b c (Some d) given = go (d == b) refl given
    where
      go : (t : Bool) → (d == b) ≡ t → (if t then None else Some d) ≡ Some c → (Some d ≡ Some c) × (c ≡ b → ⊥)
      go true e f = absurd cc
      go false e f = (f, λ at. eqb-false d b e (let g : d ≡ c = cc in g ∙ at))

  pick_one : (c : State C) (b : ℕ) (o : Option (Load C)) → HeldOk rules c.filling c.place o → HeldOk rules c.filling (put c.place b Reclaims) (load_unless (unless b) o)
  pick_one c b None ok = tt
  pick_one c b (Some l) ok = record {
    below = ok.below;
    all = ok.all;
    stands = λ d s x is. ok.stands d s x (unless_some b d l.kept is).0;
    safe = λ d is. let u : (l.kept ≡ Some d) × (d ≡ b → ⊥) = unless_some b d l.kept is in
        subst (λ k. (k ≡ Clean → ⊥) × (k ≡ Reclaims → ⊥)) (sym (put_other c.place b Reclaims d u.1)) (ok.safe d u.0);
  }

  pick_held : (w : World C) (reply : Reply C) (new : State C) → Picks rules w.core reply new → Held rules w → Held rules (after rules w (Applies ReclaimBegin reply new))
  pick_held w (Picked b answers probation) new ok held =
      subst (λ k. Held rules (record w { core = k; loads = λ n. load_unless (unless b) (w.loads n) })) (sym ok.4)
      (record { index_below = held.index_below; loads = λ n. pick_one w.core b (w.loads n) (held.loads n) })
  pick_held w reply new ok held = absurd ok

  clear_one : (filling count : ℕ → ℕ) (place sets : ℕ → BlockSet) (o : Option (Load C)) → HeldOk rules filling place o → HeldOk rules count sets (load_unless (λ k. None) o)
  clear_one filling count place sets None ok = tt
  clear_one filling count place sets (Some l) ok = record {
    below = ok.below;
    all = ok.all;
    stands = λ b s x is. absurd (let e : None ≡ Some b = is in cc);
    safe = λ b is. absurd (let e : None ≡ Some b = is in cc);
  }

  clear_held : (w : World C) (reply : Reply C) (new : State C) → Clears rules w.core reply new → Held rules w → Held rules (after rules w (Applies DestroyClear reply new))
  clear_held w (Cleared bs) new ok held =
      subst (λ k. Held rules (record w { core = k; loads = λ n. load_unless (λ o. None) (w.loads n) })) (sym ok.1)
      (record { index_below = λ h a is. absurd (let e : None ≡ Some (Indexed a) = is in cc); loads = λ n. clear_one w.core.filling _ w.core.place _ (w.loads n) (held.loads n) })
  clear_held w reply new ok held = absurd ok

  -- no other step issues a load or takes a block from one
  same_loads : (w : World C) (step : Step C) (reply : Reply C) (new : State C) → ((t : Ticket) → reply ≡ Read t → ⊥) → ((b : ℕ) (answers : List (Option ℕ)) (probation : List ℕ) → reply ≡ Picked b answers probation → ⊥)
      → ((bs : List ℕ) → reply ≡ Cleared bs → ⊥) → loads_after reply w.history w.kept w.issued w.loads ≡ w.loads
  same_loads w step (Read t) new not_read not_picked not_cleared = absurd (not_read t refl)
  same_loads w step (Picked b answers probation) new not_read not_picked not_cleared = absurd (not_picked b answers probation refl)
  same_loads w step (Cleared bs) new not_read not_picked not_cleared = absurd (not_cleared bs refl)
  same_loads w step reply new not_read not_picked not_cleared = refl

  -- a step whose reply is none of these three
  abbrev IsPlain : Reply C → Type 0
  IsPlain (Read t) = ⊥
  IsPlain (Picked b answers probation) = ⊥
  IsPlain (Cleared bs) = ⊥
  IsPlain reply = Unit {0}

  plain_held : (w : World C) (step : Step C) (reply : Reply C) (new : State C) → IsPlain reply → Settles rules w.core new → Held rules w → Held rules (after rules w (Applies step reply new))
  plain_held w step (Read t) new plain settles held = absurd plain
  plain_held w step (Picked b answers probation) new plain settles held = absurd plain
  plain_held w step (Cleared bs) new plain settles held = absurd plain
  plain_held w step reply new plain settles held = settles_held w new settles held

  plain_issued : (w : World C) (b : ℕ) (stage : Stage) (vs : List Bool) → IsPlain (issued_at rules w.core b stage vs)
  plain_issued w b (AtIndex place) vs = tt
  plain_issued w b (AtRecord h a rest place) vs = tt
  plain_issued w b AllListed vs = tt
  plain_issued w b ToClean vs = tt

  plain_clean : (left : List ℕ) (failed : Option Kind) → IsPlain (issued_after_clean {C = C} left failed)
  plain_clean [] failed = tt
  plain_clean (b ∷ bs) failed = tt

  reads_plain : (w : World C) (b : ℕ) (r : Option Reclaim) (came : ReadResult) (reply : Reply C) (new : State C) → Rereads rules w.core b r came reply new → IsPlain reply
  reads_plain w b None came reply new ok = absurd ok
  reads_plain w b (Some r) came reply new ok = scanned r.stage came ok
    where
      lists : (place : ℕ) (es : Option (List IndexEntry)) → Lists rules w.core b r place es reply new → IsPlain reply
      lists place None given = subst IsPlain (sym given.0) tt
      lists place (Some es) given = subst IsPlain (sym given.2) (plain_issued w b (stage_behind rules w.core b place es given.0) given.0)

      scanned : (stage : Stage) (came : ReadResult) → Scanned rules w.core b r stage came reply new → IsPlain reply
      scanned (AtIndex place) Fault given = subst IsPlain (sym given.0) tt
      scanned (AtRecord h a rest place) Fault given = subst IsPlain (sym given.0) tt
      scanned (AtIndex place) (Bytes bs) given = lists place (rules.entries_of place bs) given
      scanned (AtRecord h a rest place) (Bytes bs) given = subst IsPlain (sym given.0) (plain_issued w b (stage_after rules w.core rest place) [])
      scanned AllListed came given = absurd given
      scanned ToClean came given = absurd given

  cleans_plain : (w : World C) (b : ℕ) (well : Option Kind) (d : Destroy) (reply : Reply C) (new : State C) → CleansOne rules w.core b well d reply new → IsPlain reply
  cleans_plain w b well (Cleaning left failed) reply new ok = subst IsPlain (sym ok.0) (plain_clean (without_id b left) (first_fault failed well))
  cleans_plain w b well NoDestroy reply new ok = absurd ok
  cleans_plain w b well Begun reply new ok = absurd ok

  enqueues_plain : (w : World C) (h n : ℕ) (age : Age) (k : C) (reply : Reply C) (new : State C) → Enqueues rules w.core h n age k reply new → IsPlain reply
  enqueues_plain w h n age k (Read t) new ok = ok
  enqueues_plain w h n age k (Picked b answers probation) new ok = ok
  enqueues_plain w h n age k (Cleared bs) new ok = ok
  enqueues_plain w h n age k reply new ok = tt

  deletes_plain : (w : World C) (h : ℕ) (reply : Reply C) (new : State C) → Deletes rules w.core h reply new → IsPlain reply
  deletes_plain w h (Read t) new ok = ok
  deletes_plain w h (Picked b answers probation) new ok = ok
  deletes_plain w h (Cleared bs) new ok = ok
  deletes_plain w h reply new ok = tt

  waits_plain : (w : World C) (f i : ℕ) (reply : Reply C) (new : State C) → Waits rules w.core f i reply new → IsPlain reply
  waits_plain w f i (Read t) new ok = ok
  waits_plain w f i (Picked b answers probation) new ok = ok
  waits_plain w f i (Cleared bs) new ok = ok
  waits_plain w f i reply new ok = tt

  ends_plain : (w : World C) (t : Ticket) (came : ReadResult) (reply : Reply C) (new : State C) → Ends rules w.core t came reply new → IsPlain reply
  ends_plain w t Fault reply new ok = absurd ok
  ends_plain w t (Bytes bs) reply new ok = judges (judged rules w.core t bs) reply ok
    where
      judges : (x : Outcome C) (reply : Reply C) → Judges rules w.core t x reply new → IsPlain reply
      judges NoRecord Miss given = tt
      judges (Holds k) (Entry d age) given = tt
      judges x reply given = absurd given

  takes_plain : (w : World C) (f : ℕ) (queue : List (Submission C)) (reply : Reply C) (new : State C) → TakesFront rules w.core f queue reply new → IsPlain reply
  takes_plain w f [] Empty new ok = tt
  takes_plain w f (Piece h s n k ∷ rest) (Received d) new ok = tt
  takes_plain w f (Remove h s invalidated ∷ rest) (Received d) new ok = tt
  takes_plain w f (Await i ∷ rest) (Received d) new ok = tt
  takes_plain w f (Reinsert h bytes a ∷ rest) (Received d) new ok = tt
  takes_plain w f queue reply new ok = absurd ok

  begins_plain : (w : World C) (f : ℕ) (reply : Reply C) (new : State C) → Begins rules Splits w.core f reply new → IsPlain reply
  begins_plain w f (Began blocks marks) new ok = tt
  begins_plain w f reply new ok = absurd ok

  issues_plain : (w : World C) (f : ℕ) (batch : Option (Batch C)) (reply : Reply C) (new : State C) → Describes rules w.core f batch reply new → IsPlain reply
  issues_plain w f (Some batch) NoBlock new ok = tt
  issues_plain w f (Some batch) (Written b writes) new ok = tt
  issues_plain w f batch reply new ok = absurd ok

  wrote_plain : (w : World C) (f : ℕ) (good : Bool) (batch : Option (Batch C)) (reply : Reply C) (new : State C) → Wrote rules w.core f good batch reply new → IsPlain reply
  wrote_plain w f true (Some batch) Next new ok = tt
  wrote_plain w f true (Some batch) (Committed n) new ok = tt
  wrote_plain w f good (Some batch) Failed new ok = tt
  wrote_plain w f good batch reply new ok = absurd ok

  logs_plain : (w : World C) (f : ℕ) (well : Bool) (batch : Option (Batch C)) (reply : Reply C) (new : State C) → Logs rules w.core f well batch reply new → IsPlain reply
  logs_plain w f well (Some batch) Done new ok = tt
  logs_plain w f well batch reply new ok = absurd ok

  finishes_plain : (w : World C) (f : ℕ) (batch : Option (Batch C)) (reply : Reply C) (new : State C) → Finishes rules w.core f batch reply new → IsPlain reply
  finishes_plain w f (Some batch) (Ended pieces waits) new ok = tt
  finishes_plain w f batch reply new ok = absurd ok

  forgets_plain : (w : World C) (b : ℕ) (r : Option Reclaim) (reply : Reply C) (new : State C) → Forgets rules w.core b r reply new → IsPlain reply
  forgets_plain w b (Some r) (Cleans d) new ok = tt
  forgets_plain w b r reply new ok = absurd ok

  cleaned_plain : (w : World C) (b : ℕ) (reply : Reply C) (new : State C) → Cleaned rules w.core b reply new → IsPlain reply
  cleaned_plain w b Done new ok = tt
  cleaned_plain w b reply new ok = absurd ok

  destroys_plain : (w : World C) (reply : Reply C) (new : State C) → BeginsDestroy rules w.core reply new → IsPlain reply
  destroys_plain w (Destroying s) new ok = tt
  destroys_plain w reply new ok = absurd ok

  -- each step
  does_held : (w : World C) (step : Step C) (reply : Reply C) (new : State C) → InTurn rules w.core step → Changes rules Splits w.core step reply new → (TakesNone rules step → Settles rules w.core new) → Kept w → Held rules w
      → Held rules (after rules w (Applies step reply new))
  does_held w (Enqueue h n age k) reply new turn ok settles kept held = plain_held w (Enqueue h n age k) reply new (enqueues_plain w h n age k reply new ok) (settles tt) held
  does_held w (Delete h) reply new turn ok settles kept held = plain_held w (Delete h) reply new (deletes_plain w h reply new ok) (settles tt) held
  does_held w (Wait f i) reply new turn ok settles kept held = plain_held w (Wait f i) reply new (waits_plain w f i reply new ok) (settles tt) held
  does_held w (MayContains h) reply new turn ok settles kept held = plain_held w (MayContains h) reply new (subst IsPlain (sym ok.0) tt) (settles tt) held
  does_held w (LoadBegin h throttled) reply new turn ok settles kept held = look_held w h throttled (w.core.index h) reply new refl ok kept (settles tt) held
  does_held w (LoadEnd t came) reply new turn ok settles kept held = plain_held w (LoadEnd t came) reply new (ends_plain w t came reply new ok) (settles tt) held
  does_held w (Receive f) reply new turn ok settles kept held = plain_held w (Receive f) reply new (takes_plain w f (w.core.flushers f).queue reply new ok) (settles tt) held
  does_held w (FlushBegin f) reply new turn ok settles kept held = plain_held w (FlushBegin f) reply new (begins_plain w f reply new ok) (settles tt) held
  does_held w (FlushBlock f) reply new turn ok settles kept held = plain_held w (FlushBlock f) reply new (issues_plain w f (w.core.flushers f).batch reply new ok) (settles tt) held
  does_held w (FlushWrote f good) reply new turn ok settles kept held = plain_held w (FlushWrote f good) reply new (wrote_plain w f good (w.core.flushers f).batch reply new ok) (settles tt) held
  does_held w (LogWrote f well) reply new turn ok settles kept held = plain_held w (LogWrote f well) reply new (logs_plain w f well (w.core.flushers f).batch reply new ok) (settles tt) held
  does_held w (FlushEnd f) reply new turn ok settles kept held = plain_held w (FlushEnd f) reply new (finishes_plain w f (w.core.flushers f).batch reply new ok) (settles tt) held
  does_held w ReclaimBegin reply new turn ok settles kept held = pick_held w reply new ok held
  does_held w (ReclaimRead b came) reply new turn ok settles kept held = plain_held w (ReclaimRead b came) reply new (reads_plain w b (w.core.reclaims b) came reply new ok) (settles tt) held
  does_held w (ReclaimForget b) reply new turn ok settles kept held = plain_held w (ReclaimForget b) reply new (forgets_plain w b (w.core.reclaims b) reply new ok) (settles tt) held
  does_held w (ReclaimCleaned b well) reply new turn ok settles kept held = plain_held w (ReclaimCleaned b well) reply new (cleaned_plain w b reply new ok) (settles tt) held
  does_held w ReclaimIdle reply new turn ok settles kept held = plain_held w ReclaimIdle reply new (subst IsPlain (sym ok.0) tt) (settles tt) held
  does_held w DestroyBegin reply new turn ok settles kept held = plain_held w DestroyBegin reply new (destroys_plain w reply new ok) (settles tt) held
  does_held w DestroyClear reply new turn ok settles kept held = clear_held w reply new ok held
  does_held w (DestroyCleaned b well) reply new turn ok settles kept held = plain_held w (DestroyCleaned b well) reply new (cleans_plain w b well w.core.destroy reply new ok) (settles tt) held
  does_held w Close reply new turn ok settles kept held = plain_held w Close reply new (subst IsPlain (sym ok.0) tt) (settles tt) held

  pub writes_below : (w : World C) → IsKnown rules Splits is_value demands w → (f : ℕ) (r : Writing C) → writing_in (w.core.flushers f).batch ≡ Some r → r.block < rules.blocks
  writes_below w known f r is =
      known.sets.own f r.block (subst (λ o. WritingOk rules (ground_of w) (w.core.flushers f).own o (w.block_writes f)) is (known.sound.flushers f).writing).0

  step_held : (w : World C) (step : Step C) (reply : Reply C) (new : State C) → Follows rules Splits w.core step reply new → IsKnown rules Splits is_value demands w → Kept w → Held rules w → Held rules (after rules w (Applies step reply new))
  step_held w step (NotNow back) new ok known kept held = settles_held w new (subst (Settles rules w.core) (sym ok.2) (record { stays = λ b p q. (refl, (p, q)); listed = λ l. l; below = λ ok. ok })) held
  step_held w step (Refused kind back) new ok known kept held = settles_held w new (subst (Settles rules w.core) (sym ok.2) (record { stays = λ b p q. (refl, (p, q)); listed = λ l. l; below = λ ok. ok })) held
  step_held w step reply new (few, turn, (state, does, eq)) known kept held =
      subst (λ k. Held rules (after rules w (Applies step reply k))) (sym eq)
      (does_held w step reply state turn does
      (λ none. does_settle rules Splits w.core state step reply known.sets (writes_below w known) (λ b. reclaims_at rules Splits is_value demands w b known.again) turn none does) kept held)

  -- accesses
  read_state_held : (count : ℕ → ℕ) (sets : ℕ → BlockSet) (f : ℕ → ReadState → ReadState) (o : Option (Load C))
      → ((l : Load C) → o ≡ Some l → HasReadAll rules l.ticket.address.len l.read_state → HasReadAll rules l.ticket.address.len (f l.ticket.address.block l.read_state))
      → HeldOk rules count sets o → HeldOk rules count sets (at_load f o)
  read_state_held count sets f None change ok = tt
  read_state_held count sets f (Some l) change ok = record { below = ok.below; all = change l refl ok.all; stands = ok.stands; safe = ok.safe }

  begun_all : (cover : ℕ → ℕ → Bool) (b len : ℕ) (p : ReadState) → HasReadAll rules len p → HasReadAll rules len (begun cover b p)
  begun_all cover b len ReadIssued ok = tt
  begun_all cover b len (Reading seen) ok = ok
  begun_all cover b len (ReadDone Fault) ok = ok
  begun_all cover b len (ReadDone (Bytes bs)) ok = ok

  torn_all : (cover : ℕ → ℕ → Bool) (b len : ℕ) (p : ReadState) → HasReadAll rules len p → HasReadAll rules len (read_torn cover b p)
  torn_all cover b len ReadIssued ok = tt
  torn_all cover b len (Reading seen) ok = tt
  torn_all cover b len (ReadDone Fault) ok = ok
  torn_all cover b len (ReadDone (Bytes bs)) ok = ok

  came_all : (bytes : ℕ → ℕ) (offset len : ℕ) (result : ReadResult) (p : ReadState) → IsRead bytes offset len p result → HasReadAll rules len p → HasReadAll rules len (came result p)
  came_all bytes offset len result ReadIssued is ok = tt
  came_all bytes offset len Fault (Reading seen) is ok = tt
  came_all bytes offset len (Bytes bs) (Reading seen) is ok = is.0
  came_all bytes offset len result (ReadDone Fault) is ok = ok
  came_all bytes offset len result (ReadDone (Bytes bs)) is ok = ok

  pub event_held : (w : World C) (e : WorldEvent C) → MayHappen rules Splits is_value w e → IsKnown rules Splits is_value demands w → Kept w → Held rules w → Held rules (after rules w e)
  event_held w (Applies step reply new) ok known kept held = step_held w step reply new ok.1 known kept held
  event_held w (ReadBegins n) ok known kept held = record {
    index_below = held.index_below;
    loads = put_one (λ k o. HeldOk rules w.core.filling w.core.place o) w.loads n _
        (read_state_held w.core.filling w.core.place (begun (covers rules w)) (w.loads n) (λ l _. begun_all (covers rules w) l.ticket.address.block l.ticket.address.len l.read_state) (held.loads n)) (λ k _. held.loads k);
  }
  event_held w (ReadEnds n result) ok known kept held = record {
    index_below = held.index_below;
    loads = put_one (λ k o. HeldOk rules w.core.filling w.core.place o) w.loads n _
        (read_state_held w.core.filling w.core.place (λ _. came result) (w.loads n)
        (λ l is. came_all (w.bytes l.ticket.address.block) l.ticket.address.offset l.ticket.address.len result l.read_state (subst (λ o. IsReadAt rules w.bytes o result) is ok)) (held.loads n)) (λ k _. held.loads k);
  }
  event_held w (ScanBegins b) ok known kept held = record { index_below = held.index_below; loads = held.loads }
  event_held w (ScanEnds b result) ok known kept held = record { index_below = held.index_below; loads = held.loads }
  event_held w (WriteBegins f) ok known kept held = record {
    index_below = held.index_below;
    loads = λ n. read_state_held w.core.filling w.core.place (read_torn (will_cover (w.block_writes f))) (w.loads n) (λ l _. torn_all (will_cover (w.block_writes f)) l.ticket.address.block l.ticket.address.len l.read_state) (held.loads n);
  }
  event_held w (WriteEnds f good g) ok known kept held = record { index_below = held.index_below; loads = held.loads }
  event_held w (CleanBegins b) ok known kept held = record {
    index_below = held.index_below;
    loads = λ n. read_state_held w.core.filling w.core.place (read_torn (clean_will_cover b (w.clean_states b))) (w.loads n) (λ l _. torn_all (clean_will_cover b (w.clean_states b)) l.ticket.address.block l.ticket.address.len l.read_state) (held.loads n);
  }
  event_held w (CleanEnds b good g) ok known kept held = record { index_below = held.index_below; loads = held.loads }

  -- of every world that is reached
  pub record IsHeldWorld (w : World C) : Type 0 where
    pub known : IsKnown rules Splits is_value demands w
    pub kept : Kept w
    pub held : Held rules w

  all_held : (w : World C) (events : List (WorldEvent C)) → MayAllHappen rules Splits is_value w events → IsHeldWorld w → IsHeldWorld (after_all rules w events)
  all_held w [] ok all = all
  all_held w (e ∷ es) ok all = all_held (after rules w e) es ok.1 (record {
    known = known_keeps rules Splits is_value demands w e ok.0 all.known;
    kept = event_kept rules Splits is_value demands w e ok.0 all.known all.kept;
    held = event_held w e ok.0 all.known all.kept all.held;
  })

  opened_below : (w : World C) (h : ℕ) (slot : Option Slot) → FoundOk rules w h slot → (a : Address) → slot ≡ Some (Indexed a) → a.block < rules.blocks
  opened_below w h None found a is = absurd (let e : None ≡ Some (Indexed a) = is in cc)
  opened_below w h (Some (Mark s)) found a is = absurd found
  opened_below w h (Some (Indexed d)) it a is = subst (λ k. k.block < rules.blocks) (let e : Some (Indexed d) ≡ Some (Indexed a) = is in let f : d ≡ a = cc in f) it.found.block

  pub reached_held : (w : World C) → IsReached rules Splits is_value w → IsHeldWorld w
  reached_held w reached =
      subst IsHeldWorld reached.is
      (all_held reached.first reached.events reached.happened
      (record {
        known = record { sound = new_sound rules reached.first reached.opened; again = new_again rules reached.first reached.opened; sets = new_sets rules reached.first reached.opened };
        kept = new_kept rules Splits is_value demands reached.first reached.opened;
        held = record {
          index_below = λ h. opened_below reached.first h (reached.first.core.index h) (found_ok rules reached.first reached.opened h);
          loads = λ n. subst (HeldOk rules reached.first.core.filling reached.first.core.place) (sym (reached.opened.loads n)) tt;
        };
      }))
