-- What is newest of a hash has no smaller sequence later, unless a destroy clears the index.
use Rattle.std.proofs.Common.{◌≡◌, ℕ, ◌<◌, ◌≤◌, ◌==◌, nat_le, Bool, true, false, ◌&&◌, if◌then◌else◌, List, [], ◌∷◌, length, map, Option, Some, None, ◌⊎◌, inl, inr, refl, sym, subst, arith}
use Rattle.std.proofs.lemmas.Bool.{eqb-false}
use Rattle.std.proofs.lemmas.Bool.Decides.{nat_tests}
use Rattle.foyer_core_model.specs.Record.{Slot, Outcome, Holds, Source, Given, Reread, Record}
use Rattle.foyer_core_model.specs.Index.{holds}
use Rattle.foyer_core_model.specs.State.{Submission, Piece, Remove, Await, Reinsert, State}
use Rattle.foyer_core_model.specs.Rules.{Rules, Splitting}
use Rattle.foyer_core_model.specs.Step.{Step, Enqueue, Delete, Receive, FlushWrote, DestroyClear}
use Rattle.foyer_core_model.specs.Reply.{Reply, Dropped, Deleted, Received, Committed, Cleared}
use Rattle.foyer_core_model.specs.Commit.{committed_one, commit_of}
use Rattle.foyer_core_model.specs.Event.{Event, Put, Deletion, sequence_in, newest, outcome_in, put_event, with_puts, puts_of, with_returned, events_of}
use Rattle.foyer_core_model.specs.World.{World, WorldEvent, Applies, ReadBegins, ReadEnds, ScanBegins, ScanEnds, WriteBegins, WriteEnds, CleanBegins, CleanEnds, after, after_all}
use Rattle.foyer_core_model.proofs.CommitSteps.{noted_one, noted, noted_is}
use Rattle.foyer_core_written.specs.Written.{HasLost, IsPast, PastStays}
use Rattle.foyer_core_written.proofs.Folds.{lost_first, lost_then}

-- one of the list has the property
abbrev pub IsAmong : {X : Type 0} → (X → Type 0) → List X → Type 0
IsAmong P [] = ⊥
IsAmong P (x ∷ xs) = P x ⊎ IsAmong P xs

-- a record is of a piece that was queued
abbrev pub IsGiven : {C : Type 0} → Source C → Type 0
IsGiven (Given c) = Unit {0}
IsGiven (Reread a) = ⊥

-- a record is that of the piece of this hash and sequence, and isn't empty
pub record IsItsRecord {C : Type 0} (h s : ℕ) (r : Record C) : Type 0 where
  pub hash : r.hash ≡ h
  pub sequence : r.sequence ≡ s
  pub given : IsGiven r.source
  pub some : 0 < length r.bytes

module _ {C : Type 0} (h u : ℕ) where
  -- the newest event has at least this sequence
  abbrev pub IsAbove : List (Event C) → Type 0
  IsAbove H = u ≤ sequence_in (newest h H)

  put_stays : (q s : ℕ) (x : Outcome C) (H : List (Event C)) → IsAbove H → IsAbove (Put q s x ∷ H)
  put_stays q s x H above = go (q == h) (nat_le (sequence_in (newest h H)) s) refl
    where
      go : (p b : Bool) → nat_le (sequence_in (newest h H)) s ≡ b → u ≤ sequence_in (if p && b then Some (Put q s x) else newest h H)
      go true true e = let le : sequence_in (newest h H) ≤ s = grind (arith, nat_tests) in omega arith
      go true false e = above
      go false b e = above

  deletion_stays : (q s : ℕ) (H : List (Event C)) → IsAbove H → IsAbove (Deletion q s ∷ H)
  deletion_stays q s H above = go (q == h) (nat_le (sequence_in (newest h H)) s) refl
    where
      go : (p b : Bool) → nat_le (sequence_in (newest h H)) s ≡ b → u ≤ sequence_in (if p && b then Some (Deletion q s) else newest h H)
      go true true e = let le : sequence_in (newest h H) ≤ s = grind (arith, nat_tests) in omega arith
      go true false e = above
      go false b e = above

  puts_stay : (rs : List (Record C)) (H : List (Event C)) → IsAbove H → IsAbove (with_puts rs H)
  puts_stay [] H above = above
  puts_stay (r ∷ rs) H above = puts_stay rs (put_event r r.source H ∷ H) (one r.source)
    where
      one : (src : Source C) → IsAbove (put_event r src H ∷ H)
      one (Given c) = put_stays r.hash r.sequence (Holds c) H above
      one (Reread a) = put_stays r.hash r.sequence (outcome_in (newest r.hash H)) H above

  returned_stays : (queue : List (Submission C)) (H : List (Event C)) → IsAbove H → IsAbove (with_returned queue H)
  returned_stays [] H above = above
  returned_stays (Piece q s n c ∷ rest) H above = deletion_stays q s H above
  returned_stays (Remove q s invalidated ∷ rest) H above = above
  returned_stays (Await i ∷ rest) H above = above
  returned_stays (Reinsert q bytes a ∷ rest) H above = above

  -- a put of the hash is no older than what is newest after it
  put_covers : (q s : ℕ) (x : Outcome C) (H : List (Event C)) → q ≡ h → s ≡ u → IsAbove (Put q s x ∷ H)
  put_covers q s x H hash sequence = go (q == h) (nat_le (sequence_in (newest h H)) s) refl refl
    where
      go : (p b : Bool) → (q == h) ≡ p → nat_le (sequence_in (newest h H)) s ≡ b → u ≤ sequence_in (if p && b then Some (Put q s x) else newest h H)
      go true true e k = omega arith
      go true false e k = let lt : s < sequence_in (newest h H) = grind (arith, nat_tests) in omega arith
      go false b e k = absurd (eqb-false q h e hash)

  -- so is a deletion
  pub deletion_covers : (q s : ℕ) (H : List (Event C)) → q ≡ h → s ≡ u → IsAbove (Deletion q s ∷ H)
  deletion_covers q s H hash sequence = go (q == h) (nat_le (sequence_in (newest h H)) s) refl refl
    where
      go : (p b : Bool) → (q == h) ≡ p → nat_le (sequence_in (newest h H)) s ≡ b → u ≤ sequence_in (if p && b then Some (Deletion q s) else newest h H)
      go true true e k = omega arith
      go true false e k = let lt : s < sequence_in (newest h H) = grind (arith, nat_tests) in omega arith
      go false b e k = absurd (eqb-false q h e hash)

  -- the commit of one record
  one_stays : (r : Record C) (src : Source C) (slot : Option Slot) (H : List (Event C)) → IsAbove H → IsAbove (noted_one r src slot H)
  one_stays r (Given c) slot H above = put_stays r.hash r.sequence (Holds c) H above
  one_stays r (Reread over) slot H above = go (holds over slot)
    where
      go : (t : Bool) → IsAbove (if t then Put r.hash r.sequence (outcome_in (newest r.hash H)) ∷ H else H)
      go true = put_stays r.hash r.sequence (outcome_in (newest r.hash H)) H above
      go false = above

  one_covers : (r : Record C) (src : Source C) (slot : Option Slot) (H : List (Event C)) → r.hash ≡ h → r.sequence ≡ u → IsGiven src → IsAbove (noted_one r src slot H)
  one_covers r (Given c) slot H hash sequence given = put_covers r.hash r.sequence (Holds c) H hash sequence
  one_covers r (Reread over) slot H hash sequence given = absurd given

  -- the commit of a block's records
  noted_stays : (b n : ℕ) (ps : List (ℕ × Record C)) (m : ℕ → Option Slot) (H : List (Event C)) → IsAbove H → IsAbove (noted b n ps m H)
  noted_stays b n [] m H above = above
  noted_stays b n (p ∷ ps) m H above =
      noted_stays b n ps (committed_one b n p m) (noted_one p.1 (p.1).source (m (p.1).hash) H) (one_stays p.1 (p.1).source (m (p.1).hash) H above)

  noted_covers : (b n : ℕ) (ps : List (ℕ × Record C)) (m : ℕ → Option Slot) (H : List (Event C)) → IsAmong (IsItsRecord h u) (map (λ p. p.1) ps)
      → IsAbove (noted b n ps m H)
  noted_covers b n [] m H among = absurd among
  noted_covers b n (p ∷ ps) m H among =
      elim among [
        | inl its ↦ noted_stays b n ps (committed_one b n p m) (noted_one p.1 (p.1).source (m (p.1).hash) H)
            (one_covers p.1 (p.1).source (m (p.1).hash) H its.hash its.sequence its.given)
        | inr later ↦ noted_covers b n ps (committed_one b n p m) (noted_one p.1 (p.1).source (m (p.1).hash) H) later
      ]

  -- a commit of the piece's record makes it past
  pub commit_covers : (b n : ℕ) (ps : List (ℕ × Record C)) (m : ℕ → Option Slot) (H : List (Event C)) → IsAmong (IsItsRecord h u) (map (λ p. p.1) ps)
      → IsAbove (with_puts (commit_of b n ps m).puts H)
  commit_covers b n ps m H among = subst IsAbove (sym (noted_is b n ps m H)) (noted_covers b n ps m H among)

  -- a step with its reply
  step_past : (old : State C) (reply : Reply C) (step : Step C) (new : State C) (H : List (Event C)) → IsAbove H
      → IsAbove (events_of old reply step H) ⊎ HasLost (Applies step reply new ∷ [])
  step_past old (Deleted s) (Delete q) new H above = inl (deletion_stays q s H above)
  step_past old (Deleted s) step new H above = inl above
  step_past old (Dropped d s) (Enqueue q n age c) new H above = inl (deletion_stays q s H above)
  step_past old (Dropped d s) step new H above = inl above
  step_past old (Received (Some d)) (Receive f) new H above = inl (returned_stays (old.flushers f).queue H above)
  step_past old (Received None) step new H above = inl above
  step_past old (Received (Some d)) step new H above = inl above
  step_past old (Committed n) (FlushWrote f ok) new H above = inl (puts_stay (puts_of old (old.flushers f).batch) H above)
  step_past old (Committed n) step new H above = inl above
  step_past old (Cleared bs) DestroyClear new H above = inr tt
  step_past old (Cleared bs) step new H above = inl above
  step_past old reply step new H above = inl above

  -- an event
  pub event_past : (rules : Rules C) (w : World C) (e : WorldEvent C) → IsPast h u w → IsPast h u (after rules w e) ⊎ HasLost (e ∷ [])
  event_past rules w (Applies step reply new) past = step_past w.core reply step new w.history past
  event_past rules w (ReadBegins n) past = inl past
  event_past rules w (ReadEnds n result) past = inl past
  event_past rules w (ScanBegins b) past = inl past
  event_past rules w (ScanEnds b result) past = inl past
  event_past rules w (WriteBegins f) past = inl past
  event_past rules w (WriteEnds f good g) past = inl past
  event_past rules w (CleanBegins b) past = inl past
  event_past rules w (CleanEnds b good g) past = inl past

  -- events, one after the other
  pub events_past : (rules : Rules C) (w : World C) (es : List (WorldEvent C)) → IsPast h u w → IsPast h u (after_all rules w es) ⊎ HasLost es
  events_past rules w [] past = inl past
  events_past rules w (e ∷ es) past =
      elim (event_past rules w e past) [
        | inl still ↦ elim (events_past rules (after rules w e) es still) [ inl end ↦ inl end | inr lost ↦ inr (lost_then e es lost) ]
        | inr lost ↦ inr (lost_first e es lost)
      ]

pub past_stays_lem : {C : Type 0} (rules : Rules C) (Splits : Splitting C) (is_value : C → Type 0) → PastStays rules Splits is_value
past_stays_lem rules Splits is_value w events h s ok past = events_past h s rules w events past
