-- Deletes, look-ups and removals from the index.
use Rattle.std.proofs.Common.{◌≡◌, ℕ, ◌+◌, ◌<◌, ◌≤◌, ◌==◌, nat_le, Bool, true, false, if◌then◌else◌, List, ◌∷◌, Option, Some, None, ◌⊎◌, inl, inr, refl, sym, ap, subst, ◌∙◌, arith}
use Rattle.std.proofs.lemmas.Bool.{eqb-true, eqb-false}
use Rattle.std.proofs.lemmas.Bool.Decides.{nat_tests}
use Rattle.foyer_core_model.specs.Numbers.{put}
use Rattle.foyer_core_model.specs.Record.{Address, Slot, Indexed, Mark, Outcome}
use Rattle.foyer_core_model.specs.Rules.{Rules, flusher_of}
use Rattle.foyer_core_model.specs.Index.{is_same, inserted, without}
use Rattle.foyer_core_model.specs.Event.{Event, Put, Deletion, sequence_in, newest}
use Rattle.foyer_core_model.specs.Access.{BlockWrites, ReadIssued}
use Rattle.foyer_core_model.specs.World.{World}
use Rattle.foyer_core_model.proofs.Basics.{put_at, put_other, put_one}
use Rattle.foyer_core_model.proofs.Invariant.{Ground, ground_of, line_of, AtLeast, SlotOk, LoadOk, WorldInvariant}
use Rattle.foyer_core_model.proofs.CommitSteps.{newest_del, newest_del_other, newest_del_below, newest_del_past}

-- What the mark of a delete does to index and history: a put that is newest was so before and stays indexed, and an
-- address that is indexed was so before, and its newest event stays.
pub record MarkEnters {C : Type 0} (m m' : ℕ → Option Slot) (H H' : List (Event C)) : Type 0 where
  pub puts : (k t : ℕ) (x : Outcome C) → newest k H' ≡ Some (Put k t x) → (newest k H ≡ Some (Put k t x)) × (m' k ≡ m k)
  pub addresses : (k : ℕ) (a : Address) → m' k ≡ Some (Indexed a) → (m k ≡ Some (Indexed a)) × (newest k H' ≡ newest k H)

same_or : (k h : ℕ) → (k ≡ h) ⊎ (k ≡ h → ⊥)
same_or k h = go (k == h) refl
  where
    go : (t : Bool) → (k == h) ≡ t → (k ≡ h) ⊎ (k ≡ h → ⊥)
    go true e = inl (eqb-true k h e)
    go false e = inr (eqb-false k h e)

module _ {C : Type 0} (rules : Rules C) where
  pub slot_history : (g : Ground) (block_writes : ℕ → BlockWrites) (H H' : List (Event C)) (h : ℕ) (line : List (ℕ × ℕ)) (slot : Option Slot) → newest h H' ≡ newest h H
      → SlotOk rules g block_writes H h line slot → SlotOk rules g block_writes H' h line slot
  slot_history g block_writes H H' h line None same ok = subst (λ e. AtLeast h (sequence_in e) line) (sym same) ok
  slot_history g block_writes H H' h line (Some (Mark d)) same ok = same ∙ ok
  slot_history g block_writes H H' h line (Some (Indexed a)) same ok = (ok.0, same ∙ ok.1, ok.2, ok.3)

  pub slot_none : (g : Ground) (block_writes : ℕ → BlockWrites) (H : List (Event C)) (h : ℕ) (line : List (ℕ × ℕ)) (a : Address)
      → SlotOk rules g block_writes H h line (Some (Indexed a)) → SlotOk rules g block_writes H h line None
  slot_none g block_writes H h line a ok = subst (λ s. AtLeast h s line) (sym (ap sequence_in ok.1)) ok.3

  pub slot_without : (g : Ground) (block_writes : ℕ → BlockWrites) (H : List (Event C)) (h : ℕ) (line : List (ℕ × ℕ)) (a : Address) (slot : Option Slot)
      → SlotOk rules g block_writes H h line slot → SlotOk rules g block_writes H h line (without a slot)
  slot_without g block_writes H h line a None ok = ok
  slot_without g block_writes H h line a (Some (Mark s)) ok = ok
  slot_without g block_writes H h line a (Some (Indexed b)) ok = go (is_same a b)
    where
      go : (t : Bool) → SlotOk rules g block_writes H h line (if t then None else Some (Indexed b))
      go true = slot_none g block_writes H h line b ok
      go false = ok

  -- a mark that is newer enters the index
  pub marked_in : (g : Ground) (block_writes : ℕ → BlockWrites) (H : List (Event C)) (h s : ℕ) (line : List (ℕ × ℕ)) (slot : Option Slot)
      → SlotOk rules g block_writes H h line slot → sequence_in (newest h H) ≤ s → inserted slot (Mark s) ≡ Some (Mark s)
  marked_in g block_writes H h s line None ok le = refl
  marked_in g block_writes H h s line (Some (Mark d)) ok le = go (nat_le d s) refl
    where
      at_d : sequence_in (newest h H) ≡ d
      at_d = ap sequence_in ok

      go : (t : Bool) → nat_le d s ≡ t → (if t then Some (Mark s) else Some (Mark d)) ≡ Some (Mark s)
      go true e = refl
      go false e = absurd (grind (arith, nat_tests, at_d))
  marked_in g block_writes H h s line (Some (Indexed a)) ok le = go (nat_le a.sequence s) refl
    where
      at_a : sequence_in (newest h H) ≡ a.sequence
      at_a = ap sequence_in ok.1

      go : (t : Bool) → nat_le a.sequence s ≡ t → (if t then Some (Mark s) else Some (Indexed a)) ≡ Some (Mark s)
      go true e = refl
      go false e = absurd (grind (arith, nat_tests, at_a))

  pub mark_enters : (w : World C) (h s : ℕ) → WorldInvariant rules w → s ≡ w.core.next → inserted (w.core.index h) (Mark s) ≡ Some (Mark s)
  mark_enters w h s sound is =
      marked_in (ground_of w) w.block_writes w.history h s (line_of (w.core.flushers (flusher_of rules h))) (w.core.index h) (sound.slots h (flusher_of rules h) refl)
      (let below : sequence_in (newest h w.history) < w.core.next = sound.next h in omega arith)

  pub deleted : (w : World C) (h s : ℕ) → WorldInvariant rules w → s < w.core.next → sequence_in (newest h w.history) ≤ s
      → WorldInvariant rules (record w { core = record w.core { index = put w.core.index h (Some (Mark s)) }; history = Deletion h s ∷ w.history })
  deleted w h s sound lt above =
      record {
        slots = λ k f routed. put_at (λ slot. SlotOk rules (ground_of w) w.block_writes (Deletion h s ∷ w.history) k (line_of (w.core.flushers f)) slot) w.core.index h (Some (Mark s)) k
            (λ at. subst (λ i. newest i (Deletion h s ∷ w.history) ≡ Some (Deletion i s)) (sym at) (newest_del h s w.history above))
            (λ ne. slot_history (ground_of w) w.block_writes w.history (Deletion h s ∷ w.history) k (line_of (w.core.flushers f)) (w.core.index k)
            (newest_del_other h s w.history k (λ e. ne (sym e))) (sound.slots k f routed));
        loads = sound.loads;
        flushers = sound.flushers;
        next = λ k. newest_del_below h s w.history k w.core.next lt (sound.next k);
      }

  -- a mark is newest as it enters a slot, unless what is newer stays: nothing of its hash waits that is older than it
  taken_or : (g : Ground) (block_writes : ℕ → BlockWrites) (H : List (Event C)) (h s : ℕ) (line : List (ℕ × ℕ)) (slot : Option Slot)
      → SlotOk rules g block_writes H h line slot → ((n : ℕ) → AtLeast h n line → n ≤ s)
      → ((sequence_in (newest h H) ≤ s) × (inserted slot (Mark s) ≡ Some (Mark s))) ⊎ ((s < sequence_in (newest h H)) × (inserted slot (Mark s) ≡ slot))
  taken_or g block_writes H h s line slot ok first = go (nat_le (sequence_in (newest h H)) s) refl
    where
      stays : (slot : Option Slot) → SlotOk rules g block_writes H h line slot → s < sequence_in (newest h H) → inserted slot (Mark s) ≡ slot
      stays None ok lt = absurd (let le : sequence_in (newest h H) ≤ s = first (sequence_in (newest h H)) ok in omega arith)
      stays (Some (Indexed a)) ok lt = absurd (let le : a.sequence ≤ s = first a.sequence ok.3 in let at : sequence_in (newest h H) ≡ a.sequence = ap sequence_in ok.1 in omega arith)
      stays (Some (Mark d)) ok lt = at_mark (nat_le d s) refl
        where
          at_d : sequence_in (newest h H) ≡ d
          at_d = ap sequence_in ok

          at_mark : (t : Bool) → nat_le d s ≡ t → (if t then Some (Mark s) else Some (Mark d)) ≡ Some (Mark d)
          at_mark true e = absurd (grind (arith, nat_tests, at_d, lt))
          at_mark false e = refl

      go : (t : Bool) → nat_le (sequence_in (newest h H)) s ≡ t
          → ((sequence_in (newest h H) ≤ s) × (inserted slot (Mark s) ≡ Some (Mark s))) ⊎ ((s < sequence_in (newest h H)) × (inserted slot (Mark s) ≡ slot))
      go true e = inl (grind (arith, nat_tests), marked_in g block_writes H h s line slot ok (grind (arith, nat_tests)))
      go false e = inr (grind (arith, nat_tests), stays slot ok (grind (arith, nat_tests)))

  -- the mark of a piece that waits first of its hash enters the index, unless a newer one is there
  pub returned : (w : World C) (h s : ℕ) → WorldInvariant rules w → s < w.core.next → ((n : ℕ) → AtLeast h n (line_of (w.core.flushers (flusher_of rules h))) → n ≤ s)
      → WorldInvariant rules (record w { core = record w.core { index = put w.core.index h (inserted (w.core.index h) (Mark s)) }; history = Deletion h s ∷ w.history })
  returned w h s sound lt first =
      elim (taken_or (ground_of w) w.block_writes w.history h s (line_of (w.core.flushers (flusher_of rules h))) (w.core.index h) (sound.slots h (flusher_of rules h) refl) first) [
        | inl (above, is) ↦
            subst (λ slot. WorldInvariant rules (record w { core = record w.core { index = put w.core.index h slot }; history = Deletion h s ∷ w.history })) (sym is) (deleted w h s sound lt above)
        | inr (newer, is) ↦ record {
          slots = λ k f routed. put_at (λ slot. SlotOk rules (ground_of w) w.block_writes (Deletion h s ∷ w.history) k (line_of (w.core.flushers f)) slot) w.core.index h (inserted (w.core.index h) (Mark s)) k
              (λ at. slot_history (ground_of w) w.block_writes w.history (Deletion h s ∷ w.history) k (line_of (w.core.flushers f)) (inserted (w.core.index h) (Mark s)) (newest_del_past h s w.history k newer)
              (subst (λ slot. SlotOk rules (ground_of w) w.block_writes w.history k (line_of (w.core.flushers f)) slot) (ap w.core.index at ∙ sym is) (sound.slots k f routed)))
              (λ _. slot_history (ground_of w) w.block_writes w.history (Deletion h s ∷ w.history) k (line_of (w.core.flushers f)) (w.core.index k) (newest_del_past h s w.history k newer) (sound.slots k f routed));
          loads = sound.loads;
          flushers = sound.flushers;
          next = λ k. newest_del_below h s w.history k w.core.next lt (sound.next k);
        }
      ]

  pub returned_enters : (w : World C) (h s : ℕ) → WorldInvariant rules w → ((n : ℕ) → AtLeast h n (line_of (w.core.flushers (flusher_of rules h))) → n ≤ s)
      → MarkEnters w.core.index (put w.core.index h (inserted (w.core.index h) (Mark s))) w.history (Deletion h s ∷ w.history)
  returned_enters w h s sound first =
      elim (taken_or (ground_of w) w.block_writes w.history h s (line_of (w.core.flushers (flusher_of rules h))) (w.core.index h) (sound.slots h (flusher_of rules h) refl) first) [
        | inl (above, is) ↦ record {
          puts = λ k t x new. elim (same_or k h) [
            | inl at ↦ absurd (let e : newest k (Deletion h s ∷ w.history) ≡ Some (Deletion h s) = subst (λ q. newest q (Deletion h s ∷ w.history) ≡ Some (Deletion h s)) (sym at) (newest_del h s w.history above) in
                let f : Some (Deletion h s) ≡ Some (Put k t x) = sym e ∙ new in cc)
            | inr ne ↦ (sym (newest_del_other h s w.history k (λ e. ne (sym e))) ∙ new, put_other w.core.index h (inserted (w.core.index h) (Mark s)) k ne)
          ];
          addresses = λ k a. put_at (λ slot. slot ≡ Some (Indexed a) → (w.core.index k ≡ Some (Indexed a)) × (newest k (Deletion h s ∷ w.history) ≡ newest k w.history)) w.core.index h (inserted (w.core.index h) (Mark s)) k
              (λ _ held. absurd (let e : Some (Mark s) ≡ Some (Indexed a) = sym is ∙ held in cc))
              (λ ne held. (held, newest_del_other h s w.history k (λ e. ne (sym e))));
        }
        | inr (newer, is) ↦ record {
          puts = λ k t x new. (sym (newest_del_past h s w.history k newer) ∙ new, put_at (λ slot. slot ≡ w.core.index k) w.core.index h (inserted (w.core.index h) (Mark s)) k (λ at. is ∙ ap w.core.index (sym at)) (λ _. refl));
          addresses = λ k a. put_at (λ slot. slot ≡ Some (Indexed a) → (w.core.index k ≡ Some (Indexed a)) × (newest k (Deletion h s ∷ w.history) ≡ newest k w.history)) w.core.index h (inserted (w.core.index h) (Mark s)) k
              (λ at held. (ap w.core.index at ∙ sym is ∙ held, newest_del_past h s w.history k newer))
              (λ _ held. (held, newest_del_past h s w.history k newer));
        }
      ]

  pub indexed : (w : World C) (h : ℕ) (slot : Option Slot) → WorldInvariant rules w
      → ((f : ℕ) → flusher_of rules h ≡ f → SlotOk rules (ground_of w) w.block_writes w.history h (line_of (w.core.flushers f)) slot)
      → WorldInvariant rules (record w { core = record w.core { index = put w.core.index h slot } })
  indexed w h slot sound ok =
      record {
        slots = λ k f routed. put_at (λ v. SlotOk rules (ground_of w) w.block_writes w.history k (line_of (w.core.flushers f)) v) w.core.index h slot k
            (λ at. subst (λ i. SlotOk rules (ground_of w) w.block_writes w.history i (line_of (w.core.flushers f)) slot) (sym at) (ok f (sym (ap (flusher_of rules) at) ∙ routed)))
            (λ _. sound.slots k f routed);
        loads = sound.loads;
        flushers = sound.flushers;
        next = sound.next;
      }

  pub promised : (w : World C) (h : ℕ) (a : Address) (kept : Option ℕ) → WorldInvariant rules w → w.core.index h ≡ Some (Indexed a)
      → WorldInvariant rules (record w { loads = put w.loads w.issued (Some (record { ticket = record { hash = h; address = a }; promise = newest h w.history; read_state = ReadIssued; kept = kept })); issued = w.issued + 1 })
  promised w h a kept sound is =
      record {
        slots = sound.slots;
        loads = put_one (λ q l. LoadOk rules (ground_of w) w.block_writes l) w.loads w.issued _
            (let ok : SlotOk rules (ground_of w) w.block_writes w.history h (line_of (w.core.flushers (flusher_of rules h))) (Some (Indexed a)) =
            subst (λ slot. SlotOk rules (ground_of w) w.block_writes w.history h (line_of (w.core.flushers (flusher_of rules h))) slot) is (sound.slots h (flusher_of rules h) refl) in
            record { outcome = ok.0; promise = ok.1; good = ok.2; read_state = λ _. tt })
            (λ q _. sound.loads q);
        flushers = sound.flushers;
        next = sound.next;
      }
