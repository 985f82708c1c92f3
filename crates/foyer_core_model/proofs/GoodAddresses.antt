-- What keeps an address good.
use Rattle.std.proofs.Common.{◌≡◌, ℕ, ◌+◌, ◌≤◌, Bool, true, false, if◌then◌else◌, List, [], ◌∷◌, Option, Some, None, inl, inr, refl, sym, ap, subst, arith}
use Rattle.foyer_core_model.specs.Numbers.{put}
use Rattle.foyer_core_model.specs.Record.{Address, Slot, Indexed, Mark, Outcome}
use Rattle.foyer_format_layout.specs.BlockBytes.{Write, laid, read, IsBeside, AllWithin}
use Rattle.foyer_core_model.specs.Position.{BlockLayout}
use Rattle.foyer_core_model.specs.Rules.{Rules}
use Rattle.foyer_format_layout.specs.Position.{MayWrite}
use Rattle.foyer_core_model.specs.Layout.{writes_in, KeepsBlock}
use Rattle.foyer_core_model.specs.Event.{Event, sequence_in, newest}
use Rattle.foyer_core_model.specs.Access.{BlockWrites, Idle, Issued, InFlight, Load, writes_of, writes_ended, bytes_ended, IsTorn}
use Rattle.foyer_format_layout.proofs.BlockBytesLaws.{read_same, beside_or, laid_beside}
use Rattle.foyer_core_model.proofs.Basics.{put_at, put_one}
use Rattle.foyer_format_layout.specs.Each.{Each}
use Rattle.foyer_core_model.proofs.Invariant.{Ground, InPages, Spares, WritesSpare, IsSolid, IsGood, AtLeast, SlotOk, ReadStateHolds, IsPromised, LoadOk}

module _ {C : Type 0} (rules : Rules C) where
  -- writes that spare what they spared
  pub good_writes : (g : Ground) (block_writes : ℕ → BlockWrites) (h : ℕ) (a : Address) (x : Outcome C) (f : ℕ) (pending : BlockWrites)
      → (WritesSpare rules a (block_writes f) → WritesSpare rules a pending) → IsGood rules g block_writes h a x → IsGood rules g (put block_writes f pending) h a x
  good_writes g block_writes h a x f pending spares good =
      record {
        older = good.older;
        solid = λ e. let s : IsSolid rules g block_writes h a x = good.solid e in
            record {
              outcome = s.outcome;
              shut = s.shut;
              spared = put_one (λ q p. WritesSpare rules a p) block_writes f pending (spares (s.spared f)) (λ q ne. s.spared q);
              past = s.past;
            };
      }

  -- writes that stay where writes may fall spare what they may not touch
  pub within_spares : (a : Address) (P : ℕ → Type 0) (ws : List Write) → AllWithin P ws → ((o : ℕ) → InPages rules a o → P o → ⊥) → Each (Spares rules a) ws
  within_spares a P [] within shut = tt
  within_spares a P (w ∷ ws) within shut = (
    λ o page. elim (beside_or w o) [ inl yes_beside ↦ yes_beside | inr not_beside ↦ absurd (shut o page (within.0 o not_beside)) ],
    within_spares a P ws within.1 shut,
  )

  pub writes_of_spares : (a : Address) (b : ℕ) (ws : List Write) → (a.block ≡ b → Each (Spares rules a) ws) → WritesSpare rules a (writes_of b ws)
  writes_of_spares a b [] spares = tt
  writes_of_spares a b (w ∷ ws) spares = spares

  -- a flusher goes on in its own block
  pub good_issued : (g : Ground) (block_writes : ℕ → BlockWrites) (h : ℕ) (a : Address) (x : Outcome C) (f b : ℕ) (s : BlockLayout C)
      → KeepsBlock rules (g.filled b) s → IsGood rules g block_writes h a x
      → IsGood rules (record g { filled = put g.filled b s.end }) (put block_writes f (writes_of b (writes_in rules s.parts))) h a x
  good_issued g block_writes h a x f b s placed good =
      record {
        older = good.older;
        solid = λ e. let solid : IsSolid rules g block_writes h a x = good.solid e in
            record {
              outcome = solid.outcome;
              shut = λ o page. put_one (λ q fl. q ≡ a.block → MayWrite rules.index_size fl o → ⊥) g.filled b s.end
                  (λ at may. subst (λ q. MayWrite rules.index_size (g.filled q) o → ⊥) (sym at) (solid.shut o page) (placed.shrinks o may))
                  (λ q ne at. subst (λ i. MayWrite rules.index_size (g.filled i) o → ⊥) (sym at) (solid.shut o page)) a.block refl;
              spared = put_one (λ q p. WritesSpare rules a p) block_writes f (writes_of b (writes_in rules s.parts))
                  (writes_of_spares a b (writes_in rules s.parts) (λ at. within_spares a (MayWrite rules.index_size (g.filled b)) (writes_in rules s.parts) placed.within
                  (λ o page. subst (λ q. MayWrite rules.index_size (g.filled q) o → ⊥) at (solid.shut o page))))
                  (λ q ne. solid.spared q);
              past = solid.past;
            };
      }

  -- a block is handed out: its filling grows
  pub good_handed : (g : Ground) (block_writes : ℕ → BlockWrites) (h : ℕ) (a : Address) (x : Outcome C) (f b : ℕ) (s : BlockLayout C)
      → IsGood rules g block_writes h a x
      → IsGood rules (record g { filled = put g.filled b s.end; filling = put g.filling b (g.filling b + 1) }) (put block_writes f (writes_of b (writes_in rules s.parts))) h a x
  good_handed g block_writes h a x f b s good =
      record {
        older = put_at (λ n. a.filling ≤ n) g.filling b (g.filling b + 1) a.block
            (λ at. let before : a.filling ≤ g.filling b = subst (λ q. a.filling ≤ g.filling q) at good.older in omega arith)
            (λ ne. good.older);
        solid = put_at (λ n. a.filling ≡ n → IsSolid rules (record g { filled = put g.filled b s.end; filling = put g.filling b (g.filling b + 1) }) (put block_writes f (writes_of b (writes_in rules s.parts))) h a x)
            g.filling b (g.filling b + 1) a.block
            (λ at e. let before : a.filling ≤ g.filling b = subst (λ q. a.filling ≤ g.filling q) at good.older in absurd (omega arith))
            (λ ne e. elsewhere ne (good.solid e));
      }
    where
      elsewhere : (a.block ≡ b → ⊥) → IsSolid rules g block_writes h a x
          → IsSolid rules (record g { filled = put g.filled b s.end; filling = put g.filling b (g.filling b + 1) }) (put block_writes f (writes_of b (writes_in rules s.parts))) h a x
      elsewhere ne solid =
          record {
            outcome = solid.outcome;
            shut = λ o page. put_one (λ q fl. q ≡ a.block → MayWrite rules.index_size fl o → ⊥) g.filled b s.end
                (λ at. absurd (ne (sym at)))
                (λ q _ at. subst (λ i. MayWrite rules.index_size (g.filled i) o → ⊥) (sym at) (solid.shut o page)) a.block refl;
            spared = put_one (λ q p. WritesSpare rules a p) block_writes f (writes_of b (writes_in rules s.parts))
                (writes_of_spares a b (writes_in rules s.parts) (λ at. absurd (ne at))) (λ q _. solid.spared q);
            past = solid.past;
          }

  -- a write ends, well or not
  pub ended_same : (bytes : ℕ → ℕ → ℕ) (pending : BlockWrites) (ok : Bool) (g : ℕ → ℕ) (a : Address) → IsTorn bytes pending g → WritesSpare rules a pending
      → (o : ℕ) → InPages rules a o → bytes_ended ok g pending bytes a.block o ≡ bytes a.block o
  ended_same bytes Idle ok g a torn spares o inside = refl
  ended_same bytes (Issued b rs ws) ok g a torn spares o inside = refl
  ended_same bytes (InFlight b rs w ws) ok g a torn spares o inside =
      put_at (λ k. k o ≡ bytes a.block o) bytes b (if ok then laid w (bytes b) else g) a.block
      (λ at. subst (λ q. (if ok then laid w (bytes b) else g) o ≡ bytes q o) (sym at) (go ok ((spares at).0 o inside)))
      (λ _. refl)
    where
      go : (t : Bool) → IsBeside w o → (if t then laid w (bytes b) else g) o ≡ bytes b o
      go true beside = laid_beside w (bytes b) o beside
      go false beside = torn o beside

  pub read_ended : (bytes : ℕ → ℕ → ℕ) (pending : BlockWrites) (ok : Bool) (g : ℕ → ℕ) (a : Address) → IsTorn bytes pending g → WritesSpare rules a pending
      → read (bytes_ended ok g pending bytes a.block) a.offset a.len ≡ read (bytes a.block) a.offset a.len
  read_ended bytes pending ok g a torn spares =
      read_same _ _ a.offset a.len (λ i low high. let above : a.len ≤ rules.page_up a.len = rules.page_up_above a.len in
      ended_same bytes pending ok g a torn spares i (low, omega arith))

  pub writes_ended_spares : (a : Address) (ok : Bool) (pending : BlockWrites) → WritesSpare rules a pending → WritesSpare rules a (writes_ended ok pending)
  writes_ended_spares a ok Idle spares = spares
  writes_ended_spares a ok (Issued b rs ws) spares = spares
  writes_ended_spares a true (InFlight b rs w ws) spares = λ at. (spares at).1
  writes_ended_spares a false (InFlight b rs w ws) spares = λ at. tt

  pub good_ended : (g : Ground) (block_writes : ℕ → BlockWrites) (h : ℕ) (a : Address) (x : Outcome C) (f : ℕ) (ok : Bool) (k : ℕ → ℕ)
      → IsTorn g.bytes (block_writes f) k → IsGood rules g block_writes h a x
      → IsGood rules (record g { bytes = bytes_ended ok k (block_writes f) g.bytes }) (put block_writes f (writes_ended ok (block_writes f))) h a x
  good_ended g block_writes h a x f ok k torn good =
      record {
        older = good.older;
        solid = λ e. let s : IsSolid rules g block_writes h a x = good.solid e in
            record {
              outcome = subst (λ bs. rules.pair_of bs h a.sequence ≡ x) (sym (read_ended g.bytes (block_writes f) ok k a torn (s.spared f))) s.outcome;
              shut = s.shut;
              spared = put_one (λ q p. WritesSpare rules a p) block_writes f (writes_ended ok (block_writes f)) (writes_ended_spares a ok (block_writes f) (s.spared f)) (λ q ne. s.spared q);
              past = s.past;
            };
      }

  -- the facts of slots and loads go along
  pub slot_lift : (g g' : Ground) (block_writes block_writes' : ℕ → BlockWrites) (H : List (Event C)) (h : ℕ) (line line' : List (ℕ × ℕ)) (slot : Option Slot)
      → ((a : Address) (x : Outcome C) → IsGood rules g block_writes h a x → IsGood rules g' block_writes' h a x)
      → ((n : ℕ) → n ≡ sequence_in (newest h H) → AtLeast h n line → AtLeast h n line')
      → SlotOk rules g block_writes H h line slot → SlotOk rules g' block_writes' H h line' slot
  slot_lift g g' block_writes block_writes' H h line line' None lift behind ok = behind _ refl ok
  slot_lift g g' block_writes block_writes' H h line line' (Some (Mark d)) lift behind ok = ok
  slot_lift g g' block_writes block_writes' H h line line' (Some (Indexed a)) lift behind ok =
      (ok.0, ok.1, lift a ok.0 ok.2, behind a.sequence (sym (ap sequence_in ok.1)) ok.3)

  pub load_lift : (g g' : Ground) (block_writes block_writes' : ℕ → BlockWrites) (o : Option (Load C))
      → ((h : ℕ) (a : Address) (x : Outcome C) → IsGood rules g block_writes h a x → IsGood rules g' block_writes' h a x)
      → ((l : Load C) → IsPromised rules g block_writes l → l.ticket.address.filling ≡ g'.filling l.ticket.address.block → ReadStateHolds rules g' l.ticket.address l.read_state)
      → LoadOk rules g block_writes o → LoadOk rules g' block_writes' o
  load_lift g g' block_writes block_writes' None lift read_state ok = tt
  load_lift g g' block_writes block_writes' (Some l) lift read_state ok =
      record {
        outcome = ok.outcome;
        promise = ok.promise;
        good = lift l.ticket.hash l.ticket.address ok.outcome ok.good;
        read_state = read_state l ok;
      }
