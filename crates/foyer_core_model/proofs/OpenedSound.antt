-- An opened world is sound.
use Rattle.std.proofs.Common.{◌≡◌, ℕ, zero, suc, ◌+◌, ◌<◌, ◌≤◌, ◌==◌, Bool, true, false, if◌then◌else◌, List, [], ◌∷◌, Option, Some, None, inl, inr, refl, sym, ap, subst, ◌∙◌, arith}
use Rattle.std.proofs.lemmas.Bool.{eqb-true, eqb-false}
use Rattle.foyer_core_model.specs.Numbers.{put}
use Rattle.foyer_core_model.specs.Ids.{ids, is_id_in, AreDistinct}
use Rattle.foyer_core_model.specs.Record.{Address, Slot, Indexed, Mark, Outcome}
use Rattle.foyer_core_model.specs.State.{BlockSet, Clean, Writes, Evictable, Reclaims, State}
use Rattle.foyer_core_model.specs.Rules.{Rules}
use Rattle.foyer_format_layout.specs.Position.{MayWrite}
use Rattle.foyer_format_layout.specs.BlockBytes.{read}
use Rattle.foyer_core_model.specs.Event.{Event, Put, sequence_in, newest}
use Rattle.foyer_core_model.specs.World.{World}
use Rattle.foyer_core_model.specs.Opened.{slot_among, recovered, IsAlone, IsFound, AllFound, is_clean, clean_among, IsOpened}
use Rattle.foyer_core_model.proofs.Ids.{same_in, later_in, in_cases, in_append}
use Rattle.foyer_core_model.proofs.Invariant.{ground_of, WritesSpare, line_of, SlotOk, LoadOk, FlusherInvariant, WorldInvariant}
use Rattle.foyer_core_model.proofs.CommitSteps.{newest_put, newest_other}
use Rattle.foyer_core_model.proofs.Sets.{AreSets}

newest_alone : {C : Type 0} (rules : Rules C) (bytes : ℕ → ℕ → ℕ) (h : ℕ) (ps : List (ℕ × Address)) → IsAlone h ps → newest h (recovered rules bytes ps) ≡ None
newest_alone rules bytes h [] alone = refl
newest_alone rules bytes h (p ∷ ps) alone =
    newest_other p.0 (p.1).sequence (rules.pair_of (read (bytes (p.1).block) (p.1).offset (p.1).len) p.0 (p.1).sequence) (recovered rules bytes ps) h alone.0
    ∙ newest_alone rules bytes h ps alone.1

abbrev HasPut : {C : Type 0} → Rules C → (ℕ → ℕ → ℕ) → ℕ → Option (Event C) → Option Slot → Type 0
HasPut rules bytes h e None = e ≡ None
HasPut rules bytes h e (Some (Mark s)) = ⊥
HasPut rules bytes h e (Some (Indexed a)) = e ≡ Some (Put h a.sequence (rules.pair_of (read (bytes a.block) a.offset a.len) h a.sequence))

has_put : {C : Type 0} (rules : Rules C) (core : State C) (bytes : ℕ → ℕ → ℕ) (h : ℕ) (ps : List (ℕ × Address)) → AllFound rules core ps
    → HasPut rules bytes h (newest h (recovered rules bytes ps)) (slot_among h ps)
has_put rules core bytes h [] all = refl
has_put {C} rules core bytes h (p ∷ ps) all = go (p.0 == h) refl (has_put rules core bytes h ps all.2)
  where
    x : Outcome C
    x = rules.pair_of (read (bytes (p.1).block) (p.1).offset (p.1).len) p.0 (p.1).sequence

    go : (t : Bool) → (p.0 == h) ≡ t → HasPut rules bytes h (newest h (recovered rules bytes ps)) (slot_among h ps)
        → HasPut rules bytes h (newest h (Put p.0 (p.1).sequence x ∷ recovered rules bytes ps)) (if t then Some (Indexed p.1) else slot_among h ps)
    go true e rest =
        subst (λ k. newest k (Put p.0 (p.1).sequence x ∷ recovered rules bytes ps) ≡ Some (Put k (p.1).sequence (rules.pair_of (read (bytes (p.1).block) (p.1).offset (p.1).len) k (p.1).sequence)))
        (eqb-true p.0 h e)
        (newest_put p.0 (p.1).sequence x (recovered rules bytes ps) (let none : sequence_in (newest p.0 (recovered rules bytes ps)) ≡ 0 = ap sequence_in (newest_alone rules bytes p.0 ps all.1) in omega arith))
    go false e rest =
        subst (λ k. HasPut rules bytes h k (slot_among h ps)) (sym (newest_other p.0 (p.1).sequence x (recovered rules bytes ps) h (λ at. eqb-false p.0 h e at))) rest

-- what an opening gives a hash
pub record IsRecovered {C : Type 0} (rules : Rules C) (w : World C) (h : ℕ) (a : Address) : Type 0 where
  pub found : IsFound rules w.core h a
  pub event : newest h w.history ≡ Some (Put h a.sequence (rules.pair_of (read (w.bytes a.block) a.offset a.len) h a.sequence))

abbrev pub FoundOk : {C : Type 0} → Rules C → World C → ℕ → Option Slot → Type 0
FoundOk rules w h None = newest h w.history ≡ None
FoundOk rules w h (Some (Mark s)) = ⊥
FoundOk rules w h (Some (Indexed a)) = IsRecovered rules w h a

abbrev IsThere : {C : Type 0} → Rules C → State C → ℕ → Option Slot → Type 0
IsThere rules core h None = Unit {0}
IsThere rules core h (Some (Mark s)) = ⊥
IsThere rules core h (Some (Indexed a)) = IsFound rules core h a

is_there : {C : Type 0} (rules : Rules C) (core : State C) (h : ℕ) (ps : List (ℕ × Address)) → AllFound rules core ps → IsThere rules core h (slot_among h ps)
is_there rules core h [] all = tt
is_there rules core h (p ∷ ps) all = go (p.0 == h) refl (is_there rules core h ps all.2)
  where
    go : (t : Bool) → (p.0 == h) ≡ t → IsThere rules core h (slot_among h ps) → IsThere rules core h (if t then Some (Indexed p.1) else slot_among h ps)
    go true e rest = subst (λ k. IsFound rules core k p.1) (eqb-true p.0 h e) all.0
    go false e rest = rest

module _ {C : Type 0} (rules : Rules C) where
  both_ok : (w : World C) (h : ℕ) (slot : Option Slot) → IsThere rules w.core h slot → HasPut rules w.bytes h (newest h w.history) slot → FoundOk rules w h slot
  both_ok w h None there put = put
  both_ok w h (Some (Mark s)) there put = absurd put
  both_ok w h (Some (Indexed a)) there put = record { found = there; event = put }

  pub found_ok : (w : World C) → IsOpened rules w → (h : ℕ) → FoundOk rules w h (w.core.index h)
  found_ok w first h =
      subst (FoundOk rules w h) (sym (first.index h))
      (both_ok w h (slot_among h first.found) (is_there rules w.core h first.found first.all)
      (subst (λ H. HasPut rules w.bytes h (newest h H) (slot_among h first.found)) (sym first.history) (has_put rules w.core w.bytes h first.found first.all)))

  opened_slot : (w : World C) → IsOpened rules w → (h : ℕ) (slot : Option Slot) → FoundOk rules w h slot → SlotOk rules (ground_of w) w.block_writes w.history h [] slot
  opened_slot w first h None found = tt
  opened_slot w first h (Some (Mark s)) found = absurd found
  opened_slot w first h (Some (Indexed a)) it = (
    rules.pair_of (read (w.bytes a.block) a.offset a.len) h a.sequence,
    it.event,
    record {
      older = (let e : a.filling ≡ 0 = it.found.filling in omega arith);
      solid = λ _. record {
        outcome = refl;
        shut = λ o inside. subst (λ f. MayWrite rules.index_size f o → ⊥) (sym (first.filled a.block))
            (λ may. elim may [
              | inl past ↦ (let end : a.offset + rules.page_up a.len ≤ rules.block_size = it.found.within in
                  let low : rules.block_size + 0 ≤ o = past in let high : o < a.offset + rules.page_up a.len = inside.1 in absurd (omega arith))
              | inr blob ↦ (let end : a.offset + rules.page_up a.len ≤ rules.block_size = it.found.within in
                  let high : o < a.offset + rules.page_up a.len = inside.1 in let low : rules.block_size ≤ o = blob.0 in absurd (omega arith))
            ]);
        spared = λ f. subst (λ p. WritesSpare rules a p) (sym (first.block_writes f)) tt;
        past = (let b : rules.index_size ≤ a.offset = it.found.behind in let c : 4096 ≤ rules.index_size = rules.index_holds_page in omega arith);
      };
    },
    tt,
  )

  below_next : (w : World C) → IsOpened rules w → (h : ℕ) (slot : Option Slot) → FoundOk rules w h slot → sequence_in (newest h w.history) < w.core.next
  below_next w first h None found = subst (λ e. sequence_in e < w.core.next) (sym found) first.first
  below_next w first h (Some (Mark s)) found = absurd found
  below_next w first h (Some (Indexed a)) it = subst (λ e. sequence_in e < w.core.next) (sym it.event) it.found.sequence

  pub new_sound : (w : World C) → IsOpened rules w → WorldInvariant rules w
  new_sound w first =
      record {
        slots = λ h f routed. subst (λ φ. SlotOk rules (ground_of w) w.block_writes w.history h (line_of φ) (w.core.index h)) (sym (first.flushers f))
            (opened_slot w first h (w.core.index h) (found_ok w first h));
        loads = λ n. subst (λ l. LoadOk rules (ground_of w) w.block_writes l) (sym (first.loads n)) tt;
        flushers = λ f. subst (λ φ. FlusherInvariant rules (ground_of w) w.core.place w.core.next f φ (w.block_writes f)) (sym (first.flushers f))
            (record {
              order = record { received = 0; queued = 0; batch = omega arith; batch_marks = tt; buffer = omega arith; marks = tt; queue = omega arith };
              batch = tt;
              batch_marks = tt;
              buffer = tt;
              marks = tt;
              queue = tt;
              split = tt;
              context = refl;
              owned = λ b p. absurd (let e : None ≡ Some b = p in cc);
              spare = λ b p. absurd (let e : None ≡ Some b = p in cc);
              either = λ b c p q. absurd (let e : None ≡ Some b = p in cc);
              writing = first.block_writes f;
            });
        next = λ h. below_next w first h (w.core.index h) (found_ok w first h);
      }

  clean_in : (place : ℕ → BlockSet) (bs : List ℕ) (b : ℕ) → is_id_in b (clean_among place bs) ≡ true → (place b ≡ Clean) × (is_id_in b bs ≡ true)
  clean_in place [] b is = absurd (let e : false ≡ true = is in cc)
  clean_in place (c ∷ bs) b is = go (place c) refl is (clean_in place bs b)
    where
      later : is_id_in b bs ≡ true → is_id_in b (c ∷ bs) ≡ true
      later = later_in b c bs

      go : (p : BlockSet) → place c ≡ p → is_id_in b (if is_clean p then c ∷ clean_among place bs else clean_among place bs) ≡ true
          → (is_id_in b (clean_among place bs) ≡ true → (place b ≡ Clean) × (is_id_in b bs ≡ true)) → (place b ≡ Clean) × (is_id_in b (c ∷ bs) ≡ true)
      go Clean at h rec =
          elim (in_cases b c (clean_among place bs) h) [
            | inl e ↦ (ap place e ∙ at, subst (λ k. is_id_in b (k ∷ bs) ≡ true) e (same_in b bs))
            | inr there ↦ (let r : (place b ≡ Clean) × (is_id_in b bs ≡ true) = rec there in (r.0, later r.1))
          ]
      go (Writes f) at h rec = let r : (place b ≡ Clean) × (is_id_in b bs ≡ true) = rec h in (r.0, later r.1)
      go Evictable at h rec = let r : (place b ≡ Clean) × (is_id_in b bs ≡ true) = rec h in (r.0, later r.1)
      go Reclaims at h rec = let r : (place b ≡ Clean) × (is_id_in b bs ≡ true) = rec h in (r.0, later r.1)

  pub ids_below : (n b : ℕ) → is_id_in b (ids n) ≡ true → b < n
  ids_below zero b is = absurd (let e : false ≡ true = is in cc)
  ids_below (suc n) b is = elim (in_append b n (ids n) is) [
    | inl there ↦ (let lt : b < n = ids_below n b there in omega arith)
    | inr at ↦ omega arith
  ]

  pub new_sets : (w : World C) → IsOpened rules w → AreSets rules w.core
  new_sets w first = record {
    clean = λ b is. let r : (w.core.place b ≡ Clean) × (is_id_in b (ids rules.blocks) ≡ true) =
        clean_in w.core.place (ids rules.blocks) b (subst (λ l. is_id_in b l ≡ true) first.clean is) in (r.0, ids_below rules.blocks b r.1);
    waiting = λ f is. absurd (let e : false ≡ true = subst (λ l. is_id_in f l ≡ true) first.waiting is in cc);
    distinct = subst AreDistinct (sym first.waiting) tt;
    own = λ f b is. absurd (let e : None ≡ Some b = sym (ap (λ φ. φ.own) (first.flushers f)) ∙ is in cc);
    ready = λ f b is. absurd (let e : None ≡ Some b = sym (ap (λ φ. φ.ready) (first.flushers f)) ∙ is in cc);
    filling = λ b. let e : w.core.filling b ≡ 0 = first.filling b in omega arith;
  }
