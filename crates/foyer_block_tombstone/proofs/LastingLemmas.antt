-- A mark that was put, and no later one overwrote.
use Rattle.std.proofs.Common.{◌≡◌, ◌≢◌, ℕ, zero, suc, ◌+◌, ◌%◌, ◌<◌, ◌≤◌, ◌==◌, ◌⊎◌, inl, inr, Bool, true, false, if◌then◌else◌, List, [], ◌∷◌, ◌++◌, length, refl, sym, ap, ◌∙◌, subst, arith, Option, Some, None}
use Rattle.std.specs.Prelude.{slice_get, Contains, unwrap_or}
use Rattle.std.proofs.lemmas.Bool.{eqb-true}
use Rattle.std.proofs.lemmas.List.Elements.{Contains-append_left, Contains-append_right, Contains-push}
use Rattle.std.proofs.lemmas.Option.{slice_get_within}
use Rattle.std.proofs.Math.Nat.{mod-lt}
use Rattle.foyer_block_index.specs.declared.tombstone.Tombstone.{Tombstone}
use Rattle.foyer_format_layout.specs.Each.{Each}
use Rattle.foyer_block_tombstone.specs.Lasting.{Append, AreAppended, IsLastInSlot, MarksLast, Spares}
use Rattle.foyer_block_tombstone.specs.Ring.{IsPut, marks_of}
use Rattle.foyer_block_tombstone.proofs.RoundLemmas.{le_or_lt}

-- the mark of the last slot is listed
last_listed : (ring : ℕ → Tombstone) (n : ℕ) → (ring n).sequence ≢ 0 → Contains (marks_of ring (suc n)) (ring n)
last_listed ring n filled = go ((ring n).sequence == 0) refl
  where
    go : (t : Bool) → ((ring n).sequence == 0) ≡ t → Contains (marks_of ring n ++ (if t then [] else ring n ∷ [])) (ring n)
    go true e = absurd (filled (eqb-true (ring n).sequence 0 e))
    go false e = Contains-push (marks_of ring n) (ring n)

-- and so is that of each other
slot_listed : (ring : ℕ → Tombstone) (n i : ℕ) → i < n → (ring i).sequence ≢ 0 → Contains (marks_of ring n) (ring i)
slot_listed ring zero i lt filled = absurd (omega arith)
slot_listed ring (suc n) i lt filled =
    elim (le_or_lt n i) [
      | inl le ↦
          let is : n ≡ i = omega arith in
          subst (λ j. (ring j).sequence ≢ 0 → Contains (marks_of ring (suc n)) (ring j)) is (last_listed ring n) filled
      | inr less ↦
          Contains-append_left (marks_of ring n) (if (ring n).sequence == 0 then [] else ring n ∷ []) (ring i) (slot_listed ring n i less filled)
    ]

-- a slot that appends spare has what it had
slot_stays : (slots i : ℕ) (old new : ℕ → Tombstone) (appends : List Append) → i < slots → AreAppended slots old appends new
    → Each (Spares slots i) appends → new i ≡ old i
slot_stays slots i old new [] lt put spared = put i lt
slot_stays slots i old new (append ∷ appends) lt put spared =
    slot_stays slots i put.0 new appends lt put.2 spared.1 ∙ put.1.kept i lt spared.0

some_is : (x y : Tombstone) → Some x ≡ Some y → y ≡ x
some_is x y e = ap (λ (o : Option Tombstone). unwrap_or o x) (sym e)

pub mark_lasts : MarksLast
mark_lasts slots start old between new marks k mark appends some put is filled last after spared =
    let i = (start + k) % slots in
    let lt : i < slots = mod-lt (start + k) some in
    let there : mark ≡ between i = some_is (between i) mark (sym (put.last k (slice_get_within marks k mark is) last) ∙ is) in
    let stays : new i ≡ mark = slot_stays slots i between new appends lt after spared ∙ sym there in
    subst (λ m. Contains (marks_of new slots) m) stays
    (slot_listed new slots i lt (subst (λ (m : Tombstone). m.sequence ≢ 0) (sym stays) filled))
