-- The newest mark stands last, whatever is appended.
use Rattle.std.proofs.Common.{◌≡◌, ◌≢◌, ℕ, zero, suc, ◌+◌, ◌-◌, ◌%◌, ◌<◌, ◌≤◌, ◌==◌, ◌⊎◌, inl, inr, Bool, true, false, List, [], ◌∷◌, length, refl, sym, ap, ◌∙◌, subst, arith, Option, Some, None}
use Rattle.std.specs.Prelude.{slice_get, unwrap_or}
use Rattle.std.proofs.lemmas.Bool.{eqb-true, eqb-false}
use Rattle.std.proofs.lemmas.Option.{slice_get_within}
use Rattle.std.proofs.Math.Nat.{mod-lt, mod-eq_of_lt, add-mod_right, mod-add-mod}
use Rattle.foyer_block_index.specs.declared.tombstone.Tombstone.{Tombstone}
use Rattle.foyer_block_tombstone.specs.Order.{AreOlder, GoesOnThere, IsGreatest, LastStandsLast, NewestStandsLast, Rises, StandsLast}
use Rattle.foyer_block_tombstone.specs.Ring.{GoesOnAt, IsEmpty, IsNewest, IsPut, no_mark}
use Rattle.foyer_block_tombstone.proofs.RoundLemmas.{le_or_lt, round_apart}

same_or_not : (a b : ℕ) → (a ≡ b) ⊎ (a ≢ b)
same_or_not a b = go (a == b) refl
  where
    go : (t : Bool) → (a == b) ≡ t → (a ≡ b) ⊎ (a ≢ b)
    go true is = inl (eqb-true a b is)
    go false is = inr (eqb-false a b is)

some_is : (x y : Tombstone) → Some x ≡ Some y → x ≡ y
some_is x y e = ap (λ (o : Option Tombstone). unwrap_or o x) e

-- the last of so many numbers that lands on a slot, or none does
pub record IsLastThere (n start slot len k : ℕ) : Type 0 where
  pub within : k < len
  pub lands : (start + k) % n ≡ slot
  pub later : (j : ℕ) → k < j → j < len → (start + j) % n ≢ slot

last_or_none : (n start slot len : ℕ) → ((k : ℕ) × IsLastThere n start slot len k) ⊎ ((k : ℕ) → k < len → (start + k) % n ≢ slot)
last_or_none n start slot zero = inr (λ k lt. absurd (omega arith))
last_or_none n start slot (suc len) =
    elim (same_or_not ((start + len) % n) slot) [
      | inl lands ↦ inl (len, record { within = omega arith; lands = lands; later = λ j after lt. absurd (omega arith) })
      | inr misses ↦ elim (last_or_none n start slot len) [
        | inl last ↦ inl (
          last.0,
          record {
            within = let lt : last.0 < len = last.1.within in omega arith;
            lands = last.1.lands;
            later = λ j after lt. elim (same_or_not j len) [
              | inl is ↦ subst (λ (x : ℕ). (start + x) % n ≢ slot) (sym is) misses
              | inr other ↦ last.1.later j after (omega arith)
            ];
          },
        )
        | inr none ↦ inr (λ k lt. elim (same_or_not k len) [
          | inl is ↦ subst (λ (x : ℕ). (start + x) % n ≢ slot) (sym is) misses
          | inr other ↦ none k (omega arith)
        ])
      ]
    ]

-- a mark that was put last into a slot stands there
put_there : (n start slot k : ℕ) (old new : ℕ → Tombstone) (marks : List Tombstone) → IsPut n old start marks new → IsLastThere n start slot (length marks) k → slice_get marks k ≡ Some (new slot)
put_there n start slot k old new marks put last =
    subst (λ (s : ℕ). slice_get marks k ≡ Some (new s)) last.lands (put.last k last.within (λ j after lt same. last.later j after lt (same ∙ last.lands)))

-- no slot has a greater sequence than the newest mark
at_most : (ring : ℕ → Tombstone) (n slot : ℕ) (newest : Tombstone) → StandsLast ring n slot newest → (j : ℕ) → j < n → (ring j).sequence ≤ newest.sequence
at_most ring n slot newest (inl none) j lt = let is : (ring j).sequence ≡ 0 = none.0 j lt in omega (arith, is)
at_most ring n slot newest (inr some) j lt =
    elim (same_or_not j some.0) [
      | inl is ↦
          let there : (ring j).sequence ≡ newest.sequence = ap (λ (x : ℕ). (ring x).sequence) is ∙ ap (λ (m : Tombstone). m.sequence) some.1.there in
          omega (arith, there)
      | inr other ↦ let less : (ring j).sequence < newest.sequence = some.1.others j lt other in omega (arith, less)
    ]

pub last_stands_last : LastStandsLast
last_stands_last n slot old new marks newest last some stands rises is newer put =
    let len = length marks in
    let near : len - 1 < len = slice_get_within marks (len - 1) last is in
    let i = (slot + (len - 1)) % n in
    let own : IsLastThere n slot i len (len - 1) = record { within = near; lands = refl; later = λ j after lt. absurd (omega arith) } in
    let there : new i ≡ last = some_is (new i) last (sym (put_there n slot i (len - 1) old new marks put own) ∙ is) in
    let round : (i + 1) % n ≡ (slot + (len - 1) + 1) % n = mod-add-mod (slot + (len - 1)) n 1 in
    let whole : slot + (len - 1) + 1 ≡ slot + len = omega arith in
    inr (
      i,
      record {
        within = mod-lt (slot + (len - 1)) some;
        filled = omega arith;
        there = there;
        others = λ j lt other. elim (last_or_none n slot j len) [
          | inl found ↦
              let at : slice_get marks found.0 ≡ Some (new j) = put_there n slot j found.0 old new marks put found.1 in
              let before : found.0 < len - 1 = elim (same_or_not found.0 (len - 1)) [
                | inl same ↦ absurd (other (sym found.1.lands ∙ ap (λ (k : ℕ). (slot + k) % n) same))
                | inr apart ↦ let lt : found.0 < len = found.1.within in omega arith
              ] in
              rises found.0 (len - 1) (new j) last before at is
          | inr none ↦
              let kept : (new j).sequence ≡ (old j).sequence = ap (λ (m : Tombstone). m.sequence) (put.kept j lt none) in
              let most : (old j).sequence ≤ newest.sequence = at_most old n slot newest stands j lt in
              omega (arith, kept, most, newer)
        ];
      },
      sym (round ∙ ap (λ (x : ℕ). x % n) whole),
    )

pub newest_stands_last : NewestStandsLast
newest_stands_last n slot old between new marks newest some few (inl none) older moved put =
    let len = length marks in
    let zero_is : newest.sequence ≡ 0 = ap (λ (m : Tombstone). m.sequence) none.1 in
    let i = (slot % n + (n - 1)) % n in
    elim (last_or_none n (slot % n + (n - 1)) i len) [
      | inl found ↦
          let at : slice_get marks found.0 ≡ Some (new i) = put_there n (slot % n + (n - 1)) i found.0 between new marks put found.1 in
          let less : (new i).sequence < newest.sequence = older found.0 (new i) at in
          absurd (omega (arith, zero_is, less))
      | inr missing ↦ absurd (missing 0 some (ap (λ (x : ℕ). x % n) (let plus : slot % n + (n - 1) + 0 ≡ slot % n + (n - 1) = omega arith in plus)))
    ]
newest_stands_last n slot old between new marks newest some few (inr stands) older moved put =
    let len = length marks in
    let b = slot % n in
    let i = (b + (len - 1)) % n in
    let one : IsLastThere n (b + (len - 1)) i (length (newest ∷ [])) 0 = record {
      within = omega arith;
      lands = ap (λ (x : ℕ). x % n) (let plus : b + (len - 1) + 0 ≡ b + (len - 1) = omega arith in plus);
      later = λ j after lt. absurd (omega arith);
    } in
    let first : newest ≡ between i = some_is newest (between i) (put_there n (b + (len - 1)) i 0 old between (newest ∷ []) moved one) in
    let spared : (k : ℕ) → k < len → (b + (n - 1) + k) % n ≢ i =
    λ k lt same.
    let apart : b + (len - 1) + n ≤ b + (n - 1) + k = round_apart (b + (len - 1)) (b + (n - 1) + k) n (sym same) (omega arith) in
    omega (arith, apart, lt, some) in
    let below : i < n = mod-lt (b + (len - 1)) (omega arith) in
    let there : new i ≡ newest = put.kept i below spared ∙ sym first in
    let before_is : (b + (n - 1)) % n ≡ stands.0 =
    ap (λ (x : ℕ). (x + (n - 1)) % n) stands.2 ∙ mod-add-mod (stands.0 + 1) n (n - 1)
    ∙ ap (λ (x : ℕ). x % n) (let sum : stands.0 + 1 + (n - 1) ≡ stands.0 + n = omega arith in sum) ∙ add-mod_right stands.0 n ∙ mod-eq_of_lt stands.1.within in
    let round : (i + 1) % n ≡ (b + (len - 1) + 1) % n = mod-add-mod (b + (len - 1)) n 1 in
    let whole : b + (len - 1) + 1 ≡ b + len = omega arith in
    inr (
      i,
      record {
        within = below;
        filled = stands.1.filled;
        there = there;
        others = λ j lt other. elim (last_or_none n (b + (n - 1)) j len) [
          | inl found ↦ older found.0 (new j) (put_there n (b + (n - 1)) j found.0 between new marks put found.1)
          | inr none ↦
              let kept : new j ≡ between j = put.kept j lt none in
              let stays : between j ≡ old j =
              moved.kept j lt (λ k within same.
              let at : b + (len - 1) + k ≡ b + (len - 1) = omega arith in
              other (sym same ∙ ap (λ (x : ℕ). x % n) at)) in
              let apart : j ≢ stands.0 = λ is. none 0 some (ap (λ (x : ℕ). x % n) (let plus : b + (n - 1) + 0 ≡ b + (n - 1) = omega arith in plus) ∙ before_is ∙ sym is) in
              let less : (old j).sequence < newest.sequence = stands.1.others j lt apart in
              subst (λ (m : Tombstone). m.sequence < newest.sequence) (sym (kept ∙ stays)) less
        ];
      },
      sym (round ∙ ap (λ (x : ℕ). x % n) whole ∙ mod-add-mod slot n len),
    )

pub goes_on_there : GoesOnThere
goes_on_there n slot again ring newest mark (inl none) (inl empty) = (ap (λ (x : ℕ). x % n) empty.1 ∙ sym none.2, empty.2 ∙ sym none.1)
goes_on_there n slot again ring newest mark (inl none) (inr some) =
    let filled : 0 < (ring some.0).sequence = some.1.filled in
    let is : (ring some.0).sequence ≡ 0 = none.0 some.0 some.1.within in
    absurd (omega (arith, filled, is))
goes_on_there n slot again ring newest mark (inr stands) (inl empty) =
    let is : (ring stands.0).sequence ≡ 0 = empty.0 stands.0 stands.1.within in
    let there : (ring stands.0).sequence ≡ newest.sequence = ap (λ (m : Tombstone). m.sequence) stands.1.there in
    let filled : 0 < newest.sequence = stands.1.filled in
    absurd (omega (arith, is, there, filled))
goes_on_there n slot again ring newest mark (inr stands) (inr some) =
    elim (same_or_not some.0 stands.0) [
      | inl is ↦ (
        ap (λ (x : ℕ). x % n) (some.2 ∙ ap (λ (x : ℕ). x + 1) is) ∙ sym stands.2,
        sym some.3 ∙ ap (λ (x : ℕ). ring x) is ∙ stands.1.there,
      )
      | inr other ↦
          let less : (ring some.0).sequence < newest.sequence = stands.1.others some.0 some.1.within other in
          let most : (ring stands.0).sequence ≤ (ring some.0).sequence = some.1.before stands.0 stands.1.within in
          let there : (ring stands.0).sequence ≡ newest.sequence = ap (λ (m : Tombstone). m.sequence) stands.1.there in
          absurd (omega (arith, less, most, there))
    ]
