-- Halving: what a step leaves, and how many turns it takes.
use Rattle.std.proofs.Common.{◌≡◌, ◌≢◌, ℕ, zero, suc, ◌+◌, ◌*◌, ◌<◌, ◌≤◌, ◌/◌, ◌^◌, List, [], ◌∷◌, length, slice_get, slice_index, Some, refl, sym, ap, subst, arith}
use Rattle.std.specs.List.Sorted.{IsStrictlyIncreasing}
use Rattle.std.proofs.Common.{Bool, true, false, ◌==◌}
use Rattle.std.proofs.Math.Dec.{ltb}
use Rattle.std.proofs.Math.Nat.{pow-suc}
use Rattle.std.proofs.lemmas.Bool.{eqb-true, eqb-false, ltb-true, ltb-false}
use Rattle.std.proofs.lemmas.List.Kept.{AllPairs-from_increasing}

pub halved : (size left : ℕ) → 0 < size → size < 2 ^ left → (rest : ℕ) × (rest + 1 ≡ left) × (size / 2 < 2 ^ rest)
halved size zero some lt = absurd (omega arith)
halved size (suc rest) some lt = let twice : 2 ^ suc rest ≡ 2 ^ rest * 2 = pow-suc 2 rest in (rest, omega arith, omega arith)

-- what is known of the turns still holds after one more turn if at most half is left
pub turns_on : (len old turns new size half : ℕ) → 0 < size → half ≤ size / 2 → new ≤ turns + 1
    → ((digits : ℕ) → len < 2 ^ digits → (left : ℕ) × (size < 2 ^ left) × (turns + left ≤ old + digits))
    → (digits : ℕ) → len < 2 ^ digits → (left : ℕ) × (half < 2 ^ left) × (new + left ≤ old + digits)
turns_on len old turns new size half some falls more known digits fits =
    let before = known digits fits in
    let after = halved size before.0 some before.1 in
    let rest : after.0 + 1 ≡ before.0 = after.1 in
    let small : size / 2 < 2 ^ after.0 = after.2 in
    let bound : turns + before.0 ≤ old + digits = before.2 in
    (after.0, omega arith, omega arith)

-- what stands before a place that is below is below too, and what stands behind one that is above is above
pub all_below : (xs : List ℕ) (place hash : ℕ) → IsStrictlyIncreasing xs → place < length xs → slice_index xs place < hash → (k : ℕ) → k < place + 1 → slice_index xs k < hash
all_below xs place hash up within lt k less = go (k == place) refl
  where
    go : (b : Bool) → (k == place) ≡ b → slice_index xs k < hash
    go true e = subst (λ j. slice_index xs j < hash) (sym (eqb-true k place e)) lt
    go false e =
        let ne : k ≢ place = eqb-false k place e in
        let before : slice_index xs k < slice_index xs place = AllPairs-from_increasing xs up k place 0 (omega arith) within in omega arith

pub all_above : (xs : List ℕ) (place hash : ℕ) → IsStrictlyIncreasing xs → hash < slice_index xs place → (k : ℕ) → place ≤ k → k < length xs → hash < slice_index xs k
all_above xs place hash up gt k more within = go (k == place) refl
  where
    go : (b : Bool) → (k == place) ≡ b → hash < slice_index xs k
    go true e = subst (λ j. hash < slice_index xs j) (sym (eqb-true k place e)) gt
    go false e =
        let ne : k ≢ place = eqb-false k place e in
        let after : slice_index xs place < slice_index xs k = AllPairs-from_increasing xs up place k 0 (omega arith) within in omega arith

pub got_index : (xs : List ℕ) (k x : ℕ) → slice_get xs k ≡ Some x → (k < length xs) × (slice_index xs k ≡ x)
got_index [] k x at = absurd (cc)
got_index (y ∷ ys) zero x at = (omega arith, let same : y ≡ x = cc in same)
got_index (y ∷ ys) (suc k) x at = let rest = got_index ys k x at in let within : k < length ys = rest.0 in (omega arith, rest.1)

pub index_got : (xs : List ℕ) (k x : ℕ) → k < length xs → slice_index xs k ≡ x → slice_get xs k ≡ Some x
index_got [] k x lt is = absurd (omega arith)
index_got (y ∷ ys) zero x lt is = ap Some is
index_got (y ∷ ys) (suc k) x lt is = index_got ys k x (omega arith) is

-- a hash that is above all before a place and below all from it on stands nowhere
pub lacks_at_gap : (xs : List ℕ) (place hash : ℕ) → ((k : ℕ) → k < place → slice_index xs k < hash) → ((k : ℕ) → place ≤ k → k < length xs → hash < slice_index xs k)
    → (k : ℕ) → slice_get xs k ≢ Some hash
lacks_at_gap xs place hash below above k at = go (ltb k place) refl
  where
    found : (k < length xs) × (slice_index xs k ≡ hash)
    found = got_index xs k hash at

    within : k < length xs
    within = found.0

    here : slice_index xs k ≡ hash
    here = found.1

    go : (b : Bool) → ltb k place ≡ b → ⊥
    go true e = let before : k < place = ltb-true k place e in let less : slice_index xs k < hash = below k before in omega (arith, here)
    go false e = let from : place ≤ k = ltb-false k place e in let more : hash < slice_index xs k = above k from within in omega (arith, here)
