-- The loops over the entries of an index.
use Rattle.std.proofs.Common.{◌≡◌, ℕ, zero, suc, ◌+◌, ◌<◌, Bool, true, false, List, [], ◌∷◌, ◌++◌, map, take, drop, length, slice_index_or, refl, ap, subst, arith}
use Rattle.std.specs.List.{AllZip}
use Rattle.foyer_block_index.specs.declared.indexer.HashedEntryAddress.{HashedEntryAddress}
use Rattle.foyer_core_steps.specs.Reclaiming.{chosen, left_in}

-- what holds of each pair so far holds of one pair more
zipped_next : {X Y : Type 0} (R : X → Y → Type 0) (xs : List X) (i : ℕ) (d : X) (ys : List Y) (y : Y)
    → i < length xs → AllZip R (take i xs) ys → R (slice_index_or xs i d) y → AllZip R (take (suc i) xs) (ys ++ y ∷ [])
zipped_next R [] i d ys y lt all one = absurd (omega arith)
zipped_next R (x ∷ xs) zero d [] y lt all one = (one, tt)
zipped_next R (x ∷ xs) zero d (z ∷ ys) y lt all one = absurd all
zipped_next R (x ∷ xs) (suc i) d [] y lt all one = absurd all
zipped_next R (x ∷ xs) (suc i) d (z ∷ ys) y lt all one = (all.0, zipped_next R xs i d ys y (omega arith) all.1 one)

pub zipped_more : {X Y : Type 0} (R : X → Y → Type 0) (xs : List X) (i : ℕ) (d : X) (ys : List Y) (y : Y)
    → i < length xs → AllZip R (take i xs) ys → R (slice_index_or xs i d) y → AllZip R (take (i + 1) xs) (ys ++ y ∷ [])
zipped_more R xs i d ys y lt all one =
    let next : suc i ≡ i + 1 = omega arith in
    subst (λ k. AllZip R (take k xs) (ys ++ y ∷ [])) next (zipped_next R xs i d ys y lt all one)

-- an entry that is admitted comes next
chosen_here : {X Y : Type 0} (f : X → Y) (vs : List Bool) (xs : List X) (i : ℕ) (d : X) (t : Bool) → i < length xs → length vs ≡ length xs
    → slice_index_or vs i t ≡ true
    → chosen (drop i vs) (map f (drop i xs)) ≡ f (slice_index_or xs i d) ∷ chosen (drop (suc i) vs) (map f (drop (suc i) xs))
chosen_here f vs [] i d t lt same is = absurd (omega arith)
chosen_here f [] (x ∷ xs) i d t lt same is = absurd (cc)
chosen_here f (v ∷ vs) (x ∷ xs) zero d t lt same is = ap (λ k. chosen (k ∷ vs) (f x ∷ map f xs)) is
chosen_here f (v ∷ vs) (x ∷ xs) (suc i) d t lt same is = chosen_here f vs xs i d t (omega arith) (omega arith) is

pub chosen_one : {X Y : Type 0} (f : X → Y) (vs : List Bool) (xs : List X) (i : ℕ) (d : X) (t : Bool) → i < length xs → length vs ≡ length xs
    → slice_index_or vs i t ≡ true
    → chosen (drop i vs) (map f (drop i xs)) ≡ f (slice_index_or xs i d) ∷ chosen (drop (i + 1) vs) (map f (drop (i + 1) xs))
chosen_one f vs xs i d t lt same is =
    let next : suc i ≡ i + 1 = omega arith in
    subst (λ k. chosen (drop i vs) (map f (drop i xs)) ≡ f (slice_index_or xs i d) ∷ chosen (drop k vs) (map f (drop k xs))) next (chosen_here f vs xs i d t lt same is)

-- and one that isn't doesn't
chosen_past : {X Y : Type 0} (f : X → Y) (vs : List Bool) (xs : List X) (i : ℕ) (t : Bool) → i < length xs → length vs ≡ length xs
    → slice_index_or vs i t ≡ false
    → chosen (drop i vs) (map f (drop i xs)) ≡ chosen (drop (suc i) vs) (map f (drop (suc i) xs))
chosen_past f vs [] i t lt same is = absurd (omega arith)
chosen_past f [] (x ∷ xs) i t lt same is = absurd (cc)
chosen_past f (v ∷ vs) (x ∷ xs) zero t lt same is = ap (λ k. chosen (k ∷ vs) (f x ∷ map f xs)) is
chosen_past f (v ∷ vs) (x ∷ xs) (suc i) t lt same is = chosen_past f vs xs i t (omega arith) (omega arith) is

pub chosen_none : {X Y : Type 0} (f : X → Y) (vs : List Bool) (xs : List X) (i : ℕ) (t : Bool) → i < length xs → length vs ≡ length xs
    → slice_index_or vs i t ≡ false
    → chosen (drop i vs) (map f (drop i xs)) ≡ chosen (drop (i + 1) vs) (map f (drop (i + 1) xs))
chosen_none f vs xs i t lt same is =
    let next : suc i ≡ i + 1 = omega arith in
    subst (λ k. chosen (drop i vs) (map f (drop i xs)) ≡ chosen (drop k vs) (map f (drop k xs))) next (chosen_past f vs xs i t lt same is)

-- one entry less is left
left_next : {X : Type 0} (xs : List X) (i : ℕ) → i < length xs → length (drop i xs) ≡ length (drop (suc i) xs) + 1
left_next [] i lt = absurd (omega arith)
left_next (x ∷ xs) zero lt = omega arith
left_next (x ∷ xs) (suc i) lt = left_next xs i (omega arith)

pub less_left : {X : Type 0} (xs : List X) (i : ℕ) → i < length xs → length (drop i xs) ≡ length (drop (i + 1) xs) + 1
less_left xs i lt =
    let next : suc i ≡ i + 1 = omega arith in
    subst (λ k. length (drop i xs) ≡ length (drop k xs) + 1) next (left_next xs i lt)

-- one of a list that is put behind another
pub put_behind : {X : Type 0} (xs : List X) (y : X) (ys : List X) → xs ++ y ∷ ys ≡ (xs ++ y ∷ []) ++ ys
put_behind [] y ys = refl
put_behind (x ∷ xs) y ys = ap (λ l. x ∷ l) (put_behind xs y ys)

-- nothing is left out of a list if nothing was queued
pub nothing_out : (requeued listed : List HashedEntryAddress) → length requeued ≡ 0 → listed ≡ left_in requeued listed
nothing_out (r ∷ rs) listed none = absurd (omega arith)
nothing_out [] listed none = go listed
  where
    go : (l : List HashedEntryAddress) → l ≡ left_in [] l
    go [] = refl
    go (e ∷ es) = ap (λ l. e ∷ l) (go es)
