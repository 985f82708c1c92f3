-- The rooms of an index are those of its shards.
use Rattle.std.proofs.Common.{◌≡◌, ℕ, zero, suc, ◌+◌, ◌<◌, ◌≤◌, ◌%◌, ◌==◌, Bool, true, false, Result, Ok, Err, IsOk, OnErr, List, [], ◌∷◌, ◌++◌, map, length, take, drop, slice_index, if◌then◌else◌, refl, sym, ap, subst, ◌∙◌, arith}
use Rattle.std.proofs.lemmas.Bool.{eqb-true}
use Rattle.std.proofs.lemmas.List.{length-map}
use Rattle.foyer_block_index.specs.declared.indexer.HashedEntryAddress.{HashedEntryAddress}
use Rattle.foyer_block_index.specs.Index.{IndexState, belonging, HasRoomAt, HasRoomFor, KeepsIndex}
use Rattle.foyer_block_index.specs.Shards.{Shard, spare_of, map_of, state_of, room, AreCountsOf, HasRoom, TakesOnePlace}

pub room_is : (shards : List Shard) (i : ℕ) → slice_index (map spare_of shards) i ≡ room shards i
room_is [] i = refl
room_is (shard ∷ shards) zero = refl
room_is (shard ∷ shards) (suc i) = room_is shards i

-- shards that have at each hash what they had, and no less room
pub keeps_index : (old new : List Shard) → map_of new ≡ map_of old → length new ≡ length old → ((i : ℕ) → room old i ≤ room new i) → KeepsIndex (state_of old) (state_of new)
keeps_index old new same len kept = (same, (length-map new spare_of ∙ len ∙ sym (length-map old spare_of), λ i. omega (arith, room_is old i, room_is new i, kept i)))

-- a hash's shard that has room
pub has_room_at : (shards : List Shard) (hash : ℕ) → HasRoomAt (state_of shards).rooms hash → 0 < room shards (hash % length shards)
has_room_at shards hash some =
    let there : 0 < slice_index (map spare_of shards) (hash % length shards) = subst (λ n. 0 < slice_index (map spare_of shards) (hash % n)) (length-map shards spare_of) some in
    subst (λ n. 0 < n) (room_is shards (hash % length shards)) there

-- an index whose shards have room for a batch
pub has_room_for : (shards : List Shard) (es : List HashedEntryAddress) → HasRoomFor (state_of shards).rooms es → HasRoom (length shards) shards es
has_room_for shards es room i lt =
    let rooms : length (map spare_of shards) ≡ length shards = length-map shards spare_of in
    let enough : belonging (length shards) i es ≤ slice_index (map spare_of shards) i = subst (λ k. belonging k i es ≤ slice_index (map spare_of shards) i) rooms (room i (omega arith)) in
    omega (arith, enough, room_is shards i)

-- shards that have room for each count of a batch have room for the batch
pub room_counted : (counts : List ℕ) (shards : List Shard) (n : ℕ) (es : List HashedEntryAddress) → AreCountsOf n counts es
    → ((i : ℕ) → i < n → 0 < belonging n i es → slice_index counts i ≤ room shards i) → HasRoom n shards es
room_counted counts shards n es counted enough i lt = go (belonging n i es) refl
  where
    go : (k : ℕ) → belonging n i es ≡ k → k ≤ room shards i
    go zero e = omega arith
    go (suc k) e =
        let some : 0 < belonging n i es = omega arith in
        let is : slice_index counts i ≡ belonging n i es = counted i lt some in
        let fits : slice_index counts i ≤ room shards i = enough i lt some in
        omega arith

-- an insertion is refused only if its shard has no room, so no shard has less room afterwards
pub refused_keeps : {T E : Type 0} (r : Result T E) (old new : List Shard) (hash : ℕ) → OnErr r (map_of new ≡ map_of old) → length new ≡ length old
    → (0 < room old (hash % length old) → IsOk r) → TakesOnePlace old new hash → OnErr r (KeepsIndex (state_of old) (state_of new))
refused_keeps (Ok x) old new hash same len succeeds takes = same
refused_keeps (Err e) old new hash same len succeeds takes = keeps_index old new same len (λ i. go i (hash % length old == i) refl (takes i))
  where
    go : (i : ℕ) (b : Bool) → (hash % length old == i) ≡ b → room old i ≤ room new i + (if b then 1 else 0) → room old i ≤ room new i
    go i false e falls = omega (arith, falls)
    go i true same falls = full (room old i) (room new i) (λ some. let bad = succeeds (subst (λ k. 0 < room old k) (sym (eqb-true (hash % length old) i same)) some) in cc)
      where
        full : (a b : ℕ) → (0 < a → ⊥) → a ≤ b
        full zero b is = omega arith
        full (suc a) b is = absurd (is (omega arith))

-- an index keeps what it has itself
pub kept_itself : (index : IndexState) → KeepsIndex index index
kept_itself index = (refl, (refl, λ i. omega arith))

-- what is written back of a list's slice
pub written_back : {X : Type 0} (n : ℕ) (xs ys : List X) → length xs ≡ n → take n (xs ++ drop (length xs) ys) ≡ xs
written_back {X} n xs ys len = subst (λ k. take k (xs ++ drop (length xs) ys) ≡ xs) len (take_left xs (drop (length xs) ys))
  where
    take_left : (xs ys : List X) → take (length xs) (xs ++ ys) ≡ xs
    take_left [] ys = refl
    take_left (x ∷ xs) ys = ap (λ l. x ∷ l) (take_left xs ys)

-- counts that are read are those that were written
pub counts_of : {n : ℕ} (m : ℕ) (read counts : List ℕ) (es : List HashedEntryAddress) → m ≡ n → read ≡ counts → AreCountsOf n counts es → AreCountsOf m read es
counts_of {n} m read counts es len same are =
    subst (λ k. AreCountsOf k read es) (sym len) (subst (λ (l : List ℕ). AreCountsOf n l es) (sym same) are)

-- what succeeds isn't refused
pub not_refused : {T E : Type 0} (r : Result T E) (e : E) → r ≡ Err e → IsOk r → ⊥
not_refused r e is ok = let bad = subst IsOk is ok in cc

-- a reservation for a batch is refused only if a shard has no room
pub refused_without_room : {T E : Type 0} (r : Result T E) (e : E) (state : IndexState) (shards : List Shard) (es : List HashedEntryAddress)
    → state_of shards ≡ state → (HasRoom (length shards) shards es → IsOk r) → r ≡ Err e → HasRoomFor state.rooms es → ⊥
refused_without_room r e state shards es view fits err some =
    let here : HasRoomFor (state_of shards).rooms es = subst (λ (s : IndexState). HasRoomFor s.rooms es) (sym view) some in
    not_refused r e err (fits (has_room_for shards es here))
