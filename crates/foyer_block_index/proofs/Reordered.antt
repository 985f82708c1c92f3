-- Insertions of different hashes commute: a batch in another order, in which the entries of each hash stand as before, leaves the same index.
use Rattle.std.proofs.Common.{◌≡◌, ℕ, ◌≤◌, ◌%◌, ◌==◌, ◌&&◌, not, Bool, true, false, cond, Option, Some, IsSome, List, [], ◌∷◌, length, slice_index, filter, IsPermutation, Ordering, Less, Equal, Greater, refl, sym, ap, subst, ◌∙◌, nat_cmp}
use Rattle.std.specs.Cmp.{nat_cmp_total, nat_eq_equiv}
use Rattle.std.specs.FinMap as map
use Rattle.std.specs.FinMap.{nat_cmp-IsAntisymmetric, same_map}
use Rattle.std.specs.List.Sorted.{ties, IsStableByKey}
use Rattle.std.specs.Ordering.{is_lt, ordering_reverse}
use Rattle.std.proofs.lemmas.Bool.{eqb-true}
use Rattle.std.proofs.lemmas.List.Sorted.{All-permutation, sum_by-IsPermutation}
use Rattle.foyer_block_index.specs.declared.indexer.HashedEntryAddress.{HashedEntryAddress}
use Rattle.foyer_block_index.specs.declared.indexer.Index.{Index}
use Rattle.foyer_block_index.specs.declared.indexer.Index.TheVariants.{Address}
use Rattle.foyer_block_index.specs.Index.{IndexMap, HasRoomFor}
use Rattle.foyer_block_index.specs.Insertion.{entered, inserted, inserted_all, of_hash, AllHeld}
use Rattle.foyer_block_index.proofs.Indexed.{get-inserted}

-- what a hash has after the insertion of its entries
abbrev pub held_after : Option Index → List HashedEntryAddress → Option Index
held_after o [] = o
held_after o (e ∷ es) = held_after (Some (entered o (Address e.address))) es

pub get-inserted_all : (m : IndexMap) (es : List HashedEntryAddress) (q : ℕ) → map.get (inserted_all m es) q ≡ held_after (map.get m q) (of_hash q es)
get-inserted_all m [] q = refl
get-inserted_all m (e ∷ es) q = get-inserted_all (inserted m e.hash (Address e.address)) es q
    ∙ ap (λ o. held_after o (of_hash q es)) (get-inserted m e.hash (Address e.address) q)
    ∙ go (e.hash == q) refl
  where
    go : (b : Bool) → (e.hash == q) ≡ b
        → held_after (cond (q == e.hash) (Some (entered (map.get m e.hash) (Address e.address))) (map.get m q)) (of_hash q es) ≡ held_after (map.get m q) (cond b (e ∷ of_hash q es) (of_hash q es))
    go true is =
        ap (λ b. held_after (cond b (Some (entered (map.get m e.hash) (Address e.address))) (map.get m q)) (of_hash q es)) (nat_eq_equiv.symm q e.hash ∙ is)
        ∙ ap (λ k. held_after (Some (entered (map.get m k) (Address e.address))) (of_hash q es)) (eqb-true e.hash q is)
    go false is =
        ap (λ b. held_after (cond b (Some (entered (map.get m e.hash) (Address e.address))) (map.get m q)) (of_hash q es)) (nat_eq_equiv.symm q e.hash ∙ is)

pub inserted_reordered : (m : IndexMap) (xs ys : List HashedEntryAddress) → ((q : ℕ) → of_hash q xs ≡ of_hash q ys) → inserted_all m xs ≡ inserted_all m ys
inserted_reordered m xs ys same = same_map nat_cmp_total nat_cmp-IsAntisymmetric _ _ (λ q.
    get-inserted_all m xs q ∙ ap (held_after (map.get m q)) (same q) ∙ sym (get-inserted_all m ys q))

-- what a filter keeps of what a wider one keeps
filter_within : (p wider : HashedEntryAddress → Bool) → ((e : HashedEntryAddress) → p e ≡ true → wider e ≡ true) → (es : List HashedEntryAddress) → filter p (filter wider es) ≡ filter p es
filter_within p wider into [] = refl
filter_within p wider into (e ∷ es) = go (p e) (wider e) refl refl (filter_within p wider into es)
  where
    go : (a b : Bool) → p e ≡ a → wider e ≡ b → filter p (filter wider es) ≡ filter p es → filter p (cond (wider e) (e ∷ filter wider es) (filter wider es)) ≡ cond (p e) (e ∷ filter p es) (filter p es)
    go a true here there so_far = ap (λ t. filter p (cond t (e ∷ filter wider es) (filter wider es))) there ∙ ap (λ l. cond (p e) (e ∷ l) l) so_far
    go true false here there so_far = absurd (let clash : true ≡ false = sym (into e here) ∙ there in cc)
    go false false here there so_far = ap (λ t. filter p (cond t (e ∷ filter wider es) (filter wider es))) there ∙ so_far ∙ sym (ap (λ t. cond t (e ∷ filter p es) (filter p es)) here)

abbrev entry_of : ℕ → HashedEntryAddress
entry_of hash = record { hash = hash; address = record { block = 0; offset = 0; len = 0; sequence = 0; filling = 0 } }

-- a number isn't below itself
not_below_itself : (k : ℕ) → is_lt (nat_cmp k k) ≡ false
not_below_itself k = go (nat_cmp k k) (nat_cmp_total.antisymm k k)
  where
    go : (o : Ordering) → o ≡ ordering_reverse o → is_lt o ≡ false
    go Less is = absurd (cc)
    go Equal is = refl
    go Greater is = refl

-- entries of one hash belong in one shard
tied : (n q : ℕ) (e : HashedEntryAddress) → (e.hash == q) ≡ true → ties (λ a b. is_lt (nat_cmp (a.hash % n) (b.hash % n))) (entry_of q) e ≡ true
tied n q e is =
    ap (λ k. not (is_lt (nat_cmp (q % n) (k % n))) && not (is_lt (nat_cmp (k % n) (q % n)))) (eqb-true e.hash q is)
    ∙ ap (λ b. not b && not b) (not_below_itself (q % n))

-- in a batch that was sorted by shard, stably, the entries of each hash stand as before
pub as_before : (n : ℕ) (xs ys : List HashedEntryAddress) → IsStableByKey (λ (e : HashedEntryAddress). e.hash % n) nat_cmp xs ys → (q : ℕ) → of_hash q ys ≡ of_hash q xs
as_before n xs ys stable q =
    let p = λ (e : HashedEntryAddress). e.hash == q in
    let tie = ties (λ (a b : HashedEntryAddress). is_lt (nat_cmp (a.hash % n) (b.hash % n))) (entry_of q) in
    sym (filter_within p tie (tied n q) ys) ∙ ap (filter p) (stable (entry_of q)) ∙ filter_within p tie (tied n q) xs

-- a batch in another order
module _ (xs ys : List HashedEntryAddress) (moved : IsPermutation xs ys) where
  pub held_moved : (m : IndexMap) → AllHeld m xs → AllHeld m ys
  held_moved m held = All-permutation (λ e. IsSome (map.get m e.hash)) xs ys moved held

  pub room_moved : (rooms : List ℕ) → HasRoomFor rooms xs → HasRoomFor rooms ys
  room_moved rooms room i lt =
      let as_many = sum_by-IsPermutation (λ (e : HashedEntryAddress). cond (e.hash % length rooms == i) 1 0) xs ys moved in
      subst (λ k. k ≤ slice_index rooms i) (sym as_many) (room i lt)
