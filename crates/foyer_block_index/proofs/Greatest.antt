-- Of what is inserted for a hash the greatest sequence stays, the later among equals.
use Rattle.std.proofs.Common.{◌≡◌, ◌≢◌, ℕ, ◌<◌, ◌≤◌, ◌==◌, inl, inr, Bool, true, false, nat_le, if◌then◌else◌, Option, Some, None, MatchOption, List, [], ◌∷◌, ◌++◌, refl, sym, ap, subst, arith, append_assoc, append-nil}
use Rattle.std.specs.List.{AllByRecursion}
use Rattle.std.specs.FinMap as map
use Rattle.std.specs.FinMap.{get-empty}
use Rattle.std.specs.Ordering.{nat_cmp}
use Rattle.std.proofs.lemmas.Bool.{eqb-true, eqb-false, leb-true, leb-false}
use Rattle.foyer_block_index.specs.declared.indexer.EntryAddress.{EntryAddress}
use Rattle.foyer_block_index.specs.declared.indexer.HashedEntryAddress.{HashedEntryAddress}
use Rattle.foyer_block_index.specs.declared.indexer.Index.{Index}
use Rattle.foyer_block_index.specs.declared.indexer.Index.TheVariants.{Address, Tombstone}
use Rattle.foyer_block_index.specs.Index.{IndexMap}
use Rattle.foyer_block_index.specs.Insertion.{entered, inserted, inserted_all}
use Rattle.foyer_block_index.specs.Greatest.{IsAbsent, IsNewest, HoldsNewest}
use Rattle.foyer_block_index.proofs.Indexed.{get-inserted}

all-push : {X : Type 0} (P : X → Type 0) (xs : List X) (x : X) → AllByRecursion P xs → P x → AllByRecursion P (xs ++ x ∷ [])
all-push P [] x all p = (p, tt)
all-push P (y ∷ ys) x all p = (all.0, all-push P ys x all.1 p)

all-weaken : {X : Type 0} (P Q : X → Type 0) → ((x : X) → P x → Q x) → (xs : List X) → AllByRecursion P xs → AllByRecursion Q xs
all-weaken P Q f [] all = tt
all-weaken P Q f (x ∷ xs) all = (f x all.0, all-weaken P Q f xs all.1)

-- an insertion behind the newest, with a smaller sequence or of another hash
newest-push_below : (es : List HashedEntryAddress) (q : ℕ) (a : EntryAddress) (e : HashedEntryAddress) → IsNewest es q a
    → (e.hash ≡ q → e.address.sequence < a.sequence) → IsNewest (es ++ e ∷ []) q a
newest-push_below [] q a e newest below = absurd newest
newest-push_below (x ∷ xs) q a e (inl here) below = inl (here.0, all-push (λ later. later.hash ≡ q → later.address.sequence < a.sequence) xs e here.1 below)
newest-push_below (x ∷ xs) q a e (inr there) below = inr (newest-push_below xs q a e there.0 below, there.1)

-- an insertion behind what has no greater sequence
newest-push : (es : List HashedEntryAddress) (q : ℕ) (a : EntryAddress) → AllByRecursion (λ e. e.hash ≡ q → e.address.sequence ≤ a.sequence) es
    → IsNewest (es ++ record { hash = q; address = a } ∷ []) q a
newest-push [] q a all = inl (refl, tt)
newest-push (x ∷ xs) q a all = inr (newest-push xs q a all.1, all.0)

-- nothing has a greater sequence than the newest
newest-bounds : (es : List HashedEntryAddress) (q : ℕ) (a : EntryAddress) → IsNewest es q a → AllByRecursion (λ e. e.hash ≡ q → e.address.sequence ≤ a.sequence) es
newest-bounds [] q a newest = absurd newest
newest-bounds (x ∷ xs) q a (inl here) = (
  λ _. let same : x.address.sequence ≡ a.sequence = ap (λ e. e.address.sequence) here.0 in omega (arith, same),
  all-weaken (λ later. later.hash ≡ q → later.address.sequence < a.sequence) (λ e. e.hash ≡ q → e.address.sequence ≤ a.sequence) (λ e f is. omega (arith, f is)) xs here.1,
)
newest-bounds (x ∷ xs) q a (inr there) = (there.1, newest-bounds xs q a there.0)

Holds : List HashedEntryAddress → ℕ → Option Index → Type 0
Holds es q held = MatchOption held (IsAbsent es q) (HoldsNewest es q)

-- one more insertion, of the hash or of another
holds-other : (es : List HashedEntryAddress) (q : ℕ) (e : HashedEntryAddress) → e.hash ≢ q → (held : Option Index) → Holds es q held → Holds (es ++ e ∷ []) q held
unfolding Holds
holds-other es q e ne None h = all-push (λ e. e.hash ≢ q) es e h ne
holds-other es q e ne (Some (Address a)) h = newest-push_below es q a e h (λ is. absurd (ne is))
holds-other es q e ne (Some (Tombstone s)) h = h

holds-same : (es : List HashedEntryAddress) (q : ℕ) (a : EntryAddress) (held : Option Index) → Holds es q held
    → Holds (es ++ record { hash = q; address = a } ∷ []) q (Some (entered held (Address a)))
unfolding Holds
holds-same es q a None h = newest-push es q a (all-weaken (λ e. e.hash ≢ q) (λ e. e.hash ≡ q → e.address.sequence ≤ a.sequence) (λ e ne is. absurd (ne is)) es h)
holds-same es q a (Some (Tombstone s)) h = absurd h
holds-same es q a (Some (Address b)) h = go (nat_le b.sequence a.sequence) refl
  where
    go : (t : Bool) → nat_le b.sequence a.sequence ≡ t → HoldsNewest (es ++ record { hash = q; address = a } ∷ []) q (if t then Address a else Address b)
    go true e = newest-push es q a (all-weaken (λ e. e.hash ≡ q → e.address.sequence ≤ b.sequence) (λ e. e.hash ≡ q → e.address.sequence ≤ a.sequence)
        (λ x f is. omega (arith, leb-true b.sequence a.sequence e, f is)) es (newest-bounds es q b h))
    go false e = newest-push_below es q b (record { hash = q; address = a }) h (λ _. leb-false b.sequence a.sequence e)

holds-inserted : (m : IndexMap) (done : List HashedEntryAddress) (e : HashedEntryAddress) → ((q : ℕ) → Holds done q (map.get m q))
    → (q : ℕ) → Holds (done ++ e ∷ []) q (map.get (inserted m e.hash (Address e.address)) q)
holds-inserted m done e h q = subst (Holds (done ++ e ∷ []) q) (sym (get-inserted m e.hash (Address e.address) q)) (go (q == e.hash) refl)
  where
    go : (t : Bool) → (q == e.hash) ≡ t → Holds (done ++ e ∷ []) q (if t then Some (entered (map.get m e.hash) (Address e.address)) else map.get m q)
    go true is = subst (λ k. Holds (done ++ e ∷ []) k (Some (entered (map.get m e.hash) (Address e.address)))) (sym (eqb-true q e.hash is))
        (holds-same done e.hash e.address (map.get m e.hash) (h e.hash))
    go false is = holds-other done q e (λ same. eqb-false q e.hash is (sym same)) (map.get m q) (h q)

holds-all : (m : IndexMap) (done es : List HashedEntryAddress) → ((q : ℕ) → Holds done q (map.get m q)) → (q : ℕ) → Holds (done ++ es) q (map.get (inserted_all m es) q)
holds-all m done [] h q = subst (λ d. Holds d q (map.get m q)) (sym (append-nil done)) (h q)
holds-all m done (e ∷ es) h q = subst (λ d. Holds d q (map.get (inserted_all (inserted m e.hash (Address e.address)) es) q)) (append_assoc done (e ∷ []) es)
    (holds-all (inserted m e.hash (Address e.address)) (done ++ e ∷ []) es (holds-inserted m done e h) q)

pub greatest_stays : (es : List HashedEntryAddress) (q : ℕ) → MatchOption (map.get (inserted_all map.empty es) q) (IsAbsent es q) (HoldsNewest es q)
unfolding Holds
greatest_stays es q = holds-all map.empty [] es (λ q. subst (Holds [] q) (sym (get-empty nat_cmp q)) tt) q
