-- What a search, a write and a sweep of a shard's entries leave for each hash.
use Rattle.std.proofs.Common.{◌≡◌, ◌≢◌, ℕ, zero, suc, ◌+◌, ◌<◌, Bool, true, false, not, cond, IsSome, Option, Some, None, List, [], ◌∷◌, ◌++◌, filter, length, nat_eq, get_or, slice_get, slice_set, slice_index, if◌then◌else◌, refl, sym, ap, subst, ◌∙◌, arith}
use Rattle.std.specs.Map.{lookup}
use Rattle.std.specs.List.{AllByRecursion}
use Rattle.std.specs.List.Sorted.{IsStrictlyIncreasing}
use Rattle.std.proofs.lemmas.Bool.{eqb-true, eqb-false, eq-eqb}
use Rattle.std.proofs.lemmas.List.Kept.{AllPairs-from_increasing}
use Rattle.foyer_block_index.specs.declared.shard.Entry.{Entry}
use Rattle.foyer_block_index.specs.declared.shard.Slot.{Slot}
use Rattle.foyer_block_index.specs.declared.shard.Slot.TheVariants.{Vacant, Address, Tombstone}
use Rattle.foyer_block_index.specs.declared.indexer.Index.{Index}
use Rattle.foyer_block_index.specs.Entries.{held_by, is_vacant, hashes, pair_of, pairs, held_in}
use Rattle.foyer_block_index.specs.Probe.{Lacks, HasPlace}

-- ascending, by recursion
abbrev pub Ascends : List Entry → Type 0
Ascends [] = Unit {0}
Ascends (e ∷ es) = AllByRecursion (λ f. e.hash < f.hash) es × Ascends es

-- each hash is below all behind it
abbrev Far : List ℕ → Type 0
Far xs = (i j : ℕ) → i < j → j < length xs → slice_index xs i < slice_index xs j

above_all : (h : ℕ) (es : List Entry) → Far (h ∷ hashes es) → AllByRecursion (λ f. h < f.hash) es
above_all h [] far = tt
above_all h (e ∷ es) far = (far 0 1 (omega arith) (omega arith), above_all h es (skipped (hashes es) far))
  where
    skipped : (xs : List ℕ) → Far (h ∷ (e.hash ∷ xs)) → Far (h ∷ xs)
    skipped xs far zero zero lt within = absurd (omega arith)
    skipped xs far zero (suc j) lt within = far 0 (suc (suc j)) (omega arith) (omega arith)
    skipped xs far (suc i) zero lt within = absurd (omega arith)
    skipped xs far (suc i) (suc j) lt within = far (suc (suc i)) (suc (suc j)) (omega arith) (omega arith)

ascends-far : (es : List Entry) → Far (hashes es) → Ascends es
ascends-far [] far = tt
ascends-far (e ∷ es) far = (above_all e.hash es far, ascends-far es (λ i j lt within. far (suc i) (suc j) (omega arith) (omega arith)))

pub ascends-from : (es : List Entry) → IsStrictlyIncreasing (hashes es) → Ascends es
ascends-from es up = ascends-far es (λ i j lt within. AllPairs-from_increasing (hashes es) up i j 0 lt within)

far-ascends : (es : List Entry) → Ascends es → Far (hashes es)
far-ascends [] up i j lt within = absurd (omega arith)
far-ascends (e ∷ es) up zero zero lt within = absurd (omega arith)
far-ascends (e ∷ es) up zero (suc j) lt within = below es j up.0 (omega arith)
  where
    below : (gs : List Entry) (k : ℕ) → AllByRecursion (λ f. e.hash < f.hash) gs → k < length (hashes gs) → e.hash < slice_index (hashes gs) k
    below [] k above less = absurd (omega arith)
    below (g ∷ gs) zero above less = above.0
    below (g ∷ gs) (suc k) above less = below gs k above.1 (omega arith)
far-ascends (e ∷ es) up (suc i) zero lt within = absurd (omega arith)
far-ascends (e ∷ es) up (suc i) (suc j) lt within = far-ascends es up.1 i j (omega arith) (omega arith)

pub ascends-to : (es : List Entry) → Ascends es → IsStrictlyIncreasing (hashes es)
ascends-to es up k lt = far-ascends es up k (k + 1) (omega arith) lt

-- ---- what a hash has

none_of : (q h : ℕ) (o : Option Index) (ps : List (ℕ × Index)) → q ≢ h → lookup (nat_eq q) (pair_of h o ++ ps) ≡ lookup (nat_eq q) ps
none_of q h None ps ne = refl
none_of q h (Some i) ps ne = go (nat_eq q h) refl
  where
    go : (b : Bool) → nat_eq q h ≡ b → cond (nat_eq q h) (Some i) (lookup (nat_eq q) ps) ≡ lookup (nat_eq q) ps
    go true e = absurd (ne (eqb-true q h e))
    go false e = ap (λ b. cond b (Some i) (lookup (nat_eq q) ps)) e

first_of : (h : ℕ) (o : Option Index) (ps : List (ℕ × Index)) → lookup (nat_eq h) ps ≡ None → lookup (nat_eq h) (pair_of h o ++ ps) ≡ o
first_of h None ps none = none
first_of h (Some i) ps none = ap (λ b. cond b (Some i) (lookup (nat_eq h) ps)) (eq-eqb h h refl)

-- a hash below all has nothing
below_all : (h : ℕ) (es : List Entry) → AllByRecursion (λ f. h < f.hash) es → held_in es h ≡ None
below_all h [] above = refl
below_all h (e ∷ es) above = none_of h e.hash (held_by e.slot) (pairs es) (λ is. let first : h < e.hash = above.0 in omega arith) ∙ below_all h es above.1

pub held-lacking : (es : List Entry) (q : ℕ) → Lacks (hashes es) q → held_in es q ≡ None
held-lacking [] q lacks = refl
held-lacking (e ∷ es) q lacks = none_of q e.hash (held_by e.slot) (pairs es) (λ is. lacks zero (ap Some (sym is))) ∙ held-lacking es q (λ k at. lacks (suc k) at)

later : (h : ℕ) (es : List Entry) (p q : ℕ) → AllByRecursion (λ f. h < f.hash) es → slice_get (hashes es) p ≡ Some q → h < q
later h [] p q above at = absurd (cc)
later h (e ∷ es) zero q above at = let same : e.hash ≡ q = cc in subst (λ x. h < x) same above.0
later h (e ∷ es) (suc p) q above at = later h es p q above.1 at

-- the hash of a place has what stands there
pub held-there : (es : List Entry) (p q : ℕ) (d : Entry) → Ascends es → slice_get (hashes es) p ≡ Some q → held_in es q ≡ held_by (get_or es p d).slot
held-there [] p q d up at = absurd (cc)
held-there (e ∷ es) zero q d up at =
    let same : e.hash ≡ q = cc in
    subst (λ x. held_in (e ∷ es) x ≡ held_by e.slot) same (first_of e.hash (held_by e.slot) (pairs es) (below_all e.hash es up.0))
held-there (e ∷ es) (suc p) q d up at =
    let lt : e.hash < q = later e.hash es p q up.0 at in
    none_of q e.hash (held_by e.slot) (pairs es) (λ is. omega arith) ∙ held-there es p q d up.1 at

-- a hash that has something has a place
pub held-has : (es : List Entry) (q : ℕ) → IsSome (held_in es q) → HasPlace (hashes es) q
held-has [] q some = absurd (cc)
held-has (e ∷ es) q some = go (nat_eq q e.hash) refl (held-has es q)
  where
    go : (b : Bool) → nat_eq q e.hash ≡ b → (IsSome (held_in es q) → HasPlace (hashes es) q) → HasPlace (hashes (e ∷ es)) q
    go true is rest = (zero, ap Some (sym (eqb-true q e.hash is)))
    go false is rest =
        let there = rest (subst IsSome (none_of q e.hash (held_by e.slot) (pairs es) (eqb-false q e.hash is)) some) in
        (suc there.0, there.1)

-- ---- a write at the place of a hash

pub hashes-written : (es : List Entry) (p q : ℕ) (s : Slot) → slice_get (hashes es) p ≡ Some q → hashes (slice_set es p (record { hash = q; slot = s })) ≡ hashes es
hashes-written [] p q s at = refl
hashes-written (e ∷ es) zero q s at = let same : e.hash ≡ q = cc in ap (λ x. x ∷ hashes es) (sym same)
hashes-written (e ∷ es) (suc p) q s at = ap (λ l. e.hash ∷ l) (hashes-written es p q s at)

pub held-written : (es : List Entry) (p h : ℕ) (s : Slot) → Ascends es → slice_get (hashes es) p ≡ Some h
    → (q : ℕ) → held_in (slice_set es p (record { hash = h; slot = s })) q ≡ (if nat_eq h q then held_by s else held_in es q)
held-written [] p h s up at q = absurd (cc)
held-written (e ∷ es) zero h s up at q = go (nat_eq h q) refl
  where
    same : e.hash ≡ h
    same = cc

    none : held_in es h ≡ None
    none = subst (λ x. held_in es x ≡ None) same (below_all e.hash es up.0)

    go : (b : Bool) → nat_eq h q ≡ b → held_in (record { hash = h; slot = s } ∷ es) q ≡ (if b then held_by s else held_in (e ∷ es) q)
    go true is = subst (λ x. held_in (record { hash = h; slot = s } ∷ es) x ≡ held_by s) (eqb-true h q is) (first_of h (held_by s) (pairs es) none)
    go false is =
        let ne : q ≢ h = λ e. eqb-false h q is (sym e) in
        none_of q h (held_by s) (pairs es) ne ∙ sym (none_of q e.hash (held_by e.slot) (pairs es) (λ f. ne (f ∙ same)))
held-written (e ∷ es) (suc p) h s up at q = go (held-written es p h s up.1 at q) (nat_eq q e.hash) refl
  where
    lt : e.hash < h
    lt = later e.hash es p h up.0 at

    apart : q ≡ e.hash → nat_eq h q ≡ false
    apart is = unequal (nat_eq h q) refl
      where
        unequal : (b : Bool) → nat_eq h q ≡ b → nat_eq h q ≡ false
        unequal true e = absurd (let same : h ≡ q = eqb-true h q e in omega (arith, lt))
        unequal false e = e

    here : q ≡ e.hash → (ps : List (ℕ × Index)) → lookup (nat_eq q) ps ≡ None → lookup (nat_eq q) (pair_of e.hash (held_by e.slot) ++ ps) ≡ held_by e.slot
    here is ps none = subst (λ x. lookup (nat_eq q) (pair_of x (held_by e.slot) ++ ps) ≡ held_by e.slot) is (first_of q (held_by e.slot) ps none)

    go : held_in (slice_set es p (record { hash = h; slot = s })) q ≡ (if nat_eq h q then held_by s else held_in es q)
        → (b : Bool) → nat_eq q e.hash ≡ b → held_in (e ∷ slice_set es p (record { hash = h; slot = s })) q ≡ (if nat_eq h q then held_by s else held_in (e ∷ es) q)
    go rest true is =
        let same : q ≡ e.hash = eqb-true q e.hash is in
        let none : held_in es q ≡ None = subst (λ x. held_in es x ≡ None) (sym same) (below_all e.hash es up.0) in
        let after : held_in (slice_set es p (record { hash = h; slot = s })) q ≡ None = rest ∙ ap (λ b. cond b (held_by s) (held_in es q)) (apart same) ∙ none in
        here same (pairs (slice_set es p (record { hash = h; slot = s }))) after ∙ sym (here same (pairs es) none)
        ∙ sym (ap (λ b. cond b (held_by s) (held_in (e ∷ es) q)) (apart same))
    go rest false is =
        let ne : q ≢ e.hash = eqb-false q e.hash is in
        none_of q e.hash (held_by e.slot) (pairs (slice_set es p (record { hash = h; slot = s }))) ne ∙ rest
        ∙ ap (λ o. cond (nat_eq h q) (held_by s) o) (sym (none_of q e.hash (held_by e.slot) (pairs es) ne))

-- ---- a sweep

all_filtered : (p : Entry → Bool) (h : ℕ) (es : List Entry) → AllByRecursion (λ f. h < f.hash) es → AllByRecursion (λ f. h < f.hash) (filter p es)
all_filtered p h [] above = tt
all_filtered p h (e ∷ es) above = go (all_filtered p h es above.1) (p e)
  where
    go : AllByRecursion (λ f. h < f.hash) (filter p es) → (b : Bool) → AllByRecursion (λ f. h < f.hash) (cond b (e ∷ filter p es) (filter p es))
    go rest true = (above.0, rest)
    go rest false = rest

pub ascends-filter : (p : Entry → Bool) (es : List Entry) → Ascends es → Ascends (filter p es)
ascends-filter p [] up = tt
ascends-filter p (e ∷ es) up = go (ascends-filter p es up.1) (p e)
  where
    go : Ascends (filter p es) → (b : Bool) → Ascends (cond b (e ∷ filter p es) (filter p es))
    go rest true = (all_filtered p e.hash es up.0, rest)
    go rest false = rest

vacant_pair : (h : ℕ) (s : Slot) → is_vacant s ≡ true → pair_of h (held_by s) ≡ []
vacant_pair h Vacant e = refl
vacant_pair h (Address a) e = absurd (cc)
vacant_pair h (Tombstone q) e = absurd (cc)

pub pairs-swept : (es : List Entry) → pairs (filter (λ e. not (is_vacant e.slot)) es) ≡ pairs es
pairs-swept [] = refl
pairs-swept (e ∷ es) = go (pairs-swept es) (is_vacant e.slot) refl
  where
    go : pairs (filter (λ e. not (is_vacant e.slot)) es) ≡ pairs es → (b : Bool) → is_vacant e.slot ≡ b → pairs (cond (not b) (e ∷ filter (λ e. not (is_vacant e.slot)) es) (filter (λ e. not (is_vacant e.slot)) es)) ≡ pairs (e ∷ es)
    go rest true is = rest ∙ sym (ap (λ l. l ++ pairs es) (vacant_pair e.hash e.slot is))
    go rest false is = ap (λ l. pair_of e.hash (held_by e.slot) ++ l) rest

-- each place that is left was there, and has something
pub place_swept : (es : List Entry) (q : ℕ) → HasPlace (hashes (filter (λ e. not (is_vacant e.slot)) es)) q → HasPlace (hashes es) q
place_swept [] q has = has
place_swept (e ∷ es) q has = go (is_vacant e.slot) (place_swept es q) has
  where
    go : (b : Bool) → (HasPlace (hashes (filter (λ e. not (is_vacant e.slot)) es)) q → HasPlace (hashes es) q)
        → HasPlace (hashes (cond (not b) (e ∷ filter (λ e. not (is_vacant e.slot)) es) (filter (λ e. not (is_vacant e.slot)) es))) q → HasPlace (hashes (e ∷ es)) q
    go true rest there = let at = rest there in (suc at.0, at.1)
    go false rest there = head there.0 there.1
      where
        head : (place : ℕ) → slice_get (hashes (e ∷ filter (λ e. not (is_vacant e.slot)) es)) place ≡ Some q → HasPlace (hashes (e ∷ es)) q
        head zero at = (zero, at)
        head (suc place) at = let behind = rest (place, at) in (suc behind.0, behind.1)

full_there : (es : List Entry) (p q : ℕ) (d : Entry) → slice_get (hashes (filter (λ e. not (is_vacant e.slot)) es)) p ≡ Some q → is_vacant (get_or (filter (λ e. not (is_vacant e.slot)) es) p d).slot ≡ false
full_there [] p q d at = absurd (cc)
full_there (e ∷ es) p q d at = go (is_vacant e.slot) refl (λ k there. full_there es k q d there) p at
  where
    go : (b : Bool) → is_vacant e.slot ≡ b → ((k : ℕ) → slice_get (hashes (filter (λ e. not (is_vacant e.slot)) es)) k ≡ Some q → is_vacant (get_or (filter (λ e. not (is_vacant e.slot)) es) k d).slot ≡ false)
        → (k : ℕ) → slice_get (hashes (cond (not b) (e ∷ filter (λ e. not (is_vacant e.slot)) es) (filter (λ e. not (is_vacant e.slot)) es))) k ≡ Some q
        → is_vacant (get_or (cond (not b) (e ∷ filter (λ e. not (is_vacant e.slot)) es) (filter (λ e. not (is_vacant e.slot)) es)) k d).slot ≡ false
    go true is rest k there = rest k there
    go false is rest zero there = is
    go false is rest (suc k) there = rest k there

has_if_full : (s : Slot) → is_vacant s ≡ false → IsSome (held_by s)
has_if_full Vacant e = absurd (cc)
has_if_full (Address a) e = refl
has_if_full (Tombstone q) e = refl

pub swept-filled : (es : List Entry) (q : ℕ) → Ascends es → HasPlace (hashes (filter (λ e. not (is_vacant e.slot)) es)) q → IsSome (held_in (filter (λ e. not (is_vacant e.slot)) es) q)
swept-filled es q up has =
    let d : Entry = record { hash = 0; slot = Vacant } in
    subst IsSome (sym (held-there (filter (λ e. not (is_vacant e.slot)) es) has.0 q d (ascends-filter (λ e. not (is_vacant e.slot)) es up) has.1))
    (has_if_full (get_or (filter (λ e. not (is_vacant e.slot)) es) has.0 d).slot (full_there es has.0 q d has.1))
