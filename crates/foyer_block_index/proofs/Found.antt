-- What the map of the shards has is what a hash has in its shard.
use Rattle.std.proofs.Common.{◌≡◌, ◌≢◌, ℕ, zero, suc, ◌+◌, ◌<◌, ◌≤◌, ◌%◌, ◌==◌, Bool, true, false, cond, IsTrue, ◌↔◌, Result, Ok, Err, OnOk, OnErr, IfOk, Option, Some, None, List, [], ◌∷◌, ◌++◌, filter, length, nat_eq, slice_get, slice_set, slice_index, slice_index_or, unwrap_or, option_and_then, if◌then◌else◌, refl, sym, ap, subst, ◌∙◌, arith, nat_cmp}
use Rattle.std.specs.Bool.{OnTrue, OnFalse}
use Rattle.std.specs.Option.{option_map}
use Rattle.std.specs.Map.{lookup}
use Rattle.std.specs.Ordering.{eq_by_cmp}
use Rattle.std.specs.Cmp.{nat_cmp_total, unsigned_tied, nat_eq_equiv}
use Rattle.std.specs.FinMap as map
use Rattle.std.specs.FinMap.{find, nat_cmp-IsAntisymmetric, same_map, get-from_entries, get-insert, get-remove, get-empty}
use Rattle.std.proofs.lemmas.Map.Entries.{lookup-filter-keys}
use Rattle.std.proofs.Math.Nat.{mod-eq_of_lt}
use Rattle.std.proofs.lemmas.Bool.{eqb-true, eqb-false, eq-eqb}
use Rattle.foyer_block_index.specs.declared.indexer.EntryAddress.{EntryAddress}
use Rattle.foyer_block_index.specs.declared.indexer.Index.{Index}
use Rattle.foyer_block_index.specs.Insertion.{entered, displaced, inserted}
use Rattle.std.proofs.Common.{IsSome}
use Rattle.std.specs.Option.{IsSomeAnd}
use Rattle.foyer_block_index.specs.Entries.{held_in, pairs}
use Rattle.foyer_block_index.specs.Shards.{Shard, spare_of, held_at, Has, Seated, entries_from, map_of, found, room}
use Rattle.foyer_block_index.proofs.Entries.{held-has}

find-lookup : {X : Type 0} (q : ℕ) (es : List (ℕ × X)) → find nat_cmp q es ≡ lookup (nat_eq q) es
find-lookup q [] = refl
find-lookup q (e ∷ es) = ap (λ b. cond b (Some e.1) (find nat_cmp q es)) (unsigned_tied q e.0) ∙ ap (cond (nat_eq q e.0) (Some e.1)) (find-lookup q es)

-- if the first list has nothing, the second one is asked
lookup-append_none : {X : Type 0} (test : ℕ → Bool) (xs ys : List (ℕ × X)) → lookup test xs ≡ None → lookup test (xs ++ ys) ≡ lookup test ys
lookup-append_none test [] ys none = refl
lookup-append_none test (x ∷ xs) ys none = go (test x.0) none (lookup-append_none test xs ys)
  where
    go : (b : Bool) → cond b (Some x.1) (lookup test xs) ≡ None → (lookup test xs ≡ None → lookup test (xs ++ ys) ≡ lookup test ys)
        → cond b (Some x.1) (lookup test (xs ++ ys)) ≡ lookup test ys
    go true none rest = cc
    go false none rest = rest none

-- if the second list has nothing, the first one decides
lookup-append_first : {X : Type 0} (test : ℕ → Bool) (xs ys : List (ℕ × X)) → lookup test ys ≡ None → lookup test (xs ++ ys) ≡ lookup test xs
lookup-append_first test [] ys none = none
lookup-append_first test (x ∷ xs) ys none = ap (cond (test x.0) (Some x.1)) (lookup-append_first test xs ys none)

-- the entries of a shard that belong there
lookup-own : (n i q : ℕ) (es : List (ℕ × Index)) → lookup (nat_eq q) (filter (λ e. e.0 % n == i) es) ≡ cond (q % n == i) (lookup (nat_eq q) es) None
lookup-own n i q es = lookup-filter-keys (nat_eq q) (λ k. k % n == i) (q % n == i) (λ k e. ap (λ x. x % n == i) (sym (eqb-true q k e))) es

cond_false : {X : Type 0} (b : Bool) (x y : X) → b ≡ false → cond b x y ≡ y
cond_false true x y e = cc
cond_false false x y e = refl

cond_true : {X : Type 0} (b : Bool) (x y : X) → b ≡ true → cond b x y ≡ x
cond_true true x y e = refl
cond_true false x y e = cc

unequal : (a b : ℕ) → a ≢ b → (a == b) ≡ false
unequal a b ne = go (a == b) refl
  where
    go : (t : Bool) → (a == b) ≡ t → (a == b) ≡ false
    go true e = absurd (ne (eqb-true a b e))
    go false e = e

-- later shards have nothing of a hash that belongs before them
lookup-later : (n i q : ℕ) (shards : List Shard) → q % n < i → lookup (nat_eq q) (entries_from n i shards) ≡ None
lookup-later n i q [] lt = refl
lookup-later n i q (shard ∷ shards) lt =
    let ne : q % n ≢ i = omega arith in
    let own : lookup (nat_eq q) (filter (λ e. e.0 % n == i) (pairs shard.entries)) ≡ None =
    lookup-own n i q (pairs shard.entries) ∙ cond_false (q % n == i) (held_at shard q) None (unequal (q % n) i ne) in
    lookup-append_none (nat_eq q) (filter (λ e. e.0 % n == i) (pairs shard.entries)) (entries_from n (suc i) shards) own
    ∙ lookup-later n (suc i) q shards (omega arith)

lookup-entries_from : (n i k q : ℕ) (shards : List Shard) → q % n ≡ k + i → lookup (nat_eq q) (entries_from n i shards) ≡ option_and_then (λ shard. held_at shard q) (slice_get shards k)
lookup-entries_from n i k q [] e = refl
lookup-entries_from n i zero q (shard ∷ shards) e =
    let here : q % n ≡ i = omega arith in
    lookup-append_first (nat_eq q) (filter (λ e. e.0 % n == i) (pairs shard.entries)) (entries_from n (suc i) shards) (lookup-later n (suc i) q shards (omega arith))
    ∙ lookup-own n i q (pairs shard.entries) ∙ cond_true (q % n == i) (held_at shard q) None (eq-eqb (q % n) i here)
lookup-entries_from n i (suc k) q (shard ∷ shards) e =
    let ne : q % n ≢ i = omega arith in
    let own : lookup (nat_eq q) (filter (λ e. e.0 % n == i) (pairs shard.entries)) ≡ None =
    lookup-own n i q (pairs shard.entries) ∙ cond_false (q % n == i) (held_at shard q) None (unequal (q % n) i ne) in
    lookup-append_none (nat_eq q) (filter (λ e. e.0 % n == i) (pairs shard.entries)) (entries_from n (suc i) shards) own
    ∙ lookup-entries_from n (suc i) k q shards (omega arith)

-- the map has what the shard has
pub get-map_of : (shards : List Shard) (q : ℕ) → map.get (map_of shards) q ≡ found shards q
get-map_of shards q = get-from_entries nat_cmp_total (entries_from (length shards) 0 shards) q ∙ find-lookup q (entries_from (length shards) 0 shards)
    ∙ lookup-entries_from (length shards) 0 (q % length shards) q shards (omega arith)

pub slice_get-set_same : {X : Type 0} (xs : List X) (i : ℕ) (x : X) → i < length xs → slice_get (slice_set xs i x) i ≡ Some x
slice_get-set_same [] i x lt = absurd (omega arith)
slice_get-set_same (y ∷ ys) zero x lt = refl
slice_get-set_same (y ∷ ys) (suc i) x lt = slice_get-set_same ys i x (omega arith)

pub slice_get-set_other : {X : Type 0} (xs : List X) (i j : ℕ) (x : X) → j ≢ i → slice_get (slice_set xs i x) j ≡ slice_get xs j
slice_get-set_other [] i j x ne = refl
slice_get-set_other (y ∷ ys) zero zero x ne = absurd (ne refl)
slice_get-set_other (y ∷ ys) zero (suc j) x ne = refl
slice_get-set_other (y ∷ ys) (suc i) zero x ne = refl
slice_get-set_other (y ∷ ys) (suc i) (suc j) x ne = slice_get-set_other ys i j x (λ e. ne (ap suc e))

pub length-slice_set : {X : Type 0} (xs : List X) (i : ℕ) (x : X) → length (slice_set xs i x) ≡ length xs
length-slice_set [] i x = refl
length-slice_set (y ∷ ys) zero x = refl
length-slice_set (y ∷ ys) (suc i) x = ap suc (length-slice_set ys i x)

pub slice_get_at : {X : Type 0} (xs : List X) (i : ℕ) (x : X) → i < length xs → x ≡ slice_index_or xs i x → slice_get xs i ≡ Some x
slice_get_at [] i x lt is = absurd (omega arith)
slice_get_at (y ∷ ys) zero x lt is = ap Some (sym is)
slice_get_at (y ∷ ys) (suc i) x lt is = slice_get_at ys i x (omega arith) is

-- the shard of a hash, at its place
pub record IsShardOf (shards : List Shard) (hash place : ℕ) (shard : Shard) : Type 0 where
  pub within : place < length shards
  pub belongs : hash % length shards ≡ place
  pub at : slice_get shards place ≡ Some shard

pub shard_of : (shards : List Shard) (hash n : ℕ) (shard : Shard) → n ≡ length shards → 0 < length shards → shard ≡ slice_index_or shards (hash % n) shard
    → IsShardOf shards hash (hash % n) shard
shard_of shards hash n shard len some is =
    let within : hash % n < length shards = omega arith in
    record { within = within; belongs = ap (λ k. hash % k) (sym len); at = slice_get_at shards (hash % n) shard within is }

module _ (shards : List Shard) (h p : ℕ) (old new : Shard) (own : IsShardOf shards h p old) where
  -- what the map has at the hash is what its shard has there
  pub get-here : map.get (map_of shards) h ≡ held_at old h
  get-here = get-map_of shards h ∙ ap (λ k. option_and_then (λ s. held_at s h) (slice_get shards k)) own.belongs ∙ ap (option_and_then (λ s. held_at s h)) own.at

  found-own : (q : ℕ) → q % length shards ≡ p → found shards q ≡ held_at old q
  found-own q e = ap (λ k. option_and_then (λ s. held_at s q) (slice_get shards k)) e ∙ ap (option_and_then (λ s. held_at s q)) own.at

  found-new : (q : ℕ) → q % length shards ≡ p → found (slice_set shards p new) q ≡ held_at new q
  found-new q e = ap (λ k. option_and_then (λ s. held_at s q) (slice_get (slice_set shards p new) (q % k))) (length-slice_set shards p new)
      ∙ ap (λ k. option_and_then (λ s. held_at s q) (slice_get (slice_set shards p new) k)) e
      ∙ ap (option_and_then (λ s. held_at s q)) (slice_get-set_same shards p new own.within)

  found-others : (q : ℕ) → q % length shards ≢ p → found (slice_set shards p new) q ≡ found shards q
  found-others q ne = ap (λ k. option_and_then (λ s. held_at s q) (slice_get (slice_set shards p new) (q % k))) (length-slice_set shards p new)
      ∙ ap (option_and_then (λ s. held_at s q)) (slice_get-set_other shards p (q % length shards) new ne)

  -- the shard has at the hash what w says, and else what it had: so has the map
  get-changed : (w : Option Index) → ((q : ℕ) → held_at new q ≡ cond (nat_eq h q) w (held_at old q))
      → (q : ℕ) → map.get (map_of (slice_set shards p new)) q ≡ cond (eq_by_cmp nat_cmp q h) w (map.get (map_of shards) q)
  get-changed w changes q =
      get-map_of (slice_set shards p new) q ∙ go (q % length shards == p) refl
      ∙ ap (λ b. cond b w (found shards q)) (nat_eq_equiv.symm h q ∙ sym (unsigned_tied q h))
      ∙ ap (cond (eq_by_cmp nat_cmp q h) w) (sym (get-map_of shards q))
    where
      apart : (b : Bool) → nat_eq h q ≡ b → q % length shards ≢ p → found shards q ≡ cond b w (found shards q)
      apart true same other = absurd (other (ap (λ x. x % length shards) (sym (eqb-true h q same)) ∙ own.belongs))
      apart false same other = refl

      go : (b : Bool) → (q % length shards == p) ≡ b → found (slice_set shards p new) q ≡ cond (nat_eq h q) w (found shards q)
      go true e =
          let is : q % length shards ≡ p = eqb-true (q % length shards) p e in
          found-new q is ∙ changes q ∙ ap (cond (nat_eq h q) w) (sym (found-own q is))
      go false e =
          let ne : q % length shards ≢ p = eqb-false (q % length shards) p e in
          found-others q ne ∙ apart (nat_eq h q) refl ne

  -- a value written at the hash is an insertion
  pub map_of-insert : (v : Index) → ((q : ℕ) → held_at new q ≡ cond (nat_eq h q) (Some v) (held_at old q))
      → map_of (slice_set shards p new) ≡ map.insert (map_of shards) h v
  map_of-insert v changes = same_map nat_cmp_total nat_cmp-IsAntisymmetric _ _ (λ q.
      get-changed (Some v) changes q ∙ sym (get-insert nat_cmp_total (map_of shards) h v q))

  -- a hash taken out of its shard is removed
  pub map_of-remove : ((q : ℕ) → held_at new q ≡ cond (nat_eq h q) None (held_at old q))
      → map_of (slice_set shards p new) ≡ map.remove (map_of shards) h
  map_of-remove changes = same_map nat_cmp_total nat_cmp-IsAntisymmetric _ _ (λ q.
      get-changed None changes q ∙ sym (get-remove nat_cmp_total (map_of shards) h q))

  -- a shard that has at each hash what it had leaves the map as it was
  pub map_of-same : ((q : ℕ) → held_at new q ≡ held_at old q) → map_of (slice_set shards p new) ≡ map_of shards
  map_of-same same = same_map nat_cmp_total nat_cmp-IsAntisymmetric _ _ (λ q.
      get-changed (held_at old h) (λ k. same k ∙ at k (nat_eq h k) refl) q ∙ back q (eq_by_cmp nat_cmp q h) refl)
    where
      at : (k : ℕ) (b : Bool) → nat_eq h k ≡ b → held_at old k ≡ cond b (held_at old h) (held_at old k)
      at k true e = ap (held_at old) (sym (eqb-true h k e))
      at k false e = refl

      back : (q : ℕ) (b : Bool) → eq_by_cmp nat_cmp q h ≡ b → cond b (held_at old h) (map.get (map_of shards) q) ≡ map.get (map_of shards) q
      back q true e = sym get-here ∙ ap (map.get (map_of shards)) (sym (eqb-true q h (sym (unsigned_tied q h) ∙ e)))
      back q false e = refl

  -- the room of the shards, if that of one falls by one at most
  pub room-slice_set : spare_of old ≤ spare_of new + 1 → (s : ℕ) → room shards s ≤ room (slice_set shards p new) s + (if h % length shards == s then 1 else 0)
  room-slice_set falls s = go (h % length shards == s) refl
    where
      go : (b : Bool) → (h % length shards == s) ≡ b → room shards s ≤ room (slice_set shards p new) s + (if b then 1 else 0)
      go true e =
          let is : p ≡ s = sym own.belongs ∙ eqb-true (h % length shards) s e in
          let was : room shards p ≡ spare_of old = ap (λ o. unwrap_or (option_map spare_of o) 0) own.at in
          let now : room (slice_set shards p new) p ≡ spare_of new = ap (λ o. unwrap_or (option_map spare_of o) 0) (slice_get-set_same shards p new own.within) in
          subst (λ k. room shards k ≤ room (slice_set shards p new) k + 1) is (omega (arith, was, now, falls))
      go false e =
          let ne : s ≢ p = λ is. eqb-false (h % length shards) s e (own.belongs ∙ sym is) in
          let same : room (slice_set shards p new) s ≡ room shards s = ap (λ o. unwrap_or (option_map spare_of o) 0) (slice_get-set_other shards p s new ne) in
          omega (arith, same)

  pub room-here : room shards (h % length shards) ≡ spare_of old
  room-here = ap (room shards) own.belongs ∙ ap (λ o. unwrap_or (option_map spare_of o) 0) own.at

  -- an insertion into the shard is one into the map
  module _ {E : Type 0} (r : Result (Option EntryAddress) E) (next : Index) where
    pub inserted_here : OnOk r ((q : ℕ) → held_at new q ≡ (if nat_eq h q then Some (entered (held_at old h) next) else held_at old q))
        → OnOk r (map_of (slice_set shards p new) ≡ inserted (map_of shards) h next)
    inserted_here is = go r is
      where
        go : (r : Result (Option EntryAddress) E) → OnOk r ((q : ℕ) → held_at new q ≡ (if nat_eq h q then Some (entered (held_at old h) next) else held_at old q))
            → OnOk r (map_of (slice_set shards p new) ≡ inserted (map_of shards) h next)
        go (Ok answer) is = map_of-insert (entered (held_at old h) next) is ∙ ap (λ o. map.insert (map_of shards) h (entered o next)) (sym get-here)
        go (Err e) is = is

    pub answered_here : IfOk r (λ answer. answer ≡ displaced (held_at old h) next) → IfOk r (λ answer. answer ≡ displaced (map.get (map_of shards) h) next)
    answered_here is = go r is
      where
        go : (r : Result (Option EntryAddress) E) → IfOk r (λ answer. answer ≡ displaced (held_at old h) next) → IfOk r (λ answer. answer ≡ displaced (map.get (map_of shards) h) next)
        go (Ok answer) is = is ∙ ap (λ o. displaced o next) (sym get-here)
        go (Err e) is = is

    pub refused_here : OnErr r ((q : ℕ) → held_at new q ≡ held_at old q) → OnErr r (map_of (slice_set shards p new) ≡ map_of shards)
    refused_here is = go r is
      where
        go : (r : Result (Option EntryAddress) E) → OnErr r ((q : ℕ) → held_at new q ≡ held_at old q) → OnErr r (map_of (slice_set shards p new) ≡ map_of shards)
        go (Ok answer) is = is
        go (Err e) is = map_of-same is

  -- what a call that answers whether it acted leaves
  pub removed_here : (b : Bool) → OnTrue b ((q : ℕ) → held_at new q ≡ (if nat_eq h q then None else held_at old q))
      → OnTrue b (map_of (slice_set shards p new) ≡ map.remove (map_of shards) h)
  removed_here true is = map_of-remove is
  removed_here false is = is

  pub replaced_here : (v : Index) (b : Bool) → OnTrue b ((q : ℕ) → held_at new q ≡ (if nat_eq h q then Some v else held_at old q))
      → OnTrue b (map_of (slice_set shards p new) ≡ map.insert (map_of shards) h v)
  replaced_here v true is = map_of-insert v is
  replaced_here v false is = is

  pub unchanged_here : (b : Bool) → OnFalse b ((q : ℕ) → held_at new q ≡ held_at old q) → OnFalse b (map_of (slice_set shards p new) ≡ map_of shards)
  unchanged_here true is = is
  unchanged_here false is = map_of-same is

  pub holds_here : (b : Bool) (v : Index) → IsTrue b ↔ (held_at old h ≡ Some v) → IsTrue b ↔ (map.get (map_of shards) h ≡ Some v)
  holds_here b v is = (λ t. get-here ∙ is.0 t, λ e. is.1 (sym get-here ∙ e))

no_value : (o : Option Shard) (q : ℕ) → ((s : Shard) → o ≡ Some s → s.entries ≡ []) → option_and_then (λ s. held_at s q) o ≡ None
no_value None q none = refl
no_value (Some s) q none = ap (λ es. held_in es q) (none s refl)

-- if no shard has an entry, the map is empty
pub map_of-no_entries : (shards : List Shard) → ((k : ℕ) (s : Shard) → slice_get shards k ≡ Some s → s.entries ≡ []) → map_of shards ≡ map.empty
map_of-no_entries shards none = same_map nat_cmp_total nat_cmp-IsAntisymmetric _ _ (λ q.
    get-map_of shards q ∙ no_value (slice_get shards (q % length shards)) q (none (q % length shards)) ∙ sym (get-empty nat_cmp q))

-- a shard without entries in the next place, by a write or by a push
pub no_entries-slice_set : (shards : List Shard) (i : ℕ) (empty : Shard) → i < length shards → empty.entries ≡ []
    → ((k : ℕ) (s : Shard) → k < i → slice_get shards k ≡ Some s → s.entries ≡ [])
    → (k : ℕ) (s : Shard) → k < i + 1 → slice_get (slice_set shards i empty) k ≡ Some s → s.entries ≡ []
no_entries-slice_set shards i empty within none before k s lt at = go (k == i) refl
  where
    same : k ≡ i → empty ≡ s
    same e = let here : slice_get (slice_set shards i empty) k ≡ Some empty = ap (slice_get (slice_set shards i empty)) e ∙ slice_get-set_same shards i empty within in cc

    go : (b : Bool) → (k == i) ≡ b → s.entries ≡ []
    go true e = ap (λ t. t.entries) (sym (same (eqb-true k i e))) ∙ none
    go false e =
        let ne : k ≢ i = eqb-false k i e in
        before k s (omega arith) (sym (slice_get-set_other shards i k empty ne) ∙ at)

pub no_entries-push : (shards : List Shard) (empty : Shard) → empty.entries ≡ []
    → ((k : ℕ) (s : Shard) → slice_get shards k ≡ Some s → s.entries ≡ [])
    → (k : ℕ) (s : Shard) → slice_get (shards ++ empty ∷ []) k ≡ Some s → s.entries ≡ []
no_entries-push [] empty none before zero s at = let same : empty ≡ s = cc in ap (λ t. t.entries) (sym same) ∙ none
no_entries-push [] empty none before (suc k) s at = cc
no_entries-push (t ∷ ts) empty none before zero s at = before zero s at
no_entries-push (t ∷ ts) empty none before (suc k) s at = no_entries-push ts empty none (λ j u e. before (suc j) u e) k s at

-- a shard that has at each hash what it had, whatever its place
pub map_of-place : (shards : List Shard) (p : ℕ) (old new : Shard) → p < length shards → old ≡ slice_index_or shards p old
    → ((q : ℕ) → held_at new q ≡ held_at old q) → map_of (slice_set shards p new) ≡ map_of shards
map_of-place shards p old new within is same =
    map_of-same shards p p old new (record { within = within; belongs = mod-eq_of_lt within; at = slice_get_at shards p old within is }) same

-- room for the count of one shard
pub room-reserved : (counts : List ℕ) (shards : List Shard) (p : ℕ) (new : Shard) → p < length shards → slice_index counts p ≤ spare_of new
    → (s : ℕ) → (s ≢ p → slice_index counts s ≤ room shards s) → slice_index counts s ≤ room (slice_set shards p new) s
room-reserved counts shards p new within enough s before = go (s == p) refl
  where
    go : (b : Bool) → (s == p) ≡ b → slice_index counts s ≤ room (slice_set shards p new) s
    go true e =
        let is : p ≡ s = sym (eqb-true s p e) in
        let now : room (slice_set shards p new) p ≡ spare_of new = ap (λ o. unwrap_or (option_map spare_of o) 0) (slice_get-set_same shards p new within) in
        subst (λ k. slice_index counts k ≤ room (slice_set shards p new) k) is (omega (arith, now, enough))
    go false e =
        let ne : s ≢ p = eqb-false s p e in
        let same : room (slice_set shards p new) s ≡ room shards s = ap (λ o. unwrap_or (option_map spare_of o) 0) (slice_get-set_other shards p s new ne) in
        omega (arith, same, before ne)

-- a shard whose room doesn't fall, whatever its place
pub room-place : (shards : List Shard) (p : ℕ) (old new : Shard) → p < length shards → old ≡ slice_index_or shards p old
    → spare_of old ≤ spare_of new → (s : ℕ) → room shards s ≤ room (slice_set shards p new) s
room-place shards p old new within is falls s = go (s == p) refl
  where
    go : (b : Bool) → (s == p) ≡ b → room shards s ≤ room (slice_set shards p new) s
    go true e =
        let same : p ≡ s = sym (eqb-true s p e) in
        let was : room shards p ≡ spare_of old = ap (λ o. unwrap_or (option_map spare_of o) 0) (slice_get_at shards p old within is) in
        let now : room (slice_set shards p new) p ≡ spare_of new = ap (λ o. unwrap_or (option_map spare_of o) 0) (slice_get-set_same shards p new within) in
        subst (λ k. room shards k ≤ room (slice_set shards p new) k) same (omega (arith, was, now, falls))
    go false e =
        let ne : s ≢ p = eqb-false s p e in
        let same : room (slice_set shards p new) s ≡ room shards s = ap (λ o. unwrap_or (option_map spare_of o) 0) (slice_get-set_other shards p s new ne) in
        omega (arith, same)

-- the room of the shard at a place is that shard's
pub room-at : (shards : List Shard) (p : ℕ) (old : Shard) → p < length shards → old ≡ slice_index_or shards p old → room shards p ≡ spare_of old
room-at shards p old within is = ap (λ o. unwrap_or (option_map spare_of o) 0) (slice_get_at shards p old within is)

-- the room of each shard is at least what it was, and is so still after a call of one
pub kept_on : (before shards : List Shard) (p : ℕ) (old new : Shard) → p < length shards → old ≡ slice_index_or shards p old → spare_of old ≤ spare_of new
    → ((s : ℕ) → room before s ≤ room shards s) → (s : ℕ) → room before s ≤ room (slice_set shards p new) s
kept_on before shards p old new within is falls kept s = omega (arith, kept s, room-place shards p old new within is falls s)

-- what a hash has stands in its shard
pub held_there : (shards : List Shard) (p h : ℕ) (shard : Shard) → p < length shards → shard ≡ slice_index_or shards p shard → h % length shards ≡ p
    → IsSome (map.get (map_of shards) h) → Has shard h
held_there shards p h shard within is belongs some =
    let own : IsShardOf shards h p shard = record { within = within; belongs = belongs; at = slice_get_at shards p shard within is } in
    held-has shard.entries h (subst IsSome (get-here shards h p shard shard own) some)

-- a shard that keeps its places
module _ (shards : List Shard) (p : ℕ) (old new : Shard) (within : p < length shards) (is : old ≡ slice_index_or shards p old) (kept : (h : ℕ) → Has old h → Has new h) where
  seat_at : (o : Option Shard) (h : ℕ) → o ≡ Some old → IsSomeAnd o (λ shard. Has shard h) → Has old h
  seat_at None h e seated = absurd (cc)
  seat_at (Some s) h e seated = let same : s ≡ old = cc in subst (λ (t : Shard). Has t h) same seated

  pub seated-kept : (h : ℕ) → Seated shards h → Seated (slice_set shards p new) h
  seated-kept h seated = subst (λ n. IsSomeAnd (slice_get (slice_set shards p new) (h % n)) (λ shard. Has shard h)) (sym (length-slice_set shards p new)) (go (h % length shards == p) refl)
    where
      go : (b : Bool) → (h % length shards == p) ≡ b → IsSomeAnd (slice_get (slice_set shards p new) (h % length shards)) (λ shard. Has shard h)
      go true e =
          let here : h % length shards ≡ p = eqb-true (h % length shards) p e in
          let now : slice_get (slice_set shards p new) (h % length shards) ≡ Some new = ap (slice_get (slice_set shards p new)) here ∙ slice_get-set_same shards p new within in
          let was : slice_get shards (h % length shards) ≡ Some old = ap (slice_get shards) here ∙ slice_get_at shards p old within is in
          subst (λ o. IsSomeAnd o (λ shard. Has shard h)) (sym now) (kept h (seat_at (slice_get shards (h % length shards)) h was seated))
      go false e =
          let ne : h % length shards ≢ p = eqb-false (h % length shards) p e in
          subst (λ o. IsSomeAnd o (λ shard. Has shard h)) (sym (slice_get-set_other shards p (h % length shards) new ne)) seated

  pub seated-own : (h : ℕ) → h % length shards ≡ p → Seated shards h → Has old h
  seated-own h here seated = seat_at (slice_get shards (h % length shards)) h (ap (slice_get shards) here ∙ slice_get_at shards p old within is) seated

-- a hash that has something has its place
pub held-seated : (shards : List Shard) (h : ℕ) → IsSome (map.get (map_of shards) h) → Seated shards h
held-seated shards h some = go (slice_get shards (h % length shards)) (subst IsSome (get-map_of shards h) some)
  where
    go : (o : Option Shard) → IsSome (option_and_then (λ s. held_at s h) o) → IsSomeAnd o (λ shard. Has shard h)
    go None none = absurd (cc)
    go (Some s) has = held-has s.entries h has
