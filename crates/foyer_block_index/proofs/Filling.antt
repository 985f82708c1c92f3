-- Each place is in the shard of its hash, and its hash has something: what calls of the shards leave of that.
use Rattle.std.proofs.Common.{◌≡◌, ◌≢◌, ◌⊎◌, inl, inr, ℕ, ◌+◌, ◌<◌, ◌≤◌, ◌%◌, ◌==◌, Bool, true, false, cond, IsSome, IsOk, OnOk, OnErr, Result, Ok, Err, Option, Some, None, List, [], length, get_or, slice_get, slice_set, slice_index_or, option_and_then, if◌then◌else◌, refl, sym, ap, subst, ◌∙◌, arith}
use Rattle.std.specs.Bool.{OnTrue, OnFalse}
use Rattle.std.specs.Option.{IsSomeAnd}
use Rattle.std.specs.Cmp.{nat_cmp_total, unsigned_tied}
use Rattle.std.specs.FinMap as map
use Rattle.std.proofs.Common.{slice_index, nat_cmp}
use Rattle.std.specs.Ordering.{eq_by_cmp}
use Rattle.std.specs.FinMap.{get-insert, get-remove}
use Rattle.std.proofs.lemmas.List.{get_or-set_same, get_or-set_other, get_or_default}
use Rattle.std.proofs.lemmas.Bool.{eqb-true, eqb-false, eq-eqb}
use Rattle.foyer_block_index.specs.declared.indexer.EntryAddress.{EntryAddress}
use Rattle.foyer_block_index.specs.declared.indexer.HashedEntryAddress.{HashedEntryAddress}
use Rattle.foyer_block_index.specs.declared.indexer.Index.{Index}
use Rattle.foyer_block_index.specs.declared.indexer.Index.TheVariants.{Address}
use Rattle.foyer_block_index.specs.Committing.{committed_one}
use Rattle.foyer_block_index.specs.Entries.{hashes}
use Rattle.foyer_block_index.specs.Index.{IndexMap}
use Rattle.foyer_block_index.specs.Insertion.{entered, inserted}
use Rattle.foyer_block_index.specs.Removal.{has_address}
use Rattle.foyer_block_index.specs.Shards.{Shard, Has, held_at, map_of, source_at, Placed, AddsNoPlace, AddsPlaceOf, AddsPlacesOf, IsPending, IsOwnPending, AreFilled, AreFilledBut}
use Rattle.foyer_block_index.proofs.Found.{get-map_of, slice_get_at, slice_get-set_same, slice_get-set_other, length-slice_set}
use Rattle.foyer_block_index.proofs.Indexed.{get-inserted}

-- ---- places

module _ (shards : List Shard) (p : ℕ) (old new : Shard) (within : p < length shards) (is : old ≡ slice_index_or shards p old) where
  there : slice_get shards p ≡ Some old
  there = slice_get_at shards p old within is

  now : slice_get (slice_set shards p new) p ≡ Some new
  now = slice_get-set_same shards p new within

  -- a place of the shards after a write of one shard
  pub places_split : (i h : ℕ) → Placed (slice_set shards p new) i h → ((i ≡ p) × Has new h) ⊎ ((i ≢ p) × Placed shards i h)
  places_split i h placed = go (i == p) refl
    where
      seat : (o : Option Shard) → o ≡ Some new → IsSomeAnd o (λ shard. Has shard h) → Has new h
      seat None e has = absurd (cc)
      seat (Some s) e has = let same : s ≡ new = cc in subst (λ (t : Shard). Has t h) same has

      go : (b : Bool) → (i == p) ≡ b → ((i ≡ p) × Has new h) ⊎ ((i ≢ p) × Placed shards i h)
      go true e =
          let here : i ≡ p = eqb-true i p e in
          inl (here, seat (slice_get (slice_set shards p new) i) (ap (slice_get (slice_set shards p new)) here ∙ now) placed)
      go false e =
          let ne : i ≢ p = eqb-false i p e in
          inr (ne, subst (λ o. IsSomeAnd o (λ shard. Has shard h)) (slice_get-set_other shards p i new ne) placed)

  placed_old : (i h : ℕ) → i ≡ p → Has old h → Placed shards i h
  placed_old i h here has = subst (λ o. IsSomeAnd o (λ shard. Has shard h)) (sym (ap (slice_get shards) here ∙ there)) has

  -- a shard that has no new place
  pub adds_none : ((h : ℕ) → Has new h → Has old h) → AddsNoPlace shards (slice_set shards p new)
  adds_none only i h placed = go (places_split i h placed)
    where
      go : ((i ≡ p) × Has new h) ⊎ ((i ≢ p) × Placed shards i h) → Placed shards i h
      go (inl here) = placed_old i h here.0 (only h here.1)
      go (inr other) = other.1

  -- a shard that has one new place at most
  pub adds_one : (hash : ℕ) (done : Type 0) → hash % length shards ≡ p → ((h : ℕ) → Has new h → Has old h ⊎ ((h ≡ hash) × done)) → AddsPlaceOf shards (slice_set shards p new) hash done
  adds_one hash done belongs only i h placed = go (places_split i h placed)
    where
      one : i ≡ p → Has old h ⊎ ((h ≡ hash) × done) → Placed shards i h ⊎ ((h ≡ hash) × (hash % length shards ≡ i) × done)
      one here (inl has) = inl (placed_old i h here has)
      one here (inr new) = inr (new.0, belongs ∙ sym here, new.1)

      go : ((i ≡ p) × Has new h) ⊎ ((i ≢ p) × Placed shards i h) → Placed shards i h ⊎ ((h ≡ hash) × (hash % length shards ≡ i) × done)
      go (inl here) = one here.0 (only h here.1)
      go (inr other) = inl other.1

  -- a shard whose hashes all have something
  pub filled_here : ((h : ℕ) → Has new h → IsSome (held_at new h)) → (h : ℕ) → Placed (slice_set shards p new) p h → h % length shards ≡ p → IsSome (map.get (map_of (slice_set shards p new)) h)
  filled_here full h placed belongs = go (places_split p h placed)
    where
      go : ((p ≡ p) × Has new h) ⊎ ((p ≢ p) × Placed shards p h) → IsSome (map.get (map_of (slice_set shards p new)) h)
      go (inl here) =
          let read : map.get (map_of (slice_set shards p new)) h ≡ held_at new h =
          get-map_of (slice_set shards p new) h
          ∙ ap (λ k. option_and_then (λ s. held_at s h) (slice_get (slice_set shards p new) (h % k))) (length-slice_set shards p new)
          ∙ ap (λ k. option_and_then (λ s. held_at s h) (slice_get (slice_set shards p new) k)) belongs
          ∙ ap (option_and_then (λ s. held_at s h)) now in
          subst IsSome (sym read) (full h here.1)
      go (inr other) = absurd (other.0 refl)

get-others : (m : IndexMap) (hash q : ℕ) → q ≢ hash → map.get (map.remove m hash) q ≡ map.get m q
get-others m hash q ne = get-remove nat_cmp_total m hash q ∙ go (q == hash) refl
  where
    go : (b : Bool) → (q == hash) ≡ b → cond (eq_by_cmp nat_cmp q hash) None (map.get m q) ≡ map.get m q
    go true e = absurd (ne (eqb-true q hash e))
    go false e = ap (λ b. cond b None (map.get m q)) (unsigned_tied q hash ∙ e)

-- ---- filled shards

-- calls that add no place, and leave each hash what it had
pub filled_kept : (old new : List Shard) → length new ≡ length old → map_of new ≡ map_of old → AddsNoPlace old new → AreFilled old → AreFilled new
filled_kept old new len same adds filled i h placed =
    let before = filled i h (adds i h placed) in
    (ap (λ n. h % n) len ∙ before.0, subst (λ m. IsSome (map.get m h)) (sym same) before.1)

pub filled_but : (shards : List Shard) (es : List HashedEntryAddress) (os : List (Option EntryAddress)) (k : ℕ) → AreFilled shards → AreFilledBut shards es os k
filled_but shards es os k filled i h placed = let before = filled i h placed in (before.0, inl before.1)

pub filled_end : (shards : List Shard) (es : List HashedEntryAddress) (os : List (Option EntryAddress)) (k : ℕ) → length es ≤ k → AreFilledBut shards es os k → AreFilled shards
filled_end shards es os k end filled i h placed = let before = filled i h placed in (before.0, go before.1)
  where
    go : IsSome (map.get (map_of shards) h) ⊎ IsPending es os k h → IsSome (map.get (map_of shards) h)
    go (inl some) = some
    go (inr pending) = let from : k ≤ pending.0 = pending.1 in let within : pending.0 < length es = pending.2 in absurd (omega arith)

-- places that were made for a batch
pub filled_seated : (old new : List Shard) (es : List HashedEntryAddress) (os : List (Option EntryAddress)) → length new ≡ length old → map_of new ≡ map_of old
    → AddsPlacesOf old new es os → AreFilled old → AreFilledBut new es os 0
filled_seated old new es os len same adds filled i h placed = go (adds i h placed)
  where
    go : Placed old i h ⊎ IsOwnPending (length old) i es os h → (h % length new ≡ i) × (IsSome (map.get (map_of new) h) ⊎ IsPending es os 0 h)
    go (inl had) = let before = filled i h had in (ap (λ n. h % n) len ∙ before.0, inl (subst (λ m. IsSome (map.get m h)) (sym same) before.1))
    go (inr made) = (ap (λ n. h % n) len ∙ made.0, inr made.1)

still_inserted : (m : IndexMap) (hash : ℕ) (next : Index) (q : ℕ) → IsSome (map.get m q) → IsSome (map.get (inserted m hash next) q)
still_inserted m hash next q some = subst IsSome (sym (get-inserted m hash next q)) (go (q == hash))
  where
    go : (b : Bool) → IsSome (cond b (Some (entered (map.get m hash) next)) (map.get m q))
    go true = refl
    go false = some

there_inserted : (m : IndexMap) (hash : ℕ) (next : Index) → IsSome (map.get (inserted m hash next) hash)
there_inserted m hash next = subst IsSome (sym (get-inserted m hash next hash ∙ ap (λ b. cond b (Some (entered (map.get m hash) next)) (map.get m hash)) (eq-eqb hash hash refl))) refl

-- an insertion
pub filled_entered : {T E : Type 0} (r : Result T E) (old new : List Shard) (hash : ℕ) (next : Index) → length new ≡ length old
    → OnOk r (map_of new ≡ inserted (map_of old) hash next) → OnErr r (map_of new ≡ map_of old) → AddsPlaceOf old new hash (IsOk r) → AreFilled old → AreFilled new
filled_entered (Ok x) old new hash next len is same adds filled i h placed = go (adds i h placed)
  where
    go : {D : Type 0} → Placed old i h ⊎ ((h ≡ hash) × (hash % length old ≡ i) × D) → (h % length new ≡ i) × IsSome (map.get (map_of new) h)
    go (inl had) = let before = filled i h had in (ap (λ n. h % n) len ∙ before.0, subst (λ m. IsSome (map.get m h)) (sym is) (still_inserted (map_of old) hash next h before.1))
    go (inr made) = ((λ j. made.0 j % len j) ∙ made.1, subst (λ q. IsSome (map.get (map_of new) q)) (sym made.0) (subst (λ m. IsSome (map.get m hash)) (sym is) (there_inserted (map_of old) hash next)))
filled_entered (Err e) old new hash next len is same adds filled i h placed = go (adds i h placed)
  where
    go : Placed old i h ⊎ ((h ≡ hash) × (hash % length old ≡ i) × (false ≡ true)) → (h % length new ≡ i) × IsSome (map.get (map_of new) h)
    go (inl had) = let before = filled i h had in (ap (λ n. h % n) len ∙ before.0, subst (λ m. IsSome (map.get m h)) (sym same) before.1)
    go (inr made) = absurd (let bad = made.2 in cc)

still_committed : (m : IndexMap) (e : HashedEntryAddress) (o : Option EntryAddress) (q : ℕ) → IsSome (map.get m q) → IsSome (map.get (committed_one m e o) q)
still_committed m e None q some = still_inserted m e.hash (Address e.address) q some
still_committed m e (Some over) q some = go (has_address (map.get m e.hash) over)
  where
    here : (b : Bool) → IsSome (cond b (Some (Address e.address)) (map.get m q))
    here true = refl
    here false = some

    go : (t : Bool) → IsSome (map.get (if t then map.insert m e.hash (Address e.address) else m) q)
    go true = subst IsSome (sym (get-insert nat_cmp_total m e.hash (Address e.address) q ∙ ap (λ b. cond b (Some (Address e.address)) (map.get m q)) (unsigned_tied q e.hash))) (here (q == e.hash))
    go false = some

-- the next record of a batch
pub filled_committed : (old new : List Shard) (es : List HashedEntryAddress) (os : List (Option EntryAddress)) (k : ℕ) (e : HashedEntryAddress) (o : Option EntryAddress) → length new ≡ length old
    → map_of new ≡ committed_one (map_of old) e o → AddsPlaceOf old new e.hash (o ≡ None) → k < length es → e ≡ get_or es k e → source_at os k ≡ o
    → AreFilledBut old es os k → AreFilledBut new es os (k + 1)
filled_committed old new es os k e o len is adds within here source filled i h placed = go (adds i h placed)
  where
    got : (p : Option EntryAddress) → p ≡ None → IsSome (map.get (committed_one (map_of old) e p) e.hash)
    got None none = there_inserted (map_of old) e.hash (Address e.address)
    got (Some over) none = absurd (cc)

    mine : h ≡ e.hash → o ≡ None → IsSome (map.get (map_of new) h)
    mine same none = subst (λ q. IsSome (map.get (map_of new) q)) (sym same) (subst (λ m. IsSome (map.get m e.hash)) (sym is) (got o none))

    left : (j : ℕ) → k ≤ j → (j < length es) × (source_at os j ≡ None) × ((d : HashedEntryAddress) → (slice_index_or es j d).hash ≡ h) → (b : Bool) → (j == k) ≡ b
        → IsSome (map.get (map_of new) h) ⊎ IsPending es os (k + 1) h
    left j from pending true same =
        let at : j ≡ k = eqb-true j k same in
        inl (mine (sym (pending.2 e) ∙ ap (λ i. (get_or es i e).hash) at ∙ ap (λ x. x.hash) (sym here)) (sym source ∙ sym (ap (source_at os) at) ∙ pending.1))
    left j from pending false same =
        let ne : j ≢ k = eqb-false j k same in
        inr (j, omega arith, pending.0, pending.1, pending.2)

    rest : IsSome (map.get (map_of old) h) ⊎ IsPending es os k h → IsSome (map.get (map_of new) h) ⊎ IsPending es os (k + 1) h
    rest (inl some) = inl (subst (λ m. IsSome (map.get m h)) (sym is) (still_committed (map_of old) e o h some))
    rest (inr pending) = left pending.0 pending.1 (pending.2, pending.3, pending.4) (pending.0 == k) refl

    go : Placed old i h ⊎ ((h ≡ e.hash) × (e.hash % length old ≡ i) × (o ≡ None)) → (h % length new ≡ i) × (IsSome (map.get (map_of new) h) ⊎ IsPending es os (k + 1) h)
    go (inl had) = let before = filled i h had in (ap (λ n. h % n) len ∙ before.0, rest before.1)
    go (inr made) = ((λ j. made.0 j % len j) ∙ made.1, inl (mine made.0 made.2))

-- a hash that was taken out, and its shard swept
pub filled_removed : (old mid new : List Shard) (hash place : ℕ) → length mid ≡ length old → length new ≡ length mid → hash % length old ≡ place
    → map_of mid ≡ map.remove (map_of old) hash → map_of new ≡ map_of mid → AddsNoPlace old mid → AddsNoPlace mid new
    → ((h : ℕ) → Placed new place h → h % length mid ≡ place → IsSome (map.get (map_of new) h)) → AreFilled old → AreFilled new
filled_removed old mid new hash place len len_new belongs gone same adds adds_new swept filled i h placed = go (i == place) refl
  where
    before : (h % length old ≡ i) × IsSome (map.get (map_of old) h)
    before = filled i h (adds i h (adds_new i h placed))

    here : h % length new ≡ i
    here = ap (λ n. h % n) (len_new ∙ len) ∙ before.0

    go : (b : Bool) → (i == place) ≡ b → (h % length new ≡ i) × IsSome (map.get (map_of new) h)
    go true e =
        let at : i ≡ place = eqb-true i place e in
        (here, swept h (subst (λ k. Placed new k h) at placed) (ap (λ n. h % n) len ∙ before.0 ∙ at))
    go false e =
        let ne : i ≢ place = eqb-false i place e in
        (here, subst (λ m. IsSome (map.get m h)) (sym (same ∙ gone)) (subst IsSome (sym (get-others (map_of old) hash h (λ is. ne (sym before.0 ∙ ap (λ q. q % length old) is ∙ belongs)))) before.1))

-- an element of a list from the j-th on has a hash that belongs in the i-th of n shards
abbrev pub NamedFrom : {X : Type 0} → (X → ℕ) → ℕ → List X → ℕ → ℕ → Type 0
NamedFrom {X} hash n xs j i = (k : ℕ) × (j ≤ k) × (k < length xs) × ((d : X) → hash (slice_index_or xs k d) % n ≡ i)

-- that shard is to be swept
abbrev pub IsCounted : {X : Type 0} → (X → ℕ) → ℕ → List X → List ℕ → ℕ → ℕ → Type 0
IsCounted hash n xs counts j i = NamedFrom hash n xs j i × (0 < slice_index counts i)

-- in the midst of removals: a hash has what it had, or its shard is one of the list's, and its count isn't 0
pub record Sweeping {X : Type 0} (hash : X → ℕ) (xs : List X) (old now : List Shard) (counts : List ℕ) : Type 0 where
  pub places : AddsNoPlace old now
  pub others : (h : ℕ) → (map.get (map_of now) h ≡ map.get (map_of old) h) ⊎ IsCounted hash (length old) xs counts 0 (h % length old)

-- each place is in the shard of its hash, which has something, or the shard is one of those of the list from the j-th on whose count isn't 0
abbrev pub AreFilledTo : {X : Type 0} → (X → ℕ) → List X → List Shard → List ℕ → ℕ → Type 0
AreFilledTo hash xs shards counts j =
    (i h : ℕ) → Placed shards i h → (h % length shards ≡ i) × (IsSome (map.get (map_of shards) h) ⊎ IsCounted hash (length shards) xs counts j i)

module _ {X : Type 0} (hash : X → ℕ) (xs : List X) where
  -- one removal more, whose shard is counted if it removed something
  pub sweeping_on : (old now new : List Shard) (counts after : List ℕ) (j : ℕ) (d : X) (gone : Bool) → j < length xs → Sweeping hash xs old now counts → length counts ≡ length old → 0 < length old
      → AddsNoPlace now new → OnTrue gone (map_of new ≡ map.remove (map_of now) (hash (get_or xs j d))) → OnFalse gone (map_of new ≡ map_of now)
      → after ≡ (if gone then slice_set counts (hash (get_or xs j d) % length counts) 1 else counts) → Sweeping hash xs old new after
  sweeping_on old now new counts after j d true within sweeping len some adds removed unchanged is = record {
    places = λ i h placed. sweeping.places i h (adds i h placed);
    others = λ h. go h (h % length old == p) refl;
  }
    where
      x : ℕ
      x = hash (get_or xs j d)

      p : ℕ
      p = x % length counts

      fits : p < length counts
      fits = omega arith

      belongs : x % length old ≡ p
      belongs = ap (λ n. x % n) (sym len)

      kept : (h : ℕ) → h % length old ≢ p → (map.get (map_of now) h ≡ map.get (map_of old) h) ⊎ IsCounted hash (length old) xs counts 0 (h % length old) → (map.get (map_of new) h ≡ map.get (map_of old) h) ⊎ IsCounted hash (length old) xs after 0 (h % length old)
      kept h ne (inl same) = inl (ap (λ m. map.get m h) removed ∙ get-others (map_of now) x h (λ e. ne (ap (λ q. q % length old) e ∙ belongs)) ∙ same)
      kept h ne (inr left) =
          let still : slice_index after (h % length old) ≡ slice_index counts (h % length old) = ap (λ l. slice_index l (h % length old)) is ∙ get_or-set_other counts p (h % length old) 1 0 ne in
          inr (left.0, omega (arith, left.1, still))

      go : (h : ℕ) (b : Bool) → (h % length old == p) ≡ b → (map.get (map_of new) h ≡ map.get (map_of old) h) ⊎ IsCounted hash (length old) xs after 0 (h % length old)
      go h true e =
          let at : h % length old ≡ p = eqb-true (h % length old) p e in
          let one : slice_index after (h % length old) ≡ 1 = ap (λ l. slice_index l (h % length old)) is ∙ ap (slice_index (slice_set counts p 1)) at ∙ get_or-set_same counts p 1 0 fits in
          inr ((j, omega arith, within, λ c. ap (λ y. hash y % length old) (get_or_default xs j c d within) ∙ belongs ∙ sym at), omega arith)
      go h false e = kept h (eqb-false (h % length old) p e) (sweeping.others h)
  sweeping_on old now new counts after j d false within sweeping len some adds removed unchanged is = record {
    places = λ i h placed. sweeping.places i h (adds i h placed);
    others = λ h. go h (sweeping.others h);
  }
    where
      go : (h : ℕ) → (map.get (map_of now) h ≡ map.get (map_of old) h) ⊎ IsCounted hash (length old) xs counts 0 (h % length old)
          → (map.get (map_of new) h ≡ map.get (map_of old) h) ⊎ IsCounted hash (length old) xs after 0 (h % length old)
      go h (inl same) = inl (ap (λ m. map.get m h) unchanged ∙ same)
      go h (inr left) = inr (left.0, subst (λ l. 0 < slice_index l (h % length old)) (sym is) left.1)

  -- then the shards that are counted are to be swept
  pub filled_to : (old now : List Shard) (counts : List ℕ) → Sweeping hash xs old now counts → length now ≡ length old → AreFilled old → AreFilledTo hash xs now counts 0
  filled_to old now counts sweeping len filled i h placed = (ap (λ n. h % n) len ∙ before.0, go (sweeping.others h))
    where
      before : (h % length old ≡ i) × IsSome (map.get (map_of old) h)
      before = filled i h (sweeping.places i h placed)

      go : (map.get (map_of now) h ≡ map.get (map_of old) h) ⊎ IsCounted hash (length old) xs counts 0 (h % length old)
          → IsSome (map.get (map_of now) h) ⊎ IsCounted hash (length now) xs counts 0 i
      go (inl same) = inl (subst IsSome (sym same) before.1)
      go (inr left) = inr (
        subst (λ n. NamedFrom hash n xs 0 i) (sym len) (subst (NamedFrom hash (length old) xs 0) before.0 left.0),
        subst (λ k. 0 < slice_index counts k) before.0 left.1,
      )

  -- one more is swept
  pub swept_on : (now new : List Shard) (counts after : List ℕ) (j : ℕ) (d : X) (p : ℕ) → j < length xs → p ≡ hash (get_or xs j d) % length now → length new ≡ length now → map_of new ≡ map_of now → AddsNoPlace now new
      → ((i : ℕ) → i ≢ p → slice_index after i ≡ slice_index counts i)
      → ((i h : ℕ) → p ≡ i → 0 < slice_index counts i → Placed new i h → h % length now ≡ i → IsSome (map.get (map_of new) h))
      → AreFilledTo hash xs now counts j → AreFilledTo hash xs new after (j + 1)
  swept_on now new counts after j d p within place len same adds others swept filled i h placed = (ap (λ n. h % n) len ∙ before.0, go before.1)
    where
      before : (h % length now ≡ i) × (IsSome (map.get (map_of now) h) ⊎ IsCounted hash (length now) xs counts j i)
      before = filled i h (adds i h placed)

      left : (k : ℕ) → j ≤ k → k < length xs → ((c : X) → hash (slice_index_or xs k c) % length now ≡ i) → 0 < slice_index counts i → (b : Bool) → (i == p) ≡ b
          → IsSome (map.get (map_of new) h) ⊎ IsCounted hash (length new) xs after (j + 1) i
      left k from lt named some true e = inl (swept i h (sym (eqb-true i p e)) some placed before.0)
      left k from lt named some false e =
          let ne : i ≢ p = eqb-false i p e in
          let apart : k ≢ j = λ at. ne (sym (named d) ∙ ap (λ m. hash (slice_index_or xs m d) % length now) at ∙ sym place) in
          inr ((k, omega arith, lt, λ c. ap (λ n. hash (slice_index_or xs k c) % n) len ∙ named c), omega (arith, others i ne, some))

      go : IsSome (map.get (map_of now) h) ⊎ IsCounted hash (length now) xs counts j i
          → IsSome (map.get (map_of new) h) ⊎ IsCounted hash (length new) xs after (j + 1) i
      go (inl some) = inl (subst (λ m. IsSome (map.get m h)) (sym same) some)
      go (inr named) = left named.0.0 named.0.1 named.0.2 named.0.3 named.1 (i == p) refl

  -- at the end of the list
  pub filled_swept : (now : List Shard) (counts : List ℕ) (j : ℕ) → length xs ≤ j → AreFilledTo hash xs now counts j → AreFilled now
  filled_swept now counts j end filled i h placed = (before.0, go before.1)
    where
      before : (h % length now ≡ i) × (IsSome (map.get (map_of now) h) ⊎ IsCounted hash (length now) xs counts j i)
      before = filled i h placed

      go : IsSome (map.get (map_of now) h) ⊎ IsCounted hash (length now) xs counts j i → IsSome (map.get (map_of now) h)
      go (inl some) = some
      go (inr named) = let from : j ≤ named.0.0 = named.0.1 in let within : named.0.0 < length xs = named.0.2 in absurd (omega arith)

-- shards without entries
pub filled_none : (shards : List Shard) → ((k : ℕ) (s : Shard) → slice_get shards k ≡ Some s → s.entries ≡ []) → AreFilled shards
filled_none shards none i h placed = absurd (go (slice_get shards i) refl placed)
  where
    empty : (s : Shard) → s.entries ≡ [] → Has s h → ⊥
    empty s e has = let at : slice_get (hashes []) has.0 ≡ Some h = subst (λ l. slice_get (hashes l) has.0 ≡ Some h) e has.1 in cc

    go : (o : Option Shard) → slice_get shards i ≡ o → IsSomeAnd o (λ shard. Has shard h) → ⊥
    go None e has = absurd has
    go (Some s) e has = empty s (none i s e) has

pub adds_weaker : (old new : List Shard) (hash : ℕ) (A B : Type 0) → (A → B) → AddsPlaceOf old new hash A → AddsPlaceOf old new hash B
adds_weaker old new hash A B f adds i h placed = go (adds i h placed)
  where
    go : Placed old i h ⊎ ((h ≡ hash) × (hash % length old ≡ i) × A) → Placed old i h ⊎ ((h ≡ hash) × (hash % length old ≡ i) × B)
    go (inl had) = inl had
    go (inr made) = inr (made.0, made.1, f made.2)

-- a replacement
pub filled_replaced : (done : Bool) (old new : List Shard) (hash : ℕ) (v : Index) → length new ≡ length old → OnTrue done (map_of new ≡ map.insert (map_of old) hash v) → OnFalse done (map_of new ≡ map_of old)
    → AddsNoPlace old new → AreFilled old → AreFilled new
filled_replaced true old new hash v len is same adds filled i h placed =
    let before = filled i h (adds i h placed) in (
      ap (λ n. h % n) len ∙ before.0,
      subst (λ m. IsSome (map.get m h)) (sym is)
          (subst IsSome (sym (get-insert nat_cmp_total (map_of old) hash v h)) (either (eq_by_cmp nat_cmp h hash) before.1)),
    )
  where
    either : (b : Bool) → IsSome (map.get (map_of old) h) → IsSome (cond b (Some v) (map.get (map_of old) h))
    either true some = refl
    either false some = some
filled_replaced false old new hash v len is same adds filled i h placed = filled_kept old new len same adds filled i h placed
