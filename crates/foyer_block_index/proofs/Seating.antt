-- The places that a batch's hashes get.
use Rattle.std.proofs.Common.{◌≡◌, ◌≢◌, ◌⊎◌, inl, inr, ℕ, zero, suc, ◌+◌, ◌-◌, ◌<◌, ◌≤◌, ◌%◌, ◌==◌, Bool, true, false, cond, IsSome, Option, Some, None, List, [], ◌∷◌, ◌++◌, length, drop, get_or, slice_get, slice_set, slice_index_or, refl, sym, ap, subst, ◌∙◌, arith}
use Rattle.std.specs.List.{All, Contains}
use Rattle.std.proofs.lemmas.Bool.{eqb-true, eqb-false, eq-eqb}
use Rattle.std.proofs.lemmas.List.{get_or_default}
use Rattle.std.proofs.lemmas.List.Elements.{Contains-append_left, Contains-push}
use Rattle.std.proofs.lemmas.List.Sums.{sum_by-cons}
use Rattle.foyer_block_index.specs.declared.indexer.EntryAddress.{EntryAddress}
use Rattle.foyer_block_index.specs.declared.indexer.HashedEntryAddress.{HashedEntryAddress}
use Rattle.std.specs.FinMap as map
use Rattle.foyer_block_index.specs.Committing.{PiecesHeld}
use Rattle.foyer_block_index.specs.Index.{IndexMap, belonging}
use Rattle.foyer_block_index.specs.Insertion.{AllHeld}
use Rattle.std.proofs.Common.{unwrap_or}
use Rattle.std.proofs.Math.Dec.{ltb}
use Rattle.std.proofs.lemmas.Bool.{ltb-true, ltb-false}
use Rattle.std.specs.Option.{IsSomeAnd, option_map}
use Rattle.std.proofs.lemmas.List.Sums.{sum_by-append, sum_by-drop_more}
use Rattle.foyer_block_index.specs.declared.seats.Seat.{Seat}
use Rattle.foyer_block_index.specs.Seats.{seat, seats_in, AreSeatsOf, Gathered, RunTaken, RunSeated, AddsSeats}
use Rattle.foyer_block_index.specs.Shards.{Shard, spare_of, Has, Seated, source_at, room, map_of, PiecesSeated, Placed, IsOwnPending, AddsPlacesOf}
use Rattle.foyer_block_index.proofs.Filling.{places_split}
use Rattle.foyer_block_index.proofs.Found.{slice_get_at, slice_get-set_same, slice_get-set_other, length-slice_set, seated-kept, held-seated, room-at}
use Rattle.foyer_block_index.proofs.Commits.{from_here, none_from}

belonging-cons : (n i : ℕ) (e : HashedEntryAddress) (es : List HashedEntryAddress) → belonging n i (e ∷ es) ≡ cond (e.hash % n == i) 1 0 + belonging n i es
belonging-cons n i e es = sum_by-cons (λ e. cond (e.hash % n == i) 1 0) e es

-- a seat more
pub seats_push : (number : ℕ) (seats : List Seat) (s : Seat) → seats_in number (seats ++ s ∷ []) ≡ seats_in number seats + cond (s.shard == number) 1 0
seats_push number seats s =
    let whole : seats_in number (seats ++ s ∷ []) ≡ seats_in number seats + seats_in number (s ∷ []) = sum_by-append (λ s. cond (s.shard == number) 1 0) seats (s ∷ []) in
    let one : seats_in number (s ∷ []) ≡ cond (s.shard == number) 1 0 + 0 = sum_by-cons (λ s. cond (s.shard == number) 1 0) s [] in
    omega arith

module _ (n : ℕ) (es : List HashedEntryAddress) (k : ℕ) (d : HashedEntryAddress) (within : k < length es) (number : ℕ) where
  here : belonging n number (drop k es) ≡ cond ((get_or es k d).hash % n == number) 1 0 + belonging n number (drop (k + 1) es)
  here = ap (belonging n number) (from_here es k d within) ∙ belonging-cons n number (get_or es k d) (drop (k + 1) es)

  -- one that has no seat leaves no more behind
  pub fewer : belonging n number (drop (k + 1) es) ≤ belonging n number (drop k es)
  fewer = omega (arith, here)

  -- one that has its seat counts there
  pub few_seat : (seats : List Seat) (bound : ℕ) → seats_in number seats + belonging n number (drop k es) ≤ bound
      → seats_in number (seats ++ seat ((get_or es k d).hash % n) (get_or es k d).hash ∷ []) + belonging n number (drop (k + 1) es) ≤ bound
  few_seat seats bound few = omega (arith, here, seats_push number seats (seat ((get_or es k d).hash % n) (get_or es k d).hash))

module _ (n : ℕ) (es : List HashedEntryAddress) (sources : List (Option EntryAddress)) (seats : List Seat) (from k : ℕ)
    (gathered : Gathered n es sources seats from k) (entry : HashedEntryAddress) (within : k < length es) (is : entry ≡ get_or es k entry) where
  same_hash : (j : ℕ) (d : HashedEntryAddress) → j ≡ k → (slice_index_or es j d).hash ≡ entry.hash
  same_hash j d e = ap (λ i. (slice_index_or es i d).hash) e ∙ ap (λ x. x.hash) (get_or_default es k d entry within ∙ sym is)

  -- the next record, which has its seat
  pub gathered_seat : Gathered n es sources (seats ++ seat (entry.hash % n) entry.hash ∷ []) from (k + 1)
  gathered_seat j d more lt none = go (j == k) refl
    where
      go : (b : Bool) → (j == k) ≡ b → Contains (seats ++ seat (entry.hash % n) entry.hash ∷ []) (seat ((slice_index_or es j d).hash % n) (slice_index_or es j d).hash)
      go true e = subst (λ h. Contains (seats ++ seat (entry.hash % n) entry.hash ∷ []) (seat (h % n) h)) (sym (same_hash j d (eqb-true j k e))) (Contains-push seats (seat (entry.hash % n) entry.hash))
      go false e =
          let ne : j ≢ k = eqb-false j k e in
          Contains-append_left seats (seat (entry.hash % n) entry.hash ∷ []) (seat ((slice_index_or es j d).hash % n) (slice_index_or es j d).hash) (gathered j d more (omega arith) none)

  -- the next record, which has a source
  pub gathered_none : (source_at sources k ≡ None → ⊥) → Gathered n es sources seats from (k + 1)
  gathered_none not j d more lt none = go (j == k) refl
    where
      go : (b : Bool) → (j == k) ≡ b → Contains seats (seat ((slice_index_or es j d).hash % n) (slice_index_or es j d).hash)
      go true e = absurd (not (sym (ap (source_at sources) (eqb-true j k e)) ∙ none))
      go false e = let ne : j ≢ k = eqb-false j k e in gathered j d more (omega arith) none

module _ (number : ℕ) (seats : List Seat) (k : ℕ) (s : Seat) (within : k < length seats) (is : s ≡ get_or seats k s) where
  seats_here : seats_in number (drop k seats) ≡ cond (s.shard == number) 1 0 + seats_in number (drop (k + 1) seats)
  seats_here =
      ap (seats_in number) (from_here seats k s within) ∙ sum_by-cons (λ s. cond (s.shard == number) 1 0) (get_or seats k s) (drop (k + 1) seats)
      ∙ ap (λ x. cond (x.shard == number) 1 0 + seats_in number (drop (k + 1) seats)) (sym is)

  -- a seat of the run counts
  pub seat_counted : s.shard ≡ number → seats_in number (drop k seats) ≡ 1 + seats_in number (drop (k + 1) seats)
  seat_counted own = seats_here ∙ ap (λ b. cond b 1 0 + seats_in number (drop (k + 1) seats)) (eq-eqb s.shard number own)

  same_seat : (j : ℕ) (d : Seat) → j ≡ k → slice_index_or seats j d ≡ s
  same_seat j d e = ap (λ i. slice_index_or seats i d) e ∙ get_or_default seats k d s within ∙ sym is

  module _ (shard : Shard) (news : List ℕ) (from : ℕ) (taken : RunTaken number shard seats news from k) (own : s.shard ≡ number) where
    abbrev Is : List ℕ → Seat → Type 0
    Is now x = (x.shard ≡ number) × (Has shard x.hash ⊎ Contains now x.hash)

    -- the next seat of the run, whose hash is new
    pub taken_new : RunTaken number shard seats (news ++ s.hash ∷ []) from (k + 1)
    taken_new j d more lt = go (j == k) refl
      where
        kept : Has shard (slice_index_or seats j d).hash ⊎ Contains news (slice_index_or seats j d).hash
            → Has shard (slice_index_or seats j d).hash ⊎ Contains (news ++ s.hash ∷ []) (slice_index_or seats j d).hash
        kept (inl has) = inl has
        kept (inr there) = inr (Contains-append_left news (s.hash ∷ []) (slice_index_or seats j d).hash there)

        go : (b : Bool) → (j == k) ≡ b → Is (news ++ s.hash ∷ []) (slice_index_or seats j d)
        go true e = subst (Is (news ++ s.hash ∷ [])) (sym (same_seat j d (eqb-true j k e))) (own, inr (Contains-push news s.hash))
        go false e = let ne : j ≢ k = eqb-false j k e in let before : Is news (slice_index_or seats j d) = taken j d more (omega arith) in (before.0, kept before.1)

    -- the next seat of the run, whose hash has its place
    pub taken_there : Has shard s.hash → RunTaken number shard seats news from (k + 1)
    taken_there has j d more lt = go (j == k) refl
      where
        go : (b : Bool) → (j == k) ≡ b → Is news (slice_index_or seats j d)
        go true e = subst (Is news) (sym (same_seat j d (eqb-true j k e))) (own, inl has)
        go false e = let ne : j ≢ k = eqb-false j k e in taken j d more (omega arith)

-- the hash of a seat is among them
pub seat_there : (number : ℕ) (seats : List Seat) (k : ℕ) (s : Seat) → k < length seats → s ≡ get_or seats k s → s.shard ≡ number → Contains seats (seat number s.hash)
seat_there number seats k s within is own = (k, within, get_or_default seats k (seat number s.hash) s within ∙ sym is ∙ ap (λ n. seat n s.hash) own)

-- the seats of a run have their places after a merge
pub run_seated : (number : ℕ) (old new : Shard) (seats : List Seat) (news merged : List ℕ) (from end : ℕ) → RunTaken number old seats news from end → ((h : ℕ) → Has old h → Has new h)
    → ((h : ℕ) → Contains news h → Contains merged h) → All (Has new) merged → RunSeated number new seats from end
run_seated number old new seats news merged from end taken kept into made k d more lt = (own.0, place own.1)
  where
    own : ((slice_index_or seats k d).shard ≡ number) × (Has old (slice_index_or seats k d).hash ⊎ Contains news (slice_index_or seats k d).hash)
    own = taken k d more lt

    place : Has old (slice_index_or seats k d).hash ⊎ Contains news (slice_index_or seats k d).hash → Has new (slice_index_or seats k d).hash
    place (inl has) = kept (slice_index_or seats k d).hash has
    place (inr there) = let at = into (slice_index_or seats k d).hash there in subst (Has new) at.2 (made at.0 (slice_index_or seats k d).hash at.1)

-- the places of a merge are those before it and those of seats
pub run_only : (number : ℕ) (old new : Shard) (seats : List Seat) (merged : List ℕ) → ((h : ℕ) → Has new h → Has old h ⊎ Contains merged h)
    → All (λ h. Contains seats (seat number h)) merged → (h : ℕ) → Has new h → Has old h ⊎ Contains seats (seat number h)
run_only number old new seats merged only ours h has = go (only h has)
  where
    go : Has old h ⊎ Contains merged h → Has old h ⊎ Contains seats (seat number h)
    go (inl had) = inl had
    go (inr at) = inr (subst (λ x. Contains seats (seat number x)) at.2 (ours at.0 h at.1))

-- one seat less leaves no more behind
seat_fewer : (i k : ℕ) (seats : List Seat) → seats_in i (drop (k + 1) seats) ≤ seats_in i (drop k seats)
seat_fewer i k seats = go (ltb k (length seats)) refl
  where
    go : (b : Bool) → ltb k (length seats) ≡ b → seats_in i (drop (k + 1) seats) ≤ seats_in i (drop k seats)
    go true e =
        let more : seats_in i (drop k seats) ≡ cond ((get_or seats k (seat 0 0)).shard == i) 1 0 + seats_in i (drop (k + 1) seats)
        = sum_by-drop_more (λ s. cond (s.shard == i) 1 0) seats k (seat 0 0) (ltb-true k (length seats) e) in
        omega arith
    go false e =
        let le : length seats ≤ k = ltb-false k (length seats) e in
        let here : seats_in i (drop k seats) ≡ 0 = ap (seats_in i) (none_from seats k le) in
        let next : seats_in i (drop (k + 1) seats) ≡ 0 = ap (seats_in i) (none_from seats (k + 1) (omega arith)) in
        omega arith

seats_fewer : (i : ℕ) (seats : List Seat) (from m : ℕ) → seats_in i (drop (from + m) seats) ≤ seats_in i (drop from seats)
seats_fewer i seats from zero = let e : from ≡ from + 0 = omega arith in subst (λ k. seats_in i (drop k seats) ≤ seats_in i (drop from seats)) e (omega arith)
seats_fewer i seats from (suc m) =
    let one : seats_in i (drop (from + m + 1) seats) ≤ seats_in i (drop (from + m) seats) = seat_fewer i (from + m) seats in
    let rest : seats_in i (drop (from + m) seats) ≤ seats_in i (drop from seats) = seats_fewer i seats from m in
    let e : from + m + 1 ≡ from + suc m = omega arith in
    subst (λ k. seats_in i (drop k seats) ≤ seats_in i (drop from seats)) e (omega arith)

-- the shards after the run of seats of one of them, which is written back
module _ (shards : List Shard) (p : ℕ) (old new : Shard) (seats : List Seat) (within : p < length shards) (is : old ≡ slice_index_or shards p old) where
  -- the seats so far have their places
  pub run_more : All (λ s. s.hash % length shards ≡ s.shard) seats → ((h : ℕ) → Has old h → Has new h) → (from end : ℕ) → end ≤ length seats → RunSeated p new seats from end
      → ((k : ℕ) (d : Seat) → k < from → Seated shards (slice_index_or seats k d).hash) → (k : ℕ) (d : Seat) → k < end → Seated (slice_set shards p new) (slice_index_or seats k d).hash
  run_more own kept from end reach seated before k d lt = go (ltb k from) refl
    where
      h : ℕ
      h = (slice_index_or seats k d).hash

      now : slice_get (slice_set shards p new) p ≡ Some new
      now = slice_get-set_same shards p new within

      here : ((slice_index_or seats k d).shard ≡ p) × Has new h → Seated (slice_set shards p new) h
      here has =
          let belongs : h % length (slice_set shards p new) ≡ p = ap (λ m. h % m) (length-slice_set shards p new) ∙ own k d (omega arith) ∙ has.0 in
          subst (λ o. IsSomeAnd o (λ shard. Has shard h)) (sym (ap (slice_get (slice_set shards p new)) belongs ∙ now)) has.1

      go : (b : Bool) → ltb k from ≡ b → Seated (slice_set shards p new) h
      go true e = seated-kept shards p old new within is kept h (before k d (ltb-true k from e))
      go false e = here (seated k d (ltb-false k from e) lt)

  -- the places are those of before and those of seats
  pub run_places : (first : List Shard) → ((h : ℕ) → Has new h → Has old h ⊎ Contains seats (seat p h)) → AddsSeats first shards seats → AddsSeats first (slice_set shards p new) seats
  run_places first only adds i h placed = go (places_split shards p old new within is i h placed)
    where
      here : i ≡ p → Has old h ⊎ Contains seats (seat p h) → Placed first i h ⊎ Contains seats (seat i h)
      here e (inl had) = adds i h (subst (λ o. IsSomeAnd o (λ shard. Has shard h)) (sym (ap (slice_get shards) e ∙ slice_get_at shards p old within is)) had)
      here e (inr own) = inr (subst (λ j. Contains seats (seat j h)) (sym e) own)

      go : ((i ≡ p) × Has new h) ⊎ ((i ≢ p) × Placed shards i h) → Placed first i h ⊎ Contains seats (seat i h)
      go (inl at) = here at.0 (only h at.1)
      go (inr other) = adds i h other.1

  -- each shard has the room that the seats left leave it
  pub run_room : (from end : ℕ) → from < end → old.spare + seats_in p (drop end seats) ≤ new.spare + seats_in p (drop from seats)
      → (i bound : ℕ) → bound + seats_in i (drop from seats) ≤ room shards i + seats_in i seats → bound + seats_in i (drop end seats) ≤ room (slice_set shards p new) i + seats_in i seats
  run_room from end further spare i bound had = go (i == p) refl
    where
      go : (b : Bool) → (i == p) ≡ b → bound + seats_in i (drop end seats) ≤ room (slice_set shards p new) i + seats_in i seats
      go true e =
          let same : i ≡ p = eqb-true i p e in
          let was : room shards p ≡ old.spare = room-at shards p old within is in
          let now : room (slice_set shards p new) p ≡ new.spare = ap (λ o. unwrap_or (option_map spare_of o) 0) (slice_get-set_same shards p new within) in
          let at : bound + seats_in p (drop from seats) ≤ room shards p + seats_in p seats = subst (λ j. bound + seats_in j (drop from seats) ≤ room shards j + seats_in j seats) same had in
          subst (λ j. bound + seats_in j (drop end seats) ≤ room (slice_set shards p new) j + seats_in j seats) (sym same) (omega arith)
      go false e =
          let ne : i ≢ p = eqb-false i p e in
          let same : room (slice_set shards p new) i ≡ room shards i = ap (λ o. unwrap_or (option_map spare_of o) 0) (slice_get-set_other shards p i new ne) in
          let sum : from + (end - from) ≡ end = omega arith in
          let fewer : seats_in i (drop end seats) ≤ seats_in i (drop from seats) = subst (λ k. seats_in i (drop k seats) ≤ seats_in i (drop from seats)) sum (seats_fewer i seats from (end - from)) in
          omega arith

-- the places of a part's seats are those of records of the batch
pub part_places : (n : ℕ) (first old new : List Shard) (es : List HashedEntryAddress) (os : List (Option EntryAddress)) (seats : List Seat) → n ≡ length first → AreSeatsOf n es os seats
    → AddsSeats old new seats → AddsPlacesOf first old es os → AddsPlacesOf first new es os
part_places n first old new es os seats count ours added adds i h placed = go (added i h placed)
  where
    go : Placed old i h ⊎ Contains seats (seat i h) → Placed first i h ⊎ IsOwnPending (length first) i es os h
    go (inl had) = adds i h had
    go (inr at) =
        let own : IsOwnPending n i es os h = subst (λ (s : Seat). IsOwnPending n s.shard es os s.hash) at.2 (ours at.0 (seat i h) at.1) in
        inr (ap (λ m. h % m) (sym count) ∙ own.0, own.1)

-- the records of a part have their places
pub part_seated : (n : ℕ) (old new : List Shard) (es : List HashedEntryAddress) (os : List (Option EntryAddress)) (gathered seats : List Seat) (from end : ℕ)
    → Gathered n es os gathered from end → ((s : Seat) → Contains gathered s → Contains seats s) → All (λ s. Seated new s.hash) seats → ((h : ℕ) → Seated old h → Seated new h)
    → ((k : ℕ) (d : HashedEntryAddress) → k < from → source_at os k ≡ None → Seated old (slice_index_or es k d).hash)
    → (k : ℕ) (d : HashedEntryAddress) → k < end → source_at os k ≡ None → Seated new (slice_index_or es k d).hash
part_seated n old new es os gathered seats from end found into seated kept before k d lt none = go (ltb k from) refl
  where
    h : ℕ
    h = (slice_index_or es k d).hash

    there : Contains seats (seat (h % n) h) → Seated new h
    there at = subst (λ (s : Seat). Seated new s.hash) at.2 (seated at.0 (seat (h % n) h) at.1)

    go : (b : Bool) → ltb k from ≡ b → Seated new h
    go true e = kept h (before k d (ltb-true k from e) none)
    go false e = there (into (seat (h % n) h) (found k d (ltb-false k from e) lt none))

-- hashes that have something have their places
pub all_seated : (shards : List Shard) (es : List HashedEntryAddress) → AllHeld (map_of shards) es → PiecesSeated shards es []
all_seated shards es held k d lt none = held-seated shards (get_or es k d).hash (held k d lt)

piece_held : (m : IndexMap) (es : List HashedEntryAddress) (os : List (Option EntryAddress)) (k : ℕ) (d : HashedEntryAddress)
    → PiecesHeld m es os → k < length es → source_at os k ≡ None → IsSome (map.get m (get_or es k d).hash)
piece_held m [] os k d held lt none = absurd (omega arith)
piece_held m (e ∷ es) [] zero d held lt none = held.0
piece_held m (e ∷ es) [] (suc k) d held lt none = piece_held m es [] k d held.1 (omega arith) none
piece_held m (e ∷ es) (None ∷ os) zero d held lt none = held.0
piece_held m (e ∷ es) (None ∷ os) (suc k) d held lt none = piece_held m es os k d held.1 (omega arith) none
piece_held m (e ∷ es) (Some over ∷ os) zero d held lt none = absurd (cc)
piece_held m (e ∷ es) (Some over ∷ os) (suc k) d held lt none = piece_held m es os k d held (omega arith) none

pub pieces_seated : (shards : List Shard) (es : List HashedEntryAddress) (os : List (Option EntryAddress)) → PiecesHeld (map_of shards) es os → PiecesSeated shards es os
pieces_seated shards es os held k d lt none = held-seated shards (get_or es k d).hash (piece_held (map_of shards) es os k d held lt none)

-- the hash of a record without a source that belongs in a shard
pub own_pending : (n number : ℕ) (es : List HashedEntryAddress) (os : List (Option EntryAddress)) (k : ℕ) (e : HashedEntryAddress) → k < length es → e ≡ get_or es k e
    → e.hash % n ≡ number → source_at os k ≡ None → IsOwnPending n number es os e.hash
own_pending n number es os k e within is belongs none = (belongs, (k, omega arith, within, none, λ d. ap (λ x. x.hash) (get_or_default es k d e within ∙ sym is)))
