-- What becomes of the map when the pieces of a hash change.
use Rattle.std.proofs.Common.{◌≡◌, ℕ, ◌<◌, ◌≤◌, Bool, true, false, cond, not, ◌&&◌, Option, Some, None, IfSome, IsSome, ◌⊎◌, inl, inr, List, [], ◌∷◌, ◌++◌, length, get_or, set, refl, sym, ap, ◌∙◌, subst, arith}
use Rattle.std.specs.Prelude.{find, position, nat_eq, nat_lt, unwrap_or}
use Rattle.std.specs.List.{position_or_len}
use Rattle.std.specs.Map.{lookup}
use Rattle.std.specs.Option.{option_or, option_copied}
use Rattle.std.specs.Borrow.{Bor}
use Rattle.std.specs.Cmp.{IsEquivalence}
use Rattle.std.proofs.lemmas.Grind.{common_steps}
use Rattle.std.proofs.lemmas.Bool.{eqb-true}
use Rattle.std.proofs.lemmas.Bool.Decides.{nat_tests}
use Rattle.std.proofs.lemmas.Option.{slice_get_past}
use Rattle.std.proofs.lemmas.List.Folds.{find_at, find-set, find_past, find-append}
use Rattle.std.proofs.lemmas.List.Sums.{position_or_len_is}
use Rattle.std.proofs.lemmas.List.Quantifiers.{position-Some}
use Rattle.foyer_policy_piece.specs.Record.{Record}
use Rattle.foyer_policy_piece.specs.Referred.{Referred}
use Rattle.foyer_policy_keeper.specs.PieceMap.{Pieces, Roomy, PieceMap, pieces_in, pieces_at, piece_of, piece_at, LosesHash, without, Enters, ChangesAt, HoldsSame, HasPlace, AreOwn, IsOf}

past : (n m : ℕ) → cond (nat_lt n m) (Some n) None ≡ None → m ≤ n
past n m h = grind (arith, nat_tests, common_steps)

module _ {X : Type 0} where
  -- an element before those that change
  behind_step : (a b : Bool) (x y : X) (new old : Option X) → (a ≡ true → b ≡ true → ⊥) → new ≡ cond b (Some y) old
      → cond a (Some x) new ≡ cond b (Some y) (cond a (Some x) old)
  behind_step true true x y new old apart h = absurd (apart refl refl)
  behind_step true false x y new old apart h = refl
  behind_step false true x y new old apart h = h
  behind_step false false x y new old apart h = h

  empty_step : (b : Bool) → ◌≡◌ {A = Option X} None (cond b None None)
  empty_step true = refl
  empty_step false = refl

  hit_or_miss : (a b : Bool) (x : X) (old : Option X) → (b ≡ true → a ≡ false)
      → cond a (Some x) (cond b None old) ≡ cond b None (cond a (Some x) old)
  hit_or_miss true true x old apart = absurd (let h : true ≡ false = apart refl in cc)
  hit_or_miss true false x old apart = refl
  hit_or_miss false true x old apart = refl
  hit_or_miss false false x old apart = refl

  miss : (b : Bool) (x : X) (old : Option X) → cond b None old ≡ cond b None (cond b (Some x) old)
  miss true x old = refl
  miss false x old = refl

  -- an element that is filtered out, or one before those that are
  without_step : (test : X → Bool) (x : X) (xs : List X) (a b : Bool) (old : Option X)
      → (a ≡ true → test x ≡ b) → (a ≡ false → b ≡ true → test x ≡ false) → find test xs ≡ cond b None old
      → find test (cond (not a) (x ∷ xs) xs) ≡ cond b None (cond (test x) (Some x) old)
  without_step test x xs true b old same apart h = rw (same refl, h) (miss b x old)
  without_step test x xs false b old same apart h = rw h (hit_or_miss (test x) b x old (apart refl))

  find_agree : (p q : X → Bool) → ((x : X) → p x ≡ q x) → (xs : List X) → find p xs ≡ find q xs
  find_agree p q same [] = refl
  find_agree p q same (x ∷ xs) = rw (same x, find_agree p q same xs)

  find_none : (p : X → Bool) (xs : List X) → position p xs ≡ None → find p xs ≡ None
  find_none p xs h = find_at p xs ∙ slice_get_past xs (position_or_len p xs) (past (position_or_len p xs) (length xs) h)

  or_none : (o : Option X) → option_or o None ≡ o
  or_none None = refl
  or_none (Some x) = refl

  passes_step : (p : X → Bool) (x : X) (rest : Option X) (b : Bool) → p x ≡ b → IfSome rest (λ y. p y ≡ true)
      → IfSome (cond b (Some x) rest) (λ y. p y ≡ true)
  passes_step p x rest true is passes = is
  passes_step p x rest false is passes = passes

  find_passes : (p : X → Bool) (xs : List X) → IfSome (find p xs) (λ x. p x ≡ true)
  find_passes p [] = tt
  find_passes p (x ∷ xs) = passes_step p x (find p xs) (p x) refl (find_passes p xs)

module _ {K : Type 0} {eq : K → K → Bool} (laws : IsEquivalence eq) where
  same_test : (a b : K) → eq a b ≡ true → (x : K) → eq x b ≡ eq x a
  same_test a b h x = laws.symm x b ∙ sym (laws.congr a b x h) ∙ laws.symm a x

  apart_test : (a b k : K) → eq a b ≡ false → eq b k ≡ true → eq a k ≡ false
  apart_test a b k differ same = same_test b k same a ∙ differ

module _ {K V P : Type 0} {eq : K → K → Bool} (laws : IsEquivalence eq) where
  entered_behind : (first piece : Referred K V P) (old new : Pieces K V P) → eq first.piece.key piece.piece.key ≡ false
      → Enters eq old new piece → Enters eq (first ∷ old) (first ∷ new) piece
  entered_behind first piece old new differ h = λ k.
      behind_step (eq first.piece.key k) (eq piece.piece.key k) first piece (piece_of eq new k) (piece_of eq old k)
      (λ left right. let no : eq first.piece.key k ≡ false = apart_test laws first.piece.key piece.piece.key k differ right in cc) (h k)

  set_at : (pieces : Pieces K V P) (i : ℕ) (piece : Referred K V P) (k : K) (b : Bool) → position (λ r. eq r.piece.key piece.piece.key) pieces ≡ Some i
      → eq piece.piece.key k ≡ b → piece_of eq (set pieces i piece) k ≡ cond b (Some piece) (piece_of eq pieces k)
  set_at pieces i piece k true h e =
      let at = position-Some (λ (r : Referred K V P). eq r.piece.key piece.piece.key) pieces i piece h in
      let first : position_or_len (λ (r : Referred K V P). eq r.piece.key k) pieces ≡ i =
      position_or_len_is (λ (r : Referred K V P). eq r.piece.key k) pieces i piece (omega (arith, at.0))
      (λ j l. same_test laws piece.piece.key k e (get_or pieces j piece).piece.key ∙ at.2 j l)
      (λ l. same_test laws piece.piece.key k e (get_or pieces i piece).piece.key ∙ at.1) in
      find-set (λ (r : Referred K V P). eq r.piece.key k) pieces i piece (sym first) at.0 e
  set_at pieces i piece k false h e =
      let at = position-Some (λ (r : Referred K V P). eq r.piece.key piece.piece.key) pieces i piece h in
      find_past (λ (r : Referred K V P). eq r.piece.key k) pieces i piece piece (laws.congr (get_or pieces i piece).piece.key piece.piece.key k at.1 ∙ e) e

  entered_set : (pieces : Pieces K V P) (i : ℕ) (piece : Referred K V P)
      → position (λ r. eq r.piece.key piece.piece.key) pieces ≡ Some i → Enters eq pieces (set pieces i piece) piece
  entered_set pieces i piece h = λ k. set_at pieces i piece k (eq piece.piece.key k) h refl

  push_at : (pieces : Pieces K V P) (piece : Referred K V P) (k : K) (b : Bool) → position (λ r. eq r.piece.key piece.piece.key) pieces ≡ None
      → eq piece.piece.key k ≡ b → piece_of eq (pieces ++ piece ∷ []) k ≡ cond b (Some piece) (piece_of eq pieces k)
  push_at pieces piece k true h e =
      let none : piece_of eq pieces k ≡ None =
      find_agree (λ r. eq r.piece.key k) (λ r. eq r.piece.key piece.piece.key) (λ r. same_test laws piece.piece.key k e r.piece.key) pieces
      ∙ find_none (λ r. eq r.piece.key piece.piece.key) pieces h in
      find-append (λ (r : Referred K V P). eq r.piece.key k) pieces (piece ∷ []) ∙ rw (none, e)
  push_at pieces piece k false h e =
      find-append (λ (r : Referred K V P). eq r.piece.key k) pieces (piece ∷ []) ∙ rw e (or_none (piece_of eq pieces k))

  entered_push : (pieces : Pieces K V P) (piece : Referred K V P)
      → position (λ r. eq r.piece.key piece.piece.key) pieces ≡ None → Enters eq pieces (pieces ++ piece ∷ []) piece
  entered_push pieces piece h = λ k. push_at pieces piece k (eq piece.piece.key k) h refl

  -- a piece is written over behind the first one
  pub inserted_set : (first piece : Referred K V P) (old list : Pieces K V P) (i : ℕ) (a b key : K) → a ≡ first.piece.key → b ≡ piece.piece.key
      → eq a b ≡ false → key ≡ piece.piece.key → list ≡ old → Some i ≡ position (λ (r : Referred K V P). eq r.piece.key key) list
      → Enters eq (first ∷ old) (first ∷ set old i piece) piece
  inserted_set first piece old list i a b key is_a is_b differ is_key is_old at =
      entered_behind first piece old (set old i piece) (rw (← is_a, ← is_b) differ) (entered_set old i piece (rw (← is_key, ← is_old) (sym at)))

  -- a piece is added behind the others
  pub inserted_push : (first piece : Referred K V P) (old list new : Pieces K V P) (a b key : K) → a ≡ first.piece.key → b ≡ piece.piece.key
      → eq a b ≡ false → key ≡ piece.piece.key → list ≡ old → None ≡ position (λ (r : Referred K V P). eq r.piece.key key) list → new ≡ old ++ piece ∷ []
      → Enters eq (first ∷ old) (first ∷ new) piece
  inserted_push first piece old list new a b key is_a is_b differ is_key is_old none pushed =
      entered_behind first piece old new (rw (← is_a, ← is_b) differ) (rw pushed (entered_push old piece (rw (← is_key, ← is_old) (sym none))))

  found_without : (pieces : Pieces K V P) (key k : K)
      → piece_of eq (without eq pieces key) k ≡ cond (eq key k) None (piece_of eq pieces k)
  found_without [] key k = empty_step {X = Referred K V P} (eq key k)
  found_without (piece ∷ pieces) key k =
      without_step (λ r. eq r.piece.key k) piece (without eq pieces key) (eq piece.piece.key key) (eq key k) (piece_of eq pieces k)
      (λ same. laws.congr piece.piece.key key k same) (λ differ same. apart_test laws piece.piece.key key k differ same)
      (found_without pieces key k)

  removed_step : (old : PieceMap K V P) (hash : ℕ) (key : K) (left : Pieces K V P) (h : ℕ) (k : K) (b : Bool) → nat_eq hash h ≡ b
      → without eq (pieces_at old hash) key ≡ left
      → piece_of eq (cond b left (pieces_at old h)) k ≡ cond (b && eq key k) None (piece_at eq old h k)
  removed_step old hash key left h k true e is =
      let here : hash ≡ h = eqb-true hash h e in rw (← is, ← here) (found_without (pieces_at old hash) key k)
  removed_step old hash key left h k false e is = refl

  -- the pieces of a hash become those without a key's
  pub removed : (old new : PieceMap K V P) (hash : ℕ) (key : K) (bucket : Roomy K V P) (left : Pieces K V P) → Some bucket ≡ lookup (nat_eq hash) old
      → without eq bucket.pieces key ≡ left → ((h : ℕ) → pieces_at new h ≡ cond (nat_eq hash h) left (pieces_at old h))
      → ChangesAt eq old new hash key None
  removed old new hash key bucket left found is here = λ h k.
      let there : without eq (pieces_at old hash) key ≡ left = ap (λ (p : Option (Roomy K V P)). without eq (pieces_in p) key) (sym found) ∙ is in
      ap (λ (p : Pieces K V P). piece_of eq p k) (here h) ∙ removed_step old hash key left h k (nat_eq hash h) refl there

  -- a key's piece under an equal key is the same
  piece_under : (pieces : Pieces K V P) (key k : K) → eq key k ≡ true → piece_of eq pieces k ≡ piece_of eq pieces key
  piece_under pieces key k same = find_agree (λ r. eq r.piece.key k) (λ r. eq r.piece.key key) (λ r. same_test laws key k same r.piece.key) pieces

  -- if nothing changes, a hash and a key have what they had
  pub unchanged : (old new : PieceMap K V P) (hash : ℕ) (key : K) (held : Option (Referred K V P)) → HoldsSame eq old new → piece_at eq old hash key ≡ held → ChangesAt eq old new hash key held
  unchanged old new hash key held same is = λ h k. same h k ∙ step h k (nat_eq hash h) (eq key k) refl refl
    where
      step : (h : ℕ) (k : K) (a b : Bool) → nat_eq hash h ≡ a → eq key k ≡ b → piece_at eq old h k ≡ cond (a && b) held (piece_at eq old h k)
      step h k true true at under =
          let here : hash ≡ h = eqb-true hash h at in
          ap (λ n. piece_of eq (pieces_at old n) k) (sym here) ∙ piece_under (pieces_at old hash) key k under ∙ is
      step h k true false at under = refl
      step h k false b at under = refl

  -- a bucket without the key has room, if it has a place for it
  pub has_room : (first : Referred K V P) (others list : Pieces K V P) (room : ℕ) (a b key at : K) → a ≡ first.piece.key → b ≡ at → key ≡ at → eq a b ≡ false
      → list ≡ others → None ≡ position (λ (r : Referred K V P). eq r.piece.key key) list → HasPlace eq (record { pieces = first ∷ others; room = room }) at → 0 < room
  has_room first others list room a b key at is_a is_b is_key differ is_list none place =
      elim place [
        | inl some ↦ absurd (let n : piece_of eq (first ∷ others) at ≡ None =
            rw (let d : eq first.piece.key at ≡ false = subst (λ k. eq first.piece.key k ≡ false) is_b (subst (λ k. eq k b ≡ false) is_a differ) in d)
            (find_none (λ r. eq r.piece.key at) others (subst (λ k. position (λ (r : Referred K V P). eq r.piece.key k) others ≡ None) is_key
            (subst (λ l. position (λ (r : Referred K V P). eq r.piece.key key) l ≡ None) is_list (sym none)))) in
            let f : false ≡ true = subst IsSome n some in cc)
        | inr room ↦ room
      ]

module _ {K V P : Type 0} where
  or_empty : (b : Bool) (o : Option (Roomy K V P)) (bucket : Roomy K V P) → pieces_in (cond b (Some bucket) o) ≡ cond b bucket.pieces (pieces_in o)
  or_empty true o bucket = refl
  or_empty false o bucket = refl

  -- a hash's pieces are written over
  pub pieces_written : (old new : PieceMap K V P) (hash : ℕ) (bucket : Roomy K V P)
      → ((h : ℕ) → lookup (nat_eq h) new ≡ cond (nat_eq hash h) (Some bucket) (lookup (nat_eq h) old))
      → (h : ℕ) → pieces_at new h ≡ cond (nat_eq hash h) bucket.pieces (pieces_at old h)
  pieces_written old new hash bucket is = λ h. ap pieces_in (is h) ∙ or_empty (nat_eq hash h) (lookup (nat_eq h) old) bucket

  gone : (b : Bool) (o : Option (Roomy K V P)) (bucket : Roomy K V P) → pieces_in (cond b None (cond b (Some bucket) o)) ≡ cond b [] (pieces_in o)
  gone true o bucket = refl
  gone false o bucket = refl

  -- the same, and then they go
  pub pieces_gone : (old between new : PieceMap K V P) (hash : ℕ) (bucket : Roomy K V P)
      → ((h : ℕ) → lookup (nat_eq h) between ≡ cond (nat_eq hash h) (Some bucket) (lookup (nat_eq h) old))
      → ((h : ℕ) → lookup (nat_eq h) new ≡ cond (nat_eq hash h) None (lookup (nat_eq h) between))
      → (h : ℕ) → pieces_at new h ≡ cond (nat_eq hash h) [] (pieces_at old h)
  pieces_gone old between new hash bucket is goes = λ h.
      ap pieces_in (goes h ∙ ap (λ o. cond (nat_eq hash h) None o) (is h)) ∙ gone (nat_eq hash h) (lookup (nat_eq h) old) bucket

  own_step : (eq : K → K → Bool) (hash : ℕ) (key : K) (held : Referred K V P) (o : Option (Referred K V P)) → o ≡ Some held
      → held.piece.hash ≡ hash → IfSome o (λ x. eq x.piece.key key ≡ true) → IsOf eq hash key held.piece
  own_step eq hash key held o is own passes = (own, let P : Option (Referred K V P) → Type 0 = λ x. IfSome x (λ r. eq r.piece.key key ≡ true) in subst P is passes)

  -- what is found has the hash and the key
  own_piece : (eq : K → K → Bool) (map : PieceMap K V P) (last hash : ℕ) (key : K) (held : Referred K V P) → AreOwn eq map last
      → piece_at eq map hash key ≡ Some held → IsOf eq hash key held.piece
  own_piece eq map last hash key held own is =
      own_step eq hash key held (piece_at eq map hash key) is ((own hash key held is).0)
      (find_passes (λ (x : Referred K V P). eq x.piece.key key) (pieces_at map hash))

  -- the same of a reference to it
  pub own_found : (eq : K → K → Bool) (map : PieceMap K V P) (last hash : ℕ) (key : K) (bucket : Roomy K V P) (o : Option (Bor (Referred K V P)))
      → AreOwn eq map last → Some bucket ≡ lookup (nat_eq hash) map → option_copied o ≡ piece_of eq bucket.pieces key
      → IfSome o (λ held. IsOf eq hash key held.now.piece)
  own_found eq map last hash key bucket None own is found = tt
  own_found eq map last hash key bucket (Some held) own is found =
      own_piece eq map last hash key held.now own (ap (λ (p : Option (Roomy K V P)). piece_of eq (pieces_in p) key) (sym is) ∙ sym found)

  -- what a shard has stays its own
  pub own_same : (eq : K → K → Bool) (old new : PieceMap K V P) (last more : ℕ) → HoldsSame eq old new → last ≤ more → AreOwn eq old last → AreOwn eq new more
  own_same eq old new last more same le own = λ hash key held is.
      let o = own hash key held (sym (same hash key) ∙ is) in
      let up : held.number ≤ last = o.2 in
      (o.0, o.1, omega arith)

  pub own_removed : (eq : K → K → Bool) (old new : PieceMap K V P) (last hash : ℕ) (key : K) → ChangesAt eq old new hash key None → AreOwn eq old last → AreOwn eq new last
  own_removed eq old new last hash key changes own = λ h k held is. go h k held (nat_eq hash h && eq key k) (sym (changes h k) ∙ is)
    where
      go : (h : ℕ) (k : K) (held : Referred K V P) (b : Bool) → cond b None (piece_at eq old h k) ≡ Some held → (held.piece.hash ≡ h) × (0 < held.number) × (held.number ≤ last)
      go h k held true is = absurd (let f : None ≡ Some held = is in cc)
      go h k held false is = own h k held is

  gone_at : (eq : K → K → Bool) (b : Bool) (o : Option (Roomy K V P)) (k : K)
      → piece_of eq (pieces_in (cond b None o)) k ≡ cond b None (piece_of eq (pieces_in o) k)
  gone_at eq true o k = refl
  gone_at eq false o k = refl

  -- a hash's pieces go
  pub hash_gone : (eq : K → K → Bool) (old new : PieceMap K V P) (hash : ℕ)
      → ((h : ℕ) → lookup (nat_eq h) new ≡ cond (nat_eq hash h) None (lookup (nat_eq h) old)) → LosesHash eq old new hash
  hash_gone eq old new hash goes = λ h k.
      ap (λ o. piece_of eq (pieces_in o) k) (goes h) ∙ gone_at eq (nat_eq hash h) (lookup (nat_eq h) old) k

  pub own_lost : (eq : K → K → Bool) (old new : PieceMap K V P) (last hash : ℕ) → LosesHash eq old new hash → AreOwn eq old last → AreOwn eq new last
  own_lost eq old new last hash loses own = λ h k held is. go h k held (nat_eq hash h) (sym (loses h k) ∙ is)
    where
      go : (h : ℕ) (k : K) (held : Referred K V P) (b : Bool) → cond b None (piece_at eq old h k) ≡ Some held → (held.piece.hash ≡ h) × (0 < held.number) × (held.number ≤ last)
      go h k held true is = absurd (let f : None ≡ Some held = is in cc)
      go h k held false is = own h k held is
