-- What wins of what was found, one more at a time, and what an index holds of it.
use Rattle.std.proofs.Common.{◌≡◌, ℕ, zero, suc, ◌+◌, ◌<◌, ◌≤◌, ◌==◌, nat_lt, nat_le, max, Bool, true, false, if◌then◌else◌, Option, Some, None, List, [], ◌∷◌, ◌++◌, refl, sym, ap, subst, ◌∙◌, arith, append_assoc, append-nil}
use Rattle.std.specs.FinMap as finite
use Rattle.std.proofs.lemmas.Bool.{eqb-true, eqb-false}
use Rattle.std.proofs.lemmas.Bool.Decides.{nat_tests}
use Rattle.foyer_block_scan.specs.BlobEntryIndex.{BlobEntryIndex}
use Rattle.foyer_block_index.specs.declared.indexer.Index.TheVariants.{Address, Tombstone}
use Rattle.foyer_block_index.specs.Index.{IndexMap}
use Rattle.foyer_block_index.specs.Insertion.{entered, inserted, inserted_all}
use Rattle.foyer_block_index.proofs.Indexed.{get-inserted}
use Rattle.foyer_block_recover.specs.BlocksKept.{entry_at, held, held_by, addressed_by}
use Rattle.foyer_block_recover.specs.Chained.{hashed_entries}
use Rattle.foyer_block_recover.specs.Kept.{greatest_in}
use Rattle.foyer_block_recover.specs.Opening.{Found, Stands, Marked, hash_of, sequence_of, first_or, winner, stand_in, all_stand, greatest, is_empty, clean_from}

-- the later one, if the one before it isn't greater
abbrev pub last_or : Option Found → Found → Found
last_or None x = x
last_or (Some y) x = if nat_le (sequence_of y) (sequence_of x) then x else y

pub le_is : (a b : ℕ) → a ≤ b → nat_le a b ≡ true
le_is a b le = go (nat_le a b) refl
  where
    go : (t : Bool) → nat_le a b ≡ t → t ≡ true
    go true e = refl
    go false e = absurd (let lt : b < a = grind (arith, nat_tests) in omega arith)

pub le_is_not : (a b : ℕ) → b < a → nat_le a b ≡ false
le_is_not a b lt = go (nat_le a b) refl
  where
    go : (t : Bool) → nat_le a b ≡ t → t ≡ false
    go true e = absurd (let le : a ≤ b = grind (arith, nat_tests) in omega arith)
    go false e = refl

lt_is : (a b : ℕ) → a < b → nat_lt a b ≡ true
lt_is a b lt = go (nat_lt a b) refl
  where
    go : (t : Bool) → nat_lt a b ≡ t → t ≡ true
    go true e = refl
    go false e = absurd (let le : b ≤ a = grind (arith, nat_tests) in omega arith)

lt_is_not : (a b : ℕ) → b ≤ a → nat_lt a b ≡ false
lt_is_not a b le = go (nat_lt a b) refl
  where
    go : (t : Bool) → nat_lt a b ≡ t → t ≡ false
    go true e = absurd (let lt : a < b = grind (arith, nat_tests) in omega arith)
    go false e = refl

true_le : (a b : ℕ) → nat_le a b ≡ true → a ≤ b
true_le a b e = grind (arith, nat_tests)

false_le : (a b : ℕ) → nat_le a b ≡ false → b < a
false_le a b e = grind (arith, nat_tests)

true_lt : (a b : ℕ) → nat_lt a b ≡ true → a < b
true_lt a b e = grind (arith, nat_tests)

false_lt : (a b : ℕ) → nat_lt a b ≡ false → b ≤ a
false_lt a b e = grind (arith, nat_tests)

-- of two the later one, unless the first is greater
two : (y x : Found) → first_or y (Some x) ≡ Some (last_or (Some y) x)
two y x = go (nat_lt (sequence_of x) (sequence_of y)) refl
  where
    go : (t : Bool) → nat_lt (sequence_of x) (sequence_of y) ≡ t → (if t then Some y else Some x) ≡ Some (if nat_le (sequence_of y) (sequence_of x) then x else y)
    go true e = ap (λ (t : Bool). Some (if t then x else y)) (sym (le_is_not (sequence_of y) (sequence_of x) (true_lt (sequence_of x) (sequence_of y) e)))
    go false e = ap (λ (t : Bool). Some (if t then x else y)) (sym (le_is (sequence_of y) (sequence_of x) (false_lt (sequence_of x) (sequence_of y) e)))

-- one more behind a first one
first_last : (y x : Found) (w : Option Found) → first_or y (Some (last_or w x)) ≡ Some (last_or (first_or y w) x)
first_last y x None = two y x
first_last y x (Some w) = go (nat_le (sequence_of w) (sequence_of x)) refl (nat_lt (sequence_of w) (sequence_of y)) refl
  where
    go : (t : Bool) → nat_le (sequence_of w) (sequence_of x) ≡ t → (u : Bool) → nat_lt (sequence_of w) (sequence_of y) ≡ u
        → first_or y (Some (if t then x else w)) ≡ Some (last_or (if u then Some y else Some w) x)
    go true e true f = two y x
    go true e false f =
        let le : sequence_of w ≤ sequence_of x = true_le (sequence_of w) (sequence_of x) e in
        let above : sequence_of y ≤ sequence_of w = false_lt (sequence_of w) (sequence_of y) f in
        ap (λ (t : Bool). if t then Some y else Some x) (lt_is_not (sequence_of x) (sequence_of y) (omega arith)) ∙ ap (λ (t : Bool). Some (if t then x else w)) (sym e)
    go false e true f =
        let lt : sequence_of x < sequence_of w = false_le (sequence_of w) (sequence_of x) e in
        let below : sequence_of w < sequence_of y = true_lt (sequence_of w) (sequence_of y) f in
        ap (λ (t : Bool). if t then Some y else Some w) f ∙ ap (λ (t : Bool). Some (if t then x else y)) (sym (le_is_not (sequence_of y) (sequence_of x) (omega arith)))
    go false e false f = ap (λ (t : Bool). if t then Some y else Some w) f ∙ ap (λ (t : Bool). Some (if t then x else w)) (sym e)

-- the winner with one more
pub winner_push : (h : ℕ) (xs : List Found) (x : Found) → winner h (xs ++ x ∷ []) ≡ (if hash_of x == h then Some (last_or (winner h xs) x) else winner h xs)
winner_push h [] x = refl
winner_push h (y ∷ ys) x = go (winner h (ys ++ x ∷ [])) (winner h ys) (hash_of y == h) (hash_of x == h) (winner_push h ys x)
  where
    go : (v w : Option Found) (t u : Bool) → v ≡ (if u then Some (last_or w x) else w)
        → (if t then first_or y v else v) ≡ (if u then Some (last_or (if t then first_or y w else w) x) else (if t then first_or y w else w))
    go v w true true later = ap (first_or y) later ∙ first_last y x w
    go v w true false later = ap (first_or y) later
    go v w false true later = later
    go v w false false later = later

-- an index with one more
held_last : (w : Option Found) (b : ℕ) (e : BlobEntryIndex) → Some (entered (held_by w) (Address (entry_at b e))) ≡ held_by (Some (last_or w (Stands b e)))
held_last None b e = refl
held_last (Some (Stands c d)) b e = go (nat_le d.sequence e.sequence)
  where
    go : (t : Bool) → Some (if t then Address (entry_at b e) else Address (entry_at c d)) ≡ Some (held (if t then Stands b e else Stands c d))
    go true = refl
    go false = refl
held_last (Some (Marked h s)) b e = go (nat_le s e.sequence)
  where
    go : (t : Bool) → Some (if t then Address (entry_at b e) else Tombstone s) ≡ Some (held (if t then Stands b e else Marked h s))
    go true = refl
    go false = refl

abbrev pub HoldsAll : IndexMap → List Found → Type 0
HoldsAll m found = (h : ℕ) → finite.get m h ≡ held_by (winner h found)

index_push : (m : IndexMap) (found : List Found) (b : ℕ) (e : BlobEntryIndex) → HoldsAll m found → HoldsAll (inserted m e.hash (Address (entry_at b e))) (found ++ Stands b e ∷ [])
index_push m found b e holds h =
    get-inserted m e.hash (Address (entry_at b e)) h ∙ go (h == e.hash) refl (e.hash == h) refl ∙ ap held_by (sym (winner_push h found (Stands b e)))
  where
    go : (t : Bool) → (h == e.hash) ≡ t → (u : Bool) → (e.hash == h) ≡ u
        → (if t then Some (entered (finite.get m e.hash) (Address (entry_at b e))) else finite.get m h) ≡ held_by (if u then Some (last_or (winner h found) (Stands b e)) else winner h found)
    go true e1 true f =
        let same : h ≡ e.hash = eqb-true h e.hash e1 in
        ap (λ k. Some (entered (finite.get m k) (Address (entry_at b e)))) (sym same) ∙ ap (λ o. Some (entered o (Address (entry_at b e)))) (holds h) ∙ held_last (winner h found) b e
    go true e1 false f = absurd (eqb-false e.hash h f (sym (eqb-true h e.hash e1)))
    go false e1 true f = absurd (eqb-false h e.hash e1 (sym (eqb-true e.hash h f)))
    go false e1 false f = holds h

-- with the entries of a block
pub index_block : (m : IndexMap) (found : List Found) (b : ℕ) (es : List BlobEntryIndex) → HoldsAll m found → HoldsAll (inserted_all m (hashed_entries b es)) (found ++ stand_in b es)
index_block m found b [] holds = subst (HoldsAll m) (sym (append-nil found)) holds
index_block m found b (e ∷ es) holds =
    subst (HoldsAll (inserted_all m (hashed_entries b (e ∷ es)))) (append_assoc found (Stands b e ∷ []) (stand_in b es))
    (index_block (inserted m e.hash (Address (entry_at b e))) (found ++ Stands b e ∷ []) b es (index_push m found b e holds))

-- the greatest sequence, with one more
greatest_first : (x : Found) (xs : List Found) → greatest (x ∷ xs) ≡ max (greatest xs) (sequence_of x)
greatest_first x xs = go (nat_le (greatest xs) (sequence_of x)) refl
  where
    go : (t : Bool) → nat_le (greatest xs) (sequence_of x) ≡ t → (if t then sequence_of x else greatest xs) ≡ max (greatest xs) (sequence_of x)
    go true e = let le : greatest xs ≤ sequence_of x = true_le (greatest xs) (sequence_of x) e in omega arith
    go false e = let lt : sequence_of x < greatest xs = false_le (greatest xs) (sequence_of x) e in omega arith

pub greatest_push : (xs : List Found) (x : Found) → greatest (xs ++ x ∷ []) ≡ max (greatest xs) (sequence_of x)
greatest_push [] x = greatest_first x []
greatest_push (y ∷ ys) x =
    greatest_first y (ys ++ x ∷ []) ∙ ap (λ n. max n (sequence_of y)) (greatest_push ys x)
    ∙ exchange (greatest ys) (sequence_of x) (sequence_of y) ∙ ap (λ n. max n (sequence_of x)) (sym (greatest_first y ys))
  where
    exchange : (a b c : ℕ) → max (max a b) c ≡ max (max a c) b
    exchange a b c = omega arith

pub greatest_block : (found : List Found) (b : ℕ) (es : List BlobEntryIndex) → greatest_in (greatest found) (hashed_entries b es) ≡ greatest (found ++ stand_in b es)
greatest_block found b [] = ap greatest (sym (append-nil found))
greatest_block found b (e ∷ es) =
    ap (λ n. greatest_in n (hashed_entries b es)) (sym (greatest_push found (Stands b e)))
    ∙ greatest_block (found ++ Stands b e ∷ []) b es
    ∙ ap greatest (append_assoc found (Stands b e ∷ []) (stand_in b es))

-- one block more
pub all_stand_push : (b n : ℕ) (keeps : ℕ → List BlobEntryIndex) → all_stand b (suc n) keeps ≡ all_stand b n keeps ++ stand_in (b + n) (keeps (b + n))
all_stand_push b zero keeps =
    let at : b ≡ b + 0 = omega arith in
    append-nil (stand_in b (keeps b)) ∙ ap (λ k. stand_in k (keeps k)) at
all_stand_push b (suc n) keeps =
    let at : b + 1 + n ≡ b + suc n = omega arith in
    ap (λ l. stand_in b (keeps b) ++ l) (all_stand_push (b + 1) n keeps ∙ ap (λ k. all_stand (b + 1) n keeps ++ stand_in k (keeps k)) at)
    ∙ sym (append_assoc (stand_in b (keeps b)) (all_stand (b + 1) n keeps) (stand_in (b + suc n) (keeps (b + suc n))))

pub clean_push : (b n : ℕ) (keeps : ℕ → List BlobEntryIndex) → clean_from b (suc n) keeps ≡ clean_from b n keeps ++ (if is_empty (keeps (b + n)) then (b + n) ∷ [] else [])
clean_push b zero keeps =
    let at : b ≡ b + 0 = omega arith in
    ap (λ k. if is_empty (keeps k) then k ∷ [] else []) at
clean_push b (suc n) keeps =
    let at : b + 1 + n ≡ b + suc n = omega arith in
    go (clean_push (b + 1) n keeps ∙ ap (λ k. clean_from (b + 1) n keeps ++ (if is_empty (keeps k) then k ∷ [] else [])) at) (is_empty (keeps b))
  where
    go : clean_from (b + 1) (suc n) keeps ≡ clean_from (b + 1) n keeps ++ (if is_empty (keeps (b + suc n)) then (b + suc n) ∷ [] else [])
        → (t : Bool) → (if t then b ∷ clean_from (b + 1) (suc n) keeps else clean_from (b + 1) (suc n) keeps)
        ≡ (if t then b ∷ clean_from (b + 1) n keeps else clean_from (b + 1) n keeps) ++ (if is_empty (keeps (b + suc n)) then (b + suc n) ∷ [] else [])
    go rest true = ap (λ l. b ∷ l) rest
    go rest false = rest

-- what the blocks before keep decides
pub all_stand_same : (b n : ℕ) (keeps others : ℕ → List BlobEntryIndex) → ((k : ℕ) → b ≤ k → k < b + n → keeps k ≡ others k) → all_stand b n keeps ≡ all_stand b n others
all_stand_same b zero keeps others same = refl
all_stand_same b (suc n) keeps others same =
    ap (λ es. stand_in b es ++ all_stand (b + 1) n keeps) (same b (omega arith) (omega arith))
    ∙ ap (λ l. stand_in b (others b) ++ l) (all_stand_same (b + 1) n keeps others (λ k le lt. same k (omega (arith, le)) (omega (arith, lt))))

pub clean_same : (b n : ℕ) (keeps others : ℕ → List BlobEntryIndex) → ((k : ℕ) → b ≤ k → k < b + n → keeps k ≡ others k) → clean_from b n keeps ≡ clean_from b n others
clean_same b zero keeps others same = refl
clean_same b (suc n) keeps others same =
    ap (λ es. if is_empty es then b ∷ clean_from (b + 1) n keeps else clean_from (b + 1) n keeps) (same b (omega arith) (omega arith))
    ∙ ap (λ l. if is_empty (others b) then b ∷ l else l) (clean_same (b + 1) n keeps others (λ k le lt. same k (omega (arith, le)) (omega (arith, lt))))

-- entries alone, without marks
abbrev pub AreEntries : List Found → Type 0
AreEntries [] = Unit {0}
AreEntries (Stands b e ∷ xs) = AreEntries xs
AreEntries (Marked h s ∷ xs) = ⊥

entries_both : (xs ys : List Found) → AreEntries xs → AreEntries ys → AreEntries (xs ++ ys)
entries_both [] ys are too = too
entries_both (Stands b e ∷ xs) ys are too = entries_both xs ys are too
entries_both (Marked h s ∷ xs) ys are too = absurd are

entries_in : (b : ℕ) (es : List BlobEntryIndex) → AreEntries (stand_in b es)
entries_in b [] = tt
entries_in b (e ∷ es) = entries_in b es

entries_all : (b n : ℕ) (keeps : ℕ → List BlobEntryIndex) → AreEntries (all_stand b n keeps)
entries_all b zero keeps = tt
entries_all b (suc n) keeps = entries_both (stand_in b (keeps b)) (all_stand (b + 1) n keeps) (entries_in b (keeps b)) (entries_all (b + 1) n keeps)

entry_wins : (h : ℕ) (xs : List Found) → AreEntries xs → held_by (winner h xs) ≡ addressed_by (winner h xs)
entry_wins h [] are = refl
entry_wins h (Marked g s ∷ xs) are = absurd are
entry_wins h (Stands b e ∷ xs) are = go (entry_wins h xs are) (winner h xs) refl (e.hash == h)
  where
    two_win : (w : Option Found) → held_by w ≡ addressed_by w → held_by (first_or (Stands b e) w) ≡ addressed_by (first_or (Stands b e) w)
    two_win None same = refl
    two_win (Some y) same = either (nat_lt (sequence_of y) e.sequence)
      where
        either : (t : Bool) → held_by (if t then Some (Stands b e) else Some y) ≡ addressed_by (if t then Some (Stands b e) else Some y)
        either true = refl
        either false = same

    go : held_by (winner h xs) ≡ addressed_by (winner h xs) → (w : Option Found) → winner h xs ≡ w → (t : Bool)
        → held_by (if t then first_or (Stands b e) (winner h xs) else winner h xs) ≡ addressed_by (if t then first_or (Stands b e) (winner h xs) else winner h xs)
    go same w is true = two_win (winner h xs) same
    go same w is false = same

-- before the marks come, what wins is an entry
pub entries_addressed : (m : IndexMap) (n : ℕ) (keeps : ℕ → List BlobEntryIndex) → HoldsAll m (all_stand 0 n keeps) → (h : ℕ) → finite.get m h ≡ addressed_by (winner h (all_stand 0 n keeps))
entries_addressed m n keeps holds h = holds h ∙ entry_wins h (all_stand 0 n keeps) (entries_all 0 n keeps)
