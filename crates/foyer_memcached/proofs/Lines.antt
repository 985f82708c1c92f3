-- Where a line and its words end.
use Rattle.std.proofs.Common.{◌≡◌, ℕ, ◌+◌, ◌-◌, ◌<◌, ◌≤◌, zero, suc, false, eqb, List, [], ◌∷◌, length, get_or, take, drop, Some, None, refl, sym, ap, ◌∙◌, take_all, arith}
use Rattle.std.specs.Prelude.{slice_index}
use Rattle.std.proofs.lemmas.Bool.{eqb-true, ne_eqb, eq-eqb}
use Rattle.std.proofs.lemmas.List.{length-drop, length-take}
use Rattle.memchr.specs.Find.{IsFirstByte, is_byte}
use Rattle.foyer_memcached.specs.Words.{line_at, pieces, not_empty, words}

-- the test is true at n, and nowhere before
abbrev pub IsNot : ℕ → List ℕ → ℕ → Type 0
IsNot a xs n = (k : ℕ) → k < n → get_or xs k 0 ≡ a → ⊥

-- ---- lines

line_here : (n : ℕ) (xs : List ℕ) → n < length xs → get_or xs n 0 ≡ 10 → IsNot 10 xs n → line_at xs ≡ Some (take n xs, drop (suc n) xs)
unfolding line_at
line_here n [] lt at before = absurd (omega (arith, lt))
line_here zero (x ∷ xs) lt at before =
    let is : x ≡ 10 = at in
    rw is refl
line_here (suc n) (x ∷ xs) lt at before =
    let other : eqb x 10 ≡ false = ne_eqb x 10 (before zero (omega arith)) in
    let rest : line_at xs ≡ Some (take n xs, drop (suc n) xs) = line_here n xs (omega (arith, lt)) at (λ k l e. before (suc k) (omega (arith, l)) e) in
    rw (other, rest) refl

line_nowhere : (xs : List ℕ) → IsNot 10 xs (length xs) → line_at xs ≡ None
unfolding line_at
line_nowhere [] before = refl
line_nowhere (x ∷ xs) before =
    let other : eqb x 10 ≡ false = ne_eqb x 10 (before zero (omega arith)) in
    let rest : line_at xs ≡ None = line_nowhere xs (λ k l e. before (suc k) (omega (arith, l)) e) in
    rw (other, rest) refl

pub line_found : (end : ℕ) (xs : List ℕ) → IsFirstByte (is_byte 10) xs (Some end) → line_at xs ≡ Some (take end xs, take (length xs - (end + 1)) (drop (end + 1) xs))
line_found end xs found =
    let rest : take (length xs - (end + 1)) (drop (end + 1) xs) ≡ drop (end + 1) xs = take_all _ (drop (end + 1) xs) (omega (arith, length-drop (end + 1) xs)) in
    let next : suc end ≡ end + 1 = omega arith in
    line_here end xs found.0.high (eqb-true _ 10 found.1) (λ k l e. found.0.before k (omega arith) l (eq-eqb _ 10 e))
    ∙ ap (λ (n : ℕ). Some (take end xs, drop n xs)) next ∙ ap (λ (r : List ℕ). Some (take end xs, r)) (sym rest)

pub no_line : (xs : List ℕ) → IsFirstByte (is_byte 10) xs None → line_at xs ≡ None
no_line xs none = line_nowhere xs (λ k l e. none k (omega arith) l (eq-eqb _ 10 e))

-- ---- words

piece_here : (n : ℕ) (xs : List ℕ) → n < length xs → get_or xs n 0 ≡ 32 → IsNot 32 xs n → pieces xs ≡ take n xs ∷ pieces (drop (suc n) xs)
unfolding pieces
piece_here n [] lt at before = absurd (omega (arith, lt))
piece_here zero (x ∷ xs) lt at before =
    let is : x ≡ 32 = at in
    rw is refl
piece_here (suc n) (x ∷ xs) lt at before =
    let other : eqb x 32 ≡ false = ne_eqb x 32 (before zero (omega arith)) in
    let rest : pieces xs ≡ take n xs ∷ pieces (drop (suc n) xs) = piece_here n xs (omega (arith, lt)) at (λ k l e. before (suc k) (omega (arith, l)) e) in
    rw (other, rest) refl

piece_alone : (xs : List ℕ) → IsNot 32 xs (length xs) → pieces xs ≡ xs ∷ []
unfolding pieces
piece_alone [] before = refl
piece_alone (x ∷ xs) before =
    let other : eqb x 32 ≡ false = ne_eqb x 32 (before zero (omega arith)) in
    let rest : pieces xs ≡ xs ∷ [] = piece_alone xs (λ k l e. before (suc k) (omega (arith, l)) e) in
    rw (other, rest) refl

some_word : (w : List ℕ) (ws : List (List ℕ)) → 0 < length w → not_empty (w ∷ ws) ≡ w ∷ not_empty ws
unfolding not_empty
some_word [] ws some = absurd (omega (arith, some))
some_word (b ∷ bs) ws some = refl

pub words_none : words [] ≡ []
unfolding words pieces not_empty
words_none = refl

pub words_blank : (xs : List ℕ) (b : ℕ) → b ≡ 32 → words (b ∷ xs) ≡ words xs
unfolding words pieces not_empty
words_blank xs b is = rw is refl

-- a word that a blank ends
pub word_found : (end : ℕ) (xs : List ℕ) → 0 < length xs → (slice_index xs 0 ≡ 32 → ⊥) → IsFirstByte (is_byte 32) xs (Some end) → words xs ≡ take end xs ∷ words (take (length xs - (end + 1)) (drop (end + 1) xs))
unfolding words
word_found end xs some first found =
    let at : get_or xs end 0 ≡ 32 = eqb-true _ 32 found.1 in
    let rest : take (length xs - (end + 1)) (drop (end + 1) xs) ≡ drop (end + 1) xs = take_all _ (drop (end + 1) xs) (omega (arith, length-drop (end + 1) xs)) in
    let next : suc end ≡ end + 1 = omega arith in
    let split : pieces xs ≡ take end xs ∷ pieces (drop (suc end) xs) = piece_here end xs found.0.high at (λ k l e. found.0.before k (omega arith) l (eq-eqb _ 32 e)) in
    ap not_empty split ∙ some_word (take end xs) (pieces (drop (suc end) xs)) (front end xs found.0.high at first)
    ∙ ap (λ (n : ℕ). take end xs ∷ not_empty (pieces (drop n xs))) next ∙ ap (λ (r : List ℕ). take end xs ∷ not_empty (pieces r)) (sym rest)
  where
    front : (end : ℕ) (xs : List ℕ) → end < length xs → get_or xs end 0 ≡ 32 → (slice_index xs 0 ≡ 32 → ⊥) → 0 < length (take end xs)
    front end [] lt at first = absurd (omega (arith, lt))
    front zero (x ∷ xs) lt at first = absurd (first at)
    front (suc end) (x ∷ xs) lt at first = omega arith

-- a word that nothing follows
pub word_alone : (xs : List ℕ) → 0 < length xs → IsFirstByte (is_byte 32) xs None → words xs ≡ xs ∷ words []
unfolding words not_empty
word_alone xs some none =
    ap not_empty (piece_alone xs (λ k l e. none k (omega arith) l (eq-eqb _ 32 e))) ∙ some_word xs [] some ∙ ap (λ (ws : List (List ℕ)). xs ∷ ws) (sym words_none)

pub words_empty : (xs : List ℕ) → length xs ≡ 0 → words xs ≡ []
words_empty [] e = words_none
words_empty (x ∷ xs) e = absurd (omega (arith, e))

pub some_length : (xs : List ℕ) → (length xs ≡ 0 → ⊥) → 0 < length xs
some_length [] not = absurd (not refl)
some_length (x ∷ xs) not = omega arith

pub shorter_behind : (end : ℕ) (xs line : List ℕ) → length xs ≤ length line → 0 < length xs → length (take (length xs - (end + 1)) (drop (end + 1) xs)) < length line
shorter_behind end xs line le some = omega (arith, le, some, length-take (length xs - (end + 1)) (drop (end + 1) xs), length-drop (end + 1) xs)
