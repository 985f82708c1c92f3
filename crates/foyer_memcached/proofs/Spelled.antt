-- Words that were written as a line are read as those words.
use Rattle.std.proofs.Common.{◌≡◌, ℕ, ◌-◌, ◌<◌, ◌≤◌, Bool, true, false, cond, eqb, ltb, List, [], ◌∷◌, ◌++◌, length, get_or, Option, Some, Result, Ok, Err, refl, ap, ◌∙◌, append_assoc, arith}
use Rattle.std.proofs.Math.Seq.{take-append_seam, get_or-append_seam}
use Rattle.std.proofs.lemmas.Bool.{ne_eqb, le-ltb, eq-eqb}
use Rattle.std.proofs.lemmas.List.{length-append}
use Rattle.foyer_memcached.specs.declared.command.Fault.{Fault}
use Rattle.foyer_memcached.specs.declared.command.Fault.TheVariants.{TooLong}
use Rattle.foyer_memcached.specs.declared.command.Limits.{Limits}
use Rattle.foyer_memcached.specs.Bytes.{Without, AreWords, joined, line_text, line_bytes}
use Rattle.foyer_memcached.specs.Command.{after_line, command_at, line_limit, line_of}
use Rattle.foyer_memcached.specs.Lines.{said_at}
use Rattle.foyer_memcached.specs.Steps.{◌>>=◌}
use Rattle.foyer_memcached.specs.Words.{line_at, pieces, not_empty, words, without_return}

-- ---- words

piece_then : (w rest : List ℕ) → Without 32 w → pieces (w ++ 32 ∷ rest) ≡ w ∷ pieces rest
unfolding pieces
piece_then [] rest plain = refl
piece_then (b ∷ bs) rest plain =
    let other : eqb b 32 ≡ false = ne_eqb b 32 plain.0 in
    let next : pieces (bs ++ 32 ∷ rest) ≡ bs ∷ pieces rest = piece_then bs rest plain.1 in
    rw (other, next) refl

piece_last : (w : List ℕ) → Without 32 w → pieces w ≡ w ∷ []
unfolding pieces
piece_last [] plain = refl
piece_last (b ∷ bs) plain =
    let other : eqb b 32 ≡ false = ne_eqb b 32 plain.0 in
    let next : pieces bs ≡ bs ∷ [] = piece_last bs plain.1 in
    rw (other, next) refl

kept_word : (w : List ℕ) (ws : List (List ℕ)) → 0 < length w → not_empty (w ∷ ws) ≡ w ∷ not_empty ws
unfolding not_empty
kept_word [] ws some = absurd (omega (arith, some))
kept_word (b ∷ bs) ws some = refl

pub words_joined : (ws : List (List ℕ)) → AreWords ws → words (joined ws) ≡ ws
unfolding words not_empty pieces
words_joined [] are = refl
words_joined (w ∷ []) are = ap not_empty (piece_last w are.0.1) ∙ kept_word w [] are.0.0
words_joined (w ∷ (x ∷ ws)) are =
    ap not_empty (piece_then w (joined (x ∷ ws)) are.0.1) ∙ kept_word w (pieces (joined (x ∷ ws))) are.0.0 ∙ ap (λ (vs : List (List ℕ)). w ∷ vs) (words_joined (x ∷ ws) are.1)

-- ---- lines

pub line_then : (front rest : List ℕ) → Without 10 front → line_at (front ++ 10 ∷ rest) ≡ Some (front, rest)
unfolding line_at
line_then [] rest plain = refl
line_then (b ∷ bs) rest plain =
    let other : eqb b 10 ≡ false = ne_eqb b 10 plain.0 in
    let next : line_at (bs ++ 10 ∷ rest) ≡ Some (bs, rest) = line_then bs rest plain.1 in
    rw (other, next) refl

without-append : (a : ℕ) (xs ys : List ℕ) → Without a xs → Without a ys → Without a (xs ++ ys)
without-append a [] ys p q = q
without-append a (x ∷ xs) ys p q = (p.0, without-append a xs ys p.1 q)

no_feed : (ws : List (List ℕ)) → AreWords ws → Without 10 (joined ws)
no_feed [] are = tt
no_feed (w ∷ []) are = are.0.2
no_feed (w ∷ (x ∷ ws)) are = without-append 10 w (32 ∷ joined (x ∷ ws)) are.0.2 (λ (e : 32 ≡ 10). absurd (omega (arith, e)), no_feed (x ∷ ws) are.1)

pub return_goes : (line : List ℕ) → without_return (line ++ 13 ∷ []) ≡ line
return_goes line =
    let last : length (line ++ 13 ∷ []) - 1 ≡ length line = omega (arith, length-append line (13 ∷ [])) in
    let at : eqb (get_or (line ++ 13 ∷ []) (length line) 0) 13 ≡ true = eq-eqb _ 13 (get_or-append_seam line 13 [] 0) in
    rw (last, at) (take-append_seam line (13 ∷ []))

-- a line of words is read as these words, whatever follows it
pub line_again : (limits : Limits) (ws : List (List ℕ)) (rest : List ℕ) → AreWords ws → length (line_text ws) ≤ line_limit limits (line_text ws) → command_at limits (line_bytes ws ++ rest) ≡ after_line limits (said_at ws) rest
unfolding command_at
line_again limits ws rest are fits =
    let plain : Without 10 (line_text ws) = without-append 10 (joined ws) (13 ∷ []) (no_feed ws are) (λ (e : 13 ≡ 10). absurd (omega (arith, e)), tt) in
    let found : line_at (line_bytes ws ++ rest) ≡ Some (line_text ws, rest) = ap line_at (append_assoc (line_text ws) (10 ∷ []) rest) ∙ line_then (line_text ws) rest plain in
    let read : words (without_return (line_text ws)) ≡ ws = ap words (return_goes (joined ws)) ∙ words_joined ws are in
    let short : ltb (line_limit limits (line_text ws)) (length (line_text ws)) ≡ false = le-ltb _ _ fits in
    ap (λ (o : Option (List ℕ × List ℕ)). line_of limits (line_bytes ws ++ rest) o >>= λ l. after_line limits (said_at (words (without_return l.0))) l.1) found
    ∙ ap (λ (t : Bool). cond {A = Result (List ℕ × List ℕ) Fault} t (Err TooLong) (Ok (line_text ws, rest)) >>= λ l. after_line limits (said_at (words (without_return l.0))) l.1) short
    ∙ ap (λ (vs : List (List ℕ)). after_line limits (said_at vs) rest) read
