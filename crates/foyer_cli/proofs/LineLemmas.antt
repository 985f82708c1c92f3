-- What is no number, what is no line that puts a text, and the bytes of a word.
use Rattle.std.proofs.Common.{◌≡◌, ℕ, ◌+◌, ◌-◌, ◌*◌, ◌/◌, ◌^◌, ◌<◌, ◌≤◌, zero, List, [], ◌∷◌, ◌++◌, true, length, get_or, take, drop, Some, None, suc, refl, sym, ap, subst, ◌∙◌, ⊎_elim, take_all, drop_of_length-le, drop-cons, nat_eq, codes, arith}
use Rattle.std.specs.Cmp.Lexicographic.{pointwise, same_text}
use Rattle.std.specs.Simd.{first_chunks}
use Rattle.std.specs.Char.{digit_value, IsAsciiDigit, IsNotAsciiDigit}
use Rattle.std.specs.Str.{IsUtf8}
use Rattle.std.specs.Str.Parse.{AllDigits, digits_value}
use Rattle.std.proofs.Math.Seq.{drop-append-add, get_or-append_seam, take-append_seam}
use Rattle.std.proofs.Math.Dec.{eqb}
use Rattle.std.proofs.lemmas.Bool.{cases_lt, eq-eqb, eqb-true}
use Rattle.std.proofs.lemmas.Int.Digits.{digits_more, digits_value_more}
use Rattle.std.proofs.lemmas.List.{drop-drop, get_or-drop, get_or-take, get_or_append_left, length-append, length-drop}
use Rattle.std.proofs.lemmas.Str.{digit_value_digit}
use Rattle.std.proofs.lemmas.Str.Parse.{digit_at, digits_value-take-le}
use Rattle.memchr.specs.Find.{IsFirstByte, is_byte}
use Rattle.foyer_cli.specs.Lines.{AreFour, IsLine, IsNumber}
use Rattle.foyer_cli.specs.declared.command.Command.{Command}
use Rattle.foyer_cli.specs.declared.command.Command.TheVariants as command

module _ (digits : List ℕ) (i : ℕ) (within : i < length digits) (byte : ℕ) (byte_is : byte ≡ get_or digits i 0) where
  pub no_digit : IsNotAsciiDigit byte → (n : ℕ) → IsNumber digits n → ⊥
  no_digit other n is = let digit = digit_at digits i is.0.1 within in omega arith

  module _ (value : ℕ) (so_far : value ≡ digits_value 10 (take i digits)) (digit : IsAsciiDigit byte) where
    worth : digit_value (get_or digits i 0) + 48 ≡ byte
    worth = digit_value_digit (get_or digits i 0) (omega arith, omega arith) ∙ sym byte_is

    pub one_more : (more next : ℕ) → more ≡ value * 10 + (byte - 48) → next ≡ i + 1 → more ≡ digits_value 10 (take next digits)
    one_more more next is e = omega (arith, ap (λ k. digits_value 10 (take k digits)) e, digits_value_more 10 digits i within, worth)

    pub digits_one_more : (next : ℕ) → next ≡ i + 1 → AllDigits 10 (take i digits) → AllDigits 10 (take next digits)
    digits_one_more next e before = subst (λ k. AllDigits 10 (take k digits)) (sym e) (digits_more 10 digits i within before (omega (arith, worth)))

    pub too_large : 2 ^ 64 ≤ value * 10 + (byte - 48) → (n : ℕ) → IsNumber digits n → ⊥
    too_large large n is = omega (arith, one_more _ (i + 1) refl refl, digits_value-take-le 10 digits (i + 1) (omega arith))

chunk_at : (k j : ℕ) (xs d : List ℕ) → j < k → get_or (first_chunks 4 k xs) j d ≡ take 4 (drop (j * 4) xs)
chunk_at zero j xs d h = absurd (omega arith)
chunk_at (suc k) zero xs d h = refl
chunk_at (suc k) (suc j) xs d h =
    let next : 4 + j * 4 ≡ suc j * 4 = omega arith in
    chunk_at k j (drop 4 xs) d (omega arith) ∙ ap (take 4) (drop-drop (j * 4) 4 xs ∙ ap (λ n. drop n xs) next)

module _ (digits : List ℕ) (fours : List (List ℕ)) (j : ℕ) (fours_are : fours ≡ first_chunks 4 (length digits / 4) digits) (within : j < length digits / 4) where
  abbrev four : List ℕ
  four = get_or fours j []

  at : (k i : ℕ) → k < 4 → i ≡ j * 4 + k → get_or four k 0 ≡ get_or digits i 0
  at k i h e =
      ap (λ l. get_or l k 0) (ap (λ ls. get_or ls j []) fours_are ∙ chunk_at (length digits / 4) j digits [] within)
      ∙ get_or-take 4 (drop (j * 4) digits) k 0 h ∙ get_or-drop (j * 4) digits k 0 ∙ ap (λ n. get_or digits n 0) (sym e)

  pub no_four : (k : ℕ) × (k < 4) × IsNotAsciiDigit (get_or four k 0) → (n : ℕ) → IsNumber digits n → ⊥
  no_four w = no_digit digits (j * 4 + w.0) (omega (arith, w.1)) (get_or four w.0 0) (at w.0 _ w.1 refl) w.2

  module _ (value n : ℕ) (so_far : value ≡ digits_value 10 (take (j * 4) digits)) (are : AreFour four n) where
    first : value * 10 + (get_or four 0 0 - 48) ≡ digits_value 10 (take (j * 4 + 1) digits)
    first = one_more digits (j * 4) (omega arith) (get_or four 0 0) (at 0 (j * 4) (omega arith) (omega arith)) value so_far are.0 _ (j * 4 + 1) refl refl

    second : (value * 10 + (get_or four 0 0 - 48)) * 10 + (get_or four 1 0 - 48) ≡ digits_value 10 (take (j * 4 + 2) digits)
    second = one_more digits (j * 4 + 1) (omega arith) (get_or four 1 0) (at 1 (j * 4 + 1) (omega arith) refl) _ first are.1 _ (j * 4 + 2) refl (omega arith)

    third : ((value * 10 + (get_or four 0 0 - 48)) * 10 + (get_or four 1 0 - 48)) * 10 + (get_or four 2 0 - 48) ≡ digits_value 10 (take (j * 4 + 3) digits)
    third = one_more digits (j * 4 + 2) (omega arith) (get_or four 2 0) (at 2 (j * 4 + 2) (omega arith) refl) _ second are.2 _ (j * 4 + 3) refl (omega arith)

    pub four_more : (more next : ℕ) → more ≡ value * 10000 + n → next ≡ j * 4 + 4 → more ≡ digits_value 10 (take next digits)
    four_more more next is e =
        one_more digits (j * 4 + 3) (omega arith) (get_or four 3 0) (at 3 (j * 4 + 3) (omega arith) refl) _ third are.3 more next (omega (arith, are.4)) (omega arith)

    pub digits_four_more : (next : ℕ) → next ≡ j * 4 + 4 → AllDigits 10 (take (j * 4) digits) → AllDigits 10 (take next digits)
    digits_four_more next e before =
        digits_one_more digits (j * 4 + 3) (omega arith) (get_or four 3 0) (at 3 (j * 4 + 3) (omega arith) refl) _ third are.3 next (omega arith)
        (digits_one_more digits (j * 4 + 2) (omega arith) (get_or four 2 0) (at 2 (j * 4 + 2) (omega arith) refl) _ second are.2 (j * 4 + 3) (omega arith)
        (digits_one_more digits (j * 4 + 1) (omega arith) (get_or four 1 0) (at 1 (j * 4 + 1) (omega arith) refl) _ first are.1 (j * 4 + 2) (omega arith)
        (digits_one_more digits (j * 4) (omega arith) (get_or four 0 0) (at 0 (j * 4) (omega arith) (omega arith)) value so_far are.0 (j * 4 + 1) refl before)))

    pub too_large_four : 2 ^ 64 ≤ value * 10000 + n → (m : ℕ) → IsNumber digits m → ⊥
    too_large_four large m is = omega (arith, four_more _ (j * 4 + 4) refl refl, digits_value-take-le 10 digits (j * 4 + 4) (omega arith))

pub byte_of : (digits rest : List ℕ) (start i : ℕ) → rest ≡ drop start digits → get_or rest i 0 ≡ get_or digits (start + i) 0
byte_of digits rest start i is = ap (λ l. get_or l i 0) is ∙ get_or-drop start digits i 0

-- what stands behind the word of a put
pub record IsPut (rest : List ℕ) : Type 0 where
  pub digits : List ℕ
  pub key : ℕ
  pub text : List ℕ
  pub number : IsNumber digits key
  pub utf8 : IsUtf8 text
  pub is : rest ≡ digits ++ 32 ∷ text

begins : (line word : List ℕ) → take 4 line ≡ word → 0 < length word → get_or line 0 0 ≡ get_or word 0 0
begins [] word e h = absurd (omega (arith, ap length e))
begins (x ∷ xs) word e h = ap (λ l. get_or l 0 0) e

module _ (line rest : List ℕ) (word : pointwise nat_eq (take 4 line) (codes "put ") ≡ true) (rest_is : rest ≡ drop 4 line) where
  p_first : get_or line 0 0 ≡ 112
  p_first = begins line (codes "put ") (same_text _ _ (sym word)) (omega arith)

  pub put_of : (c : Command) → IsLine line c → IsPut rest
  put_of (command.Put key text) is = record {
    digits = is.0;
    key = key;
    text = text.now;
    number = is.1;
    utf8 = is.2;
    is = rest_is ∙ ap (drop 4) is.3;
  }
  put_of (command.Get key) is = let other : get_or line 0 0 ≡ 103 = ap (λ l. get_or l 0 0) is.2 in absurd (omega (arith, p_first))
  put_of (command.Delete key) is = let other : get_or line 0 0 ≡ 100 = ap (λ l. get_or l 0 0) is.2 in absurd (omega (arith, p_first))
  put_of command.Wait is = let other : get_or line 0 0 ≡ 119 = ap (λ l. get_or l 0 0) is in absurd (omega (arith, p_first))
  put_of command.Destroy is = let other : get_or line 0 0 ≡ 100 = ap (λ l. get_or l 0 0) is in absurd (omega (arith, p_first))
  put_of command.Close is = let other : get_or line 0 0 ≡ 99 = ap (λ l. get_or l 0 0) is in absurd (omega (arith, p_first))

module _ (rest : List ℕ) (put : IsPut rest) where
  at_end : get_or rest (length put.digits) 0 ≡ 32
  at_end = ap (λ l. get_or l (length put.digits) 0) put.is ∙ get_or-append_seam put.digits 32 put.text 0

  end_within : length put.digits < length rest
  end_within = omega (arith, ap length put.is, length-append put.digits (32 ∷ put.text))

  pub no_space : IsFirstByte (is_byte 32) rest None → ⊥
  no_space none = none (length put.digits) (omega arith) end_within (eq-eqb _ 32 at_end)

  pub same_end : (end : ℕ) → IsFirstByte (is_byte 32) rest (Some end) → end ≡ length put.digits
  same_end end found = ⊎_elim
      (λ less.
      let digit = digit_at put.digits end put.number.0.1 less in
      let space : get_or rest end 0 ≡ 32 = eqb-true _ 32 found.1 in
      let same : get_or rest end 0 ≡ get_or put.digits end 0 = ap (λ l. get_or l end 0) put.is ∙ get_or_append_left put.digits (32 ∷ put.text) 0 end less in
      absurd (omega arith))
      (λ more. ⊎_elim
      (λ after. absurd (found.0.before (length put.digits) (omega arith) after (eq-eqb _ 32 at_end)))
      (λ same. omega arith)
      (cases_lt (length put.digits) end))
      (cases_lt end (length put.digits))

  pub number_of : (end : ℕ) → IsFirstByte (is_byte 32) rest (Some end) → IsNumber (take end rest) put.key
  number_of end found =
      let same = same_end end found in
      subst (λ l. IsNumber l put.key) (sym (ap (λ k. take k rest) same ∙ ap (take (length put.digits)) put.is ∙ take-append_seam put.digits (32 ∷ put.text))) put.number

  pub text_of_put : (end : ℕ) → IsFirstByte (is_byte 32) rest (Some end) → IsUtf8 (take (length rest - (end + 1)) (drop (end + 1) rest))
  text_of_put end found = subst IsUtf8 (sym (take_all _ (drop (end + 1) rest) (omega (arith, length-drop (end + 1) rest)) ∙ ap (λ k. drop (k + 1) rest) (same_end end found) ∙ ap (drop (length put.digits + 1)) put.is ∙ drop-append-add put.digits (32 ∷ put.text) 1)) put.utf8

-- the bytes of a line from place i on are these
abbrev pub AreFrom : List ℕ → ℕ → List ℕ → Type 0
AreFrom line i [] = Unit {0}
AreFrom line i (x ∷ xs) = (get_or line i 0 ≡ x) × AreFrom line (i + 1) xs

pub word_from : (word line : List ℕ) (i : ℕ) → length line ≡ i + length word → AreFrom line i word → drop i line ≡ word
word_from [] line i e are = drop_of_length-le line (omega arith)
word_from (x ∷ xs) line i e are =
    let next : suc i ≡ i + 1 = omega arith in
    drop-cons line i 0 (omega arith) ∙ ap (λ k. get_or line i 0 ∷ drop k line) next ∙ ap (λ y. y ∷ drop (i + 1) line) are.0
    ∙ ap (λ ys. x ∷ ys) (word_from xs line (i + 1) (omega arith) are.1)
