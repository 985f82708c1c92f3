-- Which text names which counter.
use Rattle.std.proofs.Common.{◌≡◌, ◌≢◌, ℕ, zero, suc, ◌<◌, ◌^◌, Bool, true, false, cond, List, [], ◌∷◌, ◌++◌, length, get_or, refl, sym, ◌∙◌, ap, subst, ◌&&◌, ◌==◌, nat_lt, slice_index, rules, arith}
use Rattle.std.specs.Prelude.{codes, decimal, Result, Ok, Err}
use Rattle.std.specs.Char.{is_whitespace}
use Rattle.std.specs.Int.NonZero.{non_zero_usize_get}
use Rattle.std.specs.Str.{trim, trim_start, trim_end, chars, skip_leading_whitespace, drop_trailing_whitespace, encode_utf8_all, IsAscii}
use Rattle.std.specs.Str.Parse.{IsNumeral, digits_value, without_leading_plus}
use Rattle.std.specs.declared.num.NonZeroUsize.{NonZeroUsize}
use Rattle.std.proofs.Math.Bridge.{le_prop}
use Rattle.std.proofs.lemmas.List.{append_cancel_left, append_cancel_right}
use Rattle.std.proofs.lemmas.Str.{encodes-IsAscii, IsAscii-append}
use Rattle.std.proofs.lemmas.Fmt.{IsAscii-decimal, decimal_is_IsNumeral, first_decimal}
use Rattle.foyer_device_page.specs.declared.error.Error.{Error}
use Rattle.foyer_device_throttle.specs.declared.iops.IopsCounter.{IopsCounter}
use Rattle.foyer_device_throttle.specs.declared.iops.IopsCounter.TheVariants.{PerIo, PerIoSize}
use Rattle.foyer_device_throttle.specs.Text.{counter_text, IsCounterOf, HasSize}

chars_of_ascii : (bs : List ℕ) → IsAscii bs → chars bs ≡ bs
unfolding chars
chars_of_ascii [] ascii = refl
chars_of_ascii (b ∷ []) ascii = let low : nat_lt b 128 ≡ true = let a = ascii 0 in search rules in rw low refl
chars_of_ascii (b ∷ d ∷ bs) ascii =
    let low : nat_lt b 128 ≡ true = let a = ascii 0 in search rules in
    let rest : chars (d ∷ bs) ≡ d ∷ bs = chars_of_ascii (d ∷ bs) (λ i. ascii (suc i)) in
    rw low (ap (λ xs. b ∷ xs) rest)

not_empty : (b : Bool) (n : ℕ) (xs ys : List ℕ) → cond (b && (suc n == 0)) xs ys ≡ ys
not_empty true n xs ys = let more : (suc n == 0) ≡ false = search rules in rw more refl
not_empty false n xs ys = refl

length_snoc : (xs : List ℕ) (l : ℕ) → length (xs ++ l ∷ []) ≡ suc (length xs)
length_snoc [] l = refl
length_snoc (x ∷ xs) l = ap suc (length_snoc xs l)

drop_trailing_last : (xs : List ℕ) (l : ℕ) → is_whitespace l ≡ false → drop_trailing_whitespace (xs ++ l ∷ []) ≡ xs ++ l ∷ []
drop_trailing_last [] l black = rw black refl
drop_trailing_last (x ∷ xs) l black =
    let rest : drop_trailing_whitespace (xs ++ l ∷ []) ≡ xs ++ l ∷ [] = drop_trailing_last xs l black in
    rw rest (rw (length_snoc xs l) (not_empty (is_whitespace x) (length xs) [] _))

-- a text between characters that aren't white space is trimmed to itself
trimmed : (x l : ℕ) (bs : List ℕ) → is_whitespace x ≡ false → is_whitespace l ≡ false → IsAscii (x ∷ (bs ++ l ∷ [])) → trim (x ∷ (bs ++ l ∷ [])) ≡ x ∷ (bs ++ l ∷ [])
unfolding trim_start trim_end
trimmed x l bs first last ascii =
    let t : List ℕ = x ∷ (bs ++ l ∷ []) in
    let same : chars t ≡ t = chars_of_ascii t ascii in
    let skips : skip_leading_whitespace t ≡ t = rw first refl in
    let drops : drop_trailing_whitespace t ≡ t = drop_trailing_last (x ∷ bs) l last in
    let bytes : encode_utf8_all t ≡ t = encodes-IsAscii t ascii in
    let start : trim_start t ≡ t = ap (λ (v : List ℕ). encode_utf8_all (skip_leading_whitespace v)) same ∙ ap (λ (v : List ℕ). encode_utf8_all v) skips ∙ bytes in
    ap (λ (v : List ℕ). encode_utf8_all (drop_trailing_whitespace (chars v))) start
    ∙ ap (λ (v : List ℕ). encode_utf8_all (drop_trailing_whitespace v)) same
    ∙ ap (λ (v : List ℕ). encode_utf8_all v) drops ∙ bytes

abbrev AllLow : List ℕ → Type 0
AllLow [] = Unit {0}
AllLow (x ∷ xs) = (x < 128) × AllLow xs

ascii_text : (xs : List ℕ) → AllLow xs → IsAscii xs
ascii_text [] low i = omega arith
ascii_text (x ∷ xs) low zero = low.0
ascii_text (x ∷ xs) low (suc i) = ascii_text xs low.1 i

ascii_name : IsAscii (codes "PerIo")
ascii_name = ascii_text (codes "PerIo") (search rules)

ascii_prefix : IsAscii (codes "PerIoSize(")
ascii_prefix = ascii_text (codes "PerIoSize(") (search rules)

ascii_suffix : IsAscii (codes ")")
ascii_suffix = ascii_text (codes ")") (search rules)

per_io_trimmed : trim (codes "PerIo") ≡ codes "PerIo"
per_io_trimmed = trimmed 80 111 (101 ∷ 114 ∷ 73 ∷ []) refl refl ascii_name

size_trimmed : (n : ℕ) → n < 2 ^ 64 → trim (codes "PerIoSize(" ++ (decimal n ++ codes ")")) ≡ codes "PerIoSize(" ++ (decimal n ++ codes ")")
size_trimmed n low =
    trimmed 80 41 (101 ∷ 114 ∷ 73 ∷ 111 ∷ 83 ∷ 105 ∷ 122 ∷ 101 ∷ 40 ∷ decimal n) refl refl
    (IsAscii-append (codes "PerIoSize(") (decimal n ++ codes ")") ascii_prefix (IsAscii-append (decimal n) (codes ")") (IsAscii-decimal n low) ascii_suffix))

plain : (n : ℕ) → 0 < n → n < 2 ^ 64 → without_leading_plus (decimal n) ≡ decimal n
plain n some low =
    let high : 48 < get_or (decimal n) 0 0 = first_decimal n some low in
    let other : (slice_index (decimal n) 0 == 43) ≡ false = search rules in
    rw other refl

-- the two kinds of texts have different lengths
apart : (xs : List ℕ) → codes "PerIo" ≢ codes "PerIoSize(" ++ xs
apart xs e = let lens = ap (λ (ys : List ℕ). length ys) e in absurd (omega arith)

per_io : (r : Result IopsCounter Error) → IsCounterOf (codes "PerIo") r → r ≡ Ok PerIo
per_io (Ok PerIo) names = refl
per_io (Ok (PerIoSize size)) names = absurd (apart _ (sym per_io_trimmed ∙ names.2.1))
per_io (Err e) names = absurd (names.1 per_io_trimmed)

same_size : (a b : NonZeroUsize) → a.value ≡ b.value → a ≡ b
same_size a b e =
    let P : ℕ → Type 0 = λ m. (h : 0 < m) → the_size m h ≡ b in
    subst P (sym e) (λ h. ap (λ k. the_size b.value k) (le_prop h b.ok)) a.ok
  where
    the_size : (m : ℕ) → 0 < m → NonZeroUsize
    the_size m h = record { value = m; ok = h }

abbrev the_counter : NonZeroUsize → Result IopsCounter Error
the_counter x = Ok (PerIoSize x)

per_io_size : (size : NonZeroUsize) (r : Result IopsCounter Error) → 0 < non_zero_usize_get size → non_zero_usize_get size < 2 ^ 64 → IsCounterOf (counter_text (PerIoSize size)) r → r ≡ Ok (PerIoSize size)
per_io_size size (Ok PerIo) some low names = absurd (apart _ (sym names ∙ size_trimmed (non_zero_usize_get size) low))
per_io_size size (Ok (PerIoSize other)) some low names =
    let n = non_zero_usize_get size in
    let digits = names.2.0 in
    let texts : codes "PerIoSize(" ++ (decimal n ++ codes ")") ≡ codes "PerIoSize(" ++ (digits ++ codes ")") = sym (size_trimmed n low) ∙ names.2.1 in
    let same : decimal n ≡ digits = append_cancel_right _ _ (codes ")") (append_cancel_left (codes "PerIoSize(") _ _ texts) in
    let numbers : non_zero_usize_get other ≡ n = sym names.2.3 ∙ ap (λ (ds : List ℕ). digits_value 10 (without_leading_plus ds)) (sym same) ∙ ap (λ (ds : List ℕ). digits_value 10 ds) (plain n some low) ∙ (decimal_is_IsNumeral n low).1 in
    ap (λ (x : NonZeroUsize). the_counter x) (same_size other size numbers)
per_io_size size (Err e) some low names =
    let n = non_zero_usize_get size in
    let number = decimal_is_IsNumeral n low in
    absurd (names.2 n (
      some,
      low,
      (
        decimal n,
        size_trimmed n low,
        subst (λ (ds : List ℕ). IsNumeral 10 ds) (sym (plain n some low)) number.0,
        ap (λ (ds : List ℕ). digits_value 10 ds) (plain n some low) ∙ number.1,
      ),
    ))

pub read_back : (c : IopsCounter) (r : Result IopsCounter Error) → HasSize c → IsCounterOf (counter_text c) r → r ≡ Ok c
read_back PerIo r sized names = per_io r names
read_back (PerIoSize size) r sized names = per_io_size size r sized.0 sized.1 names
