-- The entries of an index.
use Rattle.std.proofs.Common.{◌≡◌, ℕ, zero, suc, ◌+◌, ◌*◌, ◌<◌, ◌≤◌, ◌^◌, List, [], ◌∷◌, ◌++◌, length, take, drop, refl, sym, ap, ◌∙◌, arith, Result, Ok, Err, IfErr}
use Rattle.std.proofs.lemmas.List.{length-append, length-drop, length-take-le, drop-append-le, drop-drop, drop_at, take-append-drop}
use Rattle.byteorder.specs.Endian.{big_bytes, big_number}
use Rattle.byteorder.specs.Numbers.{big_number-reads_back, big_from-append}
use Rattle.foyer_format_record.specs.Xxh64.{xxh64}
use Rattle.foyer_format_record.specs.Header.{number_at}
use Rattle.foyer_format_blob.specs.Blob.{entry_bytes, entry_of, entries_in, FitsEntry, IsSealed, capacity_of}
use Rattle.foyer_format_blob.specs.declared.blob.BlobEntryIndex.{BlobEntryIndex}

entry_is : (b : List ℕ) (e : BlobEntryIndex) → number_at 0 8 b ≡ e.hash → number_at 8 8 b ≡ e.sequence
    → number_at 16 4 b ≡ e.offset → number_at 20 4 b ≡ e.len → entry_of b ≡ e
unfolding entry_of
entry_is b e e1 e2 e3 e4 = rw (e1, e2, e3, e4) refl

-- an entry is read as it was written
entry_again : (e : BlobEntryIndex) (rest : List ℕ) → FitsEntry e → entry_of (entry_bytes e ++ rest) ≡ e
unfolding entry_bytes number_at
entry_again e rest fits =
    let r3 : List ℕ = big_bytes 4 e.len ++ rest in
    let r2 : List ℕ = big_bytes 4 e.offset ++ r3 in
    let r1 : List ℕ = big_bytes 8 e.sequence ++ r2 in
    let b : List ℕ = entry_bytes e ++ rest in
    let e1 : number_at 0 8 b ≡ e.hash = big_number-reads_back 8 e.hash r1 fits.hash in
    let e2 : number_at 8 8 b ≡ e.sequence = big_number-reads_back 8 e.sequence r2 fits.sequence in
    let e3 : number_at 16 4 b ≡ e.offset = big_number-reads_back 4 e.offset r3 fits.offset in
    let e4 : number_at 20 4 b ≡ e.len = big_number-reads_back 4 e.len rest fits.len in
    entry_is b e e1 e2 e3 e4

-- a number is that of the front that it lies in
number_front : (i k : ℕ) (xs ys : List ℕ) → i + k ≤ length xs → number_at i k (xs ++ ys) ≡ number_at i k xs
unfolding number_at
number_front i k xs ys within =
    let low : i ≤ length xs = omega arith in
    let cut : drop i (xs ++ ys) ≡ drop i xs ++ ys = drop-append-le i xs ys low in
    let room : k ≤ length (drop i xs) = omega (arith, length-drop i xs) in
    ap (big_number k) cut ∙ big_from-append k (drop i xs) ys room

entry_front : (xs ys : List ℕ) → 24 ≤ length xs → entry_of (xs ++ ys) ≡ entry_of xs
unfolding entry_of
entry_front xs ys within =
    entry_is (xs ++ ys) (entry_of xs)
    (number_front 0 8 xs ys (omega arith)) (number_front 8 8 xs ys (omega arith))
    (number_front 16 4 xs ys (omega arith)) (number_front 20 4 xs ys (omega arith))

-- the entries of a front
entries_front : (xs ys : List ℕ) (n : ℕ) → 12 + 24 * n ≤ length xs → entries_in (xs ++ ys) n ≡ entries_in xs n
unfolding entries_in
entries_front xs ys zero within = refl
entries_front xs ys (suc n) within =
    let low : 12 + 24 * n ≤ length xs = omega arith in
    let cut : drop (12 + 24 * n) (xs ++ ys) ≡ drop (12 + 24 * n) xs ++ ys = drop-append-le (12 + 24 * n) xs ys low in
    let room : 24 ≤ length (drop (12 + 24 * n) xs) = omega (arith, length-drop (12 + 24 * n) xs) in
    let last : entry_of (drop (12 + 24 * n) (xs ++ ys)) ≡ entry_of (drop (12 + 24 * n) xs) =
    ap entry_of cut ∙ entry_front (drop (12 + 24 * n) xs) ys room in
    let before : entries_in (xs ++ ys) n ≡ entries_in xs n = entries_front xs ys n low in
    rw (last, before) refl

-- a new entry behind the first n
pub entry_put : (old rest : List ℕ) (n : ℕ) (e : BlobEntryIndex) → 12 + 24 * n ≤ length old → FitsEntry e
    → entries_in (take (12 + 24 * n) old ++ (entry_bytes e ++ rest)) (n + 1) ≡ entries_in old n ++ e ∷ []
unfolding entries_in
entry_put old rest n e within fits =
    let front : List ℕ = take (12 + 24 * n) old in
    let len : length front ≡ 12 + 24 * n = length-take-le (12 + 24 * n) old within in
    let last : entry_of (drop (12 + 24 * n) (front ++ (entry_bytes e ++ rest))) ≡ e =
    ap entry_of (drop_at front (entry_bytes e ++ rest) (12 + 24 * n) len) ∙ entry_again e rest fits in
    let before : entries_in (front ++ (entry_bytes e ++ rest)) n ≡ entries_in front n =
    entries_front front (entry_bytes e ++ rest) n (omega arith) in
    let same : entries_in (front ++ drop (12 + 24 * n) old) n ≡ entries_in front n =
    entries_front front (drop (12 + 24 * n) old) n (omega arith) in
    let whole : front ++ drop (12 + 24 * n) old ≡ old = take-append-drop (12 + 24 * n) old in
    let kept : entries_in front n ≡ entries_in old n = sym same ∙ ap (λ b. entries_in b n) whole in
    let plus : n + 1 ≡ suc n = omega arith in
    rw (plus, last, before, kept) refl

-- the entries lie behind byte 12
pub entries_behind : (b c : List ℕ) (n : ℕ) → drop 12 b ≡ drop 12 c → entries_in b n ≡ entries_in c n
unfolding entries_in
entries_behind b c zero same = refl
entries_behind b c (suc n) same =
    let at : drop (12 + 24 * n) b ≡ drop (12 + 24 * n) c =
    sym (drop-drop (24 * n) 12 b) ∙ ap (drop (24 * n)) same ∙ drop-drop (24 * n) 12 c in
    rw (at, entries_behind b c n same) refl

pub length-entries_in : (b : List ℕ) (n : ℕ) → length (entries_in b n) ≡ n
unfolding entries_in
length-entries_in b zero = refl
length-entries_in b (suc n) = rw (length-append _ _, length-entries_in b n) (omega arith)

pub entries_more : (b : List ℕ) (n : ℕ) → entries_in b (n + 1) ≡ entries_in b n ++ entry_of (drop (12 + 24 * n) b) ∷ []
unfolding entries_in
entries_more b n = let plus : n + 1 ≡ suc n = omega arith in rw plus refl

-- what makes an index sealed
pub sealed_from : (b : List ℕ) (es : List BlobEntryIndex) (n : ℕ) → 12 ≤ length b → number_at 0 8 b ≡ xxh64 (drop 8 b)
    → n ≡ number_at 8 4 b → n ≤ capacity_of (length b) → es ≡ entries_in b n → IsSealed b es
sealed_from b es n long sum count room are =
    let len : length es ≡ n = ap length are ∙ length-entries_in b n in
    record {
      long = long;
      checksum = sum;
      count = sym count ∙ sym len;
      room = omega arith;
      entries = ap (entries_in b) len ∙ sym are;
    }

-- writing the count and then the checksum seals an index
pub sealed_by : (old word front : List ℕ) (count sum : ℕ) → 12 ≤ length old → count < 2 ^ 32 → count ≤ capacity_of (length old)
    → word ≡ big_bytes 4 count → sum ≡ xxh64 (word ++ drop 12 old) → sum < 2 ^ 64 → front ≡ big_bytes 8 sum
    → IsSealed (front ++ (word ++ drop 12 old)) (entries_in old count) × (drop 12 (front ++ (word ++ drop 12 old)) ≡ drop 12 old)
unfolding number_at
sealed_by old word front count sum long fits room words sums sum_fits fronts =
    let b : List ℕ = big_bytes 8 sum ++ (big_bytes 4 count ++ drop 12 old) in
    let is : front ++ (word ++ drop 12 old) ≡ b = rw (words, fronts) refl in
    let len : length b ≡ length old = omega (arith, length-drop 12 old) in
    let right : number_at 0 8 b ≡ xxh64 (drop 8 b) = big_number-reads_back 8 sum (big_bytes 4 count ++ drop 12 old) sum_fits ∙ rw words at sums in
    let counted : number_at 8 4 b ≡ count = big_number-reads_back 4 count (drop 12 old) fits in
    let kept : entries_in b count ≡ entries_in old count = entries_behind b old count refl in
    let sealed : IsSealed b (entries_in old count) =
    sealed_from b (entries_in old count) count (omega arith) right (sym counted) (omega arith) (sym kept) in
    let rest : drop 12 b ≡ drop 12 old = refl in
    rw is (sealed, rest)

pub entries_none : (b : List ℕ) → entries_in b 0 ≡ []
unfolding entries_in
entries_none b = refl

pub ruleset entry_lemmas = (entries_more, entries_none)

-- what holds whatever the error
pub if_err : {A E P : Type 0} (r : Result A E) → P → IfErr r (λ e. P)
if_err (Ok x) p = tt
if_err (Err e) p = p
