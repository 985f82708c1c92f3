-- Marks as bytes.
use Rattle.std.proofs.Common.{◌≡◌, ℕ, zero, suc, ◌+◌, ◌-◌, ◌^◌, ◌<◌, ◌≤◌, ◌⊎◌, inl, inr, List, ◌++◌, length, take, drop, refl, sym, ap, ◌∙◌, arith, get_or, slice_index}
use Rattle.std.proofs.lemmas.List.{get_or-drop, get_or-take, get_or_append_left, get_or-append_right, drop_at, length-take-le}
use borrow.Rule.Slice.PartMut.{put_mid}
use Rattle.byteorder.specs.Endian.{big_from, big_number, big_bytes}
use Rattle.byteorder.specs.Numbers.{big_number-reads_back}
use Rattle.foyer_block_tombstone.specs.Mark.{number, mark_at}
use Rattle.foyer_block_index.specs.declared.tombstone.Tombstone.{Tombstone}

number_from : (xs : List ℕ) (at i n : ℕ) → big_from i n (drop at xs) ≡ number (slice_index xs) (at + i) n
unfolding number
number_from xs at i zero = refl
number_from xs at i (suc n) =
    let byte : slice_index (drop at xs) i ≡ slice_index xs (at + i) = get_or-drop at xs i 0 in
    let rest : big_from (suc i) n (drop at xs) ≡ number (slice_index xs) (at + suc i) n = number_from xs at (suc i) n in
    let plus : at + suc i ≡ suc (at + i) = omega arith in
    rw (byte, rest, plus) refl

-- a number is what the bytes from its place on are read as
pub number_read : (xs : List ℕ) (at : ℕ) → big_number 8 (drop at xs) ≡ number (slice_index xs) at 8
number_read xs at = let plus : at + 0 ≡ at = omega arith in rw plus at (number_from xs at 0 8)

-- it depends on its own bytes alone
pub number_same : (B C : ℕ → ℕ) (at n : ℕ) → ((o : ℕ) → at ≤ o → o < at + n → B o ≡ C o) → number B at n ≡ number C at n
unfolding number
number_same B C at zero same = refl
number_same B C at (suc n) same =
    let byte : B at ≡ C at = same at (omega arith) (omega arith) in
    let rest : number B (suc at) n ≡ number C (suc at) n = number_same B C (suc at) n (λ o low high. same o (omega arith) (omega arith)) in
    rw (byte, rest) refl

pub mark_same : (B C : ℕ → ℕ) (at : ℕ) → ((o : ℕ) → at ≤ o → o < at + 16 → B o ≡ C o) → mark_at B at ≡ mark_at C at
unfolding mark_at
mark_same B C at same =
    let hash : number B at 8 ≡ number C at 8 = number_same B C at 8 (λ o low high. same o low (omega arith)) in
    let sequence : number B (at + 8) 8 ≡ number C (at + 8) 8 = number_same B C (at + 8) 8 (λ o low high. same o (omega arith) (omega arith)) in
    rw (hash, sequence) refl

-- the same bytes at another place
pub number_moved : (B C : ℕ → ℕ) (at to n : ℕ) → ((o : ℕ) → o < n → B (at + o) ≡ C (to + o)) → number B at n ≡ number C to n
unfolding number
number_moved B C at to zero same = refl
number_moved B C at to (suc n) same =
    let b0 : at + 0 ≡ at = omega arith in
    let c0 : to + 0 ≡ to = omega arith in
    let byte : B at ≡ C to = rw (b0, c0) at (same 0 (omega arith)) in
    let rest : number B (suc at) n ≡ number C (suc to) n = number_moved B C (suc at) (suc to) n (λ o high.
    let eb : suc at + o ≡ at + suc o = omega arith in
    let ec : suc to + o ≡ to + suc o = omega arith in
    rw (eb, ec) (same (suc o) (omega arith))) in
    rw (byte, rest) refl

pub mark_moved : (B C : ℕ → ℕ) (at to : ℕ) → ((o : ℕ) → o < 16 → B (at + o) ≡ C (to + o)) → mark_at B at ≡ mark_at C to
unfolding mark_at
mark_moved B C at to same =
    let hash : number B at 8 ≡ number C to 8 = number_moved B C at to 8 (λ o high. same o (omega arith)) in
    let sequence : number B (at + 8) 8 ≡ number C (to + 8) 8 = number_moved B C (at + 8) (to + 8) 8 (λ o high.
    let eb : at + 8 + o ≡ at + (8 + o) = omega arith in
    let ec : to + 8 + o ≡ to + (8 + o) = omega arith in
    rw (eb, ec) (same (8 + o) (omega arith))) in
    rw (hash, sequence) refl

-- two numbers make a mark
pub mark_is : (B : ℕ → ℕ) (at : ℕ) (m : Tombstone) → number B at 8 ≡ m.hash → number B (at + 8) 8 ≡ m.sequence → mark_at B at ≡ m
unfolding mark_at
mark_is B at m hash sequence = rw (hash, sequence) refl

pub number_back : (xs rest : List ℕ) (at value : ℕ) → value < 2 ^ 64 → drop at xs ≡ big_bytes 8 value ++ rest → number (slice_index xs) at 8 ≡ value
number_back xs rest at value fits is = sym (number_read xs at) ∙ ap (big_number 8) is ∙ big_number-reads_back 8 value rest fits

-- a number that was written over its n bytes
pub number_put : (old word : List ℕ) (at n value : ℕ) → n ≡ 8 → value < 2 ^ 64 → at ≤ length old → word ≡ big_bytes 8 value
    → number (slice_index (put_mid at n old word)) at 8 ≡ value
number_put old word at n value eight fits within words =
    let rest : List ℕ = drop n (drop at old) in
    let behind : drop at (take at old ++ (word ++ rest)) ≡ big_bytes 8 value ++ rest =
    drop_at (take at old) (word ++ rest) at (length-take-le at old within) ∙ ap (λ (t : List ℕ). t ++ rest) words in
    number_back (put_mid at n old word) rest at value fits behind

put_low : (old word rest : List ℕ) (at o : ℕ) → at ≤ length old → o < at → get_or (take at old ++ (word ++ rest)) o 0 ≡ get_or old o 0
put_low old word rest at o within low =
    let len : length (take at old) ≡ at = length-take-le at old within in
    get_or_append_left (take at old) (word ++ rest) 0 o (omega arith) ∙ get_or-take at old o 0 low

put_high : (old word : List ℕ) (at n o : ℕ) → at + n ≤ length old → length word ≡ n → at + n ≤ o
    → get_or (take at old ++ (word ++ drop n (drop at old))) o 0 ≡ get_or old o 0
put_high old word at n o within len high =
    let front : length (take at old) ≡ at = length-take-le at old (omega arith) in
    let rest : List ℕ = drop n (drop at old) in
    let one : get_or (take at old ++ (word ++ rest)) o 0 ≡ get_or (word ++ rest) (o - at) 0 =
    get_or-append_right (take at old) (word ++ rest) at o 0 front (omega arith) in
    let two : get_or (word ++ rest) (o - at) 0 ≡ get_or rest (o - at - n) 0 = get_or-append_right word rest n (o - at) 0 len (omega arith) in
    let three : get_or rest (o - at - n) 0 ≡ get_or (drop at old) (n + (o - at - n)) 0 = get_or-drop n (drop at old) (o - at - n) 0 in
    let four : get_or (drop at old) (n + (o - at - n)) 0 ≡ get_or old (at + (n + (o - at - n))) 0 = get_or-drop at old (n + (o - at - n)) 0 in
    let is : at + (n + (o - at - n)) ≡ o = omega arith in
    one ∙ two ∙ three ∙ four ∙ ap (λ (i : ℕ). get_or old i 0) is

pub number_others : (old word : List ℕ) (at n : ℕ) → at + n ≤ length old → length word ≡ n
    → (o : ℕ) → (o < at) ⊎ (at + n ≤ o) → slice_index (put_mid at n old word) o ≡ slice_index old o
number_others old word at n within len o (inl low) = put_low old word (drop n (drop at old)) at o (omega arith) low
number_others old word at n within len o (inr high) = put_high old word at n o within len high
