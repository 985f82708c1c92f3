-- Entries one behind another.
use Rattle.std.proofs.Common.{◌≡◌, ℕ, ◌+◌, ◌-◌, ◌%◌, ◌≤◌, List, [], ◌∷◌, ◌++◌, take, drop, length, refl, sym, ap, ◌∙◌, arith, Result, Ok, Err, OnErr}
use Rattle.std.specs.Prelude.{IsTrue, true, false}
use Rattle.std.proofs.lemmas.List.{length-drop, length-take-le, drop-take, take-take}
use Rattle.foyer_format_layout.specs.Page.{page_up}
use Rattle.foyer_format_buffer.specs.Position.{taken}
use Rattle.foyer_format_buffer.specs.Entries.{Entry, Entries, entries_at, IsPacked, EachTakes, size_of, left_of}
use Rattle.foyer_format_buffer.specs.declared.BufferEntryInfo.{BufferEntryInfo}
use Rattle.foyer_format_layout.proofs.PageLaws.{page_up-holds, even-page_up}
use Rattle.foyer_format_buffer.proofs.SplitLemmas.{taken_none, taken_cons, taken-append, taken_one}

pub size_none : size_of [] ≡ 0
unfolding size_of
size_none = refl

pub size_cons : (e : Entry) (es : List Entry) → size_of (e ∷ es) ≡ page_up (length e.bytes) + size_of es
unfolding size_of
size_cons e es = refl

-- a slice of bytes that agree so far
pub slice_same : (a b : List ℕ) (w i n : ℕ) → take w a ≡ take w b → i + n ≤ w → take n (drop i a) ≡ take n (drop i b)
slice_same a b w i n same within =
    let cut : (c : List ℕ) → take n (drop i c) ≡ drop i (take (i + n) (take w c)) =
    λ c. sym (drop-take i n c) ∙ ap (drop i) (sym (take-take (i + n) w c within)) in
    cut a ∙ ap (λ t. drop i (take (i + n) t)) same ∙ sym (cut b)

-- entries of bytes that agree so far
pub entries_same : (a b : List ℕ) (w at : ℕ) (is : List BufferEntryInfo) → take w a ≡ take w b → IsPacked at is → at + taken is ≤ w
    → entries_at a is ≡ entries_at b is
entries_same a b w at [] same packed within = refl
entries_same a b w at (i ∷ is) same packed within =
    let holds = page_up-holds i.len in
    let cons = taken_cons i is in
    let here : take i.len (drop i.offset a) ≡ take i.len (drop i.offset b) = slice_same a b w i.offset i.len same (omega (arith, packed.0)) in
    let there = entries_same a b w (at + page_up i.len) is same packed.1 (omega arith) in
    rw (here, there) refl

pub entries_at-append : (a : List ℕ) (is js : List BufferEntryInfo) → entries_at a (is ++ js) ≡ entries_at a is ++ entries_at a js
entries_at-append a [] js = refl
entries_at-append a (i ∷ is) js =
    ap (λ l. record { hash = i.hash; sequence = i.sequence; bytes = take i.len (drop i.offset a) } ∷ l) (entries_at-append a is js)

pub packed-append : (at : ℕ) (is : List BufferEntryInfo) (i : BufferEntryInfo) → IsPacked at is → i.offset ≡ at + taken is → IsPacked at (is ++ i ∷ [])
packed-append at [] i packed offset = (offset ∙ ap (λ n. at + n) taken_none ∙ omega arith, tt)
packed-append at (j ∷ is) i packed offset =
    (packed.0, packed-append (at + page_up j.len) is i packed.1 (omega (arith, taken_cons j is, offset)))

pub takes-append : (greatest : ℕ) (is : List BufferEntryInfo) (i : BufferEntryInfo) → EachTakes greatest is → page_up i.len ≤ greatest
    → EachTakes greatest (is ++ i ∷ [])
takes-append greatest [] i each fits = (fits, tt)
takes-append greatest (j ∷ is) i each fits = (each.0, takes-append greatest is i each.1 fits)

-- packed entries take as many bytes as their infos say
pub size_taken : (a : List ℕ) (at : ℕ) (is : List BufferEntryInfo) → IsPacked at is → at + taken is ≤ length a → size_of (entries_at a is) ≡ taken is
size_taken a at [] packed within = size_none ∙ sym taken_none
size_taken a at (i ∷ is) packed within =
    let holds = page_up-holds i.len in
    let cons = taken_cons i is in
    let len : length (take i.len (drop i.offset a)) ≡ i.len =
    length-take-le i.len (drop i.offset a) (omega (arith, length-drop i.offset a, packed.0)) in
    size_cons _ (entries_at a is) ∙ ap (λ n. page_up n + size_of (entries_at a is)) len
    ∙ ap (λ n. page_up i.len + n) (size_taken a (at + page_up i.len) is packed.1 (omega arith)) ∙ sym cons

pub ruleset no_entries = (taken_none, size_none)

pub even-taken : (is : List BufferEntryInfo) → taken is % 4096 ≡ 0
even-taken [] = ap (λ (n : ℕ). n % 4096) taken_none
even-taken (i ∷ is) = omega (arith, taken_cons i is, even-page_up i.len, even-taken is)

-- what a buffer shows of its fields
pub record IsShown (b : Entries) (bytes : List ℕ) (written most : ℕ) : Type 0 where
  pub size : size_of b.entries ≡ written
  pub left : left_of b ≡ length bytes - written
  pub greatest : b.greatest ≡ most
  pub even : left_of b % 4096 ≡ 0

pub shown : (b : Entries) (bytes : List ℕ) (infos : List BufferEntryInfo) (written greatest : ℕ)
    → record { entries = entries_at bytes infos; room = length bytes; greatest = greatest } ≡ b
    → IsPacked 0 infos → taken infos ≡ written → written ≤ length bytes → length bytes % 4096 ≡ 0 → IsShown b bytes written greatest
shown b bytes infos written greatest is packed sum within even =
    let size : size_of b.entries ≡ written =
    ap (λ (c : Entries). size_of c.entries) (sym is) ∙ size_taken bytes 0 infos packed (omega arith) ∙ sum in
    let room : length bytes ≡ b.room = ap (λ (c : Entries). c.room) is in
    record {
      size = size;
      left = omega (arith, size, room);
      greatest = ap (λ (c : Entries). c.greatest) (sym is);
      even = omega (arith, size, room, sum, even-taken infos);
    }

-- one entry more stands behind the others
pub one_more : (b : Entries) (old new rec : List ℕ) (infos : List BufferEntryInfo) (w hash sequence len greatest : ℕ)
    → record { entries = entries_at old infos; room = length old; greatest = greatest } ≡ b
    → IsPacked 0 infos → taken infos ≡ w → length new ≡ length old → take w new ≡ take w old → take len (drop w new) ≡ rec
    → record { entries = entries_at new (infos ++ record { hash = hash; sequence = sequence; offset = w; len = len } ∷ []); room = length new; greatest = greatest }
    ≡ record b { entries = b.entries ++ record { hash = hash; sequence = sequence; bytes = rec } ∷ [] }
one_more b old new rec infos w hash sequence len greatest is packed sum size front put =
    let same : entries_at new infos ≡ entries_at old infos = entries_same new old w 0 infos front packed (omega arith) in
    let more : entries_at new (infos ++ record { hash = hash; sequence = sequence; offset = w; len = len } ∷ [])
    ≡ entries_at old infos ++ record { hash = hash; sequence = sequence; bytes = rec } ∷ [] =
    entries_at-append new infos (record { hash = hash; sequence = sequence; offset = w; len = len } ∷ [])
    ∙ ap (λ l. l ++ record { hash = hash; sequence = sequence; bytes = take len (drop w new) } ∷ []) same
    ∙ ap (λ l. entries_at old infos ++ record { hash = hash; sequence = sequence; bytes = l } ∷ []) put in
    ap (λ l. record { entries = l; room = length new; greatest = greatest }) more
    ∙ ap (λ n. record { entries = entries_at old infos ++ record { hash = hash; sequence = sequence; bytes = rec } ∷ []; room = n; greatest = greatest }) size
    ∙ ap (λ (c : Entries). record c { entries = c.entries ++ record { hash = hash; sequence = sequence; bytes = rec } ∷ [] }) is

-- and nothing else changed
pub none_more : (b : Entries) (old new : List ℕ) (infos : List BufferEntryInfo) (w greatest : ℕ)
    → record { entries = entries_at old infos; room = length old; greatest = greatest } ≡ b
    → IsPacked 0 infos → taken infos ≡ w → length new ≡ length old → take w new ≡ take w old
    → record { entries = entries_at new infos; room = length new; greatest = greatest } ≡ b
none_more b old new infos w greatest is packed sum size front =
    let same : entries_at new infos ≡ entries_at old infos = entries_same new old w 0 infos front packed (omega arith) in
    ap (λ l. record { entries = l; room = length new; greatest = greatest }) same
    ∙ ap (λ n. record { entries = entries_at old infos; room = n; greatest = greatest }) size ∙ is

-- one more entry keeps what holds for the places of the entries
pub keeps : (infos items : List BufferEntryInfo) (i : BufferEntryInfo) (w padded most : ℕ) → items ≡ infos ++ i ∷ []
    → IsPacked 0 infos → taken infos ≡ w → EachTakes most infos → i.offset ≡ w → padded ≡ page_up i.len → padded ≤ most
    → IsPacked 0 items × (taken items ≡ w + padded) × EachTakes most items
keeps infos items i w padded most are packed sum each offset is_padded fits =
    let more : IsPacked 0 (infos ++ i ∷ []) = packed-append 0 infos i packed (omega (arith, offset, sum)) in
    let takes : EachTakes most (infos ++ i ∷ []) = takes-append most infos i each (omega (arith, is_padded, fits)) in
    let total : taken (infos ++ i ∷ []) ≡ w + padded = omega (arith, taken-append infos (i ∷ []), taken_one i, sum, is_padded) in
    rw are (more, total, takes)

-- no test that failed holds
pub never : IsTrue false → ⊥
never e = let f : false ≡ true = e in absurd (cc)

-- what holds whatever the error
pub on_err : {A E P : Type 0} (r : Result A E) → P → OnErr r P
on_err (Ok x) p = tt
on_err (Err e) p = p
