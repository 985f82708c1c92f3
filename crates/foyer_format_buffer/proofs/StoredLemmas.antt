-- The records of one part.
use Rattle.std.proofs.Common.{◌≡◌, ℕ, ◌+◌, ◌-◌, ◌<◌, ◌≤◌, List, [], ◌∷◌, ◌++◌, length, take, drop, refl, sym, ap, subst, ◌∙◌, arith}
use Rattle.std.specs.Prelude.{map, zero, suc}
use Rattle.std.proofs.lemmas.List.{length-take, length-take-le, length-drop, take-append-drop, drop-take, drop-drop, take-take}
use Rattle.foyer_device_page.specs.Section.{Section, bytes_of, part_of}
use Rattle.foyer_format_layout.specs.Page.{page_up}
use Rattle.foyer_format_layout.specs.BlockBytes.{laid, read, Data}
use Rattle.foyer_format_buffer.specs.Position.{taken, entries_from}
use Rattle.foyer_format_buffer.specs.Listing.{placed}
use Rattle.foyer_format_buffer.specs.Entries.{IsPacked, entries_at}
use Rattle.foyer_format_buffer.specs.Stored.{Stored, entry_of, stored_at, AllStand, AllOutside, AreRecords, content_of}
use Rattle.foyer_format_buffer.specs.declared.BufferEntryInfo.{BufferEntryInfo}
use Rattle.foyer_format_layout.proofs.PageLaws.{page_up-holds}
use Rattle.foyer_format_buffer.proofs.SplitLemmas.{taken_cons, taken_none, entries_cons, entries_none}
use Rattle.foyer_format_layout.proofs.BlockBytesLaws.{read_part, read_same}

-- records that stand, after other writes

pub stand_same : (P : ℕ → Type 0) (g k : ℕ → ℕ) (rs : List Stored)
    → AllOutside P rs → ((o : ℕ) → (P o → ⊥) → k o ≡ g o) → AllStand g rs → AllStand k rs
stand_same P g k [] out same stand = tt
stand_same P g k (r ∷ rs) out same stand = (
  read_same k g r.offset (length r.bytes) (λ i l m. let a : length r.bytes ≤ page_up (length r.bytes) = page_up-holds (length r.bytes) in same i (out.0 i l (omega arith))) ∙ stand.0,
  stand_same P g k rs out.1 same stand.1,
)

pub outside_less : (P Q : ℕ → Type 0) (rs : List Stored) → ((o : ℕ) → Q o → P o) → AllOutside P rs → AllOutside Q rs
outside_less P Q [] less out = tt
outside_less P Q (r ∷ rs) less out = (λ o l m q. out.0 o l m (less o q), outside_less P Q rs less out.1)

pub stand_join : (g : ℕ → ℕ) (ps qs : List Stored) → AllStand g ps → AllStand g qs → AllStand g (ps ++ qs)
stand_join g [] qs a b = b
stand_join g (p ∷ ps) qs a b = (a.0, stand_join g ps qs a.1 b)

pub outside_join : (P : ℕ → Type 0) (ps qs : List Stored) → AllOutside P ps → AllOutside P qs → AllOutside P (ps ++ qs)
outside_join P [] qs a b = b
outside_join P (p ∷ ps) qs a b = (a.0, outside_join P ps qs a.1 b)

-- a front of a range's bytes
cut_short : (xs : List ℕ) (i n m : ℕ) → n ≤ m → take n (drop i (take (i + m) xs)) ≡ take n (drop i xs)
cut_short xs i n m le = rw drop-take (take-take n m (drop i xs) le)

-- the bytes of a range of a range
pub part_bytes : (w : Section) (start n : ℕ) → start + n ≤ length (bytes_of w)
    → bytes_of (part_of w start (start + n)) ≡ take n (drop start (bytes_of w))
part_bytes w start zero within =
    let none : (w.start + (start + 0)) - (w.start + start) ≡ 0 = omega arith in
    ap (λ k. take k (drop (w.start + start) w.whole)) none
part_bytes w start (suc m) within =
    let n : ℕ = suc m in
    let len = length-take (w.end - w.start) (drop w.start w.whole) in
    let room : start + n ≤ w.end - w.start = omega (arith, len) in
    let rest : ℕ = (w.end - w.start) - start in
    let split : w.end - w.start ≡ start + rest = omega arith in
    let count : (w.start + (start + n)) - (w.start + start) ≡ n = omega arith in
    ap (λ k. take k (drop (w.start + start) w.whole)) count
    ∙ ap (take n) (sym (drop-drop start w.start w.whole))
    ∙ sym (cut_short (drop w.start w.whole) start n rest (omega arith))
    ∙ ap (λ k. take n (drop start (take k (drop w.start w.whole)))) (sym split)

-- the records that entries one behind another tell
pub stored_none : (blob at0 at : ℕ) (D : List ℕ) → stored_at blob at0 D (entries_from at []) ≡ []
stored_none blob at0 at D = ap (stored_at blob at0 D) (entries_none at)

abbrev first : (blob at0 at : ℕ) → List ℕ → BufferEntryInfo → Stored
first blob at0 at D i = record { hash = i.hash; sequence = i.sequence; offset = blob + at; bytes = take i.len (drop (at - at0) D) }

pub stored_cons : (blob at0 at : ℕ) (D : List ℕ) (i : BufferEntryInfo) (is : List BufferEntryInfo)
    → stored_at blob at0 D (entries_from at (i ∷ is)) ≡ first blob at0 at D i ∷ stored_at blob at0 D (entries_from (at + page_up i.len) is)
stored_cons blob at0 at D i is = ap (stored_at blob at0 D) (entries_cons at i is)

-- a record has its length
pub first_len : (D : List ℕ) (k : ℕ) (i : BufferEntryInfo) (is : List BufferEntryInfo) → k + taken (i ∷ is) ≤ length D
    → length (take i.len (drop k D)) ≡ i.len
first_len D k i is within =
    length-take-le i.len (drop k D) (omega (arith, length-drop k D, taken_cons i is, page_up-holds i.len))

-- a slice of a write is read back
read_slice : (at k n : ℕ) (D : List ℕ) (g : ℕ → ℕ) → k + n ≤ length D
    → read (laid (record { role = Data; offset = at; bytes = D }) g) (at + k) n ≡ take n (drop k D)
read_slice at k n D g within =
    let pre : List ℕ = take k D in
    let bs : List ℕ = take n (drop k D) in
    let post : List ℕ = drop n (drop k D) in
    let whole : pre ++ (bs ++ post) ≡ D = ap (λ t. pre ++ t) (take-append-drop n (drop k D)) ∙ take-append-drop k D in
    let front : length pre ≡ k = length-take-le k D (omega arith) in
    let len : length bs ≡ n = length-take-le n (drop k D) (omega (arith, length-drop k D)) in
    subst (λ d. read (laid (record { role = Data; offset = at; bytes = d }) g) (at + k) n ≡ bs) whole
    (subst (λ j. read (laid (record { role = Data; offset = at; bytes = pre ++ (bs ++ post) }) g) (at + j) n ≡ bs) front
    (subst (λ j. read (laid (record { role = Data; offset = at; bytes = pre ++ (bs ++ post) }) g) (at + length pre) j ≡ bs) len (read_part Data at pre bs post g)))

-- the records of a part stand once its data are written
pub stored_stand : (now : List BufferEntryInfo) (D : List ℕ) (blob at0 at k : ℕ) (g : ℕ → ℕ) → at ≡ at0 + k → k + taken now ≤ length D
    → AllStand (laid (record { role = Data; offset = blob + at0; bytes = D }) g) (stored_at blob at0 D (entries_from at now))
stored_stand [] D blob at0 at k g is within = subst (AllStand _) (sym (stored_none blob at0 at D)) tt
stored_stand (i ∷ is) D blob at0 at k g there within =
    let cons = taken_cons i is in
    let shift : at - at0 ≡ k = omega arith in
    let len : length (take i.len (drop (at - at0) D)) ≡ i.len = first_len D (at - at0) i is (omega arith) in
    let place : blob + at0 + k ≡ blob + at = omega arith in
    let one : read (laid (record { role = Data; offset = blob + at0; bytes = D }) g) (blob + at) i.len ≡ take i.len (drop (at - at0) D) =
    subst (λ o. read (laid (record { role = Data; offset = blob + at0; bytes = D }) g) o i.len ≡ take i.len (drop (at - at0) D)) place
    (read_slice (blob + at0) k i.len D g (omega (arith, page_up-holds i.len)) ∙ ap (λ j. take i.len (drop j D)) (sym shift)) in
    subst (AllStand _) (sym (stored_cons blob at0 at D i is)) (
      ap (read (laid (record { role = Data; offset = blob + at0; bytes = D }) g) (blob + at)) len ∙ one,
      stored_stand is D blob at0 (at + page_up i.len) (k + page_up i.len) g (omega arith) (omega arith),
    )

-- and lie between its start and its end
pub stored_outside : (now : List BufferEntryInfo) (D : List ℕ) (blob at0 at k : ℕ) (P : ℕ → Type 0) → at ≡ at0 + k → k + taken now ≤ length D
    → ((o : ℕ) → blob + at ≤ o → o < blob + at + taken now → P o → ⊥) → AllOutside P (stored_at blob at0 D (entries_from at now))
stored_outside [] D blob at0 at k P is within out = subst (AllOutside P) (sym (stored_none blob at0 at D)) tt
stored_outside (i ∷ is) D blob at0 at k P there within out =
    let cons = taken_cons i is in
    let len : length (take i.len (drop (at - at0) D)) ≡ i.len = first_len D (at - at0) i is (omega arith) in
    let pages = ap page_up len in
    subst (AllOutside P) (sym (stored_cons blob at0 at D i is)) (
      λ o l m may. out o l (omega (arith, pages)) may,
      stored_outside is D blob at0 (at + page_up i.len) (k + page_up i.len) P (omega arith) (omega arith)
          (λ o l m may. out o (omega arith) (omega arith) may),
    )

-- they are the batch's records
pub stored_records : (now : List BufferEntryInfo) (D W : List ℕ) (blob at0 at k start0 start n : ℕ) → at ≡ at0 + k → start ≡ start0 + k
    → D ≡ take n (drop start0 W) → start0 + n ≤ length W → k + taken now ≤ n
    → AreRecords W start now (stored_at blob at0 D (entries_from at now))
stored_records [] D W blob at0 at k start0 start n there starts is room within = subst (AreRecords W start []) (sym (stored_none blob at0 at D)) tt
stored_records (i ∷ is) D W blob at0 at k start0 start n there starts same room within =
    let cons = taken_cons i is in
    let holds = page_up-holds i.len in
    let size : length D ≡ n = ap length same ∙ length-take-le n (drop start0 W) (omega (arith, length-drop start0 W)) in
    let len : length (take i.len (drop (at - at0) D)) ≡ i.len = first_len D (at - at0) i is (omega arith) in
    let shift : at - at0 ≡ k = omega arith in
    let rest : ℕ = n - k in
    let split : n ≡ k + rest = omega arith in
    let bytes : take i.len (drop (at - at0) D) ≡ take i.len (drop start W) =
    ap (λ j. take i.len (drop j D)) shift ∙ ap (λ d. take i.len (drop k d)) same
    ∙ ap (λ j. take i.len (drop k (take j (drop start0 W)))) split
    ∙ cut_short (drop start0 W) k i.len rest (omega arith)
    ∙ ap (take i.len) (drop-drop k start0 W) ∙ ap (λ j. take i.len (drop j W)) (sym starts) in
    subst (AreRecords W start (i ∷ is)) (sym (stored_cons blob at0 at D i is)) (
      refl,
      refl,
      bytes,
      len,
      stored_records is D W blob at0 (at + page_up i.len) (k + page_up i.len) start0 (start + page_up i.len) n (omega arith) (omega arith) same room (omega arith),
    )

-- and have the entries of the part, counted from the block's start
pub stored_entries : (now : List BufferEntryInfo) (D : List ℕ) (blob at0 at k : ℕ) → at ≡ at0 + k → k + taken now ≤ length D
    → map entry_of (stored_at blob at0 D (entries_from at now)) ≡ placed blob (entries_from at now)
stored_entries [] D blob at0 at k there within =
    ap (map entry_of) (stored_none blob at0 at D) ∙ ap (placed blob) (sym (entries_none at))
stored_entries (i ∷ is) D blob at0 at k there within =
    let cons = taken_cons i is in
    let len : length (take i.len (drop (at - at0) D)) ≡ i.len = first_len D (at - at0) i is (omega arith) in
    let later = stored_entries is D blob at0 (at + page_up i.len) (k + page_up i.len) (omega arith) (omega arith) in
    ap (map entry_of) (stored_cons blob at0 at D i is)
    ∙ ap (λ n. record { hash = i.hash; sequence = i.sequence; offset = blob + at; len = n } ∷ map entry_of (stored_at blob at0 D (entries_from (at + page_up i.len) is))) len
    ∙ ap (λ l. record { hash = i.hash; sequence = i.sequence; offset = blob + at; len = i.len } ∷ l) later
    ∙ ap (placed blob) (sym (entries_cons at i is))

pub records-append : (W : List ℕ) (start : ℕ) (is js : List BufferEntryInfo) (rs qs : List Stored) → AreRecords W start is rs
    → AreRecords W (start + taken is) js qs → AreRecords W start (is ++ js) (rs ++ qs)
records-append W start [] js [] qs a b = subst (λ n. AreRecords W n js qs) (omega (arith, taken_none)) b
records-append W start [] js (r ∷ rs) qs a b = absurd a
records-append W start (i ∷ is) js [] qs a b = absurd a
records-append W start (i ∷ is) js (r ∷ rs) qs a b = (
  a.0,
  a.1,
  a.2,
  a.3,
  records-append W (start + page_up i.len) is js rs qs a.4 (subst (λ n. AreRecords W n js qs) (omega (arith, taken_cons i is)) b),
)

-- without their places they are what stands in the batch
pub records_entries : (W : List ℕ) (start : ℕ) (is : List BufferEntryInfo) (rs : List Stored) → IsPacked start is → AreRecords W start is rs
    → map content_of rs ≡ entries_at W is
records_entries W start [] [] packed are = refl
records_entries W start [] (r ∷ rs) packed are = absurd are
records_entries W start (i ∷ is) [] packed are = absurd are
records_entries W start (i ∷ is) (r ∷ rs) packed are =
    let there : take i.len (drop start W) ≡ take i.len (drop i.offset W) = ap (λ n. take i.len (drop n W)) (sym packed.0) in
    let later = records_entries W (start + page_up i.len) is rs packed.1 are.4 in
    rw (are.0, are.1, are.2, there, later) refl
