-- What a flusher fills.
use Rattle.std.proofs.Common.{◌≡◌, ℕ, ◌+◌, ◌-◌, ◌<◌, ◌≤◌, List, [], ◌∷◌, All, length, take, slice_range, Result, Ok, Err, refl, sym, ap, subst, ◌∙◌, arith}
use Rattle.std.specs.Prelude.{Bool, true, false, ◌++◌, IfOk, OnErr}
use Rattle.std.specs.Bool.{OnTrue, OnFalse}
use Rattle.foyer_format_record.proofs.RecordBytes.{length-record_bytes}
use Rattle.foyer_format_record.specs.Record.{record_bytes}
use Rattle.foyer_format_buffer.proofs.EntriesLemmas.{size_taken}
use Rattle.foyer_format_buffer.proofs.HoldsLemmas.{finished_all}
use Rattle.foyer_format_buffer.proofs.SplitLemmas.{taken_none}
use Rattle.foyer_format_buffer.specs.Entries.{Entry, Entries, IsFinished, EachTakes, entries_at, size_of, with_entry}
use Rattle.foyer_format_layout.specs.Position.{Sizes}
use Rattle.foyer_format_buffer.specs.Position.{FitsBlock, taken}
use Rattle.foyer_format_buffer.specs.declared.BufferEntryInfo.{BufferEntryInfo}
use Rattle.foyer_device_page.specs.Section.{Section, bytes_of, all_of}
use Rattle.foyer_core_flusher.specs.Filled.{AreShared, AreSome, IsFull, IsShared}

take_whole : (xs : List ℕ) → take (length xs) xs ≡ xs
take_whole [] = refl
take_whole (x ∷ xs) = ap (λ ys. x ∷ ys) (take_whole xs)

pub whole_range : (xs : List ℕ) → slice_range xs 0 (length xs) ≡ xs
whole_range xs = let e : length xs - 0 ≡ length xs = omega arith in ap (λ n. take n xs) e ∙ take_whole xs

pub finished_taken : (b : Entries) (bytes : List ℕ) (infos : List BufferEntryInfo) → IsFinished b bytes infos → size_of b.entries ≡ taken infos
finished_taken b bytes infos is =
    ap size_of (sym is.entries) ∙ size_taken bytes 0 infos is.packed (omega (arith, is.within))

-- a finished buffer's pages with several owners
pub full_of : (b : Entries) (greatest : ℕ) (pages : List ℕ) (bytes : Section) (infos : List BufferEntryInfo) (written : ℕ) → bytes ≡ all_of pages
    → IsFinished b pages infos → b.greatest ≡ greatest → written ≡ size_of b.entries → IsFull b.room greatest bytes infos written
full_of b greatest pages bytes infos written all is same count =
    subst (λ s. IsFull b.room greatest s infos written) (sym all) (record {
      all = refl;
      size = is.size;
      shared = record {
        packed = is.packed;
        within = omega (arith, is.within, ap length (whole_range pages));
        each = subst (λ n. EachTakes n infos) same is.each;
      };
      count = sym (finished_taken b pages infos is) ∙ sym count;
    })

-- the bytes that the entries take
pub full_size : (room greatest : ℕ) (bytes : Section) (infos : List BufferEntryInfo) (written : ℕ) → IsFull room greatest bytes infos written
    → size_of (entries_at (bytes_of bytes) infos) ≡ written
full_size room greatest bytes infos written is =
    size_taken (bytes_of bytes) 0 infos is.shared.packed (omega (arith, is.shared.within)) ∙ is.count

-- shared entries as a finished buffer's
pub finished_of : (b : Entries) (w : Section) (infos : List BufferEntryInfo) → IsShared b w infos → IsFinished (record b { room = length (bytes_of w) }) (bytes_of w) infos
finished_of b w infos is = record {
  size = refl;
  packed = is.shared.packed;
  within = is.shared.within;
  entries = is.entries;
  each = is.shared.each;
}

pub each_fits : (s : Sizes) (b : Entries) (w : Section) (infos : List BufferEntryInfo) → IsShared b w infos → s.index + b.greatest ≤ s.block → All (FitsBlock s) infos
each_fits s b w infos is room = finished_all s (record b { room = length (bytes_of w) }) (bytes_of w) infos (finished_of b w infos is) room is.some

-- without entries
pub none_shared : (greatest : ℕ) (w : Section) (infos : List BufferEntryInfo) → infos ≡ [] → AreShared greatest w infos × (entries_at (bytes_of w) infos ≡ [])
none_shared greatest w [] is = (record { packed = tt; within = omega (arith, taken_none); each = tt }, refl)
none_shared greatest w (i ∷ is) same = let lens : length (i ∷ is) ≡ 0 = ap length same in absurd (omega arith)

pub same_shared : (greatest : ℕ) (v w : Section) (is js : List BufferEntryInfo) → bytes_of w ≡ bytes_of v → js ≡ is → AreShared greatest v is
    → AreShared greatest w js × (entries_at (bytes_of w) js ≡ entries_at (bytes_of v) is)
same_shared greatest v w is js bytes same are = rw (same, bytes) (record { packed = are.packed; within = omega (arith, are.within, ap length bytes); each = are.each }, refl)

pub none_is_shared : (b : Entries) (w : Section) (infos : List BufferEntryInfo) → b.entries ≡ [] → infos ≡ [] → IsShared b w infos
none_is_shared b w infos none is =
    let e = none_shared b.greatest w infos is in
    record { shared = e.0; entries = e.1 ∙ sym none; some = subst AreSome (sym none) tt }

pub full_shared : (b : Entries) (room greatest : ℕ) (v w : Section) (is js : List BufferEntryInfo) (written : ℕ) → IsFull room greatest v is written
    → b.entries ≡ entries_at (bytes_of v) is → b.greatest ≡ greatest → AreSome b.entries → bytes_of w ≡ bytes_of v → js ≡ is → IsShared b w js
full_shared b room greatest v w is js written full entries same some bytes infos =
    let e = same_shared b.greatest v w is js bytes infos (subst (λ n. AreShared n v is) (sym same) full.shared) in
    record { shared = e.0; entries = e.1 ∙ sym entries; some = some }

pub ok_both : {X E : Type 0} {P Q R : X → Type 0} (r : Result X E) → ((x : X) → P x → Q x → R x) → IfOk r P → IfOk r Q → IfOk r R
ok_both (Ok x) more p q = more x p q
ok_both (Err e) more p q = tt

pub ok_more : {X E : Type 0} {P Q : X → Type 0} (r : Result X E) → ((x : X) → P x → Q x) → IfOk r P → IfOk r Q
ok_more (Ok x) more ok = more x ok
ok_more (Err e) more ok = tt

some_more : (es : List Entry) (e : Entry) → AreSome es → 0 < length e.bytes → AreSome (es ++ e ∷ [])
some_more [] e some one = (one, tt)
some_more (x ∷ es) e some one = (some.0, some_more es e some.1 one)

-- after a push no entry is empty
pub pushed_some : {E : Type 0} (r : Result Bool E) (old new : Entries) (hash sequence : ℕ) (k v : List ℕ)
    → IfOk r (λ done. OnTrue done (new ≡ with_entry old hash sequence (record_bytes hash sequence k v))) → IfOk r (λ done. OnFalse done (new ≡ old))
    → OnErr r (new ≡ old) → AreSome old.entries → AreSome new.entries
pushed_some (Ok true) old new hash sequence k v pushed kept refused some =
    subst (λ (b : Entries). AreSome b.entries) (sym pushed)
    (some_more old.entries (record { hash = hash; sequence = sequence; bytes = record_bytes hash sequence k v }) some
    (omega (arith, length-record_bytes hash sequence k v)))
pushed_some (Ok false) old new hash sequence k v pushed kept refused some = subst (λ (b : Entries). AreSome b.entries) (sym kept) some
pushed_some (Err e) old new hash sequence k v pushed kept refused some = subst (λ (b : Entries). AreSome b.entries) (sym refused) some
