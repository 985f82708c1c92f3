-- Zeros behind a block's records end its list.
use Rattle.std.proofs.Common.{◌≡◌, ℕ, zero, suc, ◌+◌, ◌*◌, ◌<◌, ◌≤◌, nat_le, Bool, true, false, List, [], ◌∷◌, ◌++◌, length, drop, slice_index, inl, inr, refl, sym, ap, subst, ◌∙◌, arith}
use Rattle.std.specs.Prelude.{map}
use Rattle.std.proofs.lemmas.Bool.Decides.{nat_tests}
use Rattle.std.proofs.lemmas.List.{append-nil, length-append}
use Rattle.foyer_device_page.specs.Section.{Section, bytes_of}
use Rattle.foyer_format_blob.specs.Header.{number_at}
use Rattle.foyer_format_layout.specs.BlockBytes.{read, laid, all_laid, zeroed}
use Rattle.foyer_format_layout.proofs.BlockBytesLaws.{laid_beside, all_laid_zeros, zeroed_there}
use Rattle.foyer_format_layout.specs.Position.{Sizes, tail_of, next_blob}
use Rattle.foyer_format_buffer.specs.Position.{Position, taken, entries_from, with_records}
use Rattle.foyer_format_buffer.specs.Ending.{next_of, IsEnded}
use Rattle.foyer_format_buffer.specs.Fills.{AreSizes, data_write, data_end, index_write, writes_of, records_in, Fills}
use Rattle.foyer_format_buffer.specs.Fills.Fills.{stays, part, blob}
use Rattle.foyer_format_buffer.specs.Holding.{all_read, Leads, Holds}
use Rattle.foyer_format_buffer.specs.Listing.{IsIndex, behind, placed, Chain, Lists}
use Rattle.foyer_format_buffer.specs.Listing.Chain.{ends, goes}
use Rattle.foyer_format_buffer.specs.Stored.{entry_of}
use Rattle.foyer_format_buffer.specs.declared.BufferEntryInfo.{BufferEntryInfo}
use Rattle.foyer_format_blob.specs.declared.blob.BlobEntryIndex.{BlobEntryIndex}
use Rattle.foyer_format_buffer.specs.declared.split.BlobPart.{BlobPart}
use Rattle.foyer_format_buffer.proofs.SplitLemmas.{taken-append, entries_cons}
use Rattle.foyer_format_buffer.proofs.FillsLemmas.{part_is}
use Rattle.foyer_format_buffer.proofs.HoldsLemmas.{EachSome, holds_index, leads_more, leads_chain, holds_fills}

-- the count of an index

pub length_read : (B : ℕ → ℕ) (o n : ℕ) → length (read B o n) ≡ n
length_read B o zero = refl
length_read B o (suc n) = ap suc (length_read B (o + 1) n)

pub index_read : (B : ℕ → ℕ) (o n i : ℕ) → i < n → slice_index (read B o n) i ≡ B (o + i)
index_read B o zero i l = absurd (omega arith)
index_read B o (suc n) zero l = let e : o ≡ o + 0 = omega arith in ap B e
index_read B o (suc n) (suc i) l = let e : o + 1 + i ≡ o + suc i = omega arith in index_read B (o + 1) n i (omega arith) ∙ ap B e

index_drop : (k i : ℕ) (xs : List ℕ) → k + i < length xs → slice_index (drop k xs) i ≡ slice_index xs (k + i)
index_drop zero i xs l = let e : i ≡ 0 + i = omega arith in ap (slice_index xs) e
index_drop (suc k) i [] l = absurd (omega arith)
index_drop (suc k) i (x ∷ xs) l = let e : suc (k + i) ≡ suc k + i = omega arith in index_drop k i xs (omega arith) ∙ ap (slice_index (x ∷ xs)) e

-- its four bytes
pub count_is : (b : List ℕ) → 12 ≤ length b
    → number_at 8 4 b ≡ slice_index b 8 * 16777216 + (slice_index b 9 * 65536 + (slice_index b 10 * 256 + slice_index b 11))
unfolding number_at
count_is b long =
    let a : slice_index (drop 8 b) 0 ≡ slice_index b 8 = index_drop 8 0 b (omega arith) in
    let c : slice_index (drop 8 b) 1 ≡ slice_index b 9 = index_drop 8 1 b (omega arith) in
    let d : slice_index (drop 8 b) 2 ≡ slice_index b 10 = index_drop 8 2 b (omega arith) in
    let e : slice_index (drop 8 b) 3 ≡ slice_index b 11 = index_drop 8 3 b (omega arith) in
    omega arith

-- it counts none if a page of zeros stands there
none_counted : (s : Sizes) (B : ℕ → ℕ) (p : ℕ) (es : List BlobEntryIndex) → AreSizes s → ((i : ℕ) → p ≤ i → i < p + 4096 → B i ≡ 0)
    → IsIndex s B all_read p es → length es ≡ 0
none_counted s B p es sizes zeros is =
    let whole : 4096 ≤ s.index = omega (arith, sizes.some, sizes.pages) in
    let b : List ℕ = read B p s.index in
    let a : slice_index b 8 ≡ 0 = index_read B p s.index 8 (omega arith) ∙ zeros (p + 8) (omega arith) (omega arith) in
    let c : slice_index b 9 ≡ 0 = index_read B p s.index 9 (omega arith) ∙ zeros (p + 9) (omega arith) (omega arith) in
    let d : slice_index b 10 ≡ 0 = index_read B p s.index 10 (omega arith) ∙ zeros (p + 10) (omega arith) (omega arith) in
    let e : slice_index b 11 ≡ 0 = index_read B p s.index 11 (omega arith) ∙ zeros (p + 11) (omega arith) (omega arith) in
    let count : number_at 8 4 b ≡ length es = is.sealed.count in
    let sum : number_at 8 4 b ≡ slice_index b 8 * 16777216 + (slice_index b 9 * 65536 + (slice_index b 10 * 256 + slice_index b 11)) = count_is b is.sealed.long in
    omega arith

-- behind the block no index stands
past_end : (s : Sizes) (B : ℕ → ℕ) (p q : ℕ) (rest : List BlobEntryIndex) → AreSizes s → s.block ≤ p → Chain s B all_read p rest q → rest ≡ []
past_end s B p q rest sizes far (ends none) = refl
past_end s B p q rest sizes far (goes is more) = let room : p + s.index ≤ s.block = is.room in absurd (omega (arith, sizes.some))

-- so the chain lists nothing more there
ended_chain : (s : Sizes) (B : ℕ → ℕ) (p q : ℕ) (rest : List BlobEntryIndex) → AreSizes s → IsEnded s B p → Chain s B all_read p rest q → rest ≡ []
ended_chain s B p q rest sizes ended (ends none) = refl
ended_chain s B p q rest sizes ended (goes {es = []} {rest = more} is chain) = past_end s B (p + s.block) q more sizes (omega arith) chain
ended_chain s B p q rest sizes ended (goes {es = e ∷ es} is chain) = absurd (elim ended [
  | inl zeros ↦ let none : length (e ∷ es) ≡ 0 = none_counted s B p (e ∷ es) sizes zeros is in omega arith
  | inr full ↦ let room : p + s.index ≤ s.block = is.room in omega (arith, sizes.some, sizes.pages)
])

-- the chain of a filling leads to the place where the filling continues
holds_front : (s : Sizes) (B : ℕ → ℕ) (f : Position) (es : List BlobEntryIndex) → Holds s B f es → Leads s B 0 es (next_of f.listed f)
holds_front s B f es h = go f.listed refl
  where
    go : (ls : List BlobEntryIndex) → f.listed ≡ ls → Leads s B 0 es (next_of ls f)
    go [] e = subst (λ l. Leads s B 0 l f.blob) (sym (h.all ∙ ap (λ l. h.before ++ placed f.blob l) e ∙ append-nil h.before)) h.front
    go (l ∷ ls) e =
        let some : 0 < length f.listed = subst (λ k. 0 < length k) (sym e) (omega arith) in
        let is : IsIndex s B all_read f.blob (l ∷ ls) = subst (λ k. IsIndex s B all_read f.blob k) e (holds_index s B f es h some) in
        subst (λ q. Leads s B 0 es q) (ap (behind s f.blob) (sym e) ∙ h.end some)
        (subst (λ k. Leads s B 0 k (behind s f.blob (l ∷ ls))) (sym (h.all ∙ ap (λ k. h.before ++ placed f.blob k) e)) (leads_more s B 0 f.blob h.before l ls h.front is))

next_some : (ls : List BlobEntryIndex) (f : Position) → 0 < length ls → next_of ls f ≡ tail_of f
next_some [] f some = absurd (omega arith)
next_some (l ∷ ls) f some = refl

some_entries : (at : ℕ) (now : List BufferEntryInfo) → 0 < length now → 0 < length (entries_from at now)
some_entries at [] some = absurd (omega arith)
some_entries at (i ∷ is) some = subst (λ l. 0 < length l) (sym (entries_cons at i is)) (omega arith)

module _ {A : Type 0} (s : Sizes) (w : Section) (sizes : AreSizes s) where
  -- once records were written into a block, its chain ends behind them
  fills_end : (B : ℕ → ℕ) (start : ℕ) (f : Position) (infos : List BufferEntryInfo) (parts : List (BlobPart A)) (g : Position) → s.index ≤ f.at
      → start + taken infos ≤ length (bytes_of w) → Fills s w start f infos parts g → (length infos ≡ 0 → IsEnded s B (next_of f.listed f))
      → IsEnded s (all_laid (writes_of s.block parts) B) (next_of g.listed g)
  fills_end B start f infos parts g past room (stays) ended = ended refl
  fills_end B start f infos parts g past room (blob full fills) ended =
      fills_end B start (next_blob s f) infos parts g (omega arith) room fills
      (λ none. subst (IsEnded s B) (next_some f.listed f (omega (arith, full, sizes.some, sizes.pages))) (ended none))
  fills_end B start f infos parts g past room (part {now = now} {rest = rest} {p = p} {parts = more} is fills) ended =
      subst (λ k. IsEnded s k (next_of g.listed g)) (sym (all_laid_zeros s.block (data_end p) (index_write p ∷ writes_of s.block more) (laid (data_write p) B)))
      (fills_end D (start + taken now) (with_records f now) rest more g (omega arith) (omega (arith, total)) fills
      (λ _. subst (IsEnded s D) (sym at) (go (nat_le (data_end p + 4096) s.block) refl)))
    where
      total : taken (now ++ rest) ≡ taken now + taken rest
      total = taken-append now rest

      size : length (bytes_of p.part_data) ≡ taken now
      size = (part_is s w start f now p is (omega (arith, total))).1

      before : ℕ → ℕ
      before = zeroed s.block (data_end p) (laid (data_write p) B)

      D : ℕ → ℕ
      D = laid (index_write p) before

      at : next_of (with_records f now).listed (with_records f now) ≡ data_end p
      at =
          let some : 0 < length (entries_from f.at now) = some_entries f.at now is.some in
          next_some (f.listed ++ entries_from f.at now) (with_records f now) (omega (arith, some, length-append f.listed (entries_from f.at now)))
          ∙ omega (arith, is.blob, is.at, size)

      go : (b : Bool) → nat_le (data_end p + 4096) s.block ≡ b → IsEnded s D (data_end p)
      go true fits = inl (λ i l m. laid_beside (index_write p) before i (inr (omega (arith, is.size, is.at, past, l)))
          ∙ zeroed_there s.block (data_end p) (laid (data_write p) B) i fits l m)
      go false full = inr (grind (arith, nat_tests))

  pub written_ends_lem : (B : ℕ → ℕ) (start : ℕ) (f g : Position) (es all : List BlobEntryIndex) (infos : List BufferEntryInfo) (parts : List (BlobPart A))
      → start + taken infos ≤ length (bytes_of w) → EachSome infos → Fills s w start f infos parts g → 0 < length infos → Holds s B f es
      → Lists s (all_laid (writes_of s.block parts) B) all_read all → all ≡ es ++ map entry_of (records_in parts)
  written_ends_lem B start f g es all infos parts room each fills some h l =
      let D : ℕ → ℕ = all_laid (writes_of s.block parts) B in
      let held : Holds s D g (es ++ map entry_of (records_in parts)) = holds_fills s w sizes B start f es infos parts g room each fills h in
      let ended : IsEnded s D (next_of g.listed g) = fills_end B start f infos parts g h.past room fills (λ none. absurd (omega arith)) in
      let later : (rest : List BlobEntryIndex) × Chain s D all_read (next_of g.listed g) rest l.end × (all ≡ (es ++ map entry_of (records_in parts)) ++ rest) =
      leads_chain s D 0 (next_of g.listed g) l.end (es ++ map entry_of (records_in parts)) all (holds_front s D g (es ++ map entry_of (records_in parts)) held) l.chain in
      later.2 ∙ ap (λ r. (es ++ map entry_of (records_in parts)) ++ r) (ended_chain s D (next_of g.listed g) l.end later.0 sizes ended later.1)
      ∙ append-nil (es ++ map entry_of (records_in parts))
