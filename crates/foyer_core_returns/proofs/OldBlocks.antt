-- Two blocks of four pages as earlier lives left them: one with two indices, and one with one.
use Rattle.std.proofs.Common.{◌≡◌, ℕ, zero, suc, ◌+◌, ◌%◌, ◌<◌, ◌≤◌, ◌==◌, ◌⊎◌, nat_lt, Bool, true, false, if◌then◌else◌, List, [], ◌∷◌, ◌++◌, inl, inr, refl, sym, ap, subst, ◌∙◌, arith}
use Rattle.std.proofs.lemmas.Bool.Decides.{nat_tests}
use Rattle.foyer_format_blob.specs.Blob.{IsSealed}
use Rattle.foyer_format_blob.specs.declared.blob.BlobEntryIndex.{BlobEntryIndex}
use Rattle.foyer_format_layout.specs.BlockBytes.{laid, read, Index, Write}
use Rattle.foyer_format_layout.specs.Page.{page_up}
use Rattle.foyer_format_layout.specs.Position.{Sizes}
use Rattle.foyer_format_layout.proofs.BlockBytesLaws.{read_same, read_whole, laid_beside}
use Rattle.foyer_format_layout.proofs.PageLaws.{page_up-holds, page_up-fewest, even-page_up}
use Rattle.foyer_format_buffer.specs.Fills.{AreSizes}
use Rattle.foyer_format_buffer.specs.Holding.{all_read}
use Rattle.foyer_format_buffer.specs.Listing.{IsIndex, Chain, Lists}
use Rattle.foyer_format_buffer.proofs.ListingLemmas.{chain_step}
use Rattle.foyer_core_layout.proofs.SealLemmas.{IndexOf, index_for}
use Rattle.foyer_core_model.specs.Access.{cleaned_page}
use Rattle.foyer_core_model.specs.Numbers.{page}
use Rattle.foyer_core_model.specs.Record.{IndexEntry}
use Rattle.foyer_format_layout.specs.Each.{Each}
use Rattle.foyer_block_recover.specs.Opening.{Opened, winner, slot_of, all_stand, greatest, clean_from}
use Rattle.foyer_block_recover.specs.Placed.{IsPlaced, IsOpening}
use Rattle.foyer_core_returns.proofs.LivedStop.{index_moves, past_end, zeros_end}

abbrev pub four : Sizes
four = record { block = 16384; index = 4096 }

pub four_sizes : AreSizes four
four_sizes = record { pages = refl; some = omega arith; order = omega arith }

-- the two blocks
pub two : (b : ℕ) → b < 2 → (b ≡ 0) ⊎ (b ≡ 1)
two zero lt = inl refl
two (suc zero) lt = inr refl
two (suc (suc b)) lt = absurd (omega arith)

-- what an earlier life left in the first block: an index at its start, of a record at its second page, and another one behind that

abbrev first_entry : IndexEntry
first_entry = record { hash = 5; sequence = 1; offset = 4096; len = 1 }

pub first_sealed : IndexOf 4096 (first_entry ∷ [])
first_sealed = index_for 4096 (first_entry ∷ []) (omega arith) (omega arith) (omega arith)
    (record { hash = omega arith; sequence = omega arith; offset = omega arith; len = omega arith }, tt)

abbrev second_entry : IndexEntry
second_entry = record { hash = 8; sequence = 2; offset = 4096; len = 1 }

pub second_sealed : IndexOf 4096 (second_entry ∷ [])
second_sealed = index_for 4096 (second_entry ∷ []) (omega arith) (omega arith) (omega arith)
    (record { hash = omega arith; sequence = omega arith; offset = omega arith; len = omega arith }, tt)

abbrev first_write : Write
first_write = record { role = Index; offset = 0; bytes = first_sealed.bytes }

abbrev second_write : Write
second_write = record { role = Index; offset = 8192; bytes = second_sealed.bytes }

abbrev pub old : ℕ → ℕ
old = laid second_write (laid first_write (λ o. 0))

-- and what the other block has: a record at its second page

abbrev other_entry : IndexEntry
other_entry = record { hash = 6; sequence = 1; offset = 4096; len = 1 }

pub other_sealed : IndexOf 4096 (other_entry ∷ [])
other_sealed = index_for 4096 (other_entry ∷ []) (omega arith) (omega arith) (omega arith)
    (record { hash = omega arith; sequence = omega arith; offset = omega arith; len = omega arith }, tt)

abbrev other_write : Write
other_write = record { role = Index; offset = 0; bytes = other_sealed.bytes }

abbrev pub still : ℕ → ℕ
still = laid other_write (λ o. 0)

-- the entry of the other block
abbrev pub lies : BlobEntryIndex
lies = record { hash = 6; sequence = 1; offset = 4096; len = 1 }

other_there : IsIndex four still all_read 0 (lies ∷ [])
other_there = record {
  room = omega arith;
  came = refl;
  sealed = subst (λ l. IsSealed l (lies ∷ [])) (sym (subst (λ k. read still 0 k ≡ other_sealed.bytes) other_sealed.len (read_whole other_write (λ o. 0)))) other_sealed.is;
  fits = (record { some = omega arith; behind = omega arith; aligned = refl; within = omega (arith, page_up-fewest 1) }, tt);
}

pub other_listed : (ls : List BlobEntryIndex) → Lists four still all_read ls → ls ≡ lies ∷ []
other_listed ls lists =
    let step : (rest : List BlobEntryIndex) × Chain four still all_read (0 + 4096 + page_up 1) rest lists.end × (ls ≡ lies ∷ rest) =
    chain_step four still all_read 0 lists.end (lies ∷ []) ls other_there lists.chain in
    step.2 ∙ ap (λ l. lies ∷ l) (zeros_end four still all_read (0 + 4096 + page_up 1) lists.end step.0 four_sizes
    (λ i low high. laid_beside other_write (λ o. 0) i (inr (omega (arith, other_sealed.len, low)))) step.1)

-- the entries of the first block, by their indices, and as the block lists them

abbrev pub first_lies : BlobEntryIndex
first_lies = record { hash = 5; sequence = 1; offset = 4096; len = 1 }

abbrev pub second_there : BlobEntryIndex
second_there = record { hash = 8; sequence = 2; offset = 4096; len = 1 }

abbrev pub second_lies : BlobEntryIndex
second_lies = record { hash = 8; sequence = 2; offset = 12288; len = 1 }

pub one_page : page_up 1 ≡ 4096
one_page =
    let whole : page_up 1 % 4096 ≡ 0 = even-page_up 1 in
    let some : 1 ≤ page_up 1 = page_up-holds 1 in
    let few : page_up 1 < 1 + 4096 = page_up-fewest 1 in
    omega arith

first_stands : IsIndex four old all_read 0 (first_lies ∷ [])
first_stands = record {
  room = omega arith;
  came = refl;
  sealed = subst (λ l. IsSealed l (first_lies ∷ [])) (sym (read_same old (laid first_write (λ o. 0)) 0 4096 (λ i low high. laid_beside second_write (laid first_write (λ o. 0)) i (inl (omega (arith, high))))
      ∙ subst (λ k. read (laid first_write (λ o. 0)) 0 k ≡ first_sealed.bytes) first_sealed.len (read_whole first_write (λ o. 0)))) first_sealed.is;
  fits = (record { some = omega arith; behind = omega arith; aligned = refl; within = omega (arith, one_page) }, tt);
}

second_stands : IsIndex four old all_read 8192 (second_there ∷ [])
second_stands = record {
  room = omega arith;
  came = refl;
  sealed = subst (λ l. IsSealed l (second_there ∷ [])) (sym (subst (λ k. read old 8192 k ≡ second_sealed.bytes) second_sealed.len (read_whole second_write (laid first_write (λ o. 0))))) second_sealed.is;
  fits = (record { some = omega arith; behind = omega arith; aligned = refl; within = omega (arith, one_page) }, tt);
}

pub old_listed : (ls : List BlobEntryIndex) → Lists four old all_read ls → ls ≡ first_lies ∷ second_lies ∷ []
old_listed ls lists =
    let at : 0 + 4096 + page_up 1 ≡ 8192 = omega (arith, one_page) in
    let one : (rest : List BlobEntryIndex) × Chain four old all_read (0 + 4096 + page_up 1) rest lists.end × (ls ≡ first_lies ∷ rest) =
    chain_step four old all_read 0 lists.end (first_lies ∷ []) ls first_stands lists.chain in
    let two : (rest : List BlobEntryIndex) × Chain four old all_read (8192 + 4096 + page_up 1) rest lists.end × (one.0 ≡ second_lies ∷ rest) =
    chain_step four old all_read 8192 lists.end (second_there ∷ []) one.0 second_stands (subst (λ q. Chain four old all_read q one.0 lists.end) at one.1) in
    one.2 ∙ ap (λ l. first_lies ∷ l) (two.2 ∙ ap (λ l. second_lies ∷ l) (past_end four old all_read (8192 + 4096 + page_up 1) lists.end two.0 (omega arith) (omega (arith, one_page)) two.1))

-- the first block once it is cleaned: the index behind the first page still stands
abbrev pub swept : ℕ → ℕ
swept = cleaned_page old

pub swept_stands : IsIndex four swept all_read 8192 (second_there ∷ [])
swept_stands = index_moves four old swept all_read 8192 (second_there ∷ []) (read_same old swept 8192 4096 (λ i low high. far i (omega (arith, low)) (nat_lt i page) refl)) second_stands
  where
    far : (i : ℕ) → 4096 ≤ i → (t : Bool) → nat_lt i page ≡ t → old i ≡ (if t then 0 else old i)
    far i low true e = absurd (grind (arith, nat_tests))
    far i low false e = refl

-- what an opening finds of both

abbrev pub before : ℕ → ℕ → ℕ
before b = if b == 0 then old else still

abbrev pub had : ℕ → List BlobEntryIndex
had b = if b == 0 then first_lies ∷ second_lies ∷ [] else lies ∷ []

abbrev pub own : Opened
own = record { index = λ h. slot_of (winner h (all_stand 0 2 had ++ [])); next = greatest (all_stand 0 2 had ++ []) + 1; clean = clean_from 0 2 had }

pub own_opens : IsOpening four 2 [] own
own_opens = record {
  keeps = had;
  placed = λ b lt. elim (two b lt) [
    | inl first ↦ subst (λ d. Each (IsPlaced four) (had d)) (sym first)
        (record { hash = omega arith; behind = omega arith; within = omega (arith, one_page) }, (record { hash = omega arith; behind = omega arith; within = omega (arith, one_page) }, tt))
    | inr second ↦ subst (λ d. Each (IsPlaced four) (had d)) (sym second) (record { hash = omega arith; behind = omega arith; within = omega (arith, page_up-fewest 1) }, tt)
  ];
  index = λ h. refl;
  next = refl;
  below = omega arith;
  clean = refl;
}
