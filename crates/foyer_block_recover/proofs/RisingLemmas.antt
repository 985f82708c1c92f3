-- One info more that rises.
use Rattle.std.proofs.Common.{◌≡◌, ℕ, ◌≤◌, ◌<◌, ◌+◌, add-one, List, [], ◌∷◌, ◌++◌, Some, true, refl, append_assoc, arith, length, drop, nat_le}
use Rattle.std.proofs.Math.ListN.{get_or}
use Rattle.std.proofs.Math.Seq.{drop-cons}
use Rattle.std.proofs.lemmas.Bool.Decides.{nat_tests}
use Rattle.foyer_block_index.specs.declared.indexer.HashedEntryAddress.{HashedEntryAddress}
use Rattle.foyer_block_scan.specs.declared.block.scanner.EntryInfo.{EntryInfo}
use Rattle.foyer_block_recover.specs.Kept.{rising_infos, last_kept, hashed_infos}

next_info : (infos : List EntryInfo) (i : ℕ) (d : EntryInfo) → i < length infos → drop i infos ≡ get_or infos i d ∷ drop (i + 1) infos
next_info infos i d lt = rw (add-one, drop-cons infos i d) refl

pub rising_more : (least i : ℕ) (d : EntryInfo) (infos : List EntryInfo) → i < length infos → least ≤ (get_or infos i d).addr.sequence
    → rising_infos (Some least) (drop i infos) ≡ get_or infos i d ∷ rising_infos (Some (get_or infos i d).addr.sequence) (drop (i + 1) infos)
rising_more least i d infos lt le =
    let test : nat_le least (get_or infos i d).addr.sequence ≡ true = grind (arith, nat_tests) in
    rw (next_info infos i d lt, test) refl

pub last_more : (least i : ℕ) (d : EntryInfo) (infos : List EntryInfo) → i < length infos → least ≤ (get_or infos i d).addr.sequence
    → last_kept (Some least) (drop i infos) ≡ last_kept (Some (get_or infos i d).addr.sequence) (drop (i + 1) infos)
last_more least i d infos lt le =
    let test : nat_le least (get_or infos i d).addr.sequence ≡ true = grind (arith, nat_tests) in
    rw (next_info infos i d lt, test) refl

-- what was pushed is the first of what was still to be kept
pub pushed_more : (kept pushed : List HashedEntryAddress) (h : ℕ) (i : EntryInfo) (now next : List EntryInfo) → pushed ≡ kept ++ record { hash = h; address = i.addr } ∷ []
    → now ≡ i ∷ next → h ≡ i.hash → pushed ++ hashed_infos next ≡ kept ++ hashed_infos now
pushed_more kept pushed h i now next put more same =
    rw (put, more, same) (append_assoc kept (record { hash = i.hash; address = i.addr } ∷ []) (hashed_infos next))
