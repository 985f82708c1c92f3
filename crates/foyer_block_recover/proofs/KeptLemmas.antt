-- What is kept of one index after the other.
use Rattle.std.proofs.Common.{◌≡◌, ℕ, nat_le, Bool, true, false, if◌then◌else◌, Option, Some, None, List, [], ◌∷◌, ◌++◌, refl, ap}
use Rattle.foyer_block_recover.specs.Kept.{rising_infos, last_kept, hashed_infos}
use Rattle.foyer_block_index.specs.declared.indexer.HashedEntryAddress.{HashedEntryAddress}
use Rattle.foyer_block_scan.specs.declared.block.scanner.EntryInfo.{EntryInfo}

-- of two lists, one behind the other
pub rising_both : (o : Option ℕ) (xs ys : List EntryInfo) → rising_infos o (xs ++ ys) ≡ rising_infos o xs ++ rising_infos (last_kept o xs) ys
rising_both None xs ys = refl
rising_both (Some n) [] ys = refl
rising_both (Some n) (x ∷ xs) ys = go (rising_both (Some (x.addr).sequence) xs ys) (nat_le n (x.addr).sequence)
  where
    go : rising_infos (Some (x.addr).sequence) (xs ++ ys) ≡ rising_infos (Some (x.addr).sequence) xs ++ rising_infos (last_kept (Some (x.addr).sequence) xs) ys
        → (t : Bool) → (if t then x ∷ rising_infos (Some (x.addr).sequence) (xs ++ ys) else [])
        ≡ (if t then x ∷ rising_infos (Some (x.addr).sequence) xs else []) ++ rising_infos (if t then last_kept (Some (x.addr).sequence) xs else None) ys
    go later true = ap (λ l. x ∷ l) later
    go later false = refl

pub last_both : (o : Option ℕ) (xs ys : List EntryInfo) → last_kept o (xs ++ ys) ≡ last_kept (last_kept o xs) ys
last_both None xs ys = refl
last_both (Some n) [] ys = refl
last_both (Some n) (x ∷ xs) ys = go (last_both (Some (x.addr).sequence) xs ys) (nat_le n (x.addr).sequence)
  where
    go : last_kept (Some (x.addr).sequence) (xs ++ ys) ≡ last_kept (last_kept (Some (x.addr).sequence) xs) ys
        → (t : Bool) → (if t then last_kept (Some (x.addr).sequence) (xs ++ ys) else None)
        ≡ last_kept (if t then last_kept (Some (x.addr).sequence) xs else None) ys
    go later true = later
    go later false = refl

pub hashed_both : (xs ys : List EntryInfo) → hashed_infos (xs ++ ys) ≡ hashed_infos xs ++ hashed_infos ys
hashed_both [] ys = refl
hashed_both (x ∷ xs) ys = ap (λ (l : List HashedEntryAddress). record { hash = x.hash; address = x.addr } ∷ l) (hashed_both xs ys)
