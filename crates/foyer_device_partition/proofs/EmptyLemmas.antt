-- Partitions that have no bytes.
use Rattle.std.proofs.Common.{◌≡◌, ◌≢◌, ℕ, zero, suc, ◌+◌, ◌<◌, ◌≤◌, ◌⊎◌, inl, inr, List, [], ◌∷◌, ◌++◌, refl, ap, arith, length, Option, Some}
use Rattle.std.specs.Prelude.{slice_get}
use Rattle.foyer_device_partition.specs.Extent.{Extent, AreApart, IsApartFromAll, AreDisjoint, LieInFiles, empty_extents}

pub empty_push : (n : ℕ) (ns : List ℕ) → empty_extents (ns ++ n ∷ []) ≡ empty_extents ns ++ record { file = 0; start = 0; len = 0 } ∷ []
empty_push n [] = refl
empty_push n (m ∷ ns) = ap (λ (xs : List Extent). record { file = 0; start = 0; len = 0 } ∷ xs) (empty_push n ns)

pub empty_length : (ns : List ℕ) → length (empty_extents ns) ≡ length ns
empty_length [] = refl
empty_length (n ∷ ns) = ap suc (empty_length ns)

empty_apart : (ns : List ℕ) → IsApartFromAll (record { file = 0; start = 0; len = 0 }) (empty_extents ns)
empty_apart [] = tt
empty_apart (n ∷ ns) = (inr (inl (omega arith)), empty_apart ns)

pub empty_disjoint : (ns : List ℕ) → AreDisjoint (empty_extents ns)
empty_disjoint [] = tt
empty_disjoint (n ∷ ns) = (empty_apart ns, empty_disjoint ns)

pub empty_within : (ns : List ℕ) → LieInFiles 1 (empty_extents ns)
empty_within [] = tt
empty_within (n ∷ ns) = (omega arith, empty_within ns)

pub empty_get : (i n : ℕ) (ns : List ℕ) → slice_get ns i ≡ Some n → slice_get (empty_extents ns) i ≡ Some (record { file = 0; start = 0; len = 0 })
empty_get i n [] is = cc
empty_get zero n (m ∷ ns) is = refl
empty_get (suc i) n (m ∷ ns) is = empty_get i n ns is

pub ruleset empties = (empty_length, empty_disjoint, empty_within)
