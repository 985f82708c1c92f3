-- Partitions that are a file each.
use Rattle.std.proofs.Common.{◌≡◌, ◌≢◌, ℕ, zero, suc, ◌+◌, ◌<◌, ◌≤◌, ◌⊎◌, inl, inr, List, [], ◌∷◌, ◌++◌, refl, sym, ◌∙◌, ap, subst, arith, length, Option, Some, None}
use Rattle.std.specs.Prelude.{slice_get}
use Rattle.foyer_device_partition.specs.Extent.{Extent, AreApart, IsApartFromAll, AreDisjoint, LieInFiles, files_from}

pub files_push : (file n : ℕ) (ns : List ℕ) → files_from file (ns ++ n ∷ []) ≡ files_from file ns ++ record { file = file + length ns; start = 0; len = n } ∷ []
files_push file n [] = ap (λ (k : ℕ). record { file = k; start = 0; len = n } ∷ []) (omega arith)
files_push file n (m ∷ ns) =
    let e : Extent = record { file = file; start = 0; len = m } in
    ap (λ (xs : List Extent). e ∷ xs) (files_push (file + 1) n ns ∙ ap (λ (k : ℕ). files_from (file + 1) ns ++ record { file = k; start = 0; len = n } ∷ []) (omega arith))

pub files_length : (file : ℕ) (ns : List ℕ) → length (files_from file ns) ≡ length ns
files_length file [] = refl
files_length file (n ∷ ns) = ap suc (files_length (file + 1) ns)

files_apart : (file n at : ℕ) (ns : List ℕ) → at < file → IsApartFromAll (record { file = at; start = 0; len = n }) (files_from file ns)
files_apart file n at [] lt = tt
files_apart file n at (m ∷ ns) lt = (inl (λ e. absurd (omega (arith, lt, e))), files_apart (file + 1) n at ns (omega arith))

pub files_disjoint : (file : ℕ) (ns : List ℕ) → AreDisjoint (files_from file ns)
files_disjoint file [] = tt
files_disjoint file (n ∷ ns) = (files_apart (file + 1) n file ns (omega arith), files_disjoint (file + 1) ns)

files_below : (file end : ℕ) (ns : List ℕ) → file + length ns ≤ end → LieInFiles end (files_from file ns)
files_below file end [] le = tt
files_below file end (n ∷ ns) le = (omega arith, files_below (file + 1) end ns (omega arith))

pub files_within : (ns : List ℕ) → LieInFiles (length ns) (files_from 0 ns)
files_within ns = files_below 0 (length ns) ns (omega arith)

get_from : (file i k n : ℕ) (ns : List ℕ) → slice_get ns i ≡ Some n → k ≡ file + i → slice_get (files_from file ns) i ≡ Some (record { file = k; start = 0; len = n })
get_from file i k n [] is at = cc
get_from file zero k n (m ∷ ns) is at = ap (λ (e : Extent). Some e) (let same : m ≡ n = cc in let first : file ≡ k = omega arith in cc)
get_from file (suc i) k n (m ∷ ns) is at = get_from (file + 1) i k n ns is (omega arith)

pub files_get : (i n : ℕ) (ns : List ℕ) → slice_get ns i ≡ Some n → slice_get (files_from 0 ns) i ≡ Some (record { file = i; start = 0; len = n })
files_get i n ns is = get_from 0 i i n ns is (omega arith)

pub ruleset files = (files_length, files_disjoint, files_within)

pub files_next : (k n : ℕ) (ns : List ℕ) → k ≡ length ns → files_from 0 (ns ++ n ∷ []) ≡ files_from 0 ns ++ record { file = k; start = 0; len = n } ∷ []
files_next k n ns at = files_push 0 n ns ∙ ap (λ (i : ℕ). files_from 0 ns ++ record { file = i; start = 0; len = n } ∷ []) (omega arith)
