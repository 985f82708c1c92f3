-- Partitions one behind another, or each in a file of its own.
use Rattle.std.proofs.Common.{◌≡◌, ◌≢◌, ℕ, zero, suc, ◌+◌, ◌-◌, ◌<◌, ◌≤◌, ◌⊎◌, inl, inr, List, [], ◌∷◌, ◌++◌, refl, sym, ◌∙◌, ap, subst, arith, add_assoc, length, sum, add-zero}
use Rattle.std.proofs.lemmas.List.Sums.{sum_by_from, sum_by_push}
use Rattle.foyer_device_partition.specs.Extent.{Extent, AreApart, IsApartFromAll, AreDisjoint, LieInFiles, EndBy, laid_from, files_from, empty_extents}

pub sum_cons : (n : ℕ) (ns : List ℕ) → sum (n ∷ ns) ≡ n + sum ns
sum_cons n ns = let a = sum_by_from (λ k. k) (0 + n) ns in let b = sum_by_from (λ k. k) 0 ns in omega (arith, a, b)

pub sum_push : (n : ℕ) (ns : List ℕ) → sum (ns ++ n ∷ []) ≡ sum ns + n
sum_push n ns = sum_by_push (λ k. k) ns n

pub laid_push : (start n : ℕ) (ns : List ℕ) → laid_from start (ns ++ n ∷ []) ≡ laid_from start ns ++ record { file = 0; start = start + sum ns; len = n } ∷ []
laid_push start n [] = ap (λ k. record { file = 0; start = k; len = n } ∷ []) (sym (add-zero start))
laid_push start n (m ∷ ns) =
    let e : Extent = record { file = 0; start = start; len = m } in
    ap (λ xs. e ∷ xs) (laid_push (start + m) n ns ∙ ap (λ k. laid_from (start + m) ns ++ record { file = 0; start = k; len = n } ∷ []) (omega (arith, sum_cons m ns)))

pub laid_length : (start : ℕ) (ns : List ℕ) → length (laid_from start ns) ≡ length ns
laid_length start [] = refl
laid_length start (n ∷ ns) = ap suc (laid_length (start + n) ns)

laid_apart : (start n at : ℕ) (ns : List ℕ) → at + n ≤ start → IsApartFromAll (record { file = 0; start = at; len = n }) (laid_from start ns)
laid_apart start n at [] le = tt
laid_apart start n at (m ∷ ns) le = (inr (inl le), laid_apart (start + m) n at ns (omega arith))

pub laid_disjoint : (start : ℕ) (ns : List ℕ) → AreDisjoint (laid_from start ns)
laid_disjoint start [] = tt
laid_disjoint start (n ∷ ns) = (laid_apart (start + n) n start ns (omega arith), laid_disjoint (start + n) ns)

pub laid_in_files : (start : ℕ) (ns : List ℕ) → LieInFiles 1 (laid_from start ns)
laid_in_files start [] = tt
laid_in_files start (n ∷ ns) = (omega arith, laid_in_files (start + n) ns)

pub laid_end : (start end : ℕ) (ns : List ℕ) → start + sum ns ≤ end → EndBy end (laid_from start ns)
laid_end start end [] le = tt
laid_end start end (n ∷ ns) le = (omega (arith, sum_cons n ns), laid_end (start + n) end ns (omega (arith, sum_cons n ns)))
