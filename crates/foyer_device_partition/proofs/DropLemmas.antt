-- The partitions that a device was given after the first few.
use Rattle.std.proofs.Common.{◌≡◌, ◌≢◌, ℕ, zero, suc, ◌+◌, ◌-◌, ◌^◌, ◌<◌, ◌≤◌, List, [], ◌∷◌, ◌++◌, refl, sym, ◌∙◌, ap, subst, arith, length, drop, map, sum, min, Option, Some, length-append}
use Rattle.std.specs.Prelude.{slice_get}
use Rattle.std.proofs.lemmas.Grind.{common_steps}
use Rattle.std.proofs.lemmas.List.{map_push}
use Rattle.foyer_device_partition.specs.Extent.{Extent, AreApart, IsApartFromAll, AreDisjoint, LieInFiles, total_size}
use Rattle.foyer_device_partition.proofs.LaidLemmas.{sum_push}

pub drop_push : {X : Type 0} (n : ℕ) (xs : List X) (x : X) → n ≤ length xs → drop n (xs ++ x ∷ []) ≡ drop n xs ++ x ∷ []
drop_push n xs x le = grind (arith, common_steps)

pub get_drop : {X : Type 0} (n i k : ℕ) (xs : List X) → k ≡ n + i → slice_get (drop n xs) i ≡ slice_get xs k
get_drop zero i k xs at = ap (slice_get xs) (omega arith)
get_drop (suc n) i k [] at = grind (arith, common_steps)
get_drop (suc n) i zero (x ∷ xs) at = absurd (omega arith)
get_drop (suc n) i (suc k) (x ∷ xs) at = get_drop n i k xs (omega arith)

pub disjoint_drop : (n : ℕ) (es : List Extent) → AreDisjoint es → AreDisjoint (drop n es)
disjoint_drop zero es h = h
disjoint_drop (suc n) [] h = tt
disjoint_drop (suc n) (e ∷ es) h = disjoint_drop n es h.1

pub within_drop : (files n : ℕ) (es : List Extent) → LieInFiles files es → LieInFiles files (drop n es)
within_drop files zero es h = h
within_drop files (suc n) [] h = tt
within_drop files (suc n) (e ∷ es) h = within_drop files n es h.1

pub total_push : (n : ℕ) (ns : List ℕ) → total_size (ns ++ n ∷ []) ≡ min (total_size ns + n) (2 ^ 64 - 1)
total_push n ns = omega (arith, sum_push n ns)

pub ruleset drops = (drop_push, disjoint_drop, within_drop, total_push)

-- a part whose device was given one partition more
pub part_next : (first n a r : ℕ) (old new : List ℕ) → new ≡ old ++ n ∷ [] → first ≤ length old → a ≡ total_size (drop first old) → r ≡ min (a + n) (2 ^ 64 - 1)
    → (first ≤ length new) × (r ≡ total_size (drop first new))
part_next first n a r old new same later sum next =
    let pushed = total_push n (drop first old) in
    rw same (simp length-append (omega (arith, later)), rw (drop_push first old n later) (omega (arith, pushed, sum, next)))

-- the sum with y, if y is what a push put after ws
pub total_map : {X : Type 0} (f : X → ℕ) (zs ws xs : List X) (y : X) (m a r : ℕ) → zs ≡ ws ++ y ∷ [] → f y ≡ m → a ≡ total_size (map f xs) → r ≡ min (a + m) (2 ^ 64 - 1)
    → r ≡ total_size (map f (xs ++ y ∷ []))
total_map f zs ws xs y m a r put same sum next =
    let pushed = total_push (f y) (map f xs) in
    let P : List ℕ → Type 0 = λ ns. r ≡ total_size ns in
    subst P (sym (map_push f xs y)) (omega (arith, pushed, same, sum, next))
