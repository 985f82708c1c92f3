-- One partition more in a region.
use Rattle.std.proofs.Common.{◌≡◌, ℕ, ◌+◌, ◌≤◌, List, [], ◌∷◌, ◌++◌, refl, sym, ◌∙◌, ap, subst, arith, map, sum, length, ◌<◌, ◌^◌, length-append}
use Rattle.std.proofs.lemmas.List.{map-append}
use Rattle.foyer_device_partition.specs.declared.io.device.slot.Slot.{Slot}
use Rattle.foyer_device_partition.specs.Extent.{Extent, laid_from}
use Rattle.foyer_device_partition.specs.Slot.{extent_of, size_of}
use Rattle.foyer_device_partition.proofs.LaidLemmas.{laid_push, sum_push}

-- what a region keeps
abbrev pub Kept : ℕ → ℕ → List Slot → Type 0
Kept allocated capacity slots = (map extent_of slots ≡ laid_from 0 (map size_of slots)) × (allocated ≡ sum (map size_of slots)) × (allocated ≤ capacity) × (length slots ≤ 2 ^ 32)

pub laid_next : (allocated capacity : ℕ) (xs : List Slot) (s : Slot) → Kept allocated capacity xs → s.start ≡ allocated
    → laid_from 0 (map size_of (xs ++ s ∷ [])) ≡ laid_from 0 (map size_of xs) ++ extent_of s ∷ []
laid_next allocated capacity xs s h at =
    let start : 0 + sum (map size_of xs) ≡ s.start = omega (arith, h.1, at) in
    ap (λ (ns : List ℕ). laid_from 0 ns) (map-append size_of xs (s ∷ [])) ∙ laid_push 0 s.size (map size_of xs)
    ∙ ap (λ (k : ℕ). laid_from 0 (map size_of xs) ++ record { file = 0; start = k; len = s.size } ∷ []) start

pub kept_next : (allocated capacity : ℕ) (xs ys : List Slot) (s : Slot) → Kept allocated capacity xs → ys ≡ xs ++ s ∷ [] → s.start ≡ allocated → allocated + s.size ≤ capacity → length xs < 2 ^ 32
    → Kept (allocated + s.size) capacity ys
kept_next allocated capacity xs ys s h same at fits few =
    let P : List Slot → Type 0 = λ zs. Kept (allocated + s.size) capacity zs in
    subst P (sym same) (
      map-append extent_of xs (s ∷ []) ∙ ap (λ (es : List Extent). es ++ extent_of s ∷ []) h.0 ∙ sym (laid_next allocated capacity xs s h at),
      ap (λ (k : ℕ). k + s.size) h.1 ∙ sym (sum_push s.size (map size_of xs)) ∙ ap sum (sym (map-append size_of xs (s ∷ []))),
      fits,
      omega (arith, length-append xs (s ∷ [])),
    )
