-- Where the ranges of blocks lie that stand one behind another.
use Rattle.std.proofs.Common.{◌≡◌, ◌≢◌, ℕ, ◌+◌, ◌*◌, ◌<◌, ◌≤◌, ◌⊎◌, ◌∙◌, inl, inr, ⊎_elim, arith, sym, subst, ap}
use Rattle.std.proofs.lemmas.Bool.Decides.{nat_tests}
use Rattle.std.proofs.Math.ListN.{get_or}
use Rattle.std.proofs.lemmas.Option.{slice_get_read}
use Rattle.std.specs.Prelude.{Bool, true, false, nat_lt, if◌then◌else◌, slice_get, slice_index, Some, List, length, refl}
use Rattle.std.proofs.Math.Nat.{mul-le-mul_left}
use Rattle.foyer_io_disk.specs.Disk.{IsOutside}

before : (size a b o p : ℕ) → a < b → o < size → a * size + o < b * size + p
before size a b o p lt within =
    let step : size * (a + 1) ≤ size * b = mul-le-mul_left size (omega arith) in omega arith

-- a place outside of a range of its block lies outside of it in the memory too
pub outside_in_memory : (size block offset n b o : ℕ) → offset + n ≤ size → o < size → IsOutside block offset n b o
    → (b * size + o < block * size + offset) ⊎ (block * size + offset + n ≤ b * size + o)
outside_in_memory size block offset n b o fits within out = go (nat_lt b block) refl (nat_lt block b) refl
  where
    go : (t : Bool) → nat_lt b block ≡ t → (u : Bool) → nat_lt block b ≡ u
        → (b * size + o < block * size + offset) ⊎ (block * size + offset + n ≤ b * size + o)
    go true e u f =
        let lt : b < block = grind (arith, nat_tests) in
        inl (before size b block o offset lt within)
    go false e true f =
        let lt : block < b = grind (arith, nat_tests) in
        let step : size * (block + 1) ≤ size * b = mul-le-mul_left size (omega arith) in
        inr (omega arith)
    go false e false f =
        let le : block ≤ b = grind (arith, nat_tests) in
        let ge : b ≤ block = grind (arith, nat_tests) in
        let same : b ≡ block = omega arith in
        let flat : b * size ≡ block * size = ap (λ k. k * size) same in
        ⊎_elim (λ (ne : b ≢ block). absurd (ne same))
        (⊎_elim (λ (lt : o < offset). inl (omega arith)) (λ (le : offset + n ≤ o). inr (omega arith))) out

-- bytes that were put at a place of the memory stand in their block
pub stand_in_block : (new bytes : List ℕ) (size block offset start : ℕ) → start ≡ block * size + offset
    → offset + length bytes ≤ size
    → ((i : ℕ) → i < length bytes → slice_index new (start + i) ≡ slice_index bytes i)
    → (i : ℕ) → i < length bytes
    → slice_index bytes i ≡ (if nat_lt (offset + i) size then slice_index new (block * size + (offset + i)) else 0)
stand_in_block new bytes size block offset start is fits put i lt =
    let inside : nat_lt (offset + i) size ≡ true = grind (arith, nat_tests) in
    let same : block * size + (offset + i) ≡ start + i = omega arith in
    rw (inside, same) (sym (put i lt))

-- what such bytes leave alone
pub stays_in_block : (old new : List ℕ) (size block offset start n : ℕ) → start ≡ block * size + offset
    → offset + n ≤ size
    → ((o : ℕ) → (o < start) ⊎ (start + n ≤ o) → slice_index new o ≡ slice_index old o)
    → (b o : ℕ) → IsOutside block offset n b o
    → (if nat_lt o size then slice_index new (b * size + o) else 0) ≡ (if nat_lt o size then slice_index old (b * size + o) else 0)
stays_in_block old new size block offset start n is fits others b o out = go (nat_lt o size) refl
  where
    go : (t : Bool) → nat_lt o size ≡ t
        → (if t then slice_index new (b * size + o) else 0) ≡ (if t then slice_index old (b * size + o) else 0)
    go false e = refl
    go true e =
        let within : o < size = grind (arith, nat_tests) in
        others (b * size + o) (subst (λ (k : ℕ). (b * size + o < k) ⊎ (k + n ≤ b * size + o)) (sym is) (outside_in_memory size block offset n b o fits within out))

-- the partition that was read at the place of a block
pub block_found : {P : Type 0} (blocks seen : List P) (n : ℕ) (x : P) → seen ≡ blocks → true ≡ nat_lt n (length seen) → x ≡ get_or seen n x → slice_get blocks n ≡ Some x
block_found {P} blocks seen n x same there read =
    let lt : n < length seen = grind (arith, nat_tests) in
    sym (ap (λ (xs : List P). slice_get xs n) same) ∙ slice_get_read seen (length seen) n x refl lt read
