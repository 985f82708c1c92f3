-- Numbers modulo the slots of a ring.
use Rattle.std.proofs.Common.{◌≡◌, ◌≢◌, ℕ, zero, ◌+◌, ◌-◌, ◌*◌, ◌/◌, ◌%◌, ◌<◌, ◌≤◌, ◌⊎◌, inl, inr, refl, sym, ap, ◌∙◌, arith, Bool, true, false, nat_le}
use Rattle.std.proofs.lemmas.Bool.Decides.{nat_tests}
use Rattle.std.proofs.Math.Nat.{add-mod_right, add-mul-mod_self_right, mul-add-mod_self_left, mod-lt, mod-eq_of_lt, div-add-mod, div-mul-le_self, lt-div-mul-add, mul-le-mul_left, mul_assoc, mul-add}

pub le_or_lt : (a b : ℕ) → (a ≤ b) ⊎ (b < a)
le_or_lt a b = go (nat_le a b) refl
  where
    go : (t : Bool) → nat_le a b ≡ t → (a ≤ b) ⊎ (b < a)
    go true is = inl (grind (arith, nat_tests))
    go false is = inr (grind (arith, nat_tests))

-- equal residues are a whole round apart
pub round_apart : (a b s : ℕ) → a % s ≡ b % s → a < b → a + s ≤ b
round_apart a b s same lt =
    let ea : s * (a / s) + a % s ≡ a = div-add-mod a s in
    let eb : s * (b / s) + b % s ≡ b = div-add-mod b s in
    elim (le_or_lt (b / s) (a / s)) [
      | inl le ↦ let m : s * (b / s) ≤ s * (a / s) = mul-le-mul_left s le in absurd (omega (arith, ea, eb, same, m, lt))
      | inr less ↦
          let up : a / s + 1 ≤ b / s = omega arith in
          let m : s * (a / s + 1) ≤ s * (b / s) = mul-le-mul_left s up in
          let e : s * (a / s + 1) ≡ s * (a / s) + s * 1 = mul-add s (a / s) 1 in
          omega (arith, ea, eb, same, m, e)
    ]

-- two numbers in one round with the same residue are one
pub round_same : (start a b s n : ℕ) → (start + a) % s ≡ (start + b) % s → a < n → b < n → n ≤ a + s → n ≤ b + s → a ≡ b
round_same start a b s n same la lb wa wb =
    elim (le_or_lt a b) [
      | inl le ↦ elim (le_or_lt b a) [
        | inl ge ↦ omega arith
        | inr less ↦ absurd (omega (arith, round_apart (start + a) (start + b) s same (omega arith), less))
      ]
      | inr less ↦ absurd (omega (arith, round_apart (start + b) (start + a) s (sym same) (omega arith), less))
    ]

-- the last of so many numbers that lands on a slot, of which `first` is the first
pub last_lands : (start first count s slot : ℕ) → first < count → first < s → (start + first) % s ≡ slot
    → (first + (count - 1 - first) / s * s < count) × ((start + (first + (count - 1 - first) / s * s)) % s ≡ slot)
    × (count ≤ first + (count - 1 - first) / s * s + s)
last_lands start first count s slot lt within lands =
    let r : ℕ = count - 1 - first in
    let q : ℕ = r / s in
    let low : q * s ≤ r = div-mul-le_self r s in
    let high : r < q * s + s = lt-div-mul-add (omega arith) in
    let re : start + (first + q * s) ≡ start + first + q * s = omega arith in
    let same : (start + (first + q * s)) % s ≡ slot = ap (λ (n : ℕ). n % s) re ∙ add-mul-mod_self_right (start + first) q s ∙ lands in
    (omega arith, same, omega arith)

-- no number below the first lands there
pub none_lands : (start first s slot k : ℕ) → first < s → (start + first) % s ≡ slot → k < first → (start + k) % s ≢ slot
none_lands start first s slot k within lands lt same =
    let r : start + k + s ≤ start + first = round_apart (start + k) (start + first) s (same ∙ sym lands) (omega arith) in
    omega (arith, r)

-- the page of a slot
pub page_of_slot : (x p : ℕ) → zero < p → (x % (256 * p)) / 256 ≡ (x / 256) % p
page_of_slot x p some =
    let q : ℕ = x / 256 in
    let t : ℕ = p * (q / p) in
    let low : q % p < p = mod-lt q some in
    let split : t + q % p ≡ q = div-add-mod q p in
    let assoc : 256 * p * (q / p) ≡ 256 * t = mul_assoc 256 p (q / p) in
    let is : x ≡ 256 * p * (q / p) + (256 * (q % p) + x % 256) = omega (arith, split, assoc) in
    let rest : x % (256 * p) ≡ 256 * (q % p) + x % 256 =
    ap (λ (n : ℕ). n % (256 * p)) is ∙ mul-add-mod_self_left (256 * p) (q / p) (256 * (q % p) + x % 256) ∙ mod-eq_of_lt (omega (arith, low)) in
    omega (arith, rest)

-- every page is reached from every other
pub reach_page : (first page pages : ℕ) → first < pages → page < pages → (m : ℕ) × (m < pages) × ((first + m) % pages ≡ page)
reach_page first page pages lf lp =
    elim (le_or_lt first page) [
      | inl le ↦
          let is : first + (page - first) ≡ page = omega arith in
          (page - first, omega arith, ap (λ (n : ℕ). n % pages) is ∙ mod-eq_of_lt lp)
      | inr lt ↦
          let is : first + (pages - first + page) ≡ page + pages = omega arith in
          (pages - first + page, omega arith, ap (λ (n : ℕ). n % pages) is ∙ add-mod_right page pages ∙ mod-eq_of_lt lp)
    ]

-- no two of less than a round of numbers have one residue
pub round_other : (first a b pages : ℕ) → a < b → b < pages → (first + a) % pages ≢ (first + b) % pages
round_other first a b pages lt within same =
    let r : first + a + pages ≤ first + b = round_apart (first + a) (first + b) pages same (omega arith) in
    omega (arith, r)
