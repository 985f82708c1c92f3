-- What a shift says of a number's bucket.
use Rattle.std.proofs.Common.{ℕ, ◌≡◌, ◌+◌, ◌-◌, ◌*◌, ◌/◌, ◌%◌, ◌^◌, ◌<◌, ◌≤◌, refl, subst, sym, inl, inr, arith}
use Rattle.std.proofs.Math.Pow.{pow_mono}
use Rattle.std.proofs.lemmas.Bool.{cases_lt}
use Rattle.std.proofs.lemmas.Nat.{pow_pos, pow-add, div_below, le-div, shr_split, mod_below, mul-le, shl_whole, one_shl}
use Rattle.foyer_bench_stats.specs.Buckets.{IsBucketOf, doublings_of, lowest_of}

pub above_six : (v e : ℕ) → 128 ≤ v → v < 2 * 2 ^ e → 6 < e
above_six v e large short = elim (cases_lt 6 e) [ inl h ↦ h | inr h ↦ absurd (let p : 2 ^ e ≤ 2 ^ 6 = pow_mono h in omega arith) ]

sixty_four : (s e : ℕ) → e ≡ s + 6 → 2 ^ e ≡ 2 ^ s * 64
sixty_four s e is = subst (λ n. 2 ^ n ≡ 2 ^ s * 64) (sym is) (pow-add 2 s 6)

pub top_low : (v s e : ℕ) → e ≡ s + 6 → 2 ^ e ≤ v → 64 ≤ v / 2 ^ s
top_low v s e is le = le-div 64 v (2 ^ s) (pow_pos s) (omega (arith, sixty_four s e is))

pub top_high : (v s e : ℕ) → e ≡ s + 6 → v < 2 * 2 ^ e → v / 2 ^ s < 128
top_high v s e is lt = div_below v (2 ^ s) 128 (pow_pos s) (omega (arith, sixty_four s e is))

doublings_is : (s t : ℕ) → 64 ≤ t → t < 128 → doublings_of (s * 64 + t) ≡ s
doublings_is s t low high = omega arith

-- the bucket of the number that a shift leaves
in_bucket : (v s t d : ℕ) → d ≡ s → t ≡ v / 2 ^ s → ((s * 64 + t - 64 * d) * 2 ^ d ≤ v) × (v ≤ (s * 64 + t - 64 * d) * 2 ^ d + (2 ^ d - 1))
in_bucket v s t d same is =
    let whole : v / 2 ^ s * 2 ^ s + v % 2 ^ s ≡ v = shr_split v s in
    let rest : v % 2 ^ s < 2 ^ s = mod_below v (2 ^ s) (pow_pos s) in
    let part : s * 64 + t - 64 * s ≡ t = omega arith in
    subst (λ n. ((s * 64 + t - 64 * n) * 2 ^ n ≤ v) × (v ≤ (s * 64 + t - 64 * n) * 2 ^ n + (2 ^ n - 1))) (sym same)
    (rw part (rw is (omega arith, omega arith)))

pub shifted_bucket : (v e s : ℕ) → 128 ≤ v → e < 64 → 2 ^ e ≤ v → v < 2 * 2 ^ e → s ≡ e - 6 → IsBucketOf v (s * 64 + v / 2 ^ s)
shifted_bucket v e s large few le lt is =
    let above : 6 < e = above_six v e large lt in
    let sum : e ≡ s + 6 = omega arith in
    let low : 64 ≤ v / 2 ^ s = top_low v s e sum le in
    let high : v / 2 ^ s < 128 = top_high v s e sum lt in
    let in_it = in_bucket v s (v / 2 ^ s) (doublings_of (s * 64 + v / 2 ^ s)) (doublings_is s (v / 2 ^ s) low high) refl in
    record { one_of_all = omega arith; low = in_it.0; high = in_it.1 }

pub small_bucket : (v : ℕ) → v < 128 → IsBucketOf v v
small_bucket v small =
    let none : doublings_of v ≡ 0 = omega arith in
    record {
      one_of_all = omega arith;
      low = subst (λ n. (v - 64 * n) * 2 ^ n ≤ v) (sym none) (omega arith);
      high = subst (λ n. v ≤ (v - 64 * n) * 2 ^ n + (2 ^ n - 1)) (sym none) (omega arith);
    }

pub lowest_is : (b s : ℕ) → b < 3776 → s ≡ b / 64 - 1 → (b - 64 * s) * 2 ^ s % 2 ^ 64 ≡ lowest_of b
lowest_is b s few is =
    subst (λ n. (b - 64 * n) * 2 ^ n % 2 ^ 64 ≡ lowest_of b) (sym is)
    (shl_whole (b - 64 * doublings_of b) 7 (doublings_of b) 64 (omega arith) (omega arith))

-- the end of a bucket has 64 bits
pub highest_fits : (b : ℕ) → b < 3776 → lowest_of b + 2 ^ doublings_of b ≤ 2 ^ 64
highest_fits b few =
    let all : (b - 64 * doublings_of b + 1) * 2 ^ doublings_of b ≤ 128 * 2 ^ 57 =
    mul-le (b - 64 * doublings_of b + 1) (2 ^ doublings_of b) 128 (2 ^ 57) (omega arith) (let few : doublings_of b ≤ 57 = omega arith in pow_mono few) in
    omega arith

pub one_shifted : (b s : ℕ) → b < 3776 → s ≡ b / 64 - 1 → 1 * 2 ^ s % 2 ^ 64 ≡ 2 ^ s
one_shifted b s few is = one_shl s 64 (omega arith)
