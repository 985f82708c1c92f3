-- Bounds of logarithms and powers, and one place more of each.
use Rattle.std.proofs.Common.{ℕ, suc, ◌≡◌, ◌≢◌, ◌+◌, ◌-◌, ◌*◌, ◌/◌, ◌%◌, ◌^◌, ◌<◌, ◌≤◌, refl, subst, inl, inr, get_or, All, eqb, false, rules, arith, eq-eqb}
use Rattle.std.proofs.Math.Pow.{pow_mono}
use Rattle.std.proofs.lemmas.Bool.{cases_lt, lt-ltb, le-ltb}
use Rattle.std.proofs.lemmas.Bool.Decides.{eqb_tells}
use Rattle.std.proofs.lemmas.List.Elements.{All-get_or}
use Rattle.std.proofs.lemmas.Nat.{pow_pos, pow_below, pow-add, shl_below, shl_whole, div_below, mul-le, mul-lt}
use Rattle.foyer_bench_stats.specs.Weights.{log_on, over_places}
use Rattle.foyer_bench_stats.specs.declared.weights.TheConstants.{ROOTS}

pub at_most_26 : (n w : ℕ) → 2 ^ w ≤ n → n ≤ 2 ^ 26 → w ≤ 26
at_most_26 n w le few = elim (cases_lt 26 w) [ inl h ↦ absurd (let p : 2 ^ 26 < 2 ^ w = pow_below 26 w h in omega arith) | inr h ↦ h ]

pub doubled : (w : ℕ) → 2 ^ (w + 1) ≡ 2 ^ w * 2
doubled w = pow-add 2 w 1

pub part_fits : (n w : ℕ) → w ≤ 26 → n < 2 * 2 ^ w → n * 2 ^ (31 - w) < 2 ^ 32
part_fits n w few lt =
    let same : w + 1 + (31 - w) ≡ 32 = omega arith in
    subst (λ k. n * 2 ^ (31 - w) < 2 ^ k) same (shl_below n (w + 1) (31 - w) (omega (arith, doubled w)))

pub part_whole : (n w : ℕ) → w ≤ 26 → n < 2 * 2 ^ w → n * 2 ^ (31 - w) % 2 ^ 64 ≡ n * 2 ^ (31 - w)
part_whole n w few lt = shl_whole n (w + 1) (31 - w) 64 (omega (arith, doubled w)) (omega arith)

pub vanishes : (n k : ℕ) → n ≤ 2 ^ 36 → 64 ≤ k → 0 ≡ n / 2 ^ k
vanishes n k small large =
    let p : 2 ^ 64 ≤ 2 ^ k = pow_mono large in
    let below : n / 2 ^ k < 1 = div_below n (2 ^ k) 1 (pow_pos k) (omega arith) in
    omega arith

pub square_fits : (p : ℕ) → p < 2 ^ 32 → p * p < 2 ^ 64
square_fits p small = mul-lt p p (2 ^ 32) (2 ^ 32) small small

log_on-small : (n part log : ℕ) → part * part < 2 ^ 63 → log_on n (part * part / 2 ^ 31) (log * 2) ≡ log_on (suc n) part log
unfolding log_on
log_on-small n part log small = rw (lt-ltb (part * part) (2 ^ 63) small) refl

log_on-large : (n part log : ℕ) → 2 ^ 63 ≤ part * part → log_on n (part * part / 2 ^ 32) (2 * log + 1) ≡ log_on (suc n) part log
unfolding log_on
log_on-large n part log large = rw (le-ltb (part * part) (2 ^ 63) large) refl

pub place_small : (place part log : ℕ) → place < 24 → part * part < 2 ^ 63 → log_on (24 - (place + 1)) (part * part / 2 ^ 31) (log * 2) ≡ log_on (24 - place) part log
place_small place part log one small =
    let next : suc (24 - (place + 1)) ≡ 24 - place = omega arith in
    subst (λ k. log_on (24 - (place + 1)) (part * part / 2 ^ 31) (log * 2) ≡ log_on k part log) next (log_on-small (24 - (place + 1)) part log small)

pub place_large : (place part log : ℕ) → place < 24 → 2 ^ 63 ≤ part * part → log_on (24 - (place + 1)) (part * part / 2 ^ 32) (2 * log + 1) ≡ log_on (24 - place) part log
place_large place part log one large =
    let next : suc (24 - (place + 1)) ≡ 24 - place = omega arith in
    subst (λ k. log_on (24 - (place + 1)) (part * part / 2 ^ 32) (2 * log + 1) ≡ log_on k part log) next (log_on-large (24 - (place + 1)) part log large)

pub no_place : (part log : ℕ) → log_on 0 part log ≡ log
unfolding log_on
no_place part log = refl

pub over_none : (exponent : ℕ) → 2 ^ 32 ≡ over_places exponent 0
unfolding over_places
over_none exponent = refl

eqb-ne : (a b : ℕ) → a ≢ b → eqb a b ≡ false
eqb-ne a b ne = elim (eqb_tells a b) [ inl h ↦ absurd (ne h.1) | inr h ↦ h.0 ]

over_set-suc : (exponent n : ℕ) → exponent / 2 ^ (23 - n) % 2 ≡ 1 → over_places exponent n * get_or ROOTS n 0 / 2 ^ 32 ≡ over_places exponent (suc n)
unfolding over_places
over_set-suc exponent n is = rw (eq-eqb (exponent / 2 ^ (23 - n) % 2) 1 is) refl

over_clear-suc : (exponent n : ℕ) → exponent / 2 ^ (23 - n) % 2 ≢ 1 → over_places exponent n ≡ over_places exponent (suc n)
unfolding over_places
over_clear-suc exponent n is = rw (eqb-ne (exponent / 2 ^ (23 - n) % 2) 1 is) refl

pub over_set : (exponent n : ℕ) → exponent / 2 ^ (23 - n) % 2 ≡ 1 → over_places exponent n * get_or ROOTS n 0 / 2 ^ 32 ≡ over_places exponent (n + 1)
over_set exponent n is =
    let next : suc n ≡ n + 1 = omega arith in
    subst (λ k. over_places exponent n * get_or ROOTS n 0 / 2 ^ 32 ≡ over_places exponent k) next (over_set-suc exponent n is)

pub over_clear : (exponent n : ℕ) → exponent / 2 ^ (23 - n) % 2 ≢ 1 → over_places exponent n ≡ over_places exponent (n + 1)
over_clear exponent n is =
    let next : suc n ≡ n + 1 = omega arith in
    subst (λ k. over_places exponent n ≡ over_places exponent k) next (over_clear-suc exponent n is)

pub shrunk : (part root : ℕ) → part ≤ 2 ^ 32 → root ≤ 2 ^ 32 → part * root / 2 ^ 32 ≤ 2 ^ 32
shrunk part root small fits =
    let both : part * root ≤ 2 ^ 32 * 2 ^ 32 = mul-le part root (2 ^ 32) (2 ^ 32) small fits in
    omega arith

pub over_vanishes : (exponent part place whole : ℕ) → part ≡ over_places exponent place → place ≡ 24 → part ≤ 2 ^ 32 → 64 ≤ whole → 0 ≡ over_places exponent 24 * 16 / 2 ^ whole
over_vanishes exponent part place whole is last small large =
    let same : part ≡ over_places exponent 24 = subst (λ n. part ≡ over_places exponent n) last is in
    vanishes (over_places exponent 24 * 16) whole (omega arith) large

roots_fit : All (λ x. x ≤ 2 ^ 32) ROOTS
roots_fit = search rules

pub root_fits : (n : ℕ) → n < 24 → get_or ROOTS n 0 ≤ 2 ^ 32
root_fits n one = All-get_or (λ x. x ≤ 2 ^ 32) ROOTS n 0 one roots_fit
