-- Classes of hashes, and the flushers that they belong to.
use Rattle.std.proofs.Common.{◌≡◌, ◌⊎◌, inl, inr, ◌+◌, ◌-◌, ◌*◌, ◌/◌, ◌%◌, ◌<◌, ◌≤◌, ℕ, List, length, slice_index, subst, sym, ap, ◌∙◌, arith}
use Rattle.std.proofs.Math.Nat.{div-add-mod, mod-mod_of_dvd, mul-mod_right}
use Rattle.std.proofs.lemmas.Nat.Gcd.{dvd_of_mod-eq-zero}
use Rattle.foyer_core_threads.specs.Queued.{AreClassed, Noted, class_of}

less : (a b n : ℕ) → a + b ≡ n → n - b ≡ a
less a b n is = omega (arith, is)

-- what a number has beyond its remainder has none
pub whole_part : (n f : ℕ) → (n - n % f) % f ≡ 0
whole_part n f = ap (λ k. k % f) (less (f * (n / f)) (n % f) n (div-add-mod n f)) ∙ mul-mod_right f (n / f)

-- a hash's class belongs to the hash's flusher
flusher_of_class : (hash classes flushers : ℕ) → classes % flushers ≡ 0 → hash % classes % flushers ≡ hash % flushers
flusher_of_class hash classes flushers whole = mod-mod_of_dvd flushers hash (dvd_of_mod-eq-zero flushers whole)

-- if all that was queued at a hash's flusher has left it, so has what is kept for the hash's class
pub idle_left : (noted : Noted) (flushers hash : ℕ) → AreClassed noted.last noted.queued → length noted.queued ≡ flushers → 0 < flushers
    → slice_index noted.queued (hash % flushers) ≤ slice_index noted.left (hash % flushers) → slice_index noted.last (class_of noted hash) ≤ slice_index noted.left (hash % flushers)
idle_left noted flushers hash are same some idle =
    let low : slice_index noted.last (class_of noted hash) ≤ slice_index noted.queued (class_of noted hash % length noted.queued) = are.below (class_of noted hash) in
    let whole : length noted.last % length noted.queued ≡ 0 = are.whole (subst (λ n. 0 < n) (sym same) some) in
    let at : class_of noted hash % length noted.queued ≡ hash % flushers = flusher_of_class hash (length noted.last) (length noted.queued) whole ∙ ap (λ n. hash % n) same in
    let lower : slice_index noted.last (class_of noted hash) ≤ slice_index noted.queued (hash % flushers) = subst (λ r. slice_index noted.last (class_of noted hash) ≤ slice_index noted.queued r) at low in
    omega arith

-- A hash's flusher gets a piece more, whose place is kept for the hash's class.
pub added : (last queued last_after queued_after : List ℕ) (hash place : ℕ) → AreClassed last queued → length last_after ≡ length last → length queued_after ≡ length queued → 0 < length queued
    → ((r : ℕ) → slice_index queued r ≤ slice_index queued_after r) → place ≡ slice_index queued_after (hash % length queued)
    → ((r : ℕ) → (slice_index last_after r ≡ slice_index last r) ⊎ ((hash % length last ≡ r) × (slice_index last_after r ≡ place))) → AreClassed last_after queued_after
added last queued last_after queued_after hash place are classes flushers some grown is bound = record {
  some = subst (λ n. 0 < n) (sym classes) are.some;
  whole = λ any. subst (λ n. n % length queued_after ≡ 0) (sym classes) (subst (λ n. length last % n ≡ 0) (sym flushers) (are.whole some));
  below = λ r.
      let more : slice_index queued (r % length queued) ≤ slice_index queued_after (r % length queued) = grown (r % length queued) in
      let low : slice_index last r ≤ slice_index queued (r % length queued) = are.below r in
      subst (λ n. slice_index last_after r ≤ slice_index queued_after (r % n)) (sym flushers) (elim (bound r) [
        | inl same ↦ (let kept : slice_index last_after r ≡ slice_index last r = same in omega arith)
        | inr (at, put) ↦ (
            let here : r % length queued ≡ hash % length queued = ap (λ n. n % length queued) (sym at) ∙ flusher_of_class hash (length last) (length queued) (are.whole some) in
            let top : slice_index last_after r ≡ slice_index queued_after (r % length queued) = put ∙ is ∙ ap (λ n. slice_index queued_after n) (sym here) in
            omega arith
            )
      ]);
}
