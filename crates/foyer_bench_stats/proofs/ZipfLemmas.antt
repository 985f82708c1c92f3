-- One rank's sum more, and the point that a word is of all weights.
use Rattle.std.proofs.Common.{ℕ, zero, suc, ◌≡◌, ◌+◌, ◌-◌, ◌*◌, ◌/◌, ◌^◌, ◌<◌, ◌≤◌, List, [], ◌∷◌, ◌++◌, length, get_or, refl, sym, ◌∙◌, ap, subst, inl, inr, arith, below_more, length-append}
use Rattle.std.proofs.lemmas.Bool.{cases_lt}
use Rattle.std.proofs.lemmas.Nat.{div_below, mul-le}
use Rattle.std.proofs.lemmas.List.{get_or_append_left, get_or_push, get_or_read_under}
use Rattle.foyer_bench_stats.specs.Weights.{IsWeightOf}
use Rattle.foyer_bench_stats.specs.Zipf.{AreSums, IsRankOf, IsSummed, sum_before, whole_of}

sum_before-push : (sums : List ℕ) (s k : ℕ) → k ≤ length sums → sum_before (sums ++ s ∷ []) k ≡ sum_before sums k
sum_before-push sums s zero within = refl
sum_before-push sums s (suc k) within = get_or_append_left sums (s ∷ []) 0 k within

sum_before-is : (sums : List ℕ) (k total : ℕ) → (0 < k → get_or sums (k - 1) 0 ≡ total) → (k ≡ 0 → 0 ≡ total) → sum_before sums k ≡ total
sum_before-is sums zero total some none = none refl
sum_before-is sums (suc k) total some none =
    let same : suc k - 1 ≡ k = omega arith in
    subst (λ n. get_or sums n 0 ≡ total) same (some (omega arith))

summed-push : (skew : ℕ) (sums : List ℕ) (s k : ℕ) → k < length sums → IsSummed skew sums k → IsSummed skew (sums ++ s ∷ []) k
summed-push skew sums s k one is = record {
  weight = is.weight;
  is_its_own = is.is_its_own;
  sum = get_or_append_left sums (s ∷ []) 0 k one ∙ is.sum ∙ ap (λ n. n + is.weight) (sym (sum_before-push sums s k (omega arith)));
}

pub sums-push : (skew : ℕ) (sums after : List ℕ) (total weight k : ℕ) → AreSums k skew sums → IsWeightOf k skew weight → (0 < k → get_or sums (k - 1) 0 ≡ total) → (k ≡ 0 → 0 ≡ total) → after ≡ sums ++ (total + weight) ∷ [] → AreSums (k + 1) skew after
sums-push skew sums after total weight k are is some none pushed =
    let ranks : length sums ≡ k = are.ranks in
    let last : IsSummed skew (sums ++ (total + weight) ∷ []) k = record {
      weight = weight;
      is_its_own = is;
      sum = get_or_push sums (total + weight) 0 k ranks ∙ ap (λ n. n + weight) (sym (sum_before-push sums (total + weight) k (omega arith) ∙ sum_before-is sums k total some none));
    } in
    subst (AreSums (k + 1) skew) (sym pushed) (record {
      ranks = rw (length-append {A = ℕ}) (omega arith);
      weighed = below_more (IsSummed skew (sums ++ (total + weight) ∷ [])) k (λ j h. summed-push skew sums (total + weight) j (omega arith) (are.weighed j h)) last;
    })

pub newest-push : (sums after : List ℕ) (s k : ℕ) → length sums ≡ k → after ≡ sums ++ s ∷ [] → get_or after (k + 1 - 1) 0 ≡ s
newest-push sums after s k ranks pushed =
    let same : k + 1 - 1 ≡ k = omega arith in
    rw same (rw pushed (get_or_push sums s 0 k ranks))

point_below : (word whole : ℕ) → word < 2 ^ 64 → 0 < whole → word * whole / 2 ^ 64 < whole
point_below word whole fits some =
    let all : (word + 1) * whole ≤ 2 ^ 64 * whole = mul-le (word + 1) whole (2 ^ 64) whole (omega arith) (omega arith) in
    div_below (word * whole) (2 ^ 64) whole (omega arith) (omega arith)

pub is_rank : (sums : List ℕ) (word whole point rank : ℕ) → 0 < length sums → 0 < whole_of sums → whole ≡ whole_of sums → word < 2 ^ 64 → point ≡ word * whole / 2 ^ 64 → rank ≤ length sums → ((k : ℕ) → k < rank → get_or sums k 0 ≤ point) → (rank < length sums → point < get_or sums rank 0) → IsRankOf sums word rank
is_rank sums word whole point rank some positive is_whole fits is_point within below above =
    let same : point ≡ word * whole_of sums / 2 ^ 64 = is_point ∙ ap (λ n. word * n / 2 ^ 64) is_whole in
    let small : word * whole_of sums / 2 ^ 64 < whole_of sums = point_below word (whole_of sums) fits positive in
    let one : rank < length sums = elim (cases_lt rank (length sums)) [ inl h ↦ h | inr h ↦ absurd (let last : get_or sums (length sums - 1) 0 ≤ point = below (length sums - 1) (omega arith) in omega arith) ] in
    record { one_of_all = one; from = λ k h. rw (← same) (below k h); to = rw (← same) (above one) }

pub whole_is : (sums : List ℕ) (n x : ℕ) → x ≡ get_or sums (n - 1) x → 0 < length sums → n ≡ length sums → x ≡ whole_of sums
whole_is sums n x read some is = subst (λ k. x ≡ get_or sums (k - 1) 0) is (get_or_read_under sums (n - 1) n x 0 read (omega arith) is)
