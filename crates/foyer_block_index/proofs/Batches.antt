-- A batch: counted by shard, and inserted in order.
use Rattle.std.proofs.Common.{◌≡◌, ◌≢◌, ℕ, ◌+◌, ◌<◌, ◌≤◌, ◌%◌, ◌==◌, Bool, true, false, cond, List, [], ◌∷◌, ◌++◌, length, take, drop, get_or, slice_set, slice_index, if◌then◌else◌, refl, sym, ap, ◌∙◌, arith}
use Rattle.std.proofs.lemmas.List.{take_more, get_or-set_same, get_or-set_other}
use Rattle.std.proofs.lemmas.List.Sums.{sum_by-cons, sum_by_push, get_or-le-sum_by, count_by_more_no}
use Rattle.std.proofs.lemmas.Bool.{eqb-true, eqb-false, eq-eqb}
use Rattle.foyer_block_index.specs.declared.indexer.HashedEntryAddress.{HashedEntryAddress}
use Rattle.foyer_block_index.specs.Index.{IndexMap, belonging}
use Rattle.foyer_block_index.specs.Insertion.{inserted_all, all_left_out}

belonging-push : (n i : ℕ) (es : List HashedEntryAddress) (e : HashedEntryAddress) → belonging n i (es ++ e ∷ []) ≡ belonging n i es + cond (e.hash % n == i) 1 0
belonging-push n i es e = sum_by_push (λ e. cond (e.hash % n == i) 1 0) es e

belonging-cons : (n i : ℕ) (e : HashedEntryAddress) (es : List HashedEntryAddress) → belonging n i (e ∷ es) ≡ cond (e.hash % n == i) 1 0 + belonging n i es
belonging-cons n i e es = sum_by-cons (λ e. cond (e.hash % n == i) 1 0) e es

-- some entry belongs to the shard to which this one belongs
pub belongs_here : (n : ℕ) (es : List HashedEntryAddress) (i : ℕ) (d : HashedEntryAddress) → i < length es → 0 < belonging n ((get_or es i d).hash % n) es
belongs_here n es i d within =
    let own = (get_or es i d).hash % n in
    let one : cond {A = ℕ} (own == own) 1 0 ≡ 1 = ap (λ b. cond b 1 0) (eq-eqb own own refl) in
    let enough : cond {A = ℕ} (own == own) 1 0 ≤ belonging n own es = get_or-le-sum_by (λ e. cond (e.hash % n == own) 1 0) es i d within in
    omega arith

-- the next entry belongs elsewhere
pub belonging_apart : (n s : ℕ) (es : List HashedEntryAddress) (i : ℕ) (d : HashedEntryAddress) → i < length es → s ≢ (get_or es i d).hash % n
    → belonging n s (take (i + 1) es) ≡ belonging n s (take i es)
belonging_apart n s es i d within ne = count_by_more_no (λ e. e.hash % n == s) es i d within (apart ((get_or es i d).hash % n == s) refl)
  where
    apart : (b : Bool) → ((get_or es i d).hash % n == s) ≡ b → ((get_or es i d).hash % n == s) ≡ false
    apart true e = absurd (ne (sym (eqb-true ((get_or es i d).hash % n) s e)))
    apart false e = e

-- the count of the shard of one entry more is 0
pub cleared_more : (counts : List ℕ) (n p : ℕ) (es : List HashedEntryAddress) (i : ℕ) (d : HashedEntryAddress) → i < length es
    → p ≡ (get_or es i d).hash % n → 0 < n → length counts ≡ n
    → ((s : ℕ) → s < n → 0 < belonging n s (take i es) → slice_index counts s ≡ 0)
    → (s : ℕ) → s < n → 0 < belonging n s (take (i + 1) es) → slice_index (slice_set counts p 0) s ≡ 0
cleared_more counts n p es i d within place some len so_far s lt there = go (s == p) refl
  where
    fits : p < length counts
    fits = omega (arith, place, some, len)

    go : (b : Bool) → (s == p) ≡ b → slice_index (slice_set counts p 0) s ≡ 0
    go true e = ap (slice_index (slice_set counts p 0)) (eqb-true s p e) ∙ get_or-set_same counts p 0 0 fits
    go false e =
        let ne : s ≢ p = eqb-false s p e in
        let before : belonging n s (take (i + 1) es) ≡ belonging n s (take i es) = belonging_apart n s es i d within (λ is. ne (is ∙ sym place)) in
        get_or-set_other counts p s 0 0 ne ∙ so_far s lt (omega arith)

-- the count of the shard to which the next entry belongs is one more
pub counted_more : (counts : List ℕ) (n p : ℕ) (es : List HashedEntryAddress) (i : ℕ) (d : HashedEntryAddress) → i < length es
    → p ≡ (get_or es i d).hash % n → 0 < n → length counts ≡ n
    → (s : ℕ) → slice_index counts s ≡ belonging n s (take i es)
    → slice_index (slice_set counts p (slice_index counts p + 1)) s ≡ belonging n s (take (i + 1) es)
counted_more counts n p es i d within place some len s so_far = go (s == p) refl ∙ sym (ap (belonging n s) (take_more es i d within) ∙ belonging-push n s (take i es) (get_or es i d))
  where
    fits : p < length counts
    fits = omega (arith, place, some, len)

    here : s ≡ p → ((get_or es i d).hash % n == s) ≡ true
    here e = eq-eqb ((get_or es i d).hash % n) s (sym place ∙ sym e)

    apart : s ≢ p → ((b : Bool) → ((get_or es i d).hash % n == s) ≡ b → b ≡ false)
    apart ne true e = absurd (ne (sym (place ∙ eqb-true ((get_or es i d).hash % n) s e)))
    apart ne false e = refl

    go : (b : Bool) → (s == p) ≡ b → slice_index (slice_set counts p (slice_index counts p + 1)) s ≡ belonging n s (take i es) + cond ((get_or es i d).hash % n == s) 1 0
    go true e =
        let same : s ≡ p = eqb-true s p e in
        let read : slice_index (slice_set counts p (slice_index counts p + 1)) s ≡ slice_index counts p + 1 =
        ap (λ k. slice_index (slice_set counts p (slice_index counts p + 1)) k) same ∙ get_or-set_same counts p (slice_index counts p + 1) 0 fits in
        read ∙ ap (λ k. slice_index counts k + 1) (sym same) ∙ ap (λ x. x + 1) (so_far) ∙ ap (λ b. belonging n s (take i es) + cond b 1 0) (sym (here same))
    go false e =
        let ne : s ≢ p = eqb-false s p e in
        let still : (if (get_or es i d).hash % n == s then 1 else 0) ≡ 0 = ap (λ b. cond b 1 0) (apart ne ((get_or es i d).hash % n == s) refl) in
        get_or-set_other counts p s (slice_index counts p + 1) 0 ne ∙ so_far ∙ sym (ap (λ x. belonging n s (take i es) + x) still ∙ omega arith)

-- in the midst of a batch: the answers so far stand at its front, and the rest is still to be inserted
pub record Midway (m : IndexMap) (batch : List HashedEntryAddress) (now : IndexMap) (left : List HashedEntryAddress) (answers i : ℕ) : Type 0 where
  pub inserted : inserted_all now (drop i left) ≡ inserted_all m batch
  pub answered : take answers left ++ all_left_out now (drop i left) ≡ all_left_out m batch
  pub behind : answers ≤ i
