-- The worst of some blocks.
use Rattle.std.proofs.Common.{◌≡◌, ℕ, ◌<◌, ◌≤◌, ◌==◌, nat_lt, Bool, true, false, ◌&&◌, ◌||◌, if◌then◌else◌, List, [], ◌∷◌, Some, None, ◌⊎◌, inl, inr, refl, sym, subst, ◌∙◌, arith}
use Rattle.std.proofs.lemmas.Bool.{eqb-true, eqb-false}
use Rattle.std.proofs.lemmas.Bool.Decides.{nat_tests}
use Rattle.foyer_core_model.specs.Ids.{is_id_in}
use Rattle.foyer_core_model.proofs.Ids.{same_in, later_in, in_cases}
use Rattle.foyer_block_manager.specs.Pickers.{worse, worst_of, IsWorst}

module _ (i : ℕ → ℕ) where
  -- b is as bad as c
  abbrev Beats : ℕ → ℕ → Type 0
  Beats b c = (i c < i b) ⊎ ((i c ≡ i b) × (c ≤ b))

  beats_self : (b : ℕ) → Beats b b
  beats_self b = inr (refl, omega arith)

  beats_on : (a b c : ℕ) → Beats a b → Beats b c → Beats a c
  beats_on a b c (inl p) (inl q) = inl (omega arith)
  beats_on a b c (inl p) (inr q) = let e : i c ≡ i b = q.0 in inl (omega arith)
  beats_on a b c (inr p) (inl q) = let e : i b ≡ i a = p.0 in inl (omega arith)
  beats_on a b c (inr p) (inr q) = let e : i c ≡ i b = q.0 in let f : i b ≡ i a = p.0 in let l : b ≤ a = p.1 in let k : c ≤ b = q.1 in inr (omega arith, omega arith)

  worse_is : (a b : ℕ) → Beats (worse i (Some a) b) a × Beats (worse i (Some a) b) b × ((worse i (Some a) b ≡ a) ⊎ (worse i (Some a) b ≡ b))
  worse_is a b = go (nat_lt (i a) (i b)) refl (i a == i b) refl (nat_lt a b) refl
    where
      go : (t : Bool) → nat_lt (i a) (i b) ≡ t → (u : Bool) → (i a == i b) ≡ u → (v : Bool) → nat_lt a b ≡ v
          → Beats (if t || (u && v) then b else a) a × Beats (if t || (u && v) then b else a) b
          × (((if t || (u && v) then b else a) ≡ a) ⊎ ((if t || (u && v) then b else a) ≡ b))
      go true e u f v h = (inl (grind (arith, nat_tests)), beats_self b, inr refl)
      go false e true f true h = let same : i a ≡ i b = eqb-true (i a) (i b) f in let lt : a < b = grind (arith, nat_tests) in (inr (same, omega arith), beats_self b, inr refl)
      go false e true f false h = let same : i a ≡ i b = eqb-true (i a) (i b) f in let le : b ≤ a = grind (arith, nat_tests) in (beats_self a, inr (sym same, le), inl refl)
      go false e false f v h =
          let ne : i a ≡ i b → ⊥ = eqb-false (i a) (i b) f in
          let le : i b ≤ i a = grind (arith, nat_tests) in
          (beats_self a, inl (grind arith), inl refl)

  worst_from : (a : ℕ) (ids : List ℕ) (b : ℕ) → worst_of i (Some a) ids ≡ Some b
      → Beats b a × ((c : ℕ) → is_id_in c ids ≡ true → Beats b c) × ((b ≡ a) ⊎ (is_id_in b ids ≡ true))
  worst_from a [] b e =
      let same : a ≡ b = cc in
      (subst (λ k. Beats k a) same (beats_self a), λ c is. absurd (let clash : false ≡ true = is in cc), inl (sym same))
  worst_from a (x ∷ ids) b e =
      let w = worse_is a x in
      let r = worst_from (worse i (Some a) x) ids b e in (
        beats_on b (worse i (Some a) x) a r.0 w.0,
        λ c is. elim (in_cases c x ids is) [
          | inl here ↦ subst (λ k. Beats b k) (sym here) (beats_on b (worse i (Some a) x) x r.0 w.1)
          | inr later ↦ r.1 c later
        ],
        elim r.2 [
          | inl same ↦ elim w.2 [
            | inl was ↦ inl (same ∙ was)
            | inr new ↦ inr (subst (λ k. is_id_in k (x ∷ ids) ≡ true) (sym (same ∙ new)) (same_in x ids))
          ]
          | inr there ↦ inr (later_in b x ids there)
        ],
      )

pub worst_picked : (invalid : ℕ → ℕ) (ids : List ℕ) (b : ℕ) → worst_of invalid None ids ≡ Some b → IsWorst invalid ids b
worst_picked invalid [] b e = absurd (cc)
worst_picked invalid (x ∷ ids) b e =
    let r = worst_from invalid x ids b e in
    record {
      there = elim r.2 [
        | inl same ↦ subst (λ k. is_id_in k (x ∷ ids) ≡ true) (sym same) (same_in x ids)
        | inr later ↦ later_in b x ids later
      ];
      most = λ c is. elim (in_cases c x ids is) [
        | inl here ↦ subst (λ k. (invalid k < invalid b) ⊎ ((invalid k ≡ invalid b) × (k ≤ b))) (sym here) r.0
        | inr later ↦ r.1 c later
      ];
    }
