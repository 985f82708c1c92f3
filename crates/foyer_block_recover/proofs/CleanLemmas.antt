-- The blocks that keep nothing, as a list of ids.
use Rattle.std.proofs.Common.{◌≡◌, ℕ, zero, suc, ◌+◌, ◌<◌, ◌≤◌, ◌==◌, Bool, true, false, ◌||◌, if◌then◌else◌, List, ◌∷◌, refl, sym, ap, ◌∙◌, arith}
use Rattle.std.proofs.lemmas.Bool.{eqb-true, eqb-false}
use Rattle.foyer_block_scan.specs.BlobEntryIndex.{BlobEntryIndex}
use Rattle.foyer_core_model.specs.Ids.{is_id_in, AreDistinct}
use Rattle.foyer_block_recover.specs.Opening.{is_empty, clean_from}

module _ (keeps : ℕ → List BlobEntryIndex) where
  -- none is before the first block
  pub clean_behind : (n from k : ℕ) → k < from → is_id_in k (clean_from from n keeps) ≡ false
  clean_behind zero from k lt = refl
  clean_behind (suc n) from k lt = go (is_empty (keeps from)) (clean_behind n (from + 1) k (omega (arith, lt))) (k == from) refl
    where
      go : (t : Bool) → is_id_in k (clean_from (from + 1) n keeps) ≡ false → (u : Bool) → (k == from) ≡ u
          → is_id_in k (if t then from ∷ clean_from (from + 1) n keeps else clean_from (from + 1) n keeps) ≡ false
      go true rest true e = absurd (let same : k ≡ from = eqb-true k from e in omega arith)
      go true rest false e = ap (λ (u : Bool). u || is_id_in k (clean_from (from + 1) n keeps)) e ∙ rest
      go false rest u e = rest

  -- of the others it is those that keep nothing
  pub clean_is : (n from k : ℕ) → from ≤ k → k < from + n → is_id_in k (clean_from from n keeps) ≡ is_empty (keeps k)
  clean_is zero from k le lt = absurd (omega arith)
  clean_is (suc n) from k le lt =
      go (k == from) refl (is_empty (keeps from)) refl (λ ne. clean_is n (from + 1) k (let above : from + 1 ≤ k = omega arith in above) (omega (arith, lt)))
    where
      go : (u : Bool) → (k == from) ≡ u → (t : Bool) → is_empty (keeps from) ≡ t
          → ((k ≡ from → ⊥) → is_id_in k (clean_from (from + 1) n keeps) ≡ is_empty (keeps k))
          → is_id_in k (if t then from ∷ clean_from (from + 1) n keeps else clean_from (from + 1) n keeps) ≡ is_empty (keeps k)
      go true e true empty later =
          let same : k ≡ from = eqb-true k from e in
          ap (λ (u : Bool). u || is_id_in k (clean_from (from + 1) n keeps)) e ∙ sym (ap (λ b. is_empty (keeps b)) same ∙ empty)
      go true e false empty later =
          let same : k ≡ from = eqb-true k from e in
          clean_behind n (from + 1) k (omega arith) ∙ sym (ap (λ b. is_empty (keeps b)) same ∙ empty)
      go false e true empty later = ap (λ (u : Bool). u || is_id_in k (clean_from (from + 1) n keeps)) e ∙ later (eqb-false k from e)
      go false e false empty later = later (eqb-false k from e)

  -- and none is behind the last block
  pub clean_below : (n from k : ℕ) → is_id_in k (clean_from from n keeps) ≡ true → k < from + n
  clean_below zero from k is = absurd (cc)
  clean_below (suc n) from k is = go (is_empty (keeps from)) is (λ there. let lt : k < from + 1 + n = clean_below n (from + 1) k there in omega arith)
    where
      either : (u : Bool) → (k == from) ≡ u → (u || is_id_in k (clean_from (from + 1) n keeps)) ≡ true
          → (is_id_in k (clean_from (from + 1) n keeps) ≡ true → k < from + suc n) → k < from + suc n
      either true e there later = let same : k ≡ from = eqb-true k from e in omega arith
      either false e there later = later there

      go : (t : Bool) → is_id_in k (if t then from ∷ clean_from (from + 1) n keeps else clean_from (from + 1) n keeps) ≡ true
          → (is_id_in k (clean_from (from + 1) n keeps) ≡ true → k < from + suc n) → k < from + suc n
      go true there later = either (k == from) refl there later
      go false there later = later there

  -- each once
  pub clean_once : (n from : ℕ) → AreDistinct (clean_from from n keeps)
  clean_once zero from = tt
  clean_once (suc n) from = go (is_empty (keeps from)) (clean_once n (from + 1))
    where
      go : (t : Bool) → AreDistinct (clean_from (from + 1) n keeps)
          → AreDistinct (if t then from ∷ clean_from (from + 1) n keeps else clean_from (from + 1) n keeps)
      go true rest = (clean_behind n (from + 1) from (omega arith), rest)
      go false rest = rest
