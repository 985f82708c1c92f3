-- What storing keeps.
use Rattle.std.proofs.Common.{◌≡◌, ℕ, Bool, true, false, cond, eqb, List, Option, Some, None, refl, sym, ap, subst, ◌∙◌}
use Rattle.std.proofs.lemmas.Bool.{eqb-true}
use Rattle.foyer_memcached.specs.declared.turn.Outcome.{Outcome}
use Rattle.foyer_memcached.specs.declared.turn.Outcome.TheVariants.{Exists}
use Rattle.foyer_memcached.specs.declared.verb.Mode.{Mode}
use Rattle.foyer_memcached.specs.declared.verb.Mode.TheVariants.{Set, Add, Replace, Append, Prepend, Cas}
use Rattle.foyer_memcached.specs.Asked.{Storing}
use Rattle.foyer_memcached.specs.Item.{Kept}
use Rattle.foyer_memcached.specs.Turn.{store_by, stored}
use Rattle.foyer_memcached.proofs.Options.{some_is, none_not}

module _ (now cas : ℕ) (s : Storing) (value : List ℕ) where
  has_cas : (q p : Kept) → q.cas ≡ cas → ◌≡◌ {A = Option Kept} (Some q) (Some p) → p.cas ≡ cas
  has_cas q p is e = subst (λ (x : Kept). x.cas ≡ cas) (some_is q p e) is

  abbrev exists : Outcome × Option Kept
  exists = (Exists, None)

  -- cas found another version, or its own
  own_version : (i p : Kept) → (cond (eqb i.cas s.cas) (stored now cas s value) exists).1 ≡ Some p → (i.cas ≡ s.cas) × (p.cas ≡ cas)
  own_version i p e = go (eqb i.cas s.cas) refl e
    where
      go : (t : Bool) → eqb i.cas s.cas ≡ t → (cond t (stored now cas s value) exists).1 ≡ Some p → (i.cas ≡ s.cas) × (p.cas ≡ cas)
      go true is e = (eqb-true _ _ is, has_cas _ p refl e)
      go false is e = absurd (none_not p e)

  pub by_mode : (m : Mode) (found : Option Kept) (p : Kept) → (store_by m now cas s value found).1 ≡ Some p → p.cas ≡ cas
  by_mode Set found p e = has_cas _ p refl e
  by_mode Add None p e = has_cas _ p refl e
  by_mode Add (Some i) p e = absurd (none_not p e)
  by_mode Replace None p e = absurd (none_not p e)
  by_mode Replace (Some i) p e = has_cas _ p refl e
  by_mode Append None p e = absurd (none_not p e)
  by_mode Append (Some i) p e = has_cas _ p refl e
  by_mode Prepend None p e = absurd (none_not p e)
  by_mode Prepend (Some i) p e = has_cas _ p refl e
  by_mode Cas None p e = absurd (none_not p e)
  by_mode Cas (Some i) p e = (own_version i p e).1

  pub by_cas : (m : Mode) (found : Option Kept) (p : Kept) → m ≡ Cas → (store_by m now cas s value found).1 ≡ Some p → (i : Kept) × (found ≡ Some i) × (i.cas ≡ s.cas)
  by_cas m found p is e = go found (sym (ap (λ (k : Mode). (store_by k now cas s value found).1) is) ∙ e)
    where
      go : (found : Option Kept) → (store_by Cas now cas s value found).1 ≡ Some p → (i : Kept) × (found ≡ Some i) × (i.cas ≡ s.cas)
      go None e = absurd (none_not p e)
      go (Some i) e = (i, refl, (own_version i p e).0)

  pub by_add : (m : Mode) (found : Option Kept) (p : Kept) → m ≡ Add → (store_by m now cas s value found).1 ≡ Some p → found ≡ None
  by_add m found p is e = go found (sym (ap (λ (k : Mode). (store_by k now cas s value found).1) is) ∙ e)
    where
      go : (found : Option Kept) → (store_by Add now cas s value found).1 ≡ Some p → found ≡ None
      go None e = refl
      go (Some i) e = absurd (none_not p e)
