-- Steps that didn't fail, and steps that did.
use Rattle.std.proofs.Common.{◌≡◌, Bool, true, false, cond, Result, Ok, Err, refl}
use Rattle.foyer_memcached.specs.Steps.{◌>>=◌}

module _ {E : Type 0} where
  abbrev done : {A : Type 0} → A → Result A E
  done x = Ok x

  pub ok_is : {A : Type 0} (x y : A) → done x ≡ done y → x ≡ y
  ok_is x y e = cc

  pub err_not_ok : {A : Type 0} (d : E) (y : A) → ◌≡◌ {A = Result A E} (Err d) (Ok y) → ⊥
  err_not_ok d y e = cc

  pub ok_not_err : {A : Type 0} (y : A) (d : E) → ◌≡◌ {A = Result A E} (Ok y) (Err d) → ⊥
  ok_not_err y d e = cc

  -- the value of a step that did not fail
  pub bind_ok : {A B : Type 0} (r : Result A E) (f : A → Result B E) (y : B) → (r >>= f) ≡ Ok y → (x : A) × (r ≡ Ok x) × (f x ≡ Ok y)
  bind_ok (Ok x) f y e = (x, refl, e)
  bind_ok (Err d) f y e = absurd (err_not_ok d y e)

  -- a test that did not fail
  pub guard_ok : {A : Type 0} (b : Bool) (d : E) (x : Result A E) (y : A) → cond b (Err d) x ≡ Ok y → (b ≡ false) × (x ≡ Ok y)
  guard_ok true d x y e = absurd (err_not_ok d y e)
  guard_ok false d x y e = (refl, e)
