-- Tests that let a value through.
use Rattle.std.proofs.Common.{◌≡◌, Bool, true, false, cond, Option, Some, None, refl}

abbrev some : {A : Type 0} → A → Option A
some x = Some x

pub some_is : {A : Type 0} (x y : A) → some x ≡ some y → x ≡ y
some_is x y e = cc

pub none_not : {A : Type 0} (y : A) → ◌≡◌ {A = Option A} None (Some y) → ⊥
none_not y e = cc

-- a test that did not fail
pub unless : {A : Type 0} (b : Bool) (x : Option A) (y : A) → cond b None x ≡ Some y → (b ≡ false) × (x ≡ Some y)
unless true x y e = absurd (none_not y e)
unless false x y e = (refl, e)

pub when : {A : Type 0} (b : Bool) (x : Option A) (y : A) → cond b x None ≡ Some y → (b ≡ true) × (x ≡ Some y)
when true x y e = (refl, e)
when false x y e = absurd (none_not y e)
