-- What holds of an outcome that is known to be Ok, or an error.
use Rattle.std.proofs.Common.{◌≡◌, Bool, true, false, true≢false, is_ok, is_err, refl, sym, Result, Ok, Err, OnOk, OnErr}
use Rattle.foyer_device_page.specs.declared.error.Error.{Error}

pub ok_is : (r : Result (Unit {0}) Error) → is_err r ≡ false → r ≡ Ok tt
ok_is (Ok x) is = refl
ok_is (Err e) is = absurd (true≢false is)

pub on_ok : (P : Type 0) (r : Result (Unit {0}) Error) → P → OnOk r P
on_ok P (Ok x) holds = holds
on_ok P (Err e) holds = tt

pub on_err : (P : Type 0) (r : Result (Unit {0}) Error) → P → OnErr r P
on_err P (Ok x) holds = tt
on_err P (Err e) holds = holds

pub no_err : (P : Type 0) (r : Result (Unit {0}) Error) → is_ok r ≡ true → OnErr r P
no_err P (Ok x) is = tt
no_err P (Err e) is = absurd (true≢false (sym is))

pub no_ok : (P : Type 0) (r : Result (Unit {0}) Error) → is_ok r ≡ false → OnOk r P
no_ok P (Ok x) is = absurd (true≢false is)
no_ok P (Err e) is = tt

pub no_ok_by_err : (P : Type 0) (r : Result (Unit {0}) Error) → is_err r ≡ true → OnOk r P
no_ok_by_err P (Ok x) is = absurd (true≢false (sym is))
no_ok_by_err P (Err e) is = tt
