-- Bytes that are written in parts.
use Rattle.std.proofs.Common.{◌≡◌, ℕ, List, ◌++◌, Option, Result, Ok, Err, OnOk, subst}
use Rattle.std.specs.Io.KnownBytes.{Appends}
use Rattle.std.proofs.KnownBytes.{Appends-trans}

pub in_three : {T E : Type 0} (r : Result T E) (a b c d : Option (List ℕ)) (xs ys zs all : List ℕ) → Appends a b xs → Appends b c ys → OnOk r (Appends c d zs) → xs ++ (ys ++ zs) ≡ all → OnOk r (Appends a d all)
in_three (Ok x) a b c d xs ys zs all p q h e = subst (Appends a d) e (Appends-trans a b d xs (ys ++ zs) p (Appends-trans b c d ys zs q h))
in_three (Err x) a b c d xs ys zs all p q h e = tt
