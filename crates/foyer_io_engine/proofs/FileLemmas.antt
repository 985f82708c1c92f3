-- The file of a number, as an engine finds it, or that there is none.
use Rattle.std.proofs.Common.{◌≡◌, ℕ, ◌+◌, ◌<◌, ◌≤◌, List, Option, Some, None, Bool, true, false, IsTrue, refl, sym, ap, ◌∙◌, arith, length, nat_eq, nat_lt}
use Rattle.std.specs.Prelude.{slice_get}
use Rattle.std.proofs.Math.ListN.{get_or}
use Rattle.std.proofs.lemmas.Bool.Decides.{nat_tests}
use Rattle.std.proofs.lemmas.Option.{slice_get_read, slice_get_past}
use Rattle.foyer_io_engine.specs.MemoryFile.{Contents, len_of}

pub file_found : (files seen : List Contents) (n : ℕ) (x : Contents) → seen ≡ files → true ≡ nat_lt n (length seen) → x ≡ get_or seen n x → slice_get files n ≡ Some x
file_found files seen n x same there read =
    let lt : n < length seen = grind (arith, nat_tests) in
    sym (ap (λ (xs : List Contents). slice_get xs n) same) ∙ slice_get_read seen (length seen) n x refl lt read

pub file_missing : (files seen : List Contents) (n : ℕ) → seen ≡ files → false ≡ nat_lt n (length seen) → slice_get files n ≡ None
file_missing files seen n same past =
    let le : length seen ≤ n = grind (arith, nat_tests) in
    sym (ap (λ (xs : List Contents). slice_get xs n) same) ∙ slice_get_past seen n le

-- nothing lies in no file but no bytes at its beginning
pub nothing_within : (at len : ℕ) (file : Option Contents) → file ≡ None → len ≡ 0 → (IsTrue (nat_eq at 0) → at + len ≤ len_of file) × (at + len ≤ len_of file → IsTrue (nat_eq at 0))
nothing_within at len file none is = rw none (rw is (grind (arith, nat_tests)))

pub some_within : (at len : ℕ) (file : Option Contents) → file ≡ None → (len ≡ 0 → ⊥) → (IsTrue (nat_eq len 0) → at + len ≤ len_of file) × (at + len ≤ len_of file → IsTrue (nat_eq len 0))
some_within at len file none is = rw none (grind (arith, nat_tests))
