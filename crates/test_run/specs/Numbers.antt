-- The code of a number that may be missing: a missing one can't be encoded.
use Rattle.std.specs.Prelude.{◌≡◌, ℕ, ◌^◌, nat_lt, Bool, true, false, refl, List, [], ◌++◌, Option, None, Some}
use Rattle.std.specs.Int.{w64}
use Rattle.std.specs.Io.KnownBytes.{Appends}
use Rattle.std.proofs.Common.{ap}
use borrow.Author.Tests.{both_ways}
use Rattle.foyer_format_code.specs.Codes.{number_bytes, is_number}
use Rattle.foyer_format_code.specs.CodeLaws.{number_encoded, number_coded, one_number}
use Rattle.foyer_format_code.specs.Writing.{Takes, Extends}

abbrev pub bytes_of : Option ℕ → List ℕ
bytes_of None = []
bytes_of (Some n) = number_bytes w64 n

abbrev pub may_encode : Option ℕ → Bool
may_encode None = false
may_encode (Some n) = nat_lt n (2 ^ 64)

-- the hash of a number
abbrev pub number_of : Option ℕ → ℕ
number_of None = 0
number_of (Some n) = n

pub is_encoded : (o : Option ℕ) → may_encode o ≡ true → is_number w64 (bytes_of o) ≡ true
is_encoded None may = absurd (both_ways false refl may)
is_encoded (Some n) may = number_encoded w64 n may

pub one_of : (o p : Option ℕ) → may_encode o ≡ true → may_encode p ≡ true → bytes_of o ≡ bytes_of p → o ≡ p
one_of None p may other same = absurd (both_ways false refl may)
one_of (Some n) None may other same = absurd (both_ways false refl other)
one_of (Some n) (Some m) may other same = ap Some (one_number w64 n m may other same)

pub may_be_coded : (o : Option ℕ) → is_number w64 (bytes_of o) ≡ true → may_encode o ≡ true
may_be_coded None is = absurd (both_ways false refl is)
may_be_coded (Some n) is = number_coded w64 n is

-- a writer that took some bytes of what fails then has what it had, and these
pub is_torn : (r s : Option ℕ) (n : ℕ) (a b : Option (List ℕ)) (bs : List ℕ)
    → Takes r s n → Appends a b bs → Extends r s a b
is_torn None s n a b bs takes appends = tt
is_torn (Some r) None n a b bs takes appends = absurd takes
is_torn (Some r) (Some s) n None b bs takes appends = tt
is_torn (Some r) (Some s) n (Some xs) None bs takes appends = absurd appends
is_torn (Some r) (Some s) n (Some xs) (Some ys) bs takes appends = (bs, appends)
