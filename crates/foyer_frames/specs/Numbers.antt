-- Numbers of four bytes, the lowest first.
use Rattle.std.specs.Prelude.{◌≡◌, ℕ, List, take, drop, Result, Ok, Err}
use Rattle.std.specs.Int.{w32, from_le_bytes, to_le_bytes}
use Rattle.foyer_frames.specs.declared.request.Fault.{Fault}

-- the four bytes of a number
abbrev pub number_bytes : ℕ → List ℕ
number_bytes n = to_le_bytes w32 n

-- the number that the four bytes from a place on spell
abbrev pub number_at : ℕ → List ℕ → ℕ
number_at i bytes = from_le_bytes w32 (take 4 (drop i bytes))

infixl 10 ◌>>=◌
abbrev pub ◌>>=◌ : {A B : Type 0} → Result A Fault → (A → Result B Fault) → Result B Fault
(Ok x) >>= f = f x
(Err e) >>= f = Err e

-- what a function returned, seen by view, is what the definition reads
abbrev pub Reads : {X Y : Type 0} → (X → Y) → Result X Fault → Result Y Fault → Type 0
Reads view (Ok x) read = read ≡ Ok (view x)
Reads view (Err e) read = read ≡ Err e
