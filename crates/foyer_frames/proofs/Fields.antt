-- Numbers and steps that are read are those that were written.
use Rattle.std.proofs.Common.{◌≡◌, ℕ, ◌+◌, ◌^◌, ◌<◌, ◌≤◌, Bool, true, false, cond, List, ◌++◌, length, get_or, take, drop, Result, Ok, Err, refl, sym, ap, ◌∙◌, arith, inl, inr}
use Rattle.std.specs.Int.{w32, from_le_bytes}
use Rattle.std.proofs.lemmas.Bool.{cases_lt}
use Rattle.std.proofs.lemmas.List.{take-append-drop, length-take, length-drop, get_or-drop, get_or-take, get_or_past, drop-drop, drop-append-le, take-append-le}
use Rattle.std.proofs.lemmas.Nat.{le_bytes_4}
use Rattle.foyer_frames.specs.declared.request.Fault.{Fault}
use Rattle.foyer_frames.specs.Numbers.{◌>>=◌, number_bytes, number_at}

abbrev pub IsBytes : List ℕ → Type 0
IsBytes bytes = (i : ℕ) → get_or bytes i 0 < 256

pub IsBytes-drop : (n : ℕ) (bytes : List ℕ) → IsBytes bytes → IsBytes (drop n bytes)
IsBytes-drop n bytes h i = rw get_or-drop (h (n + i))

pub IsBytes-take : (n : ℕ) (bytes : List ℕ) → IsBytes bytes → IsBytes (take n bytes)
IsBytes-take n bytes h i =
    elim (cases_lt i n) [
      | inl lt ↦ rw (get_or-take n bytes i 0 lt) (h i)
      | inr le ↦ rw (get_or_past (take n bytes) i 0 (omega (arith, length-take n bytes))) (omega arith)
    ]

-- the value of a step that did not fail
pub bind_ok : {A B : Type 0} (r : Result A Fault) (f : A → Result B Fault) (y : B) → (r >>= f) ≡ Ok y → (x : A) × (r ≡ Ok x) × (f x ≡ Ok y)
bind_ok (Ok x) f y e = (x, refl, e)
bind_ok (Err d) f y e = absurd cc

-- a test that did not fail
pub guard_ok : {A : Type 0} (b : Bool) (d : Fault) (x : Result A Fault) (y : A) → cond b (Err d) x ≡ Ok y → (b ≡ false) × (x ≡ Ok y)
guard_ok true d x y e = absurd cc
guard_ok false d x y e = (refl, e)

abbrev done : {A : Type 0} → A → Result A Fault
done x = Ok x

pub ok_is : {A : Type 0} (x y : A) → done x ≡ done y → x ≡ y
ok_is x y e = cc

-- four bytes are the number that they spell
pub four : (i : ℕ) (bytes : List ℕ) → IsBytes bytes → i + 4 ≤ length bytes → drop i bytes ≡ number_bytes (number_at i bytes) ++ drop (i + 4) bytes
four i bytes fits le =
    let len : length (take 4 (drop i bytes)) ≡ 4 = omega (arith, length-take 4 (drop i bytes), length-drop i bytes) in
    let front : number_bytes (number_at i bytes) ≡ take 4 (drop i bytes) = le_bytes_4 (take 4 (drop i bytes)) (number_at i bytes) len (IsBytes-take 4 (drop i bytes) (IsBytes-drop i bytes fits)) refl in
    sym (take-append-drop 4 (drop i bytes)) ∙ ap (λ (t : List ℕ). t ++ drop 4 (drop i bytes)) (sym front) ∙ ap (λ (t : List ℕ). number_bytes (number_at i bytes) ++ t) (drop-drop 4 i bytes)

-- which fits four bytes
pub number_fits : (i : ℕ) (bytes : List ℕ) → IsBytes bytes → number_at i bytes < 2 ^ 32
number_fits i bytes fits =
    let t = IsBytes-take 4 (drop i bytes) (IsBytes-drop i bytes fits) in
    omega (arith, t 0, t 1, t 2, t 3)

-- and is the same whatever follows
pub number_more : (i : ℕ) (bytes more : List ℕ) → i + 4 ≤ length bytes → number_at i (bytes ++ more) ≡ number_at i bytes
number_more i bytes more le =
    ap (λ (t : List ℕ). from_le_bytes w32 (take 4 t)) (drop-append-le i bytes more (omega arith))
    ∙ ap (λ (t : List ℕ). from_le_bytes w32 t) (take-append-le 4 (drop i bytes) more (omega (arith, length-drop i bytes)))
