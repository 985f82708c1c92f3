-- Lists of blocks and of flushers, by their numbers.
use Rattle.std.specs.Prelude.{◌≡◌, ℕ, suc, zero, ◌==◌, Bool, false, ◌||◌, if◌then◌else◌, List, [], ◌∷◌, ◌++◌}

-- the ids below n, in order
abbrev pub ids : ℕ → List ℕ
ids zero = []
ids (suc n) = ids n ++ n ∷ []

-- the id is in the list
abbrev pub is_id_in : ℕ → List ℕ → Bool
is_id_in x [] = false
is_id_in x (y ∷ ys) = x == y || is_id_in x ys

-- the list without the id
abbrev pub without_id : ℕ → List ℕ → List ℕ
without_id x [] = []
without_id x (y ∷ ys) = if x == y then without_id x ys else y ∷ without_id x ys

-- the list with the id at the end, unless it has it
abbrev pub with_id : ℕ → List ℕ → List ℕ
with_id x xs = if is_id_in x xs then xs else xs ++ x ∷ []

-- no id is there twice
abbrev pub AreDistinct : List ℕ → Type 0
AreDistinct [] = Unit {0}
AreDistinct (x ∷ xs) = (is_id_in x xs ≡ false) × AreDistinct xs
