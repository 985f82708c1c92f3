-- Rights are numbers in lists.
use Rattle.std.specs.Prelude.{◌≡◌, ℕ, ◌+◌, ◌≤◌, ◌==◌, Bool, true, false, if◌then◌else◌, List, [], ◌∷◌}

abbrev pub one : Bool → ℕ
one true = 1
one false = 0

-- how often a right stands in a list
abbrev pub times : ℕ → List ℕ → ℕ
times k [] = 0
times k (x ∷ xs) = one (x == k) + times k xs

-- the first right, and the others
abbrev pub first_of : List ℕ → List ℕ
first_of [] = []
first_of (k ∷ ks) = k ∷ []

abbrev pub others_of : List ℕ → List ℕ
others_of [] = []
others_of (k ∷ ks) = ks

-- one right, as often as it stands in a list; and all the others
abbrev pub only : ℕ → List ℕ → List ℕ
only k [] = []
only k (x ∷ xs) = if x == k then x ∷ only k xs else only k xs

abbrev pub without : ℕ → List ℕ → List ℕ
without k [] = []
without k (x ∷ xs) = if x == k then without k xs else x ∷ without k xs

-- the right that an event makes, of the next number
abbrev pub fresh : ℕ → Bool → List ℕ
fresh n true = n ∷ []
fresh n false = []

-- each right at most once, and those below the base alone
abbrev pub AreRights : ℕ → List ℕ → Type 0
AreRights base ks = (k : ℕ) → (times k ks ≤ 1) × (base ≤ k → times k ks ≡ 0)
