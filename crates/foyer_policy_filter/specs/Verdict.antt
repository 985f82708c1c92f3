-- What conditions say together.
use Rattle.std.specs.Prelude.{◌≡◌, ℕ, ◌+◌, ◌<◌, min, Bool, true, false, List, [], ◌∷◌, if◌then◌else◌}
use Rattle.std.specs.Duration.{as_nanos, max_nanos}
use Rattle.foyer_policy_filter.specs.declared.verdict.StorageFilterResult.{StorageFilterResult}
use Rattle.foyer_policy_filter.specs.declared.verdict.StorageFilterResult.TheVariants.{Admit, Reject, Throttled}

abbrev pub IsAdmit : StorageFilterResult → Type 0
IsAdmit Admit = Unit {0}
IsAdmit Reject = ⊥
IsAdmit (Throttled d) = ⊥

abbrev pub IsReject : StorageFilterResult → Type 0
IsReject Admit = ⊥
IsReject Reject = Unit {0}
IsReject (Throttled d) = ⊥

-- the nanoseconds that an answer makes wait
abbrev pub nanos_of : StorageFilterResult → ℕ
nanos_of Admit = 0
nanos_of Reject = 0
nanos_of (Throttled d) = as_nanos d

-- and all answers together
abbrev pub all_nanos : List StorageFilterResult → ℕ
all_nanos [] = 0
all_nanos (a ∷ rest) = nanos_of a + all_nanos rest

abbrev pub is_reject : StorageFilterResult → Bool
is_reject Admit = false
is_reject Reject = true
is_reject (Throttled d) = false

abbrev pub has_reject : List StorageFilterResult → Bool
has_reject [] = false
has_reject (a ∷ rest) = if is_reject a then true else has_reject rest

-- answers that the conditions may give, asked in order up to the first that rejects
abbrev pub AreAnswers : {C : Type 0} → (C → StorageFilterResult → Type 0) → List C → List StorageFilterResult → Type 0
AreAnswers may [] [] = Unit {0}
AreAnswers may [] (a ∷ rest) = ⊥
AreAnswers may (c ∷ cs) [] = ⊥
AreAnswers may (c ∷ cs) (Reject ∷ []) = may c Reject
AreAnswers may (c ∷ cs) (Reject ∷ (b ∷ rest)) = ⊥
AreAnswers may (c ∷ cs) (Admit ∷ rest) = may c Admit × AreAnswers may cs rest
AreAnswers may (c ∷ cs) (Throttled d ∷ rest) = may c (Throttled d) × AreAnswers may cs rest

-- the verdict on these answers: one that rejects; else the sum of the waits, saturating, if it isn't zero
abbrev pub IsVerdict : List StorageFilterResult → StorageFilterResult → Type 0
IsVerdict answers Reject = has_reject answers ≡ true
IsVerdict answers Admit = (has_reject answers ≡ false) × (all_nanos answers ≡ 0)
IsVerdict answers (Throttled d) =
    (has_reject answers ≡ false) × (0 < all_nanos answers) × (as_nanos d ≡ min (all_nanos answers) max_nanos)
