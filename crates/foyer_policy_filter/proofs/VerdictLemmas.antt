-- How the answers of conditions are asked for one by one.
use Rattle.std.proofs.Common.{◌≡◌, ℕ, suc, ◌+◌, ◌<◌, min, true, false, List, [], ◌∷◌, ◌++◌, length, take, drop, get_or, refl, sym, ◌∙◌, ap, subst, true≢false, drop-cons, arith}
use Rattle.std.proofs.lemmas.List.{take_more, take-append-drop}
use Rattle.std.specs.Duration.{as_nanos, max_nanos}
use Rattle.std.specs.declared.time.Duration.{Duration}
use Rattle.foyer_policy_filter.specs.declared.verdict.StorageFilterResult.{StorageFilterResult}
use Rattle.foyer_policy_filter.specs.declared.verdict.StorageFilterResult.TheVariants.{Admit, Reject, Throttled}
use Rattle.foyer_policy_filter.specs.Verdict.{AreAnswers, IsVerdict, nanos_of, all_nanos, is_reject, has_reject}

-- these conditions were asked, none rejected, and their waits are this sum
abbrev pub Asked : {C : Type 0} → (C → StorageFilterResult → Type 0) → List C → ℕ → Type 0
Asked may cs nanos =
    (answers : List StorageFilterResult) × AreAnswers may cs answers × (has_reject answers ≡ false)
    × (nanos ≡ min (all_nanos answers) max_nanos)

pub none_asked : {C : Type 0} (may : C → StorageFilterResult → Type 0) → Asked may [] 0
none_asked may = ([], tt, refl, omega arith)

answers_more : {C : Type 0} (may : C → StorageFilterResult → Type 0) (cs : List C) (answers : List StorageFilterResult) (c : C) (a : StorageFilterResult)
    → AreAnswers may cs answers → has_reject answers ≡ false → may c a → is_reject a ≡ false
    → AreAnswers may (cs ++ c ∷ []) (answers ++ a ∷ []) × (has_reject (answers ++ a ∷ []) ≡ false) × (all_nanos (answers ++ a ∷ []) ≡ all_nanos answers + nanos_of a)
answers_more may [] [] c Admit are none some let_in = ((some, tt), refl, omega arith)
answers_more may [] [] c Reject are none some let_in = absurd (true≢false let_in)
answers_more may [] [] c (Throttled d) are none some let_in = ((some, tt), refl, omega arith)
answers_more may [] (b ∷ rest) c a are none some let_in = absurd are
answers_more may (x ∷ cs) [] c a are none some let_in = absurd are
answers_more may (x ∷ cs) (Reject ∷ []) c a are none some let_in = absurd (true≢false none)
answers_more may (x ∷ cs) (Reject ∷ (b ∷ rest)) c a are none some let_in = absurd are
answers_more may (x ∷ cs) (Admit ∷ rest) c a are none some let_in =
    let t = answers_more may cs rest c a are.1 none some let_in in ((are.0, t.0), t.1, (let n = t.2 in omega arith))
answers_more may (x ∷ cs) (Throttled d ∷ rest) c a are none some let_in =
    let t = answers_more may cs rest c a are.1 none some let_in in ((are.0, t.0), t.1, (let n = t.2 in omega arith))

-- one more condition doesn't reject
pub asked_more : {C : Type 0} (may : C → StorageFilterResult → Type 0) (cs : List C) (nanos : ℕ) (c : C) (a : StorageFilterResult)
    → Asked may cs nanos → may c a → is_reject a ≡ false → Asked may (cs ++ c ∷ []) (min (nanos + nanos_of a) max_nanos)
asked_more may cs nanos c a asked some let_in =
    let t = answers_more may cs asked.0 c a asked.1 asked.2 some let_in in
    let sum = t.2 in
    let was = asked.3 in
    (asked.0 ++ a ∷ [], t.0, t.1, omega arith)

answers_reject : {C : Type 0} (may : C → StorageFilterResult → Type 0) (cs : List C) (answers : List StorageFilterResult) (c : C) (others : List C)
    → AreAnswers may cs answers → has_reject answers ≡ false → may c Reject
    → AreAnswers may (cs ++ c ∷ others) (answers ++ Reject ∷ []) × (has_reject (answers ++ Reject ∷ []) ≡ true)
answers_reject may [] [] c others are none some = (some, refl)
answers_reject may [] (b ∷ rest) c others are none some = absurd are
answers_reject may (x ∷ cs) [] c others are none some = absurd are
answers_reject may (x ∷ cs) (Reject ∷ []) c others are none some = absurd (true≢false none)
answers_reject may (x ∷ cs) (Reject ∷ (b ∷ rest)) c others are none some = absurd are
answers_reject may (x ∷ cs) (Admit ∷ rest) c others are none some = let t = answers_reject may cs rest c others are.1 none some in ((are.0, t.0), t.1)
answers_reject may (x ∷ cs) (Throttled d ∷ rest) c others are none some = let t = answers_reject may cs rest c others are.1 none some in ((are.0, t.0), t.1)

-- one condition rejects, and no other is asked
pub rejected : {C : Type 0} (may : C → StorageFilterResult → Type 0) (cs : List C) (nanos : ℕ) (c : C) (others : List C)
    → Asked may cs nanos → may c Reject
    → (answers : List StorageFilterResult) × AreAnswers may (cs ++ c ∷ others) answers × IsVerdict answers Reject
rejected may cs nanos c others asked some =
    let t = answers_reject may cs asked.0 c others asked.1 asked.2 some in (asked.0 ++ Reject ∷ [], t.0, t.1)

asked_along : {C : Type 0} (may : C → StorageFilterResult → Type 0) (xs ys : List C) (m n : ℕ) → xs ≡ ys → m ≡ n → Asked may xs m → Asked may ys n
asked_along {C} may xs ys m n p q asked =
    let P : List C → Type 0 = λ zs. Asked may zs n in
    let Q : ℕ → Type 0 = λ k. Asked may xs k in subst P p (subst Q q asked)

-- the condition at this place admits, or is throttled
pub admits_at : {C : Type 0} (may : C → StorageFilterResult → Type 0) (items : List C) (i : ℕ) (x : C) (n : ℕ)
    → i < length items → x ≡ get_or items i x → Asked may (take i items) n → may x Admit → Asked may (take (i + 1) items) n
admits_at {C} may items i x n low is asked some =
    let P : C → Type 0 = λ y. may y Admit in
    let t = asked_more may (take i items) n (get_or items i x) Admit asked (subst P is some) refl in
    let was = asked.3 in
    asked_along may _ _ _ n (sym (take_more items i x low)) (omega arith) t

pub throttles_at : {C : Type 0} (may : C → StorageFilterResult → Type 0) (items : List C) (i : ℕ) (x : C) (n m : ℕ) (d : Duration)
    → i < length items → x ≡ get_or items i x → Asked may (take i items) n → may x (Throttled d) → m ≡ min (n + as_nanos d) max_nanos → Asked may (take (i + 1) items) m
throttles_at {C} may items i x n m d low is asked some sum =
    let P : C → Type 0 = λ y. may y (Throttled d) in
    let t = asked_more may (take i items) n (get_or items i x) (Throttled d) asked (subst P is some) refl in
    asked_along may _ _ _ m (sym (take_more items i x low)) (sym sum) t

pub rejects_at : {C : Type 0} (may : C → StorageFilterResult → Type 0) (items : List C) (i : ℕ) (x : C) (n : ℕ)
    → i < length items → x ≡ get_or items i x → Asked may (take i items) n → may x Reject
    → (answers : List StorageFilterResult) × AreAnswers may items answers × IsVerdict answers Reject
rejects_at {C} may items i x n low is asked some =
    let P : C → Type 0 = λ y. may y Reject in
    let t = rejected may (take i items) n (get_or items i x) (drop (suc i) items) asked (subst P is some) in
    let whole : take i items ++ get_or items i x ∷ drop (suc i) items ≡ items = ap (λ ys. take i items ++ ys) (sym (drop-cons items i x low)) ∙ take-append-drop i items in
    let Q : List C → Type 0 = λ ys. (answers : List StorageFilterResult) × AreAnswers may ys answers × IsVerdict answers Reject in
    subst Q whole t
