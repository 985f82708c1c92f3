-- How many pieces were queued and left their flushers, over more events.
use Rattle.std.proofs.Common.{◌≡◌, ◌⊎◌, inl, inr, ℕ, ◌+◌, Bool, true, false, true≢false, ◌||◌, List, [], ◌∷◌, ◌++◌, refl, sym, ap, arith}
use Rattle.std.proofs.lemmas.Bool.{or_right}
use Rattle.foyer_core_steps.specs.declared.state.Core.{Core}
use Rattle.foyer_core_steps.specs.declared.reply.Reply.{Reply}
use Rattle.foyer_core_steps.specs.declared.step.Step.{Step}
use Rattle.foyer_core_told.specs.declared.event.Told.{Told}
use Rattle.foyer_core_told.specs.declared.event.Told.TheVariants as told
use Rattle.foyer_core_told.specs.ToldSteps.{AreAccesses}
use Rattle.foyer_core_told.specs.ToldQueued.{IsQueuing, is_loss, lost_in, moving_of, passed_by, passed_in, queued_by, queued_in, returned_by, returned_in}
use Rattle.foyer_core_told.specs.Telling.{IsEventOf}

module _ {X : Type 0} where
  abbrev first_or : X → List X → X
  first_or d [] = d
  first_or d (x ∷ xs) = x

  abbrev rest_of : List X → List X
  rest_of [] = []
  rest_of (x ∷ xs) = xs

  -- A member of two lists, one behind the other, is in the first or in the second.
  pub append_split : (xs ys before since : List X) (x : X) → xs ++ ys ≡ before ++ x ∷ since
      → ((mid : List X) × (xs ≡ before ++ x ∷ mid) × (since ≡ mid ++ ys)) ⊎ ((mid : List X) × (before ≡ xs ++ mid) × (ys ≡ mid ++ x ∷ since))
  append_split [] ys before since x same = inr (before, refl, same)
  append_split (z ∷ xs) ys [] since x same =
      inl (xs, ap (λ (y : X). y ∷ xs) (ap (first_or z) same), sym (ap rest_of same))
  append_split (z ∷ xs) ys (b ∷ before) since x same =
      elim (append_split xs ys before since x (ap rest_of same)) [
        | inl (mid, is, rest) ↦ inl (mid, (λ i. ap (first_or z) same i ∷ is i), rest)
        | inr (mid, is, rest) ↦ inr (mid, (λ i. sym (ap (first_or z) same) i ∷ is i), rest)
      ]

module _ {K V P A D : Type 0} where
  pub more_queued : (flushers f : ℕ) (xs ys : List (Told K V P A D)) → queued_in flushers f (xs ++ ys) ≡ queued_in flushers f xs + queued_in flushers f ys
  more_queued flushers f [] ys = omega arith
  more_queued flushers f (told.Steps step reply core ∷ xs) ys = let h : queued_in flushers f (xs ++ ys) ≡ queued_in flushers f xs + queued_in flushers f ys = more_queued flushers f xs ys in omega arith
  more_queued flushers f (x ∷ xs) ys = more_queued flushers f xs ys

  pub more_returned : (f : ℕ) (xs ys : List (Told K V P A D)) → returned_in f (xs ++ ys) ≡ returned_in f xs + returned_in f ys
  more_returned f [] ys = omega arith
  more_returned f (told.Steps step reply core ∷ xs) ys = let h : returned_in f (xs ++ ys) ≡ returned_in f xs + returned_in f ys = more_returned f xs ys in omega arith
  more_returned f (x ∷ xs) ys = more_returned f xs ys

  pub more_passed : (f : ℕ) (xs ys : List (Told K V P A D)) (n : ℕ) → passed_in f (xs ++ ys) n ≡ passed_in f ys (passed_in f xs n)
  more_passed f [] ys n = refl
  more_passed f (told.Steps step reply core ∷ xs) ys n = more_passed f xs ys (passed_by f (moving_of step.value) reply.value n)
  more_passed f (x ∷ xs) ys n = more_passed f xs ys n

  pub lost_front : (xs ys : List (Told K V P A D)) → lost_in xs ≡ true → lost_in (xs ++ ys) ≡ true
  lost_front [] ys is = absurd (true≢false (sym is))
  lost_front (told.Steps step reply core ∷ xs) ys is = one (is_loss reply.value) (lost_front xs ys) is
    where
      one : (b : Bool) → (lost_in xs ≡ true → lost_in (xs ++ ys) ≡ true) → (b || lost_in xs) ≡ true → (b || lost_in (xs ++ ys)) ≡ true
      one true rest was = refl
      one false rest was = rest was
  lost_front (x ∷ xs) ys is = lost_front xs ys is

  pub lost_back : (xs ys : List (Told K V P A D)) → lost_in ys ≡ true → lost_in (xs ++ ys) ≡ true
  lost_back [] ys is = is
  lost_back (told.Steps step reply core ∷ xs) ys is = or_right (is_loss reply.value) (lost_in (xs ++ ys)) (lost_back xs ys is)
  lost_back (x ∷ xs) ys is = lost_back xs ys is

  -- accesses queue nothing, and nothing leaves a flusher by them
  pub none_queued : (flushers f : ℕ) (es : List (Told K V P A D)) → AreAccesses es → queued_in flushers f es ≡ 0
  none_queued flushers f [] all = refl
  none_queued flushers f (told.Steps step reply core ∷ es) all = absurd (true≢false (sym all.0))
  none_queued flushers f (e ∷ es) all = none_queued flushers f es all.1

  pub none_returned : (f : ℕ) (es : List (Told K V P A D)) → AreAccesses es → returned_in f es ≡ 0
  none_returned f [] all = refl
  none_returned f (told.Steps step reply core ∷ es) all = absurd (true≢false (sym all.0))
  none_returned f (e ∷ es) all = none_returned f es all.1

  pub none_passed : (f : ℕ) (es : List (Told K V P A D)) (n : ℕ) → AreAccesses es → passed_in f es n ≡ n
  none_passed f [] n all = refl
  none_passed f (told.Steps step reply core ∷ es) n all = absurd (true≢false (sym all.0))
  none_passed f (e ∷ es) n all = none_passed f es n all.1

  pub none_queuing : (before since : List (Told K V P A D)) (e : Told K V P A D) (hash sequence : ℕ) → AreAccesses (before ++ e ∷ since) → IsQueuing hash sequence e → ⊥
  none_queuing [] since (told.Steps step reply core) hash sequence all is = true≢false (sym all.0)
  none_queuing [] since e hash sequence all is = is
  none_queuing (b ∷ before) since e hash sequence all is = none_queuing before since e hash sequence all.1 is

  -- of one step
  pub queued_one : (flushers f : ℕ) (e : Told K V P A D) (step : Step K V P A) (answer : Reply K V P A) (new : Core K V P A) → IsEventOf step answer new e → queued_in flushers f (e ∷ []) ≡ queued_by flushers f (moving_of step) answer
  queued_one flushers f (told.Steps made gave left) step answer new is =
      let same : queued_by flushers f (moving_of made.value) gave.value ≡ queued_by flushers f (moving_of step) answer = ap (λ (x : Step K V P A × Reply K V P A). queued_by flushers f (moving_of x.0) x.1) (λ i. (is.0 i, is.1 i)) in
      omega arith
  queued_one flushers f e step answer new is = absurd is

  pub returned_one : (f : ℕ) (e : Told K V P A D) (step : Step K V P A) (answer : Reply K V P A) (new : Core K V P A) → IsEventOf step answer new e → returned_in f (e ∷ []) ≡ returned_by f (moving_of step) answer
  returned_one f (told.Steps made gave left) step answer new is =
      let same : returned_by f (moving_of made.value) gave.value ≡ returned_by f (moving_of step) answer = ap (λ (x : Step K V P A × Reply K V P A). returned_by f (moving_of x.0) x.1) (λ i. (is.0 i, is.1 i)) in
      omega arith
  returned_one f e step answer new is = absurd is

  pub passed_one : (f n : ℕ) (e : Told K V P A D) (step : Step K V P A) (answer : Reply K V P A) (new : Core K V P A) → IsEventOf step answer new e → passed_in f (e ∷ []) n ≡ passed_by f (moving_of step) answer n
  passed_one f n (told.Steps made gave left) step answer new is =
      ap (λ (x : Step K V P A × Reply K V P A). passed_by f (moving_of x.0) x.1 n) (λ i. (is.0 i, is.1 i))
  passed_one f n e step answer new is = absurd is
