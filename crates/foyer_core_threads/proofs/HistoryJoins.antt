-- Lists of events in one piece, and the rights that there are.
use Rattle.std.proofs.Common.{◌≡◌, ◌⊎◌, inl, inr, ℕ, zero, suc, ◌+◌, ◌<◌, ◌==◌, Bool, true, false, List, [], ◌∷◌, ◌++◌, refl, sym, ap, ◌∙◌, subst, arith}
use Rattle.std.proofs.lemmas.Bool.{eqb-true, eqb-false}
use Rattle.foyer_core_chronicle.specs.Rights.{one, times}
use Rattle.foyer_core_chronicle.specs.SharedHistory.{Continues, Fits, SeesAll, joined}
use Rattle.foyer_core_chronicle.specs.declared.View.{View}
use Rattle.foyer_core_chronicle.proofs.RightLemmas.{times_append}
use Rattle.foyer_core_model.specs.Ids.{ids}
use Rattle.foyer_core_laws.specs.Content.{Meaning}
use Rattle.foyer_core_told.specs.declared.event.Told.{Told}
use Rattle.foyer_core_told.specs.ToldRuns.{IsTold}
use Rattle.foyer_core_told.specs.ToldRights.{clean_right, disk_right, rights_count, scan_right, ticket_right, writes_right, takes}
use Rattle.foyer_core_told.proofs.ToldRightLemmas.{same_self}
use Rattle.foyer_core_threads.specs.Sessions.{HasJoined}

module _ {X : Type 0} where
  -- behind a front
  behind : (mid late : List X) (b c : X) → ((mid ++ b ∷ []) ++ late) ++ c ∷ [] ≡ mid ++ b ∷ (late ++ c ∷ [])
  behind [] late b c = refl
  behind (x ∷ mid) late b c = ap (λ l. x ∷ l) (behind mid late b c)

  -- three events, and what came between
  pub in_one : (before mid late : List X) (a b c : X) → ((((before ++ a ∷ []) ++ mid) ++ b ∷ []) ++ late) ++ c ∷ [] ≡ before ++ a ∷ (mid ++ b ∷ (late ++ c ∷ []))
  in_one [] mid late a b c = ap (λ l. a ∷ l) (behind mid late b c)
  in_one (x ∷ before) mid late a b c = ap (λ l. x ∷ l) (in_one before mid late a b c)

  behind_two : (mid late : List X) (b : X) → (mid ++ b ∷ []) ++ late ≡ mid ++ b ∷ late
  behind_two [] late b = refl
  behind_two (x ∷ mid) late b = ap (λ l. x ∷ l) (behind_two mid late b)

  pub two_in_one : (before mid late : List X) (a b : X) → (((before ++ a ∷ []) ++ mid) ++ b ∷ []) ++ late ≡ before ++ a ∷ (mid ++ b ∷ late)
  two_in_one [] mid late a b = ap (λ l. a ∷ l) (behind_two mid late b)
  two_in_one (x ∷ before) mid late a b = ap (λ l. x ∷ l) (two_in_one before mid late a b)

-- each number below is a right
ids_one : (n k : ℕ) → k < suc n → 0 < times k (ids n) ⊎ (k ≡ n) → 0 < times k (ids n ++ n ∷ [])
ids_one n k below there =
    let all : times k (ids n ++ n ∷ []) ≡ times k (ids n) + (one (n == k) + 0) = times_append k (ids n) (n ∷ []) in
    elim there [
      | inl had ↦ omega arith
      | inr same ↦ (let last : one (n == k) ≡ 1 = ap (λ j. one (n == j)) same ∙ ap one (same_self n) in omega arith)
    ]

below_or_last : (n k : ℕ) → k < suc n → (b : Bool) → (k == n) ≡ b → (k < n) ⊎ (k ≡ n)
below_or_last n k below true is = inr (eqb-true k n is)
below_or_last n k below false is = let apart : k ≡ n → ⊥ = eqb-false k n is in inl (omega arith)

pub ids_there : (n k : ℕ) → k < n → 0 < times k (ids n)
ids_there zero k below = absurd (omega arith)
ids_there (suc n) k below =
    ids_one n k below (elim (below_or_last n k below (k == n) refl) [
      | inl less ↦ inl (ids_there n k less)
      | inr same ↦ inr same
    ])

pub ticket_above : (n : ℕ) → disk_right < ticket_right n
unfolding rights_count
ticket_above n = omega arith

pub writes_above : (f : ℕ) → disk_right < writes_right f
writes_above f = omega arith

pub cleans_above : (b : ℕ) → disk_right < clean_right b
cleans_above b = omega arith

pub scans_above : (b : ℕ) → disk_right < scan_right b
scans_above b = omega arith

-- two sessions that came together
pub both_seen : {K V P A D : Type 0} (m : Meaning K V P) (byte_at : D → ℕ → ℕ → ℕ) (mine other both after : View (Told K V P A D)) → both ≡ joined mine other → SeesAll (IsTold m byte_at) takes both after
    → HasJoined m byte_at mine other after
both_seen {K} {V} {P} {A} {D} m byte_at mine other both after is sees =
    let fits : Fits takes sees.log (joined mine other) = subst (Fits takes sees.log) is sees.fits in
    let seen : after.seen ≡ sees.log = ap (λ (v : View (Told K V P A D)). v.seen) sees.is in
    let has : after.has ≡ other.has ++ mine.has = ap (λ (v : View (Told K V P A D)). v.has) sees.is ∙ ap (λ (v : View (Told K V P A D)). v.joined_has ++ v.has) is in
    let count : (k : ℕ) → times k after.has ≡ times k other.has + times k mine.has = (λ k. ap (times k) has ∙ times_append k other.has mine.has) in
    record {
      told = subst (IsTold m byte_at) (sym seen) sees.legal;
      kept = subst (λ l. Continues takes l mine.seen mine.has) (sym seen) fits.0;
      others = subst (λ l. Continues takes l other.seen other.has) (sym seen) fits.1;
      rights = λ k enough. let c = count k in omega arith;
      given = λ k enough. let c = count k in omega arith;
    }
