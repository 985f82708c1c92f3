-- Members of lists, of what is kept, and of winners.
use Rattle.std.proofs.lemmas.Bool.Decides.{nat_tests}
use Rattle.std.proofs.lemmas.Bool.{eqb-true, eqb-false}
use Rattle.std.proofs.Common.{◌≡◌, ℕ, zero, suc, ◌+◌, ◌<◌, ◌≤◌, ◌==◌, nat_le, nat_lt, Bool, true, false, if◌then◌else◌, Option, Some, None, List, [], ◌∷◌, ◌++◌, ◌⊎◌, inl, inr, refl, sym, ap, subst, ◌∙◌, arith}
use Rattle.foyer_format_blob.specs.declared.blob.BlobEntryIndex.{BlobEntryIndex}
use Rattle.foyer_format_layout.specs.Position.{Sizes}
use Rattle.foyer_format_buffer.specs.Holding.{all_read}
use Rattle.foyer_format_buffer.specs.Listing.{IsIndex, behind, placed, Chain, rising}
use Rattle.foyer_format_buffer.specs.Listing.Chain.{ends, goes}
use Rattle.foyer_core_model.proofs.Basics.{Ascends}
use Rattle.foyer_core_restart.specs.Entries.{In}
use Rattle.foyer_core_restart.specs.Restart.{IsScanned}
use Rattle.foyer_core_restart.specs.Restart.IsScanned.{here, later}
use Rattle.foyer_block_recover.specs.Opening.{Found, Stands, hash_of, sequence_of, first_or, winner, stand_in, all_stand}

pub in_left : {A : Type 0} (x : A) (xs ys : List A) → In x xs → In x (xs ++ ys)
in_left x [] ys i = absurd i
in_left x (y ∷ xs) ys (inl e) = inl e
in_left x (y ∷ xs) ys (inr i) = inr (in_left x xs ys i)

pub in_right : {A : Type 0} (x : A) (xs ys : List A) → In x ys → In x (xs ++ ys)
in_right x [] ys i = i
in_right x (y ∷ xs) ys i = inr (in_right x xs ys i)

pub in_either : {A : Type 0} (x : A) (xs ys : List A) → In x (xs ++ ys) → In x xs ⊎ In x ys
in_either x [] ys i = inr i
in_either x (y ∷ xs) ys (inl e) = inl (inl e)
in_either x (y ∷ xs) ys (inr i) = elim (in_either x xs ys i) [ inl l ↦ inl (inr l) | inr r ↦ inr r ]

abbrev pub sequences_of : List BlobEntryIndex → List ℕ
sequences_of [] = []
sequences_of (e ∷ es) = e.sequence ∷ sequences_of es

-- what is kept is listed
pub rising_in : (s : ℕ) (e : BlobEntryIndex) (es : List BlobEntryIndex) → In e (rising s es) → In e es
rising_in s e [] i = absurd i
rising_in s e (d ∷ es) i = go (nat_le s d.sequence) (λ j. rising_in d.sequence e es j) i
  where
    go : (t : Bool) → (In e (rising d.sequence es) → In e es) → In e (if t then d ∷ rising d.sequence es else []) → In e (d ∷ es)
    go true deep (inl is) = inl is
    go true deep (inr i) = inr (deep i)
    go false deep i = absurd i

-- an ascending front is kept
pub rising_front : (low s k : ℕ) (e : BlobEntryIndex) (es rest : List BlobEntryIndex) → s ≤ low → Ascends low (sequences_of es) k → In e es → In e (rising s (es ++ rest))
rising_front low s k e [] rest le up i = absurd i
rising_front low s k e (d ∷ es) rest le up i = go (nat_le s d.sequence) refl (λ j. rising_front (d.sequence + 1) d.sequence k e es rest (omega arith) up.1 j) i
  where
    go : (t : Bool) → nat_le s d.sequence ≡ t → (In e es → In e (rising d.sequence (es ++ rest))) → In e (d ∷ es) → In e (if t then d ∷ rising d.sequence (es ++ rest) else [])
    go true f deep (inl is) = inl is
    go true f deep (inr i) = inr (deep i)
    go false f deep i = absurd (let l : low ≤ d.sequence = up.0 in grind (arith, nat_tests))

-- what is listed stands in an index at a scanned place
pub chain_scans : (s : Sizes) (B : ℕ → ℕ) (p q : ℕ) (e : BlobEntryIndex) (all : List BlobEntryIndex) → Chain s B all_read p all q → In e all
    → (r : ℕ) × (es : List BlobEntryIndex) × IsScanned s B p r × IsIndex s B all_read r es × In e (placed r es)
chain_scans s B p q e all (ends none) i = absurd i
chain_scans s B p q e all (goes {es = es} {rest = rest} is chain) i =
    elim (in_either e (placed p es) rest i) [
      | inl front ↦ (p, es, here, is, front)
      | inr back ↦
          let there : (r : ℕ) × (fs : List BlobEntryIndex) × IsScanned s B (behind s p es) r × IsIndex s B all_read r fs × In e (placed r fs) = chain_scans s B (behind s p es) q e rest chain back in
          (there.0, there.1, later is there.2, there.3, there.4)
    ]

-- found entries

pub stand_in_in : (b : ℕ) (e : BlobEntryIndex) (es : List BlobEntryIndex) → In e es → In (Stands b e) (stand_in b es)
stand_in_in b e [] i = absurd i
stand_in_in b e (d ∷ es) (inl is) = inl (ap (Stands b) is)
stand_in_in b e (d ∷ es) (inr i) = inr (stand_in_in b e es i)

pub stand_in_out : (b : ℕ) (x : Found) (es : List BlobEntryIndex) → In x (stand_in b es) → (e : BlobEntryIndex) × (x ≡ Stands b e) × In e es
stand_in_out b x [] i = absurd i
stand_in_out b x (d ∷ es) (inl is) = (d, is, inl refl)
stand_in_out b x (d ∷ es) (inr i) = let r : (e : BlobEntryIndex) × (x ≡ Stands b e) × In e es = stand_in_out b x es i in (r.0, r.1, inr r.2)

pub all_stand_in : (from n b : ℕ) (e : BlobEntryIndex) (keeps : ℕ → List BlobEntryIndex) → from ≤ b → b < from + n → In e (keeps b) → In (Stands b e) (all_stand from n keeps)
all_stand_in from zero b e keeps l m i = absurd (omega arith)
all_stand_in from (suc n) b e keeps l m i = go (from == b) refl (λ l'. all_stand_in (from + 1) n b e keeps l' (omega arith) i)
  where
    go : (t : Bool) → (from == b) ≡ t → (from + 1 ≤ b → In (Stands b e) (all_stand (from + 1) n keeps)) → In (Stands b e) (stand_in from (keeps from) ++ all_stand (from + 1) n keeps)
    go true f deep =
        let same : from ≡ b = eqb-true from b f in
        in_left (Stands b e) (stand_in from (keeps from)) (all_stand (from + 1) n keeps)
        (subst (λ k. In (Stands b e) (stand_in k (keeps k))) (sym same) (stand_in_in b e (keeps b) i))
    go false f deep =
        let other : from ≡ b → ⊥ = eqb-false from b f in
        in_right (Stands b e) (stand_in from (keeps from)) (all_stand (from + 1) n keeps) (deep (omega (arith, other)))

pub all_stand_out : (from n : ℕ) (x : Found) (keeps : ℕ → List BlobEntryIndex) → In x (all_stand from n keeps)
    → (b : ℕ) × (e : BlobEntryIndex) × (x ≡ Stands b e) × (b < from + n) × In e (keeps b)
all_stand_out from zero x keeps i = absurd i
all_stand_out from (suc n) x keeps i =
    elim (in_either x (stand_in from (keeps from)) (all_stand (from + 1) n keeps) i) [
      | inl l ↦ let r : (e : BlobEntryIndex) × (x ≡ Stands from e) × In e (keeps from) = stand_in_out from x (keeps from) l in (from, r.0, r.1, omega arith, r.2)
      | inr r ↦ let s : (b : ℕ) × (e : BlobEntryIndex) × (x ≡ Stands b e) × (b < from + 1 + n) × In e (keeps b) = all_stand_out (from + 1) n x keeps r in
          let m : s.0 < from + 1 + n = s.3 in
          (s.0, s.1, s.2, omega arith, s.4)
    ]

-- The winner is one of the hash, and none of the hash is greater.
pub winner_is : (h : ℕ) (y : Found) (xs : List Found) → winner h xs ≡ Some y → In y xs × (hash_of y ≡ h)
winner_is h y [] e = absurd (cc)
winner_is h y (z ∷ xs) e = go (hash_of z == h) refl (winner h xs) refl (λ k. winner_is h y xs k) e
  where
    pick : (w : Found) → (t : Bool) → (hash_of z ≡ h) → winner h xs ≡ Some w → (winner h xs ≡ Some y → In y xs × (hash_of y ≡ h)) → (if t then Some z else Some w) ≡ Some y → In y (z ∷ xs) × (hash_of y ≡ h)
    pick w true at is deep e = let same : z ≡ y = cc in (inl (sym same), ap hash_of (sym same) ∙ at)
    pick w false at is deep e = let r : In y xs × (hash_of y ≡ h) = deep (is ∙ e) in (inr r.0, r.1)

    go : (t : Bool) → (hash_of z == h) ≡ t → (w : Option Found) → winner h xs ≡ w → (winner h xs ≡ Some y → In y xs × (hash_of y ≡ h))
        → (if t then first_or z w else w) ≡ Some y → In y (z ∷ xs) × (hash_of y ≡ h)
    go true f None is deep e = let same : z ≡ y = cc in (inl (sym same), ap hash_of (sym same) ∙ eqb-true (hash_of z) h f)
    go true f (Some w) is deep e = pick w (nat_lt (sequence_of w) (sequence_of z)) (eqb-true (hash_of z) h f) is deep e
    go false f w is deep e = let r : In y xs × (hash_of y ≡ h) = deep (is ∙ e) in (inr r.0, r.1)

pub winner_found : (h : ℕ) (x : Found) (xs : List Found) → In x xs → hash_of x ≡ h
    → (y : Found) × (winner h xs ≡ Some y) × (sequence_of x ≤ sequence_of y)
winner_found h x [] i is = absurd i
winner_found h x (z ∷ xs) i is = go (hash_of z == h) refl (winner h xs) refl (λ j. winner_found h x xs j is) i
  where
    go : (t : Bool) → (hash_of z == h) ≡ t → (w : Option Found) → winner h xs ≡ w
        → (In x xs → (y : Found) × (winner h xs ≡ Some y) × (sequence_of x ≤ sequence_of y)) → In x (z ∷ xs)
        → (y : Found) × ((if t then first_or z w else w) ≡ Some y) × (sequence_of x ≤ sequence_of y)
    go true f None w deep (inl e) = (z, refl, let s : sequence_of x ≡ sequence_of z = ap sequence_of e in omega arith)
    go true f None w deep (inr j) = let r : (y : Found) × (winner h xs ≡ Some y) × (sequence_of x ≤ sequence_of y) = deep j in absurd (let e : None ≡ Some r.0 = sym w ∙ r.1 in cc)
    go true f (Some v) w deep i = pick (nat_lt (sequence_of v) (sequence_of z)) refl i
      where
        pick : (t : Bool) → nat_lt (sequence_of v) (sequence_of z) ≡ t → In x (z ∷ xs) → (y : Found) × ((if t then Some z else Some v) ≡ Some y) × (sequence_of x ≤ sequence_of y)
        pick true lt (inl e) = (z, refl, let s : sequence_of x ≡ sequence_of z = ap sequence_of e in omega arith)
        pick true lt (inr j) =
            let r : (y : Found) × (winner h xs ≡ Some y) × (sequence_of x ≤ sequence_of y) = deep j in
            let same : v ≡ r.0 = let e : Some v ≡ Some r.0 = sym w ∙ r.1 in cc in
            let s : sequence_of v ≡ sequence_of r.0 = ap sequence_of same in
            (z, refl, let le : sequence_of x ≤ sequence_of r.0 = r.2 in grind (arith, nat_tests, s, le, lt))
        pick false lt (inl e) = (v, refl, let s : sequence_of x ≡ sequence_of z = ap sequence_of e in grind (arith, nat_tests, s, lt))
        pick false lt (inr j) =
            let r : (y : Found) × (winner h xs ≡ Some y) × (sequence_of x ≤ sequence_of y) = deep j in
            let same : v ≡ r.0 = let e : Some v ≡ Some r.0 = sym w ∙ r.1 in cc in
            let s : sequence_of v ≡ sequence_of r.0 = ap sequence_of same in
            (v, refl, let le : sequence_of x ≤ sequence_of r.0 = r.2 in omega (arith, s, le))
    go false f w e deep (inl same) = absurd (eqb-false (hash_of z) h f (ap hash_of (sym same) ∙ is))
    go false f w e deep (inr j) = let r : (y : Found) × (winner h xs ≡ Some y) × (sequence_of x ≤ sequence_of y) = deep j in (r.0, sym e ∙ r.1, r.2)
