-- Blocks whose partitions share no byte: what a read gives, and what a write leaves alone.
use Rattle.std.proofs.Common.{◌≡◌, ◌≢◌, ℕ, zero, suc, ◌+◌, ◌<◌, ◌≤◌, inl, inr, Bool, true, false, nat_lt, if◌then◌else◌, List, [], ◌∷◌, ◌++◌, map, length, Option, Some, None, slice_get, min, replicate, refl, sym, ap, subst, ◌∙◌, arith}
use Rattle.std.specs.Prelude.{Result, Ok, Err, IfErr, OnOk, OnErr, MatchResult}
use Rattle.std.proofs.lemmas.Bool.{cases_lt}
use Rattle.std.proofs.lemmas.Bool.Decides.{nat_tests}
use Rattle.foyer_device_page.specs.declared.error.Error.{Error}
use Rattle.foyer_device_page.specs.declared.error.Error.TheVariants as error
use Rattle.foyer_device_partition.specs.Extent.{Extent, AreApart, AreDisjoint, IsApartFromAll, place}
use Rattle.foyer_io_engine.specs.Disk as io
use Rattle.foyer_io_disk.specs.Disk.{IsRead, IsTorn, HasFailed}
use Rattle.foyer_io_blocks.specs.Partitions.{AreWhole, byte_in, lies_in, is_reached, is_missing, may_fail}

-- behind others, they are still disjoint
pub disjoint_behind : (xs ys : List Extent) → AreDisjoint (xs ++ ys) → AreDisjoint ys
disjoint_behind [] ys apart = apart
disjoint_behind (x ∷ xs) ys apart = disjoint_behind xs ys apart.1

apart_from : (a b : Extent) (es : List Extent) (i : ℕ) → IsApartFromAll a es → slice_get es i ≡ Some b → AreApart a b
apart_from a b [] i apart at = absurd (let f : None ≡ Some b = at in cc)
apart_from a b (e ∷ es) zero apart at = let same : Some e ≡ Some b = at in let is : e ≡ b = cc in subst (AreApart a) is apart.0
apart_from a b (e ∷ es) (suc i) apart at = apart_from a b es i apart.1 at

turned : (a b : Extent) → AreApart a b → AreApart b a
turned a b apart = elim apart [
  | inl ne ↦ inl (λ e. ne (sym e))
  | inr beside ↦ elim beside [ inl before ↦ inr (inr before) | inr behind ↦ inr (inl behind) ]
]

-- two of them
pub two_apart : (es : List Extent) (i j : ℕ) (a b : Extent) → AreDisjoint es → i ≢ j → slice_get es i ≡ Some a → slice_get es j ≡ Some b → AreApart a b
two_apart [] i j a b apart ne at_i at_j = absurd (let f : None ≡ Some a = at_i in cc)
two_apart (e ∷ es) zero zero a b apart ne at_i at_j = absurd (ne refl)
two_apart (e ∷ es) zero (suc j) a b apart ne at_i at_j = let same : Some e ≡ Some a = at_i in let is : e ≡ a = cc in subst (λ x. AreApart x b) is (apart_from e b es j apart.0 at_j)
two_apart (e ∷ es) (suc i) zero a b apart ne at_i at_j =
    let same : Some e ≡ Some b = at_j in let is : e ≡ b = cc in turned b a (subst (λ x. AreApart x a) is (apart_from e a es i apart.0 at_i))
two_apart (e ∷ es) (suc i) (suc j) a b apart ne at_i at_j = two_apart es i j a b apart.1 (λ same. ne (ap suc same)) at_i at_j

map_get : {X Y : Type 0} (f : X → Y) (xs : List X) (i : ℕ) (x : X) → slice_get xs i ≡ Some x → slice_get (map f xs) i ≡ Some (f x)
map_get f [] i x at = absurd (let e : None ≡ Some x = at in cc)
map_get f (y ∷ ys) zero x at = let same : Some y ≡ Some x = at in let is : y ≡ x = cc in ap (λ z. Some (f z)) is
map_get f (y ∷ ys) (suc i) x at = map_get f ys i x at

module _ {P : Type 0} (bytes : P → ℕ) (extent : P → Extent) (blocks : List P) where
  -- what stands in a partition stands in its block
  pub stands_in_block : (shown : Option io.Disk) (d : io.Disk) (b offset : ℕ) (p : P) (given : List ℕ) → shown ≡ Some d → slice_get blocks b ≡ Some p → AreWhole bytes extent blocks
      → offset + length given ≤ bytes p → io.Holds d (extent p).file (place (extent p) offset) given
      → IsRead (λ b o. byte_in bytes extent shown (slice_get blocks b) o) b offset given
  stands_in_block shown d b offset p given is at whole within holds i lt =
      let size : (extent p).len ≡ bytes p = whole b p at in
      let inside : nat_lt (offset + i) (bytes p) ≡ true = grind (arith, nat_tests) in
      let first : min offset (extent p).len ≡ offset = omega arith in
      let there : place (extent p) offset + i ≡ (extent p).start + (offset + i) = (let e : min offset (extent p).len ≡ offset = first in omega arith) in
      holds i lt ∙ ap (d.byte (extent p).file) there
      ∙ sym (ap (λ s. byte_in bytes extent s (slice_get blocks b) (offset + i)) is ∙ ap (λ x. byte_in bytes extent (Some d) x (offset + i)) at
      ∙ ap (λ t. if t then d.byte (extent p).file ((extent p).start + (offset + i)) else 0) inside)

  -- and what changed in a partition alone left every other byte of the blocks alone
  pub others_stay : (before after : Option io.Disk) (d e : io.Disk) (b offset n : ℕ) (p : P) → before ≡ Some d → after ≡ Some e → slice_get blocks b ≡ Some p
      → AreWhole bytes extent blocks → AreDisjoint (map extent blocks) → offset + n ≤ bytes p
      → io.ChangesOnly d (extent p).file (place (extent p) offset) n e
      → IsTorn (λ b o. byte_in bytes extent before (slice_get blocks b) o) b offset n (λ b o. byte_in bytes extent after (slice_get blocks b) o)
  others_stay before after d e b offset n p was is at whole apart within only c o outside =
      ap (λ s. byte_in bytes extent s (slice_get blocks c) o) is ∙ go (slice_get blocks c) refl ∙ sym (ap (λ s. byte_in bytes extent s (slice_get blocks c) o) was)
    where
      size : (extent p).len ≡ bytes p
      size = whole b p at

      first : place (extent p) offset ≡ (extent p).start + offset
      first = let s = size in let e1 : min offset (extent p).len ≡ offset = omega (arith, s, within) in ap (λ k. (extent p).start + k) e1

      away : (q : P) → slice_get blocks c ≡ Some q → o < bytes q → b ≢ c → io.IsOutside (extent p).file (place (extent p) offset) n (extent q).file ((extent q).start + o)
      away q at_c lt ne =
          let f = first in
          elim (two_apart (map extent blocks) b c (extent p) (extent q) apart ne (map_get extent blocks b p at) (map_get extent blocks c q at_c)) [
            | inl other ↦ inl (λ same. other (sym same))
            | inr beside ↦ elim beside [
              | inl before ↦ inr (inr (let s = size in omega (arith, f, s, before, within)))
              | inr behind ↦ inr (inl (let s = whole c q at_c in omega (arith, f, s, behind, lt)))
            ]
          ]

      here : (q : P) → slice_get blocks c ≡ Some q → o < bytes q → c ≡ b → io.IsOutside (extent p).file (place (extent p) offset) n (extent q).file ((extent q).start + o)
      here q at_c lt same =
          let f = first in
          let both : Some q ≡ Some p = sym at_c ∙ ap (slice_get blocks) same ∙ at in
          let is_p : q ≡ p = cc in
          let starts : (extent q).start ≡ (extent p).start = ap (λ x. (extent x).start) is_p in
          elim outside [
            | inl ne ↦ absurd (ne same)
            | inr out ↦ elim out [
              | inl less ↦ inr (inl (omega (arith, f, starts, less)))
              | inr more ↦ inr (inr (omega (arith, f, starts, more)))
            ]
          ]

      beside : (q : P) → slice_get blocks c ≡ Some q → o < bytes q → io.IsOutside (extent p).file (place (extent p) offset) n (extent q).file ((extent q).start + o)
      beside q at_c lt =
          elim (cases_lt c b) [
            | inl less ↦ away q at_c lt (λ same. absurd (omega (arith, less, same)))
            | inr le ↦ elim (cases_lt b c) [
              | inl more ↦ away q at_c lt (λ same. absurd (omega (arith, more, same)))
              | inr ge ↦ here q at_c lt (omega (arith, le, ge))
            ]
          ]

      go : (x : Option P) → slice_get blocks c ≡ x → byte_in bytes extent (Some e) x o ≡ byte_in bytes extent (Some d) x o
      go None at_c = refl
      go (Some q) at_c = go2 (nat_lt o (bytes q)) refl
        where
          go2 : (t : Bool) → nat_lt o (bytes q) ≡ t
              → (if t then e.byte (extent q).file ((extent q).start + o) else 0) ≡ (if t then d.byte (extent q).file ((extent q).start + o) else 0)
          go2 false is = refl
          go2 true is = only.1 (extent q).file ((extent q).start + o) (beside q at_c (grind (arith, nat_tests)))

-- one more of the same
pub one_more : {X : Type 0} (n : ℕ) (x : X) → replicate n x ++ x ∷ [] ≡ replicate (n + 1) x
one_more zero x = refl
one_more (suc n) x = let more : suc (n + 1) ≡ suc n + 1 = omega arith in ap (λ xs. x ∷ xs) (one_more n x) ∙ ap (λ k. replicate k x) more

-- what is said of a result that went well, or of one that didn't, from what is said of either
pub on_ok : {X E P Q : Type 0} (r : Result X E) → (P → Q) → OnOk r P → OnOk r Q
on_ok (Ok x) f p = f p
on_ok (Err e) f p = tt

pub went_ok : {X E P R : Type 0} (Q : Type 0) (r : Result X E) → (P → R) → MatchResult r (λ _. P) (λ _. Q) → OnOk r R
went_ok Q (Ok x) f p = f p
went_ok Q (Err e) f q = tt

pub went_wrong : {X E Q R : Type 0} (P : Type 0) (r : Result X E) → (Q → R) → MatchResult r (λ _. P) (λ _. Q) → OnErr r R
went_wrong P (Ok x) f p = tt
went_wrong P (Err e) f q = f q

module _ {P : Type 0} (bytes : P → ℕ) (extent : P → Extent) (shown : Option io.Disk) where
  -- why an engine failed an access of a range that the block has
  pub why_failed : (at : Option P) (p : P) (o n old new : ℕ) (r : Result (Unit {0}) Error) → at ≡ Some p → o + n ≤ bytes p
      → IfErr r (io.IsAccessFault old new)
      → io.IfKnown shown (λ d. r ≡ Err error.OutOfRange → ¬ io.CanAccess d (extent p) (bytes p) o n)
      → IfErr r (may_fail bytes extent shown at o n)
  why_failed at p o n old new (Ok u) is within fault outside = tt
  why_failed at p o n old new (Err e) is within fault outside = elim fault [
    | inl out ↦ inr (out.0, subst (λ x. is_missing bytes extent shown x o n) (sym is) (λ d has. outside d has (ap Err out.0)))
    | inr io ↦ inl (io.0, subst (λ x. lies_in bytes x o n) (sym is) within)
  ]

-- what surely lies in a partition lies in it
pub reached_lies : {P : Type 0} (bytes : P → ℕ) (extent : P → Extent) (reaches : Extent → ℕ → ℕ → ℕ → Type 0) (at : Option P) (o n : ℕ)
    → is_reached bytes extent reaches at o n → lies_in bytes at o n
reached_lies bytes extent reaches None o n is = is
reached_lies bytes extent reaches (Some p) o n is = is.0

-- and does so for an engine that reaches all that another one does
pub reached_still : {P : Type 0} (bytes : P → ℕ) (extent : P → Extent) (old new : Extent → ℕ → ℕ → ℕ → Type 0)
    → ((x : Extent) (s o n : ℕ) → old x s o n → new x s o n) → (at : Option P) (o n : ℕ)
    → is_reached bytes extent old at o n → is_reached bytes extent new at o n
reached_still bytes extent old new still None o n is = is
reached_still bytes extent old new still (Some p) o n is = (is.0, still (extent p) (bytes p) o n is.1)

-- an access of a range that surely lies there failed because the device did
pub why_faulted : {P : Type 0} (bytes : P → ℕ) (extent : P → Extent) (reaches : Extent → ℕ → ℕ → ℕ → Type 0) (at : Option P) (p : P) (o n before after : ℕ)
    (r : Result (Unit {0}) Error) → at ≡ Some p → IfErr r (io.IsAccessFault before after)
    → (r ≡ Err error.OutOfRange → ¬ reaches (extent p) (bytes p) o n)
    → is_reached bytes extent reaches at o n → OnErr r (HasFailed before after)
why_faulted bytes extent reaches at p o n before after (Ok u) is fault missing sure = tt
why_faulted bytes extent reaches at p o n before after (Err e) is fault missing sure = elim fault [
  | inl out ↦ absurd (missing (ap Err out.0) (subst (λ x. is_reached bytes extent reaches x o n) is sure).1)
  | inr io ↦ io.1
]
