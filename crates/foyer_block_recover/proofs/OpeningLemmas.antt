-- What was read, as an opening.
use Rattle.std.proofs.Common.{◌≡◌, ℕ, ◌+◌, ◌<◌, ◌≤◌, ◌==◌, ◌^◌, Bool, true, false, if◌then◌else◌, Option, Some, None, List, [], ◌++◌, refl, sym, ap, subst, ◌∙◌, ◌⊎◌, inl, inr, Result, Ok, Err, IfOk, IfErr}
use Rattle.std.proofs.lemmas.Bool.{eqb-true, eq-eqb}
use Rattle.std.specs.FinMap as finite
use Rattle.foyer_format_layout.specs.Position.{Sizes}
use Rattle.foyer_block_recover.specs.BlocksKept.{addressed_by, HoldsKept, HoldsFound, AreBlocksRead, AreBlocksKept, IsBlockCut}
use Rattle.foyer_block_recover.specs.Opening.{Found, Stands, Marked, winner, slot_of, all_stand, all_marked, IsCut, IsCutShort, IsAtEnd}
use Rattle.foyer_device_page.specs.declared.error.Error.{Error}
use Rattle.foyer_device_page.specs.declared.error.Error.TheVariants as error
use Rattle.foyer_block_recover.specs.Placed.{AreSomeKept, IsOpening}
use Rattle.foyer_block_recover.specs.Recovery.{held_slot, opened_of, AreFaults, IsRecovered, IsRefused}
use Rattle.foyer_block_recover.specs.declared.block.blocks.BlocksRead.{BlocksRead}
use Rattle.foyer_block_recover.specs.declared.block.recover.Recovered.{Recovered}
use Rattle.foyer_block_recover.specs.declared.block.recover.RecoverMode.{RecoverMode}
use Rattle.foyer_block_recover.specs.declared.block.recover.RecoverMode.TheVariants as recover_mode
use Rattle.foyer_block_recover.proofs.FoundLemmas.{entries_addressed}

pub ok_weakens : {T E : Type 0} (r : Result T E) (P Q : T → Type 0) → ((x : T) → P x → Q x) → IfOk r P → IfOk r Q
ok_weakens (Ok x) P Q f is = f x is
ok_weakens (Err e) P Q f is = tt

pub err_both : {T E : Type 0} (r : Result T E) (P Q R : E → Type 0) → ((e : E) → P e → Q e → R e) → IfErr r P → IfErr r Q → IfErr r R
err_both (Ok x) P Q R f is too = tt
err_both (Err e) P Q R f is too = f e is too

slot_held : (w : Option Found) → held_slot (addressed_by w) ≡ slot_of w
slot_held None = refl
slot_held (Some (Stands b e)) = refl
slot_held (Some (Marked h s)) = refl

module _ {A : Type 0} (s : Sizes) (n : ℕ) (bytes : ℕ → ℕ → ℕ) (surely : ℕ → ℕ → ℕ → Type 0) where
  pub none_by : (read : BlocksRead A) → HoldsKept read n (λ b. []) → AreBlocksKept s n bytes surely recover_mode.None read
  none_by read holds = record {
    failed = λ b p. false;
    faults = λ b p lt bad. absurd (cc);
    keeps = λ b. [];
    kept = λ b lt. refl;
    whole = λ bad. absurd (cc);
    holds = holds;
  }

  pub quiet_by : (read : BlocksRead A) → AreBlocksRead s n bytes surely false read → AreBlocksKept s n bytes surely recover_mode.Quiet read
  quiet_by read are = record {
    failed = are.failed;
    faults = are.faults;
    keeps = are.keeps;
    kept = are.kept;
    whole = λ bad. absurd (cc);
    holds = are.holds;
  }

  pub strict_by : (read : BlocksRead A) → AreBlocksRead s n bytes surely true read → AreBlocksKept s n bytes surely recover_mode.Strict read
  strict_by read are = record {
    failed = are.failed;
    faults = are.faults;
    keeps = are.keeps;
    kept = are.kept;
    whole = λ is. are.whole refl;
    holds = are.holds;
  }

  module _ (mode : RecoverMode) (marks : List (ℕ × ℕ)) (before after : BlocksRead A) (are : AreBlocksKept s n bytes surely mode before)
      (taken : (found : List Found) → HoldsFound before found → HoldsFound after (found ++ all_marked marks)) (clean : after.clean ≡ before.clean) where
    found : HoldsFound after (all_stand 0 n are.keeps ++ all_marked marks)
    found = taken (all_stand 0 n are.keeps) (record { index = entries_addressed before.index.slots n are.keeps are.holds.index; greatest = are.holds.greatest })

    pub opens : (r : Recovered A) → r.index.slots ≡ after.index.slots → r.next ≡ after.greatest + 1 → after.greatest + 1 < 2 ^ 64 → r.clean ≡ after.clean
        → IsRecovered s n bytes surely mode marks (opened_of r)
    opens r index_is next_is below clean_is = (
      are.failed,
      are.faults,
      record {
        keeps = are.keeps;
        kept = are.kept;
        read = are.whole;
        index = λ h. ap (λ m. held_slot (finite.get m h)) index_is ∙ ap held_slot (found.index h) ∙ slot_held (winner h (all_stand 0 n are.keeps ++ all_marked marks));
        next = next_is ∙ ap (λ k. k + 1) found.greatest;
        below = subst (λ k. k < 2 ^ 64) (sym next_is) below;
        clean = ap (λ v. v.items) (clean_is ∙ clean) ∙ are.holds.clean;
      },
    )

    pub at_end : 2 ^ 64 ≤ after.greatest + 1 → (failed : ℕ → ℕ → Bool) × AreFaults s n surely failed × IsAtEnd s n bytes mode failed marks
    at_end last = (are.failed, are.faults, record { keeps = are.keeps; kept = are.kept; read = are.whole; last = subst (λ k. 2 ^ 64 ≤ k + 1) found.greatest last })

-- whatever was read, it is some opening
pub some_opening : {A : Type 0} (s : Sizes) (n : ℕ) (marks : List (ℕ × ℕ)) (before after : BlocksRead A) → AreSomeKept s n before
    → ((found : List Found) → HoldsFound before found → HoldsFound after (found ++ all_marked marks)) → after.clean ≡ before.clean
    → (r : Recovered A) → r.index.slots ≡ after.index.slots → r.next ≡ after.greatest + 1 → after.greatest + 1 < 2 ^ 64 → r.clean ≡ after.clean
    → IsOpening s n marks (opened_of r)
some_opening s n marks before after are taken clean r index_is next_is below clean_is = record {
  keeps = are.keeps;
  placed = are.placed;
  index = λ h. ap (λ m. held_slot (finite.get m h)) index_is ∙ ap held_slot (found.index h) ∙ slot_held (winner h (all_stand 0 n are.keeps ++ all_marked marks));
  next = next_is ∙ ap (λ k. k + 1) found.greatest;
  below = subst (λ k. k < 2 ^ 64) (sym next_is) below;
  clean = ap (λ v. v.items) (clean_is ∙ clean) ∙ (are.holds).clean;
}
  where
    found : HoldsFound after (all_stand 0 n are.keeps ++ all_marked marks)
    found = taken (all_stand 0 n are.keeps) (record { index = entries_addressed before.index.slots n are.keeps (are.holds).index; greatest = (are.holds).greatest })

-- a block that is cut refuses a strict opening
pub cut_short : (s : Sizes) (n : ℕ) (bytes : ℕ → ℕ → ℕ) (surely : ℕ → ℕ → ℕ → Type 0) (strict : Bool) → IsBlockCut s n bytes surely strict
    → (failed : ℕ → ℕ → Bool) × AreFaults s n surely failed × IsCutShort s n bytes recover_mode.Strict failed
cut_short s n bytes surely strict is = (
  fails,
  λ b p lt. faulty b p (b == is.block) refl,
  record { strict = refl; block = is.block; there = is.there; cut = subst (λ f. IsCut s (bytes is.block) f) (sym here) is.cut },
)
  where
    fails : ℕ → ℕ → Bool
    fails b p = if b == is.block then is.failed p else false

    here : fails is.block ≡ is.failed
    here = ap {B = ℕ → Bool} (λ (t : Bool). λ p. if t then is.failed p else false) (eq-eqb is.block is.block refl)

    faulty : (b p : ℕ) → (t : Bool) → (b == is.block) ≡ t → fails b p ≡ true → surely b p s.index → ⊥
    faulty b p true e bad sure = is.faults p (sym (ap (λ (t : Bool). if t then is.failed p else false) e) ∙ bad) (subst (λ k. surely k p s.index) (eqb-true b is.block e) sure)
    faulty b p false e bad sure = let not : false ≡ true = sym (ap (λ (t : Bool). if t then is.failed p else false) e) ∙ bad in cc

-- a refusal of a reading that may be strict
pub refused_so : (s : Sizes) (n : ℕ) (bytes : ℕ → ℕ → ℕ) (surely : ℕ → ℕ → ℕ → Type 0) (marks : List (ℕ × ℕ)) (strict : Bool) (e : Error)
    → ((e ≡ error.Memory) ⊎ ((e ≡ error.Recover) × (strict ≡ true))) → (e ≡ error.Recover → IsBlockCut s n bytes surely strict)
    → IsRefused s n bytes surely recover_mode.Strict marks e
refused_so s n bytes surely marks strict e (inl memory) cut = subst (IsRefused s n bytes surely recover_mode.Strict marks) (sym memory) tt
refused_so s n bytes surely marks strict e (inr recover) cut =
    subst (IsRefused s n bytes surely recover_mode.Strict marks) (sym recover.0) (cut_short s n bytes surely strict (cut recover.0))

-- a refusal that comes before the marks
pub before_marks : {T : Type 0} (s : Sizes) (n : ℕ) (bytes : ℕ → ℕ → ℕ) (surely : ℕ → ℕ → ℕ → Type 0) (mode : RecoverMode) (marks : List (ℕ × ℕ)) (r : Result T Error) (e seen : Error)
    → r ≡ Err e → e ≡ seen → ((seen ≡ error.Memory) ⊎ ((seen ≡ error.Recover) × (mode ≡ recover_mode.Strict)))
    → IsRefused s n bytes surely mode [] seen → IfErr r (IsRefused s n bytes surely mode marks)
before_marks s n bytes surely mode marks r e seen is same may refused =
    subst (λ o. IfErr o (IsRefused s n bytes surely mode marks)) (sym is) (subst (IsRefused s n bytes surely mode marks) (sym same) (with_marks may refused))
  where
    with_marks : ((seen ≡ error.Memory) ⊎ ((seen ≡ error.Recover) × (mode ≡ recover_mode.Strict))) → IsRefused s n bytes surely mode [] seen → IsRefused s n bytes surely mode marks seen
    with_marks (inl memory) refused = subst (IsRefused s n bytes surely mode marks) (sym memory) tt
    with_marks (inr recover) refused = subst (IsRefused s n bytes surely mode marks) (sym recover.0) (let cut = subst (IsRefused s n bytes surely mode []) recover.0 refused in cut)
