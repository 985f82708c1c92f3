-- Who has which block, as it is known of every world that is reached.
use Rattle.std.proofs.Common.{◌≡◌, ℕ, ◌<◌, Bool, Option, Some, None, List, inl, inr, refl, sym, ap, subst, ◌∙◌}
use Rattle.foyer_core_model.specs.Record.{Record}
use Rattle.foyer_format_layout.specs.BlockBytes.{Write}
use Rattle.foyer_core_model.specs.State.{Writing, Clean, Writes, Reclaims, ToClean, Reclaim}
use Rattle.foyer_core_model.specs.Rules.{Rules, Splitting, first_position}
use Rattle.foyer_core_model.specs.InTurn.{IsAt}
use Rattle.foyer_core_model.specs.Access.{Idle, Issued, InFlight}
use Rattle.foyer_core_model.specs.World.{World}
use Rattle.foyer_core_model.specs.Laws.{Demands}
use Rattle.foyer_core_model.proofs.Invariant.{ground_of, writing_in, WritingOk, WritesFit, IsOrdered, one_owner}
use Rattle.foyer_core_model.proofs.SoundKept.{IsKnown, reclaim_place}
use Rattle.foyer_core_restart.proofs.Safe.{Sight, sight_of, Job, job_of, job_in, IsDead}
use Rattle.foyer_core_restart.proofs.Stop.{job_same}

pub record IsOwned {C : Type 0} (rules : Rules C) (v : Sight C) : Type 0 where
  pub one : (e f b : ℕ) → (v.flushers e).own ≡ Some b → (v.flushers f).own ≡ Some b → e ≡ f
  pub place : (f b : ℕ) → (v.flushers f).own ≡ Some b → v.place b ≡ Writes f
  pub ready : (f b : ℕ) → (v.flushers f).ready ≡ Some b → (v.place b ≡ Writes f) × (v.filled b ≡ first_position rules)
  pub either : (f b c : ℕ) → (v.flushers f).own ≡ Some b → (v.flushers f).ready ≡ Some c → ⊥
  pub below : (f b : ℕ) → (v.flushers f).own ≡ Some b → b < rules.blocks
  pub job : (f b : ℕ) (ps : List (ℕ × Record C)) → job_in (v.flushers f) ≡ Some (b, ps) → (v.flushers f).own ≡ Some b
  pub none : (f : ℕ) → job_in (v.flushers f) ≡ None → v.block_writes f ≡ Idle
  pub issued : (f b : ℕ) (rs : List Bool) (ws : List Write) → v.block_writes f ≡ Issued b rs ws → (ps : List (ℕ × Record C)) × (job_in (v.flushers f) ≡ Some (b, ps))
  pub under : (f b : ℕ) (rs : List Bool) (w : Write) (ws : List Write) → v.block_writes f ≡ InFlight b rs w ws → (ps : List (ℕ × Record C)) × (job_in (v.flushers f) ≡ Some (b, ps))
  pub reclaims : (b : ℕ) (r : Reclaim) → v.reclaims b ≡ Some r → v.place b ≡ Reclaims
  pub order : (f : ℕ) → IsOrdered v.next (v.flushers f)

-- a block in its flusher's set isn't dead
pub alive : {C : Type 0} (rules : Rules C) (v : Sight C) → IsOwned rules v → (f b : ℕ) → v.place b ≡ Writes f → IsDead v.place v.reclaims b → ⊥
alive rules v o f b at (inl clean) = let x : Clean ≡ Writes f = sym clean ∙ at in cc
alive rules v o f b at (inr soon) = go (v.reclaims b) refl soon
  where
    go : (r : Option Reclaim) → v.reclaims b ≡ r → IsAt ToClean r → ⊥
    go None is s = absurd s
    go (Some r) is s = let x : Reclaims ≡ Writes f = sym (o.reclaims b r is) ∙ at in cc

-- no reclaim runs of a block in its flusher's set
pub no_reclaim : {C : Type 0} (rules : Rules C) (v : Sight C) → IsOwned rules v → (f b : ℕ) → v.place b ≡ Writes f → v.reclaims b ≡ None
no_reclaim rules v o f b at = go (v.reclaims b) refl
  where
    go : (r : Option Reclaim) → v.reclaims b ≡ r → r ≡ None
    go None is = refl
    go (Some r) is = absurd (let x : Reclaims ≡ Writes f = sym (o.reclaims b r is) ∙ at in cc)

module _ {C : Type 0} (rules : Rules C) (Splits : Splitting C) (is_value : C → Type 0) (demands : Demands rules Splits is_value) where
  pub owned_of : (w : World C) → IsKnown rules Splits is_value demands w → IsOwned rules (sight_of w)
  owned_of w known = record {
    one = one_owner rules w known.sound;
    place = λ f b is. (known.sound.flushers f).owned b is;
    ready = λ f b is. (known.sound.flushers f).spare b is;
    either = λ f b c p q. (known.sound.flushers f).either b c p q;
    below = λ f b is. known.sets.own f b is;
    job = λ f b ps is. own_of f b ps (writing_in (w.core.flushers f).batch) refl (known.sound.flushers f).writing is;
    none = λ f is. rest_of f (writing_in (w.core.flushers f).batch) refl (known.sound.flushers f).writing is;
    issued = λ f b rs ws is. issued_of f b rs ws is (writing_in (w.core.flushers f).batch) refl (known.sound.flushers f).writing;
    under = λ f b rs v ws is. under_of f b rs v ws is (writing_in (w.core.flushers f).batch) refl (known.sound.flushers f).writing;
    reclaims = λ b r is. reclaim_place rules Splits is_value demands w b r known.again is;
    order = λ f. (known.sound.flushers f).order;
  }
    where
      Ok : ℕ → Option (Writing C) → Type 0
      Ok f o = WritingOk rules (ground_of w) (w.core.flushers f).own o (w.block_writes f)

      own_of : (f b : ℕ) (ps : List (ℕ × Record C)) (o : Option (Writing C)) → writing_in (w.core.flushers f).batch ≡ o → Ok f o → job_in (w.core.flushers f) ≡ Some (b, ps) → (w.core.flushers f).own ≡ Some b
      own_of f b ps None e ok is = absurd (let k : None ≡ Some (b, ps) = sym (ap job_of e) ∙ is in cc)
      own_of f b ps (Some r) e ok is = let l : (r.block ≡ b) × (r.records ≡ ps) = job_same (r.block, r.records) (b, ps) (sym (ap job_of e) ∙ is) in ok.0 ∙ ap Some l.0

      rest_of : (f : ℕ) (o : Option (Writing C)) → writing_in (w.core.flushers f).batch ≡ o → Ok f o → job_in (w.core.flushers f) ≡ None → w.block_writes f ≡ Idle
      rest_of f None e ok is = ok
      rest_of f (Some r) e ok is = absurd (let j : Job C = (r.block, r.records) in let k : Some j ≡ None = sym (ap job_of e) ∙ is in cc)

      issued_of : (f b : ℕ) (rs : List Bool) (ws : List Write) → w.block_writes f ≡ Issued b rs ws → (o : Option (Writing C)) → writing_in (w.core.flushers f).batch ≡ o → Ok f o → (ps : List (ℕ × Record C)) × (job_in (w.core.flushers f) ≡ Some (b, ps))
      issued_of f b rs ws is None e ok = absurd (let k : Idle ≡ Issued b rs ws = sym ok ∙ is in cc)
      issued_of f b rs ws is (Some r) e ok = let fits : WritesFit w.bytes r (Issued b rs ws) = subst (λ p. WritesFit w.bytes r p) is ok.1 in (r.records, ap job_of e ∙ (λ i. Some (sym fits.0 i, r.records)))

      under_of : (f b : ℕ) (rs : List Bool) (v : Write) (ws : List Write) → w.block_writes f ≡ InFlight b rs v ws → (o : Option (Writing C)) → writing_in (w.core.flushers f).batch ≡ o → Ok f o → (ps : List (ℕ × Record C)) × (job_in (w.core.flushers f) ≡ Some (b, ps))
      under_of f b rs v ws is None e ok = absurd (let k : Idle ≡ InFlight b rs v ws = sym ok ∙ is in cc)
      under_of f b rs v ws is (Some r) e ok = let fits : WritesFit w.bytes r (InFlight b rs v ws) = subst (λ p. WritesFit w.bytes r p) is ok.1 in (r.records, ap job_of e ∙ (λ i. Some (sym fits.0 i, r.records)))
