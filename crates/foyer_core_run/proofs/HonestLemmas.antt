-- A fault is told only if an access failed.
use Rattle.std.proofs.Common.{◌≡◌, ◌⊎◌, ℕ, Bool, inl, inr, Option, Some, None, Result, Ok, Err, refl, ap, subst, ◌∙◌}
use Rattle.std.specs.Prelude.{OnErr, slice_get, IsSomeAnd}
use Rattle.std.specs.declared.vec.Vec.{Vec}
use Rattle.foyer_device_page.specs.declared.error.Error.{Error}
use Rattle.foyer_device_page.specs.declared.error.ErrorKind.TheVariants as kind
use Rattle.foyer_core_model.specs.Follows.{Follows}
use Rattle.foyer_core_model.specs.Refusal.{HasCause}
use Rattle.foyer_core_model.specs.Reply as model_reply
use Rattle.foyer_core_model.specs.Flush.{Describes}
use Rattle.foyer_core_model.specs.Rules.{Rules, Splitting}
use Rattle.foyer_core_model.specs.State.{State, Batch}
use Rattle.foyer_core_model.specs.Step as model_step
use Rattle.foyer_core_steps.specs.Replied.{IsReply}
use Rattle.foyer_core_laws.specs.Content.{Content, Meaning}
use Rattle.foyer_core_laws.specs.CoreRules.{layout, machine}
use Rattle.foyer_core_laws.specs.Sizes.{AreValid}
use Rattle.foyer_core_laws.specs.Settings.{Settings}
use Rattle.foyer_core_steps.specs.Failing.{MustGrowFor}
use Rattle.foyer_core_steps.specs.Answered.{Looks, MayFail}
use Rattle.foyer_core_steps.specs.Asked.{step_of}
use Rattle.foyer_core_steps.specs.Refines.{IsRefined, Refines}
use Rattle.foyer_core_steps.specs.declared.reply.Reply.{Reply}
use Rattle.foyer_core_steps.specs.declared.reply.Reply.TheVariants as reply
use Rattle.foyer_core_steps.specs.declared.state.Core.{Core}
use Rattle.foyer_core_steps.specs.declared.step.Step.{Step}
use Rattle.foyer_core_steps.specs.declared.step.Step.TheVariants as step
use Rattle.foyer_core_steps.specs.declared.step.Ticket.{Ticket}
use Rattle.foyer_core_run.specs.Honest.{FailsAtRead, FailsForCause}

-- no block of a batch is answered Failed
failed_none : {C : Type 0} (rules : Rules C) (old : State C) (f : ℕ) (batch : Option (Batch C)) (new : State C) → Describes rules old f batch model_reply.Failed new → ⊥
failed_none rules old f None new is = is
failed_none rules old f (Some b) new is = is

described_failed : {C : Type 0} (rules : Rules C) (Splits : Splitting C) (old new : State C) (f : ℕ) → Follows rules Splits old (model_step.FlushBlock f) model_reply.Failed new → ⊥
described_failed rules Splits old new f follows = failed_none rules old f (old.flushers f).batch (follows.2).0 (follows.2).1

module _ {K V P A : Type 0} (m : Meaning K V P) where
  -- the model's cause of a refusal for Io
  io_cause : (s : Settings) (sound : AreValid s) (given back : Step K V P A) (new : Core K V P A) (it : State Content)
      → IsRefined m s sound given (reply.Refused kind.Io back) new it → HasCause (machine m s sound) (layout s) it model_reply.Io (step_of m given)
  io_cause s sound given back new it met =
      let said = met.reply in
      let issued : Some model_reply.Io ≡ Some said.0 = said.1 in
      let is_io : said.0 ≡ model_reply.Io = cc in
      let answer : met.it ≡ model_reply.Refused model_reply.Io (step_of m back) = said.2 ∙ ap (λ k. model_reply.Refused k (step_of m back)) is_io in
      let follows = subst (λ r. Follows (machine m s sound) (layout s) it (step_of m given) r met.after) answer met.follows in
      (follows.1).1

  -- a look-up is never refused for it
  pub look_up_fails : (hash : ℕ) (throttled : Bool) (answer : Reply K V P A) (old new : Core K V P A) (came : ℕ → ℕ → ℕ → Type 0)
      → Refines m (step.LoadBegin hash throttled) answer old new → FailsAtRead m hash came old answer
  look_up_fails hash throttled answer old new came meets = λ back is s sound it stands.
      absurd (io_cause s sound (step.LoadBegin hash throttled) back new it
      (subst (λ r. IsRefined m s sound (step.LoadBegin hash throttled) r new it) is (meets s sound it stands)))

  -- and a flusher's block is never answered Failed
  pub block_fails : (flusher : ℕ) (answer : Reply K V P A) (old new : Core K V P A) (came : ℕ → ℕ → ℕ → Type 0) (is_known : Type 0) (bytes : ℕ → ℕ → ℕ)
      → Refines m (step.FlushBlock flusher) answer old new → FailsForCause m flusher came is_known old bytes answer
  block_fails flusher answer old new came is_known bytes meets = λ failed s sound it stands.
      let met = meets s sound it stands in
      let is : met.it ≡ model_reply.Failed = subst (λ r. IsReply m r met.it) failed met.reply in
      let follows = subst (λ r. Follows (machine m s sound) (layout s) it (model_step.FlushBlock flusher) r met.after) is met.follows in
      absurd (described_failed (machine m s sound) (layout s) it met.after flusher follows)

  -- the end of a load is refused for Io only if the load's read failed
  pub load_fails : (hash : ℕ) (throttled : Bool) (ticket : Ticket) (outcome : Result (Vec ℕ A) Error) (answer : Reply K V P A) (old mid new : Core K V P A) (came : ℕ → ℕ → ℕ → Type 0)
      → Looks (step.LoadBegin hash throttled) ticket old → Refines m (step.LoadBegin hash throttled) (reply.Read ticket) old mid
      → OnErr outcome (came ticket.address.block ticket.address.offset ticket.address.len → ⊥)
      → Refines m (step.LoadEnd ticket outcome) answer mid new → FailsAtRead m hash came old answer
  load_fails hash throttled ticket (Ok bytes) answer old mid new came looks begins fails ends = λ back is s sound it stands.
      let begun = begins s sound it stands in
      absurd (io_cause s sound (step.LoadEnd ticket (Ok bytes)) back new begun.after
      (subst (λ r. IsRefined m s sound (step.LoadEnd ticket (Ok bytes)) r new begun.after) is (ends s sound begun.after begun.stands)))
  load_fails hash throttled ticket (Err e) answer old mid new came looks begins fails ends = λ back is s sound it stands. (ticket.address, looks.1, fails)

-- a report that is answered Failed, of a write that failed or for memory
pub report_fails : {K V P A Unsure : Type 0} (flusher : ℕ) (outcome : Result (Unit {0}) Error) (old : Core K V P A) → OnErr outcome Unsure
    → MayFail (step.FlushWrote flusher outcome) old → Unsure ⊎ IsSomeAnd (slice_get old.flushers.items flusher) (MustGrowFor old.index)
report_fails flusher (Ok x) old unsure may = inr (may refl)
report_fails flusher (Err e) old unsure may = inl unsure

-- if an access isn't one of more sure accesses, it isn't one of fewer
pub unsure_behind : {X E : Type 0} {fewer more : ℕ → ℕ → ℕ → Type 0} (r : Result X E) → ((b o n : ℕ) → fewer b o n → more b o n) → (b o n : ℕ)
    → OnErr r (more b o n → ⊥) → OnErr r (fewer b o n → ⊥)
unsure_behind (Ok x) within b o n unsure = tt
unsure_behind (Err e) within b o n unsure = λ sure. unsure (within b o n sure)
