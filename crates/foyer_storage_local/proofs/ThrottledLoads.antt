-- A load is answered Throttled only if its caller says that the device is throttled.
use Rattle.std.proofs.Common.{◌≡◌, ℕ, Bool, true, inl, inr, Option, Some, None, Result, Ok, Err, refl, subst}
use Rattle.foyer_core_model.specs.Load.{Ends, Judges, Looks, judged}
use Rattle.foyer_core_model.specs.Record.{Slot, Indexed, Mark, Outcome, NoRecord, NotSupported, Undecodable, Holds}
use Rattle.foyer_core_model.specs.Reply as model_reply
use Rattle.foyer_core_model.specs.Rules.{Rules}
use Rattle.foyer_core_model.specs.State.{State}
use Rattle.foyer_core_model.specs.Step as model_step
use Rattle.foyer_core_model.specs.Follows.{Follows}
use Rattle.foyer_core_model.specs.World.{World, after_all}
use Rattle.foyer_core_laws.specs.Content.{Content, Meaning}
use Rattle.foyer_core_laws.specs.CoreRules.{layout, machine}
use Rattle.foyer_core_laws.specs.Sizes.{AreValid}
use Rattle.foyer_core_laws.specs.Settings.{Settings}
use Rattle.foyer_core_steps.specs.Replied.{IsReply}
use Rattle.foyer_core_steps.specs.StateOf.{IsStateOf}
use Rattle.foyer_core_steps.specs.declared.reply.Reply.{Reply}
use Rattle.foyer_core_steps.specs.declared.reply.Reply.TheVariants as reply
use Rattle.foyer_core_steps.specs.declared.state.Core.{Core}
use Rattle.foyer_core_run.specs.Accesses.{Says, load_of}
use Rattle.foyer_device_page.specs.declared.error.Error.{Error}
use Rattle.foyer_storage_local.specs.EntryCalls.{IsThrottledIfSaid}
use Rattle.foyer_core_steps.specs.Refusals.{error_of}
use Rattle.foyer_storage_local.specs.StepAnswers.{loaded_as}
use Rattle.foyer_storage_local.specs.declared.load.Load.{Load}
use Rattle.foyer_storage_local.specs.declared.load.Load.TheVariants as load
use Rattle.foyer_storage_local.proofs.LoadAnswered.{answered_in_world}

module _ {C : Type 0} (rules : Rules C) (old new : State C) where
  looked : (h : ℕ) (throttled : Bool) (slot : Option Slot) → Looks rules old h throttled slot model_reply.Throttled new → throttled ≡ true
  looked h throttled None looks = absurd looks
  looked h throttled (Some (Mark s)) looks = absurd looks
  looked h throttled (Some (Indexed a)) looks = looks.0

  judges_none : (t : model_step.Ticket) (outcome : Outcome C) → Judges rules old t outcome model_reply.Throttled new → ⊥
  judges_none t NoRecord judges = judges
  judges_none t NotSupported judges = judges
  judges_none t Undecodable judges = judges
  judges_none t (Holds c) judges = judges

  ends_none : (t : model_step.Ticket) (came : model_step.ReadResult) → Ends rules old t came model_reply.Throttled new → ⊥
  ends_none t model_step.Fault ends = ends
  ends_none t (model_step.Bytes bs) ends = judges_none t (judged rules old t bs) ends

module _ {K V P A : Type 0} (m : Meaning K V P) where
  got_throttled : (last : Reply K V P A) → loaded_as last ≡ Ok load.Throttled → last ≡ reply.Throttled
  got_throttled reply.Throttled is = refl
  got_throttled (reply.Entry key value age) is = absurd (let e : Ok (load.Entry key value (record { age = age })) ≡ Ok load.Throttled = is in cc)
  got_throttled (reply.Refused why back) is = absurd (let e : ◌≡◌ {A = Result (Load K V) Error} (Err (error_of why)) (Ok load.Throttled) = is in cc)
  got_throttled last is = absurd (let e : ◌≡◌ {A = Result (Load K V) Error} (Ok load.Miss) (Ok load.Throttled) = is in cc)

  -- what is said of a load whose last reply is Throttled, from one world on
  in_world : (h : ℕ) (throttled : Bool) (last : Reply K V P A) (old new : Core K V P A) (bytes after_bytes : ℕ → ℕ → ℕ)
      → Says m (load_of h throttled) last old new bytes after_bytes → last ≡ reply.Throttled
      → (s : Settings) (sound : AreValid s) (w : World Content) → IsStateOf m s old w.core → ((b o : ℕ) → w.bytes b o ≡ bytes b o) → throttled ≡ true
  in_world h throttled last old new bytes after_bytes says is s sound w stands same =
      let rules = machine m s sound in
      elim (answered_in_world m s sound h throttled last old new bytes after_bytes says w stands same) [
        | inl looks ↦
            let it_is = subst (λ r. IsReply m r looks.it) is looks.reply in
            let follows = subst (λ r. Follows rules (layout s) looks.old (model_step.LoadBegin h throttled) r looks.after) it_is looks.follows in
            looked rules looks.old (follows.2).0 h throttled (looks.old.index h) (follows.2).1
        | inr (t, came, ends) ↦
            let it_is = subst (λ r. IsReply m r ends.it) is ends.reply in
            let follows = subst (λ r. Follows rules (layout s) ends.old (model_step.LoadEnd t came) r ends.after) it_is ends.follows in
            absurd (ends_none rules ends.old (follows.2).0 t came (follows.2).1)
      ]

  -- and so in every history
  pub throttled_only : (h : ℕ) (throttled : Bool) (last : Reply K V P A) (old new : Core K V P A) (bytes after_bytes : ℕ → ℕ → ℕ)
      → Says m (load_of h throttled) last old new bytes after_bytes → IsThrottledIfSaid m throttled old bytes (loaded_as last)
  throttled_only h throttled last old new bytes after_bytes says = λ s sound first events history is.
      in_world h throttled last old new bytes after_bytes says (got_throttled last is) s sound (after_all (machine m s sound) first events) history.stands history.same
