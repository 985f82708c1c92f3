-- Why the step of a call is refused, by the relation of the model.
use Rattle.std.proofs.Common.{◌≡◌, ◌⊎◌, ℕ, Bool, true, false, Option, Some, inl, inr, Result, Ok, Err, refl, sym, ap, subst, ◌∙◌}
use Rattle.foyer_device_page.specs.declared.error.Error.{Error}
use Rattle.foyer_device_page.specs.declared.error.Error.TheVariants as error
use Rattle.foyer_device_page.specs.declared.error.ErrorKind.{ErrorKind}
use Rattle.foyer_device_page.specs.declared.error.ErrorKind.TheVariants as kind
use Rattle.foyer_policy_piece.specs.Referred.{Referred}
use Rattle.foyer_core_model.specs.Destroy.{BeginsDestroy}
use Rattle.foyer_core_model.specs.Follows.{Follows}
use Rattle.foyer_core_model.specs.Refusal.{Draws, HasCause, MayRefuse}
use Rattle.foyer_core_model.specs.Reply as model_reply
use Rattle.foyer_core_model.specs.Rules.{Rules, Splitting}
use Rattle.foyer_core_model.specs.State.{State}
use Rattle.foyer_core_model.specs.Step as model_step
use Rattle.foyer_core_laws.specs.Content.{Content, Meaning}
use Rattle.foyer_core_laws.specs.CoreRules.{layout, machine}
use Rattle.foyer_core_laws.specs.Sizes.{AreValid}
use Rattle.foyer_core_laws.specs.Settings.{Settings}
use Rattle.foyer_core_steps.specs.Asked.{step_of}
use Rattle.foyer_core_steps.specs.Destroying.{kind_of}
use Rattle.foyer_core_steps.specs.Refines.{Refines}
use Rattle.foyer_core_steps.specs.Replied.{IsReply}
use Rattle.foyer_core_steps.proofs.RefinesLemmas.{IsOrdinary}
use Rattle.foyer_core_steps.specs.StateOf.{IsStateOf}
use Rattle.foyer_core_steps.specs.declared.reply.Reply.{Reply}
use Rattle.foyer_core_steps.specs.declared.reply.Reply.TheVariants as reply
use Rattle.foyer_core_steps.specs.declared.state.Core.{Core}
use Rattle.foyer_core_steps.specs.declared.step.Step.{Step}
use Rattle.foyer_core_steps.specs.declared.step.Step.TheVariants as step
use Rattle.foyer_core_run.specs.Accesses.{Says, load_of}
use Rattle.foyer_core_run.specs.Honest.{FailsAtRead}
use Rattle.foyer_core_run.proofs.ReplyLemmas.{ordinary}
use Rattle.foyer_storage_local.specs.EntryCalls.{IsIoForCause, IsRefusedIfClosed, IsRefusedOnlyAs}
use Rattle.foyer_core_steps.specs.Refusals.{error_of}
use Rattle.foyer_storage_local.specs.StepAnswers.{begun_as, contains_as, deleted_as, enqueued_as, is_draw_error, is_load_error, is_question_error, loaded_as}
use Rattle.foyer_storage_local.specs.declared.load.Load.{Load}
use Rattle.foyer_storage_local.specs.declared.load.Load.TheVariants as load
use Rattle.foyer_storage_local.proofs.LoadAnswered.{IsAnswered, load_is_answered}

kind_is : (k j : model_reply.Kind) → ◌≡◌ {A = Option model_reply.Kind} (Some k) (Some j) → k ≡ j
kind_is k j is = cc

module _ (rules : Rules Content) (Splits : Splitting Content) (old : State Content) where
  -- a step that brings no read isn't refused for what a read brings
  draw_refused : (s : model_step.Step Content)
      → (HasCause rules Splits old model_reply.Io s → ⊥) → (HasCause rules Splits old model_reply.Parse s → ⊥) → (HasCause rules Splits old model_reply.Unsupported s → ⊥)
      → (why : ErrorKind) (k : model_reply.Kind) → kind_of why ≡ Some k → MayRefuse rules Splits old k s → is_draw_error (error_of why) ≡ true
  draw_refused s io parse unsupported kind.Io k is may = absurd (io ((subst (λ j. MayRefuse rules Splits old j s) (sym (kind_is model_reply.Io k is)) may).1))
  draw_refused s io parse unsupported kind.Memory k is may = refl
  draw_refused s io parse unsupported kind.Config k is may = absurd cc
  draw_refused s io parse unsupported kind.Parse k is may = absurd (parse ((subst (λ j. MayRefuse rules Splits old j s) (sym (kind_is model_reply.Parse k is)) may).1))
  draw_refused s io parse unsupported kind.MagicMismatch k is may = absurd cc
  draw_refused s io parse unsupported kind.ChecksumMismatch k is may = absurd cc
  draw_refused s io parse unsupported kind.OutOfRange k is may = absurd cc
  draw_refused s io parse unsupported kind.BufferSizeLimit k is may = absurd cc
  draw_refused s io parse unsupported kind.NoSpace k is may = absurd cc
  draw_refused s io parse unsupported kind.Recover k is may = absurd cc
  draw_refused s io parse unsupported kind.Closed k is may = refl
  draw_refused s io parse unsupported kind.Unsupported k is may = absurd (unsupported ((subst (λ j. MayRefuse rules Splits old j s) (sym (kind_is model_reply.Unsupported k is)) may).1))
  draw_refused s io parse unsupported kind.SequenceEnd k is may = refl

  -- a question takes no memory, and draws nothing
  question_refused : (h : ℕ) (why : ErrorKind) (k : model_reply.Kind) → kind_of why ≡ Some k → MayRefuse rules Splits old k (model_step.MayContains h) → is_question_error (error_of why) ≡ true
  question_refused h kind.Io k is may = absurd ((subst (λ j. MayRefuse rules Splits old j (model_step.MayContains h)) (sym (kind_is model_reply.Io k is)) may).1)
  question_refused h kind.Memory k is may = absurd ((subst (λ j. MayRefuse rules Splits old j (model_step.MayContains h)) (sym (kind_is model_reply.Memory k is)) may).1.1.3)
  question_refused h kind.Config k is may = absurd cc
  question_refused h kind.Parse k is may = absurd ((subst (λ j. MayRefuse rules Splits old j (model_step.MayContains h)) (sym (kind_is model_reply.Parse k is)) may).1)
  question_refused h kind.MagicMismatch k is may = absurd cc
  question_refused h kind.ChecksumMismatch k is may = absurd cc
  question_refused h kind.OutOfRange k is may = absurd cc
  question_refused h kind.BufferSizeLimit k is may = absurd cc
  question_refused h kind.NoSpace k is may = absurd cc
  question_refused h kind.Recover k is may = absurd cc
  question_refused h kind.Closed k is may = absurd ((subst (λ j. MayRefuse rules Splits old j (model_step.MayContains h)) (sym (kind_is model_reply.Closed k is)) may).1.0)
  question_refused h kind.Unsupported k is may = absurd ((subst (λ j. MayRefuse rules Splits old j (model_step.MayContains h)) (sym (kind_is model_reply.Unsupported k is)) may).1)
  question_refused h kind.SequenceEnd k is may = refl

  -- a step that draws nothing isn't refused since the core is closed
  load_refused : (s : model_step.Step Content) → (Draws s → ⊥)
      → (why : ErrorKind) (k : model_reply.Kind) → kind_of why ≡ Some k → MayRefuse rules Splits old k s → is_load_error (error_of why) ≡ true
  load_refused s draws kind.Io k is may = refl
  load_refused s draws kind.Memory k is may = refl
  load_refused s draws kind.Config k is may = absurd cc
  load_refused s draws kind.Parse k is may = refl
  load_refused s draws kind.MagicMismatch k is may = absurd cc
  load_refused s draws kind.ChecksumMismatch k is may = absurd cc
  load_refused s draws kind.OutOfRange k is may = absurd cc
  load_refused s draws kind.BufferSizeLimit k is may = absurd cc
  load_refused s draws kind.NoSpace k is may = absurd cc
  load_refused s draws kind.Recover k is may = absurd cc
  load_refused s draws kind.Closed k is may = absurd (draws ((subst (λ j. MayRefuse rules Splits old j s) (sym (kind_is model_reply.Closed k is)) may).1.0))
  load_refused s draws kind.Unsupported k is may = refl
  load_refused s draws kind.SequenceEnd k is may = refl

-- a core that is closed begins no destroy
module _ (rules : Rules Content) (Splits : Splitting Content) (old : State Content) (closed : old.closed ≡ true) where
  open_too : old.closed ≡ false → ⊥
  open_too is = let e : true ≡ false = sym closed ∙ is in cc

  begins_none : (r : model_reply.Reply Content) (new : State Content) → BeginsDestroy rules old r new → ⊥
  begins_none (model_reply.Destroying sequence) new begins = open_too begins.1
  begins_none r new begins = begins

  only_refused : (r : model_reply.Reply Content) (new : State Content) → Follows rules Splits old model_step.DestroyBegin r new → IsOrdinary r → ⊥
  only_refused (model_reply.NotNow back) new follows is = is
  only_refused (model_reply.Refused k back) new follows is = is
  only_refused r new follows is = begins_none r (follows.2).0 (follows.2).1

  closed_kind : (why : ErrorKind) (k : model_reply.Kind) → kind_of why ≡ Some k → MayRefuse rules Splits old k model_step.DestroyBegin → (why ≡ kind.Closed) ⊎ (why ≡ kind.SequenceEnd)
  closed_kind kind.Io k is may = absurd ((subst (λ j. MayRefuse rules Splits old j model_step.DestroyBegin) (sym (kind_is model_reply.Io k is)) may).1)
  closed_kind kind.Memory k is may =
      let needs = ((subst (λ j. MayRefuse rules Splits old j model_step.DestroyBegin) (sym (kind_is model_reply.Memory k is)) may).1).1 in
      absurd (begins_none needs.0 needs.1 needs.2)
  closed_kind kind.Config k is may = absurd cc
  closed_kind kind.Parse k is may = absurd ((subst (λ j. MayRefuse rules Splits old j model_step.DestroyBegin) (sym (kind_is model_reply.Parse k is)) may).1)
  closed_kind kind.MagicMismatch k is may = absurd cc
  closed_kind kind.ChecksumMismatch k is may = absurd cc
  closed_kind kind.OutOfRange k is may = absurd cc
  closed_kind kind.BufferSizeLimit k is may = absurd cc
  closed_kind kind.NoSpace k is may = absurd cc
  closed_kind kind.Recover k is may = absurd cc
  closed_kind kind.Closed k is may = inl refl
  closed_kind kind.Unsupported k is may = absurd ((subst (λ j. MayRefuse rules Splits old j model_step.DestroyBegin) (sym (kind_is model_reply.Unsupported k is)) may).1)
  closed_kind kind.SequenceEnd k is may = inr refl

-- the kind of an Io
io_kind : (why : ErrorKind) → error_of why ≡ error.Io → why ≡ kind.Io
io_kind kind.Io is = refl
io_kind kind.Memory is = absurd cc
io_kind kind.Config is = absurd cc
io_kind kind.Parse is = absurd cc
io_kind kind.MagicMismatch is = absurd cc
io_kind kind.ChecksumMismatch is = absurd cc
io_kind kind.OutOfRange is = absurd cc
io_kind kind.BufferSizeLimit is = absurd cc
io_kind kind.NoSpace is = absurd cc
io_kind kind.Recover is = absurd cc
io_kind kind.Closed is = absurd cc
io_kind kind.Unsupported is = absurd cc
io_kind kind.SequenceEnd is = absurd cc

module _ {K V P A : Type 0} (m : Meaning K V P) where
  -- a step of the core that was refused, and why the model's may be
  why_refused : (s : Settings) (sound : AreValid s) (given back : Step K V P A) (why : ErrorKind) (new : Core K V P A) (old : Core K V P A) (it : State Content) → IsStateOf m s old it
      → Refines m given (reply.Refused why back) old new
      → (k : model_reply.Kind) × (kind_of why ≡ Some k) × MayRefuse (machine m s sound) (layout s) it k (step_of m given)
  why_refused s sound given back why new old it at meets =
      let met = meets s sound it at in
      let said = met.reply in
      let follows = subst (λ r. Follows (machine m s sound) (layout s) it (step_of m given) r met.after) said.2 met.follows in
      (said.0, said.1, follows.1)

  pub enqueue_refused_as : (piece : Referred K V P) (size : ℕ) (last : Reply K V P A) (old new : Core K V P A) → Refines m (step.Enqueue piece size) last old new → IsRefusedOnlyAs m is_draw_error old (enqueued_as last)
  enqueue_refused_as piece size (reply.Refused why back) old new meets = λ s sound it at.
      let refused = why_refused s sound (step.Enqueue piece size) back why new old it at meets in
      draw_refused (machine m s sound) (layout s) it (step_of {A = A} m (step.Enqueue piece size)) (λ none. none) (λ none. none) (λ none. none) why refused.0 refused.1 refused.2
  enqueue_refused_as piece size last old new meets = λ s sound it at. tt

  pub delete_refused_as : (hash : ℕ) (last : Reply K V P A) (old new : Core K V P A) → Refines m (step.Delete hash) last old new → IsRefusedOnlyAs m is_draw_error old (deleted_as last)
  delete_refused_as hash (reply.Refused why back) old new meets = λ s sound it at.
      let refused = why_refused s sound (step.Delete hash) back why new old it at meets in
      draw_refused (machine m s sound) (layout s) it (model_step.Delete hash) (λ none. none) (λ none. none) (λ none. none) why refused.0 refused.1 refused.2
  delete_refused_as hash last old new meets = λ s sound it at. tt

  pub question_refused_as : (hash : ℕ) (last : Reply K V P A) (old new : Core K V P A) → Refines m (step.MayContains hash) last old new → IsRefusedOnlyAs m is_question_error old (contains_as last)
  question_refused_as hash (reply.Refused why back) old new meets = λ s sound it at.
      let refused = why_refused s sound (step.MayContains hash) back why new old it at meets in
      question_refused (machine m s sound) (layout s) it hash why refused.0 refused.1 refused.2
  question_refused_as hash last old new meets = λ s sound it at. tt

  -- what the begin of a destroy is answered as, if the core is closed
  begun_closed : (s : Settings) (sound : AreValid s) (it after : State Content) (last : Reply K V P A) (r : model_reply.Reply Content) → it.closed ≡ true → IsReply m last r
      → Follows (machine m s sound) (layout s) it model_step.DestroyBegin r after → (begun_as last ≡ Err error.Closed) ⊎ (begun_as last ≡ Err error.SequenceEnd)
  begun_closed s sound it after (reply.Refused why back) r closed said follows =
      let refused = subst (λ x. Follows (machine m s sound) (layout s) it model_step.DestroyBegin x after) said.2 follows in
      elim (closed_kind (machine m s sound) (layout s) it closed why said.0 said.1 refused.1) [
        | inl is ↦ inl (ap (λ j. begun_as {K = K} {V = V} {P = P} {A = A} (reply.Refused j back)) is)
        | inr is ↦ inr (ap (λ j. begun_as {K = K} {V = V} {P = P} {A = A} (reply.Refused j back)) is)
      ]
  begun_closed s sound it after (reply.NotNow back) r closed said follows =
      let turned = subst (λ x. Follows (machine m s sound) (layout s) it model_step.DestroyBegin x after) said follows in
      absurd (open_too (machine m s sound) (layout s) it closed ((turned.1).1 tt))
  begun_closed s sound it after last r closed said follows =
      absurd (only_refused (machine m s sound) (layout s) it closed r after follows (ordinary m last r (λ back. absurd back) said))

  pub destroy_refused_closed : (last : Reply K V P A) (old new : Core K V P A) → Refines m step.DestroyBegin last old new → IsRefusedIfClosed m old (begun_as last)
  destroy_refused_closed last old new meets = λ closed s sound it at.
      let met = meets s sound it at in
      begun_closed s sound it met.after last met.it (at.closed ∙ closed) met.reply met.follows

  -- so one that has begun wasn't closed
  pub begun_open : {X : Type 0} (core : Core K V P A) (begun : Result (Unit {0}) Error) (said : Result X Error) → begun ≡ Ok tt → IsRefusedIfClosed m core begun → IsRefusedIfClosed m core said
  begun_open core begun said ok refused = λ closed s sound it at. elim (refused closed s sound it at) [
    | inl is ↦ absurd (let e : ◌≡◌ {A = Result (Unit {0}) Error} (Ok tt) (Err error.Closed) = sym ok ∙ is in cc)
    | inr is ↦ absurd (let e : ◌≡◌ {A = Result (Unit {0}) Error} (Ok tt) (Err error.SequenceEnd) = sym ok ∙ is in cc)
  ]

  load_refused_by : (s : Settings) (sound : AreValid s) (given : model_step.Step Content) → (Draws given → ⊥) → (why : ErrorKind) (back : Step K V P A)
      → IsAnswered m s sound given (reply.Refused why back) → is_load_error (error_of why) ≡ true
  load_refused_by s sound given draws why back answered =
      let said = answered.reply in
      let follows = subst (λ r. Follows (machine m s sound) (layout s) answered.old given r answered.after) said.2 answered.follows in
      load_refused (machine m s sound) (layout s) answered.old given draws why said.0 said.1 follows.1

  pub load_refused_as : (hash : ℕ) (throttled : Bool) (last : Reply K V P A) (old new : Core K V P A) (bytes after_bytes : ℕ → ℕ → ℕ)
      → Says m (load_of hash throttled) last old new bytes after_bytes → IsRefusedOnlyAs m is_load_error old (loaded_as last)
  load_refused_as hash throttled (reply.Refused why back) old new bytes after_bytes says = λ s sound it at.
      elim (load_is_answered m s sound hash throttled (reply.Refused why back) old new bytes after_bytes says it at) [
        | inl looks ↦ load_refused_by s sound (model_step.LoadBegin hash throttled) (λ none. none) why back looks
        | inr (t, came, ends) ↦ load_refused_by s sound (model_step.LoadEnd t came) (λ none. none) why back ends
      ]
  load_refused_as hash throttled (reply.Entry key value age) old new bytes after_bytes says = λ s sound it at. tt
  load_refused_as hash throttled reply.Throttled old new bytes after_bytes says = λ s sound it at. tt
  load_refused_as hash throttled last old new bytes after_bytes says = λ s sound it at. tt

  -- what a load answers as Io was refused for that
  io_refused : (last : Reply K V P A) → loaded_as last ≡ Err error.Io → (back : Step K V P A) × (last ≡ reply.Refused kind.Io back)
  io_refused (reply.Refused why back) is =
      let said : ◌≡◌ {A = Result (Load K V) Error} (Err (error_of why)) (Err error.Io) = is in
      let same : error_of why ≡ error.Io = cc in
      (back, subst (λ k. reply.Refused why back ≡ reply.Refused k back) (io_kind why same) refl)
  io_refused (reply.Entry key value age) is = absurd (let e : Ok (load.Entry key value (record { age = age })) ≡ Err error.Io = is in cc)
  io_refused reply.Throttled is = absurd (let e : ◌≡◌ {A = Result (Load K V) Error} (Ok load.Throttled) (Err error.Io) = is in cc)
  io_refused last is = absurd (let e : ◌≡◌ {A = Result (Load K V) Error} (Ok load.Miss) (Err error.Io) = is in cc)

  pub io_for_cause : (hash : ℕ) (came : ℕ → ℕ → ℕ → Type 0) (core : Core K V P A) (last : Reply K V P A) → FailsAtRead m hash came core last → IsIoForCause m hash came core (loaded_as last)
  io_for_cause hash came core last fails = λ is s valid it at.
      let refused = io_refused last is in
      fails refused.0 refused.1 s valid it at
