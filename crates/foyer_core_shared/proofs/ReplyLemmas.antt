-- What a caller's step is replied, and why it may be refused, by the relation of the model.
use Rattle.std.proofs.Common.{◌≡◌, ℕ, Bool, true, false, Option, None, Some, Result, Ok, Err, refl, sym, ap, subst}
use Rattle.std.specs.Prelude.{not}
use Rattle.std.specs.declared.vec.Vec.{Vec}
use Rattle.foyer_core_model.specs.Follows.{Follows}
use Rattle.foyer_core_model.specs.Load.{Ends, Judges, Looks, judged}
use Rattle.foyer_core_model.specs.Record.{Slot, Indexed, Mark, Outcome, NoRecord, NotSupported, Undecodable, Holds}
use Rattle.foyer_core_model.specs.Refusal.{HasCause, MayRefuse}
use Rattle.foyer_core_model.specs.Reply as model_reply
use Rattle.foyer_core_model.specs.Rules.{Rules, Splitting}
use Rattle.foyer_core_model.specs.State.{State}
use Rattle.foyer_core_model.specs.Step as model_step
use Rattle.foyer_core_steps.specs.Content.{Content, Meaning}
use Rattle.foyer_core_steps.specs.Asked.{came_of, went_well}
use Rattle.foyer_core_steps.specs.Destroying.{kind_of}
use Rattle.foyer_core_steps.specs.Replied.{IsReply}
use Rattle.foyer_core_steps.specs.declared.reply.Reply.{Reply}
use Rattle.foyer_core_steps.specs.declared.reply.Reply.TheVariants as reply
use Rattle.foyer_device_page.specs.declared.error.Error.{Error}
use Rattle.foyer_device_page.specs.declared.error.ErrorKind.{ErrorKind}
use Rattle.foyer_device_page.specs.declared.error.ErrorKind.TheVariants as kind
use Rattle.foyer_core_shared.specs.Replies.{is_draw_refusal, is_end_refusal, is_question_refusal, is_delete_reply, is_end_reply, is_enqueue_reply, is_look_up_reply, is_other_reply, is_question_reply}

some_same : (k j : model_reply.Kind) → ◌≡◌ {A = Option model_reply.Kind} (Some k) (Some j) → k ≡ j
some_same k j is = cc

-- what a look-up may be replied
abbrev is_look : (throttled : Bool) → model_reply.Reply Content → Bool
is_look throttled model_reply.Miss = true
is_look throttled model_reply.Throttled = throttled
is_look throttled (model_reply.Read t) = not throttled
is_look throttled other = false

module _ (rules : Rules Content) (Splits : Splitting Content) (old : State Content) where
  looked : (h : ℕ) (throttled : Bool) (slot : Option Slot) (r : model_reply.Reply Content) (new : State Content) → Looks rules old h throttled slot r new → is_look throttled r ≡ true
  looked h throttled None (model_reply.NotNow back) new is = absurd is
  looked h throttled None (model_reply.Refused k back) new is = absurd is
  looked h throttled None (model_reply.Ignored c) new is = absurd is
  looked h throttled None (model_reply.Queued s) new is = absurd is
  looked h throttled None (model_reply.Dropped c s) new is = absurd is
  looked h throttled None (model_reply.Deleted s) new is = absurd is
  looked h throttled None model_reply.Done new is = absurd is
  looked h throttled None (model_reply.Answer b) new is = absurd is
  looked h throttled None model_reply.Miss new is = refl
  looked h throttled None model_reply.Throttled new is = absurd is
  looked h throttled None (model_reply.Read t) new is = absurd is
  looked h throttled None (model_reply.Entry c age) new is = absurd is
  looked h throttled None model_reply.Empty new is = absurd is
  looked h throttled None (model_reply.Received back) new is = absurd is
  looked h throttled None (model_reply.Began bs marks) new is = absurd is
  looked h throttled None (model_reply.Written b ws) new is = absurd is
  looked h throttled None model_reply.NoBlock new is = absurd is
  looked h throttled None model_reply.Next new is = absurd is
  looked h throttled None (model_reply.Committed n) new is = absurd is
  looked h throttled None model_reply.Failed new is = absurd is
  looked h throttled None (model_reply.Ended ps ws) new is = absurd is
  looked h throttled None (model_reply.Picked b xs ps) new is = absurd is
  looked h throttled None (model_reply.Scans b o n vs) new is = absurd is
  looked h throttled None (model_reply.Listed vs) new is = absurd is
  looked h throttled None (model_reply.Cleans b) new is = absurd is
  looked h throttled None (model_reply.Destroying s) new is = absurd is
  looked h throttled None (model_reply.Cleared bs) new is = absurd is
  looked h throttled None (model_reply.Destroyed first) new is = absurd is
  looked h throttled (Some (Mark s)) (model_reply.NotNow back) new is = absurd is
  looked h throttled (Some (Mark s)) (model_reply.Refused k back) new is = absurd is
  looked h throttled (Some (Mark s)) (model_reply.Ignored c) new is = absurd is
  looked h throttled (Some (Mark s)) (model_reply.Queued q) new is = absurd is
  looked h throttled (Some (Mark s)) (model_reply.Dropped c q) new is = absurd is
  looked h throttled (Some (Mark s)) (model_reply.Deleted q) new is = absurd is
  looked h throttled (Some (Mark s)) model_reply.Done new is = absurd is
  looked h throttled (Some (Mark s)) (model_reply.Answer b) new is = absurd is
  looked h throttled (Some (Mark s)) model_reply.Miss new is = refl
  looked h throttled (Some (Mark s)) model_reply.Throttled new is = absurd is
  looked h throttled (Some (Mark s)) (model_reply.Read t) new is = absurd is
  looked h throttled (Some (Mark s)) (model_reply.Entry c age) new is = absurd is
  looked h throttled (Some (Mark s)) model_reply.Empty new is = absurd is
  looked h throttled (Some (Mark s)) (model_reply.Received back) new is = absurd is
  looked h throttled (Some (Mark s)) (model_reply.Began bs marks) new is = absurd is
  looked h throttled (Some (Mark s)) (model_reply.Written b ws) new is = absurd is
  looked h throttled (Some (Mark s)) model_reply.NoBlock new is = absurd is
  looked h throttled (Some (Mark s)) model_reply.Next new is = absurd is
  looked h throttled (Some (Mark s)) (model_reply.Committed n) new is = absurd is
  looked h throttled (Some (Mark s)) model_reply.Failed new is = absurd is
  looked h throttled (Some (Mark s)) (model_reply.Ended ps ws) new is = absurd is
  looked h throttled (Some (Mark s)) (model_reply.Picked b xs ps) new is = absurd is
  looked h throttled (Some (Mark s)) (model_reply.Scans b o n vs) new is = absurd is
  looked h throttled (Some (Mark s)) (model_reply.Listed vs) new is = absurd is
  looked h throttled (Some (Mark s)) (model_reply.Cleans b) new is = absurd is
  looked h throttled (Some (Mark s)) (model_reply.Destroying q) new is = absurd is
  looked h throttled (Some (Mark s)) (model_reply.Cleared bs) new is = absurd is
  looked h throttled (Some (Mark s)) (model_reply.Destroyed first) new is = absurd is
  looked h throttled (Some (Indexed a)) (model_reply.NotNow back) new is = absurd is
  looked h throttled (Some (Indexed a)) (model_reply.Refused k back) new is = absurd is
  looked h throttled (Some (Indexed a)) (model_reply.Ignored c) new is = absurd is
  looked h throttled (Some (Indexed a)) (model_reply.Queued s) new is = absurd is
  looked h throttled (Some (Indexed a)) (model_reply.Dropped c s) new is = absurd is
  looked h throttled (Some (Indexed a)) (model_reply.Deleted s) new is = absurd is
  looked h throttled (Some (Indexed a)) model_reply.Done new is = absurd is
  looked h throttled (Some (Indexed a)) (model_reply.Answer b) new is = absurd is
  looked h throttled (Some (Indexed a)) model_reply.Miss new is = refl
  looked h throttled (Some (Indexed a)) model_reply.Throttled new is = is.0
  looked h throttled (Some (Indexed a)) (model_reply.Read t) new is = ap not is.0
  looked h throttled (Some (Indexed a)) (model_reply.Entry c age) new is = absurd is
  looked h throttled (Some (Indexed a)) model_reply.Empty new is = absurd is
  looked h throttled (Some (Indexed a)) (model_reply.Received back) new is = absurd is
  looked h throttled (Some (Indexed a)) (model_reply.Began bs marks) new is = absurd is
  looked h throttled (Some (Indexed a)) (model_reply.Written b ws) new is = absurd is
  looked h throttled (Some (Indexed a)) model_reply.NoBlock new is = absurd is
  looked h throttled (Some (Indexed a)) model_reply.Next new is = absurd is
  looked h throttled (Some (Indexed a)) (model_reply.Committed n) new is = absurd is
  looked h throttled (Some (Indexed a)) model_reply.Failed new is = absurd is
  looked h throttled (Some (Indexed a)) (model_reply.Ended ps ws) new is = absurd is
  looked h throttled (Some (Indexed a)) (model_reply.Picked b xs ps) new is = absurd is
  looked h throttled (Some (Indexed a)) (model_reply.Scans b o n vs) new is = absurd is
  looked h throttled (Some (Indexed a)) (model_reply.Listed vs) new is = absurd is
  looked h throttled (Some (Indexed a)) (model_reply.Cleans b) new is = absurd is
  looked h throttled (Some (Indexed a)) (model_reply.Destroying s) new is = absurd is
  looked h throttled (Some (Indexed a)) (model_reply.Cleared bs) new is = absurd is
  looked h throttled (Some (Indexed a)) (model_reply.Destroyed first) new is = absurd is

  enqueue_refused : (h n : ℕ) (age : model_step.Age) (c : Content) (why : ErrorKind) (k : model_reply.Kind) → kind_of why ≡ Some k → MayRefuse rules Splits old k (model_step.Enqueue h n age c) → is_draw_refusal why ≡ true
  enqueue_refused h n a c kind.Io k is may = absurd ((subst (λ j. MayRefuse rules Splits old j (model_step.Enqueue h n a c)) (sym (some_same model_reply.Io k is)) may).1)
  enqueue_refused h n a c kind.Memory k is may = refl
  enqueue_refused h n a c kind.Config k is may = absurd cc
  enqueue_refused h n a c kind.Parse k is may = absurd ((subst (λ j. MayRefuse rules Splits old j (model_step.Enqueue h n a c)) (sym (some_same model_reply.Parse k is)) may).1)
  enqueue_refused h n a c kind.MagicMismatch k is may = absurd cc
  enqueue_refused h n a c kind.ChecksumMismatch k is may = absurd cc
  enqueue_refused h n a c kind.OutOfRange k is may = absurd cc
  enqueue_refused h n a c kind.BufferSizeLimit k is may = absurd cc
  enqueue_refused h n a c kind.NoSpace k is may = absurd cc
  enqueue_refused h n a c kind.Recover k is may = absurd cc
  enqueue_refused h n a c kind.Closed k is may = refl
  enqueue_refused h n a c kind.Unsupported k is may = absurd ((subst (λ j. MayRefuse rules Splits old j (model_step.Enqueue h n a c)) (sym (some_same model_reply.Unsupported k is)) may).1)
  enqueue_refused h n a c kind.SequenceEnd k is may = refl

  -- of a step that isn't the end of a load
  other_refused : (s : model_step.Step Content) → (HasCause rules Splits old model_reply.Io s → ⊥) → (HasCause rules Splits old model_reply.Parse s → ⊥) → (HasCause rules Splits old model_reply.Unsupported s → ⊥)
      → (why : ErrorKind) (k : model_reply.Kind) → kind_of why ≡ Some k → MayRefuse rules Splits old k s → is_draw_refusal why ≡ true
  other_refused s io parse unsupported kind.Io k is may = absurd (io ((subst (λ j. MayRefuse rules Splits old j s) (sym (some_same model_reply.Io k is)) may).1))
  other_refused s io parse unsupported kind.Memory k is may = refl
  other_refused s io parse unsupported kind.Config k is may = absurd cc
  other_refused s io parse unsupported kind.Parse k is may = absurd (parse ((subst (λ j. MayRefuse rules Splits old j s) (sym (some_same model_reply.Parse k is)) may).1))
  other_refused s io parse unsupported kind.MagicMismatch k is may = absurd cc
  other_refused s io parse unsupported kind.ChecksumMismatch k is may = absurd cc
  other_refused s io parse unsupported kind.OutOfRange k is may = absurd cc
  other_refused s io parse unsupported kind.BufferSizeLimit k is may = absurd cc
  other_refused s io parse unsupported kind.NoSpace k is may = absurd cc
  other_refused s io parse unsupported kind.Recover k is may = absurd cc
  other_refused s io parse unsupported kind.Closed k is may = refl
  other_refused s io parse unsupported kind.Unsupported k is may = absurd (unsupported ((subst (λ j. MayRefuse rules Splits old j s) (sym (some_same model_reply.Unsupported k is)) may).1))
  other_refused s io parse unsupported kind.SequenceEnd k is may = refl

  delete_refused : (h : ℕ) (why : ErrorKind) (k : model_reply.Kind) → kind_of why ≡ Some k → MayRefuse rules Splits old k (model_step.Delete h) → is_draw_refusal why ≡ true
  delete_refused h kind.Io k is may = absurd ((subst (λ j. MayRefuse rules Splits old j (model_step.Delete h)) (sym (some_same model_reply.Io k is)) may).1)
  delete_refused h kind.Memory k is may = refl
  delete_refused h kind.Config k is may = absurd cc
  delete_refused h kind.Parse k is may = absurd ((subst (λ j. MayRefuse rules Splits old j (model_step.Delete h)) (sym (some_same model_reply.Parse k is)) may).1)
  delete_refused h kind.MagicMismatch k is may = absurd cc
  delete_refused h kind.ChecksumMismatch k is may = absurd cc
  delete_refused h kind.OutOfRange k is may = absurd cc
  delete_refused h kind.BufferSizeLimit k is may = absurd cc
  delete_refused h kind.NoSpace k is may = absurd cc
  delete_refused h kind.Recover k is may = absurd cc
  delete_refused h kind.Closed k is may = refl
  delete_refused h kind.Unsupported k is may = absurd ((subst (λ j. MayRefuse rules Splits old j (model_step.Delete h)) (sym (some_same model_reply.Unsupported k is)) may).1)
  delete_refused h kind.SequenceEnd k is may = refl

  question_refused : (h : ℕ) (why : ErrorKind) (k : model_reply.Kind) → kind_of why ≡ Some k → MayRefuse rules Splits old k (model_step.MayContains h) → is_question_refusal why ≡ true
  question_refused h kind.Io k is may = absurd ((subst (λ j. MayRefuse rules Splits old j (model_step.MayContains h)) (sym (some_same model_reply.Io k is)) may).1)
  question_refused h kind.Memory k is may = absurd ((subst (λ j. MayRefuse rules Splits old j (model_step.MayContains h)) (sym (some_same model_reply.Memory k is)) may).1.1.3)
  question_refused h kind.Config k is may = absurd cc
  question_refused h kind.Parse k is may = absurd ((subst (λ j. MayRefuse rules Splits old j (model_step.MayContains h)) (sym (some_same model_reply.Parse k is)) may).1)
  question_refused h kind.MagicMismatch k is may = absurd cc
  question_refused h kind.ChecksumMismatch k is may = absurd cc
  question_refused h kind.OutOfRange k is may = absurd cc
  question_refused h kind.BufferSizeLimit k is may = absurd cc
  question_refused h kind.NoSpace k is may = absurd cc
  question_refused h kind.Recover k is may = absurd cc
  question_refused h kind.Closed k is may = absurd ((subst (λ j. MayRefuse rules Splits old j (model_step.MayContains h)) (sym (some_same model_reply.Closed k is)) may).1.0)
  question_refused h kind.Unsupported k is may = absurd ((subst (λ j. MayRefuse rules Splits old j (model_step.MayContains h)) (sym (some_same model_reply.Unsupported k is)) may).1)
  question_refused h kind.SequenceEnd k is may = refl

  look_up_refused : (h : ℕ) (throttled : Bool) (why : ErrorKind) (k : model_reply.Kind) → kind_of why ≡ Some k → MayRefuse rules Splits old k (model_step.LoadBegin h throttled) → is_question_refusal why ≡ true
  look_up_refused h throttled kind.Io k is may = absurd ((subst (λ j. MayRefuse rules Splits old j (model_step.LoadBegin h throttled)) (sym (some_same model_reply.Io k is)) may).1)
  look_up_refused h throttled kind.Memory k is may = absurd ((subst (λ j. MayRefuse rules Splits old j (model_step.LoadBegin h throttled)) (sym (some_same model_reply.Memory k is)) may).1.1.3)
  look_up_refused h throttled kind.Config k is may = absurd cc
  look_up_refused h throttled kind.Parse k is may = absurd ((subst (λ j. MayRefuse rules Splits old j (model_step.LoadBegin h throttled)) (sym (some_same model_reply.Parse k is)) may).1)
  look_up_refused h throttled kind.MagicMismatch k is may = absurd cc
  look_up_refused h throttled kind.ChecksumMismatch k is may = absurd cc
  look_up_refused h throttled kind.OutOfRange k is may = absurd cc
  look_up_refused h throttled kind.BufferSizeLimit k is may = absurd cc
  look_up_refused h throttled kind.NoSpace k is may = absurd cc
  look_up_refused h throttled kind.Recover k is may = absurd cc
  look_up_refused h throttled kind.Closed k is may = absurd ((subst (λ j. MayRefuse rules Splits old j (model_step.LoadBegin h throttled)) (sym (some_same model_reply.Closed k is)) may).1.0)
  look_up_refused h throttled kind.Unsupported k is may = absurd ((subst (λ j. MayRefuse rules Splits old j (model_step.LoadBegin h throttled)) (sym (some_same model_reply.Unsupported k is)) may).1)
  look_up_refused h throttled kind.SequenceEnd k is may = refl

  -- bytes that were read aren't a fault, and a fault has none
  end_refused : {A : Type 0} (t : model_step.Ticket) (outcome : Result (Vec ℕ A) Error) (why : ErrorKind) (k : model_reply.Kind) → kind_of why ≡ Some k → MayRefuse rules Splits old k (model_step.LoadEnd t (came_of outcome)) → is_end_refusal (went_well outcome) why ≡ true
  end_refused t (Ok bytes) kind.Io k is may = absurd ((subst (λ j. MayRefuse rules Splits old j (model_step.LoadEnd t (model_step.Bytes bytes.items))) (sym (some_same model_reply.Io k is)) may).1)
  end_refused t (Ok bytes) kind.Memory k is may = refl
  end_refused t (Ok bytes) kind.Config k is may = absurd cc
  end_refused t (Ok bytes) kind.Parse k is may = refl
  end_refused t (Ok bytes) kind.MagicMismatch k is may = absurd cc
  end_refused t (Ok bytes) kind.ChecksumMismatch k is may = absurd cc
  end_refused t (Ok bytes) kind.OutOfRange k is may = absurd cc
  end_refused t (Ok bytes) kind.BufferSizeLimit k is may = absurd cc
  end_refused t (Ok bytes) kind.NoSpace k is may = absurd cc
  end_refused t (Ok bytes) kind.Recover k is may = absurd cc
  end_refused t (Ok bytes) kind.Closed k is may = absurd ((subst (λ j. MayRefuse rules Splits old j (model_step.LoadEnd t (model_step.Bytes bytes.items))) (sym (some_same model_reply.Closed k is)) may).1.0)
  end_refused t (Ok bytes) kind.Unsupported k is may = refl
  end_refused t (Ok bytes) kind.SequenceEnd k is may = refl
  end_refused t (Err e) kind.Io k is may = refl
  end_refused t (Err e) kind.Memory k is may = absurd ((subst (λ j. MayRefuse rules Splits old j (model_step.LoadEnd t model_step.Fault)) (sym (some_same model_reply.Memory k is)) may).1.1.3)
  end_refused t (Err e) kind.Config k is may = absurd cc
  end_refused t (Err e) kind.Parse k is may = absurd ((subst (λ j. MayRefuse rules Splits old j (model_step.LoadEnd t model_step.Fault)) (sym (some_same model_reply.Parse k is)) may).1)
  end_refused t (Err e) kind.MagicMismatch k is may = absurd cc
  end_refused t (Err e) kind.ChecksumMismatch k is may = absurd cc
  end_refused t (Err e) kind.OutOfRange k is may = absurd cc
  end_refused t (Err e) kind.BufferSizeLimit k is may = absurd cc
  end_refused t (Err e) kind.NoSpace k is may = absurd cc
  end_refused t (Err e) kind.Recover k is may = absurd cc
  end_refused t (Err e) kind.Closed k is may = absurd ((subst (λ j. MayRefuse rules Splits old j (model_step.LoadEnd t model_step.Fault)) (sym (some_same model_reply.Closed k is)) may).1.0)
  end_refused t (Err e) kind.Unsupported k is may = absurd ((subst (λ j. MayRefuse rules Splits old j (model_step.LoadEnd t model_step.Fault)) (sym (some_same model_reply.Unsupported k is)) may).1)
  end_refused t (Err e) kind.SequenceEnd k is may = refl

  -- a load ends otherwise only if its read went well
  has_read : {A : Type 0} (t : model_step.Ticket) (outcome : Result (Vec ℕ A) Error) (r : model_reply.Reply Content) (new : State Content) → Ends rules old t (came_of outcome) r new → went_well outcome ≡ true
  has_read t (Ok bytes) r new is = refl
  has_read t (Err e) r new is = absurd is

  unthrottled : (t : model_step.Ticket) (outcome : Outcome Content) (new : State Content) → Judges rules old t outcome model_reply.Throttled new → ⊥
  unthrottled t NoRecord new is = is
  unthrottled t NotSupported new is = is
  unthrottled t Undecodable new is = is
  unthrottled t (Holds c) new is = is

  never_throttled : {A : Type 0} (t : model_step.Ticket) (outcome : Result (Vec ℕ A) Error) (new : State Content) → Ends rules old t (came_of outcome) model_reply.Throttled new → ⊥
  never_throttled t (Ok bytes) new is = unthrottled t (judged rules old t bytes.items) new is
  never_throttled t (Err e) new is = is

  module _ {K V P A : Type 0} (m : Meaning K V P) where
    pub enqueue_replied : (h n : ℕ) (age : model_step.Age) (c : Content) (new : State Content) (answer : Reply K V P A) (it : model_reply.Reply Content) → IsReply m answer it → Follows rules Splits old (model_step.Enqueue h n age c) it new → is_enqueue_reply answer ≡ true
    enqueue_replied h n a c new (reply.NotNow back) it is follows = absurd ((subst (λ r. Follows rules Splits old (model_step.Enqueue h n a c) r new) is follows).1.2 tt)
    enqueue_replied h n a c new (reply.Refused why back) it is follows = enqueue_refused h n a c why is.0 is.1 (subst (λ r. Follows rules Splits old (model_step.Enqueue h n a c) r new) is.2 follows).1
    enqueue_replied h n a c new (reply.Ignored piece) it is follows = refl
    enqueue_replied h n a c new (reply.Queued sequence) it is follows = refl
    enqueue_replied h n a c new (reply.Dropped piece sequence) it is follows = refl
    enqueue_replied h n a c new (reply.Deleted sequence) it is follows = absurd (subst (λ r. Follows rules Splits old (model_step.Enqueue h n a c) r new) is follows).2.1
    enqueue_replied h n a c new reply.Done it is follows = absurd (subst (λ r. Follows rules Splits old (model_step.Enqueue h n a c) r new) is follows).2.1
    enqueue_replied h n a c new (reply.Answer answer) it is follows = absurd (subst (λ r. Follows rules Splits old (model_step.Enqueue h n a c) r new) is follows).2.1
    enqueue_replied h n a c new reply.Miss it is follows = absurd (subst (λ r. Follows rules Splits old (model_step.Enqueue h n a c) r new) is follows).2.1
    enqueue_replied h n a c new reply.Throttled it is follows = absurd (subst (λ r. Follows rules Splits old (model_step.Enqueue h n a c) r new) is follows).2.1
    enqueue_replied h n a c new (reply.Read ticket) it is follows = absurd (subst (λ r. Follows rules Splits old (model_step.Enqueue h n a c) r new) is follows).2.1
    enqueue_replied h n a c new (reply.Entry key value age) it is follows = absurd (subst (λ r. Follows rules Splits old (model_step.Enqueue h n a c) r new) is follows).2.1
    enqueue_replied h n a c new reply.Empty it is follows = absurd (subst (λ r. Follows rules Splits old (model_step.Enqueue h n a c) r new) is follows).2.1
    enqueue_replied h n a c new (reply.Received back) it is follows = absurd (subst (λ r. Follows rules Splits old (model_step.Enqueue h n a c) r new) is follows).2.1
    enqueue_replied h n a c new (reply.Began blocks marks) it is follows = absurd (subst (λ r. Follows rules Splits old (model_step.Enqueue h n a c) r new) is.2 follows).2.1
    enqueue_replied h n a c new (reply.Write block writes) it is follows = absurd (subst (λ r. Follows rules Splits old (model_step.Enqueue h n a c) r new) is follows).2.1
    enqueue_replied h n a c new reply.NoBlock it is follows = absurd (subst (λ r. Follows rules Splits old (model_step.Enqueue h n a c) r new) is follows).2.1
    enqueue_replied h n a c new reply.Next it is follows = absurd (subst (λ r. Follows rules Splits old (model_step.Enqueue h n a c) r new) is follows).2.1
    enqueue_replied h n a c new (reply.Committed puts) it is follows = absurd (subst (λ r. Follows rules Splits old (model_step.Enqueue h n a c) r new) is follows).2.1
    enqueue_replied h n a c new reply.Failed it is follows = absurd (subst (λ r. Follows rules Splits old (model_step.Enqueue h n a c) r new) is follows).2.1
    enqueue_replied h n a c new (reply.Ended pieces waits) it is follows = absurd (subst (λ r. Follows rules Splits old (model_step.Enqueue h n a c) r new) is.2 follows).2.1
    enqueue_replied h n a c new (reply.Picked block answers probation) it is follows = absurd (subst (λ r. Follows rules Splits old (model_step.Enqueue h n a c) r new) is follows).2.1
    enqueue_replied h n a c new (reply.Scan block offset len verdicts) it is follows = absurd (subst (λ r. Follows rules Splits old (model_step.Enqueue h n a c) r new) is follows).2.1
    enqueue_replied h n a c new (reply.Listed verdicts) it is follows = absurd (subst (λ r. Follows rules Splits old (model_step.Enqueue h n a c) r new) is follows).2.1
    enqueue_replied h n a c new (reply.Clean block) it is follows = absurd (subst (λ r. Follows rules Splits old (model_step.Enqueue h n a c) r new) is follows).2.1
    enqueue_replied h n a c new (reply.Destroying sequence) it is follows = absurd (subst (λ r. Follows rules Splits old (model_step.Enqueue h n a c) r new) is follows).2.1
    enqueue_replied h n a c new reply.Cleared it is follows = absurd (subst (λ r. Follows rules Splits old (model_step.Enqueue h n a c) r new) is.1 follows).2.1
    enqueue_replied h n a c new (reply.Destroyed first) it is follows = absurd (subst (λ r. Follows rules Splits old (model_step.Enqueue h n a c) r new) is.2 follows).2.1

    pub delete_replied : (h : ℕ) (new : State Content) (answer : Reply K V P A) (it : model_reply.Reply Content) → IsReply m answer it → Follows rules Splits old (model_step.Delete h) it new → is_delete_reply answer ≡ true
    delete_replied h new (reply.NotNow back) it is follows = absurd ((subst (λ r. Follows rules Splits old (model_step.Delete h) r new) is follows).1.2 tt)
    delete_replied h new (reply.Refused why back) it is follows = delete_refused h why is.0 is.1 (subst (λ r. Follows rules Splits old (model_step.Delete h) r new) is.2 follows).1
    delete_replied h new (reply.Ignored piece) it is follows = absurd (subst (λ r. Follows rules Splits old (model_step.Delete h) r new) is follows).2.1
    delete_replied h new (reply.Queued sequence) it is follows = absurd (subst (λ r. Follows rules Splits old (model_step.Delete h) r new) is follows).2.1
    delete_replied h new (reply.Dropped piece sequence) it is follows = absurd (subst (λ r. Follows rules Splits old (model_step.Delete h) r new) is follows).2.1
    delete_replied h new (reply.Deleted sequence) it is follows = refl
    delete_replied h new reply.Done it is follows = absurd (subst (λ r. Follows rules Splits old (model_step.Delete h) r new) is follows).2.1
    delete_replied h new (reply.Answer answer) it is follows = absurd (subst (λ r. Follows rules Splits old (model_step.Delete h) r new) is follows).2.1
    delete_replied h new reply.Miss it is follows = absurd (subst (λ r. Follows rules Splits old (model_step.Delete h) r new) is follows).2.1
    delete_replied h new reply.Throttled it is follows = absurd (subst (λ r. Follows rules Splits old (model_step.Delete h) r new) is follows).2.1
    delete_replied h new (reply.Read ticket) it is follows = absurd (subst (λ r. Follows rules Splits old (model_step.Delete h) r new) is follows).2.1
    delete_replied h new (reply.Entry key value age) it is follows = absurd (subst (λ r. Follows rules Splits old (model_step.Delete h) r new) is follows).2.1
    delete_replied h new reply.Empty it is follows = absurd (subst (λ r. Follows rules Splits old (model_step.Delete h) r new) is follows).2.1
    delete_replied h new (reply.Received back) it is follows = absurd (subst (λ r. Follows rules Splits old (model_step.Delete h) r new) is follows).2.1
    delete_replied h new (reply.Began blocks marks) it is follows = absurd (subst (λ r. Follows rules Splits old (model_step.Delete h) r new) is.2 follows).2.1
    delete_replied h new (reply.Write block writes) it is follows = absurd (subst (λ r. Follows rules Splits old (model_step.Delete h) r new) is follows).2.1
    delete_replied h new reply.NoBlock it is follows = absurd (subst (λ r. Follows rules Splits old (model_step.Delete h) r new) is follows).2.1
    delete_replied h new reply.Next it is follows = absurd (subst (λ r. Follows rules Splits old (model_step.Delete h) r new) is follows).2.1
    delete_replied h new (reply.Committed puts) it is follows = absurd (subst (λ r. Follows rules Splits old (model_step.Delete h) r new) is follows).2.1
    delete_replied h new reply.Failed it is follows = absurd (subst (λ r. Follows rules Splits old (model_step.Delete h) r new) is follows).2.1
    delete_replied h new (reply.Ended pieces waits) it is follows = absurd (subst (λ r. Follows rules Splits old (model_step.Delete h) r new) is.2 follows).2.1
    delete_replied h new (reply.Picked block answers probation) it is follows = absurd (subst (λ r. Follows rules Splits old (model_step.Delete h) r new) is follows).2.1
    delete_replied h new (reply.Scan block offset len verdicts) it is follows = absurd (subst (λ r. Follows rules Splits old (model_step.Delete h) r new) is follows).2.1
    delete_replied h new (reply.Listed verdicts) it is follows = absurd (subst (λ r. Follows rules Splits old (model_step.Delete h) r new) is follows).2.1
    delete_replied h new (reply.Clean block) it is follows = absurd (subst (λ r. Follows rules Splits old (model_step.Delete h) r new) is follows).2.1
    delete_replied h new (reply.Destroying sequence) it is follows = absurd (subst (λ r. Follows rules Splits old (model_step.Delete h) r new) is follows).2.1
    delete_replied h new reply.Cleared it is follows = absurd (subst (λ r. Follows rules Splits old (model_step.Delete h) r new) is.1 follows).2.1
    delete_replied h new (reply.Destroyed first) it is follows = absurd (subst (λ r. Follows rules Splits old (model_step.Delete h) r new) is.2 follows).2.1

    pub question_replied : (h : ℕ) (new : State Content) (answer : Reply K V P A) (it : model_reply.Reply Content) → IsReply m answer it → Follows rules Splits old (model_step.MayContains h) it new → is_question_reply answer ≡ true
    question_replied h new (reply.NotNow back) it is follows = absurd ((subst (λ r. Follows rules Splits old (model_step.MayContains h) r new) is follows).1.2 tt)
    question_replied h new (reply.Refused why back) it is follows = question_refused h why is.0 is.1 (subst (λ r. Follows rules Splits old (model_step.MayContains h) r new) is.2 follows).1
    question_replied h new (reply.Ignored piece) it is follows = let same = (subst (λ r. Follows rules Splits old (model_step.MayContains h) r new) is follows).2.1.0 in absurd cc
    question_replied h new (reply.Queued sequence) it is follows = let same = (subst (λ r. Follows rules Splits old (model_step.MayContains h) r new) is follows).2.1.0 in absurd cc
    question_replied h new (reply.Dropped piece sequence) it is follows = let same = (subst (λ r. Follows rules Splits old (model_step.MayContains h) r new) is follows).2.1.0 in absurd cc
    question_replied h new (reply.Deleted sequence) it is follows = let same = (subst (λ r. Follows rules Splits old (model_step.MayContains h) r new) is follows).2.1.0 in absurd cc
    question_replied h new reply.Done it is follows = let same = (subst (λ r. Follows rules Splits old (model_step.MayContains h) r new) is follows).2.1.0 in absurd cc
    question_replied h new (reply.Answer answer) it is follows = refl
    question_replied h new reply.Miss it is follows = let same = (subst (λ r. Follows rules Splits old (model_step.MayContains h) r new) is follows).2.1.0 in absurd cc
    question_replied h new reply.Throttled it is follows = let same = (subst (λ r. Follows rules Splits old (model_step.MayContains h) r new) is follows).2.1.0 in absurd cc
    question_replied h new (reply.Read ticket) it is follows = let same = (subst (λ r. Follows rules Splits old (model_step.MayContains h) r new) is follows).2.1.0 in absurd cc
    question_replied h new (reply.Entry key value age) it is follows = let same = (subst (λ r. Follows rules Splits old (model_step.MayContains h) r new) is follows).2.1.0 in absurd cc
    question_replied h new reply.Empty it is follows = let same = (subst (λ r. Follows rules Splits old (model_step.MayContains h) r new) is follows).2.1.0 in absurd cc
    question_replied h new (reply.Received back) it is follows = let same = (subst (λ r. Follows rules Splits old (model_step.MayContains h) r new) is follows).2.1.0 in absurd cc
    question_replied h new (reply.Began blocks marks) it is follows = let same = (subst (λ r. Follows rules Splits old (model_step.MayContains h) r new) is.2 follows).2.1.0 in absurd cc
    question_replied h new (reply.Write block writes) it is follows = let same = (subst (λ r. Follows rules Splits old (model_step.MayContains h) r new) is follows).2.1.0 in absurd cc
    question_replied h new reply.NoBlock it is follows = let same = (subst (λ r. Follows rules Splits old (model_step.MayContains h) r new) is follows).2.1.0 in absurd cc
    question_replied h new reply.Next it is follows = let same = (subst (λ r. Follows rules Splits old (model_step.MayContains h) r new) is follows).2.1.0 in absurd cc
    question_replied h new (reply.Committed puts) it is follows = let same = (subst (λ r. Follows rules Splits old (model_step.MayContains h) r new) is follows).2.1.0 in absurd cc
    question_replied h new reply.Failed it is follows = let same = (subst (λ r. Follows rules Splits old (model_step.MayContains h) r new) is follows).2.1.0 in absurd cc
    question_replied h new (reply.Ended pieces waits) it is follows = let same = (subst (λ r. Follows rules Splits old (model_step.MayContains h) r new) is.2 follows).2.1.0 in absurd cc
    question_replied h new (reply.Picked block answers probation) it is follows = let same = (subst (λ r. Follows rules Splits old (model_step.MayContains h) r new) is follows).2.1.0 in absurd cc
    question_replied h new (reply.Scan block offset len verdicts) it is follows = let same = (subst (λ r. Follows rules Splits old (model_step.MayContains h) r new) is follows).2.1.0 in absurd cc
    question_replied h new (reply.Listed verdicts) it is follows = let same = (subst (λ r. Follows rules Splits old (model_step.MayContains h) r new) is follows).2.1.0 in absurd cc
    question_replied h new (reply.Clean block) it is follows = let same = (subst (λ r. Follows rules Splits old (model_step.MayContains h) r new) is follows).2.1.0 in absurd cc
    question_replied h new (reply.Destroying sequence) it is follows = let same = (subst (λ r. Follows rules Splits old (model_step.MayContains h) r new) is follows).2.1.0 in absurd cc
    question_replied h new reply.Cleared it is follows = let same = (subst (λ r. Follows rules Splits old (model_step.MayContains h) r new) is.1 follows).2.1.0 in absurd cc
    question_replied h new (reply.Destroyed first) it is follows = let same = (subst (λ r. Follows rules Splits old (model_step.MayContains h) r new) is.2 follows).2.1.0 in absurd cc

    pub look_up_replied : (h : ℕ) (throttled : Bool) (new : State Content) (answer : Reply K V P A) (it : model_reply.Reply Content) → IsReply m answer it → Follows rules Splits old (model_step.LoadBegin h throttled) it new → is_look_up_reply throttled answer ≡ true
    look_up_replied h throttled new (reply.NotNow back) it is follows = absurd ((subst (λ r. Follows rules Splits old (model_step.LoadBegin h throttled) r new) is follows).1.2 tt)
    look_up_replied h throttled new (reply.Refused why back) it is follows = look_up_refused h throttled why is.0 is.1 (subst (λ r. Follows rules Splits old (model_step.LoadBegin h throttled) r new) is.2 follows).1
    look_up_replied h throttled new (reply.Ignored piece) it is follows = let same = looked h throttled (old.index h) _ _ (subst (λ r. Follows rules Splits old (model_step.LoadBegin h throttled) r new) is follows).2.1 in absurd cc
    look_up_replied h throttled new (reply.Queued sequence) it is follows = let same = looked h throttled (old.index h) _ _ (subst (λ r. Follows rules Splits old (model_step.LoadBegin h throttled) r new) is follows).2.1 in absurd cc
    look_up_replied h throttled new (reply.Dropped piece sequence) it is follows = let same = looked h throttled (old.index h) _ _ (subst (λ r. Follows rules Splits old (model_step.LoadBegin h throttled) r new) is follows).2.1 in absurd cc
    look_up_replied h throttled new (reply.Deleted sequence) it is follows = let same = looked h throttled (old.index h) _ _ (subst (λ r. Follows rules Splits old (model_step.LoadBegin h throttled) r new) is follows).2.1 in absurd cc
    look_up_replied h throttled new reply.Done it is follows = let same = looked h throttled (old.index h) _ _ (subst (λ r. Follows rules Splits old (model_step.LoadBegin h throttled) r new) is follows).2.1 in absurd cc
    look_up_replied h throttled new (reply.Answer answer) it is follows = let same = looked h throttled (old.index h) _ _ (subst (λ r. Follows rules Splits old (model_step.LoadBegin h throttled) r new) is follows).2.1 in absurd cc
    look_up_replied h throttled new reply.Miss it is follows = refl
    look_up_replied h throttled new reply.Throttled it is follows = looked h throttled (old.index h) _ _ (subst (λ r. Follows rules Splits old (model_step.LoadBegin h throttled) r new) is follows).2.1
    look_up_replied h throttled new (reply.Read ticket) it is follows = looked h throttled (old.index h) _ _ (subst (λ r. Follows rules Splits old (model_step.LoadBegin h throttled) r new) is follows).2.1
    look_up_replied h throttled new (reply.Entry key value age) it is follows = let same = looked h throttled (old.index h) _ _ (subst (λ r. Follows rules Splits old (model_step.LoadBegin h throttled) r new) is follows).2.1 in absurd cc
    look_up_replied h throttled new reply.Empty it is follows = let same = looked h throttled (old.index h) _ _ (subst (λ r. Follows rules Splits old (model_step.LoadBegin h throttled) r new) is follows).2.1 in absurd cc
    look_up_replied h throttled new (reply.Received back) it is follows = let same = looked h throttled (old.index h) _ _ (subst (λ r. Follows rules Splits old (model_step.LoadBegin h throttled) r new) is follows).2.1 in absurd cc
    look_up_replied h throttled new (reply.Began blocks marks) it is follows = let same = looked h throttled (old.index h) _ _ (subst (λ r. Follows rules Splits old (model_step.LoadBegin h throttled) r new) is.2 follows).2.1 in absurd cc
    look_up_replied h throttled new (reply.Write block writes) it is follows = let same = looked h throttled (old.index h) _ _ (subst (λ r. Follows rules Splits old (model_step.LoadBegin h throttled) r new) is follows).2.1 in absurd cc
    look_up_replied h throttled new reply.NoBlock it is follows = let same = looked h throttled (old.index h) _ _ (subst (λ r. Follows rules Splits old (model_step.LoadBegin h throttled) r new) is follows).2.1 in absurd cc
    look_up_replied h throttled new reply.Next it is follows = let same = looked h throttled (old.index h) _ _ (subst (λ r. Follows rules Splits old (model_step.LoadBegin h throttled) r new) is follows).2.1 in absurd cc
    look_up_replied h throttled new (reply.Committed puts) it is follows = let same = looked h throttled (old.index h) _ _ (subst (λ r. Follows rules Splits old (model_step.LoadBegin h throttled) r new) is follows).2.1 in absurd cc
    look_up_replied h throttled new reply.Failed it is follows = let same = looked h throttled (old.index h) _ _ (subst (λ r. Follows rules Splits old (model_step.LoadBegin h throttled) r new) is follows).2.1 in absurd cc
    look_up_replied h throttled new (reply.Ended pieces waits) it is follows = let same = looked h throttled (old.index h) _ _ (subst (λ r. Follows rules Splits old (model_step.LoadBegin h throttled) r new) is.2 follows).2.1 in absurd cc
    look_up_replied h throttled new (reply.Picked block answers probation) it is follows = let same = looked h throttled (old.index h) _ _ (subst (λ r. Follows rules Splits old (model_step.LoadBegin h throttled) r new) is follows).2.1 in absurd cc
    look_up_replied h throttled new (reply.Scan block offset len verdicts) it is follows = let same = looked h throttled (old.index h) _ _ (subst (λ r. Follows rules Splits old (model_step.LoadBegin h throttled) r new) is follows).2.1 in absurd cc
    look_up_replied h throttled new (reply.Listed verdicts) it is follows = let same = looked h throttled (old.index h) _ _ (subst (λ r. Follows rules Splits old (model_step.LoadBegin h throttled) r new) is follows).2.1 in absurd cc
    look_up_replied h throttled new (reply.Clean block) it is follows = let same = looked h throttled (old.index h) _ _ (subst (λ r. Follows rules Splits old (model_step.LoadBegin h throttled) r new) is follows).2.1 in absurd cc
    look_up_replied h throttled new (reply.Destroying sequence) it is follows = let same = looked h throttled (old.index h) _ _ (subst (λ r. Follows rules Splits old (model_step.LoadBegin h throttled) r new) is follows).2.1 in absurd cc
    look_up_replied h throttled new reply.Cleared it is follows = let same = looked h throttled (old.index h) _ _ (subst (λ r. Follows rules Splits old (model_step.LoadBegin h throttled) r new) is.1 follows).2.1 in absurd cc
    look_up_replied h throttled new (reply.Destroyed first) it is follows = let same = looked h throttled (old.index h) _ _ (subst (λ r. Follows rules Splits old (model_step.LoadBegin h throttled) r new) is.2 follows).2.1 in absurd cc

    pub end_replied : (t : model_step.Ticket) (outcome : Result (Vec ℕ A) Error) (new : State Content) (answer : Reply K V P A) (it : model_reply.Reply Content) → IsReply m answer it → Follows rules Splits old (model_step.LoadEnd t (came_of outcome)) it new → is_end_reply (went_well outcome) answer ≡ true
    end_replied t outcome new (reply.NotNow back) it is follows = refl
    end_replied t outcome new (reply.Refused why back) it is follows = end_refused t outcome why is.0 is.1 (subst (λ r. Follows rules Splits old (model_step.LoadEnd t (came_of outcome)) r new) is.2 follows).1
    end_replied t outcome new (reply.Ignored piece) it is follows = refl
    end_replied t outcome new (reply.Queued sequence) it is follows = refl
    end_replied t outcome new (reply.Dropped piece sequence) it is follows = refl
    end_replied t outcome new (reply.Deleted sequence) it is follows = refl
    end_replied t outcome new reply.Done it is follows = refl
    end_replied t outcome new (reply.Answer answer) it is follows = refl
    end_replied t outcome new reply.Miss it is follows = has_read t outcome _ _ (subst (λ r. Follows rules Splits old (model_step.LoadEnd t (came_of outcome)) r new) is follows).2.1
    end_replied t outcome new reply.Throttled it is follows = absurd (never_throttled t outcome _ (subst (λ r. Follows rules Splits old (model_step.LoadEnd t (came_of outcome)) r new) is follows).2.1)
    end_replied t outcome new (reply.Read ticket) it is follows = refl
    end_replied t outcome new (reply.Entry key value age) it is follows = has_read t outcome _ _ (subst (λ r. Follows rules Splits old (model_step.LoadEnd t (came_of outcome)) r new) is follows).2.1
    end_replied t outcome new reply.Empty it is follows = refl
    end_replied t outcome new (reply.Received back) it is follows = refl
    end_replied t outcome new (reply.Began blocks marks) it is follows = refl
    end_replied t outcome new (reply.Write block writes) it is follows = refl
    end_replied t outcome new reply.NoBlock it is follows = refl
    end_replied t outcome new reply.Next it is follows = refl
    end_replied t outcome new (reply.Committed puts) it is follows = refl
    end_replied t outcome new reply.Failed it is follows = refl
    end_replied t outcome new (reply.Ended pieces waits) it is follows = refl
    end_replied t outcome new (reply.Picked block answers probation) it is follows = refl
    end_replied t outcome new (reply.Scan block offset len verdicts) it is follows = refl
    end_replied t outcome new (reply.Listed verdicts) it is follows = refl
    end_replied t outcome new (reply.Clean block) it is follows = refl
    end_replied t outcome new (reply.Destroying sequence) it is follows = refl
    end_replied t outcome new reply.Cleared it is follows = refl
    end_replied t outcome new (reply.Destroyed first) it is follows = refl

    pub other_replied : (s : model_step.Step Content) → (HasCause rules Splits old model_reply.Io s → ⊥) → (HasCause rules Splits old model_reply.Parse s → ⊥) → (HasCause rules Splits old model_reply.Unsupported s → ⊥)
        → (new : State Content) (answer : Reply K V P A) (it : model_reply.Reply Content) → IsReply m answer it → Follows rules Splits old s it new → is_other_reply answer ≡ true
    other_replied s io parse unsupported new (reply.NotNow back) it is follows = refl
    other_replied s io parse unsupported new (reply.Refused why back) it is follows = other_refused s io parse unsupported why is.0 is.1 (subst (λ r. Follows rules Splits old s r new) is.2 follows).1
    other_replied s io parse unsupported new (reply.Ignored piece) it is follows = refl
    other_replied s io parse unsupported new (reply.Queued sequence) it is follows = refl
    other_replied s io parse unsupported new (reply.Dropped piece sequence) it is follows = refl
    other_replied s io parse unsupported new (reply.Deleted sequence) it is follows = refl
    other_replied s io parse unsupported new reply.Done it is follows = refl
    other_replied s io parse unsupported new (reply.Answer answer) it is follows = refl
    other_replied s io parse unsupported new reply.Miss it is follows = refl
    other_replied s io parse unsupported new reply.Throttled it is follows = refl
    other_replied s io parse unsupported new (reply.Read ticket) it is follows = refl
    other_replied s io parse unsupported new (reply.Entry key value age) it is follows = refl
    other_replied s io parse unsupported new reply.Empty it is follows = refl
    other_replied s io parse unsupported new (reply.Received back) it is follows = refl
    other_replied s io parse unsupported new (reply.Began blocks marks) it is follows = refl
    other_replied s io parse unsupported new (reply.Write block writes) it is follows = refl
    other_replied s io parse unsupported new reply.NoBlock it is follows = refl
    other_replied s io parse unsupported new reply.Next it is follows = refl
    other_replied s io parse unsupported new (reply.Committed puts) it is follows = refl
    other_replied s io parse unsupported new reply.Failed it is follows = refl
    other_replied s io parse unsupported new (reply.Ended pieces waits) it is follows = refl
    other_replied s io parse unsupported new (reply.Picked block answers probation) it is follows = refl
    other_replied s io parse unsupported new (reply.Scan block offset len verdicts) it is follows = refl
    other_replied s io parse unsupported new (reply.Listed verdicts) it is follows = refl
    other_replied s io parse unsupported new (reply.Clean block) it is follows = refl
    other_replied s io parse unsupported new (reply.Destroying sequence) it is follows = refl
    other_replied s io parse unsupported new reply.Cleared it is follows = refl
    other_replied s io parse unsupported new (reply.Destroyed first) it is follows = refl
