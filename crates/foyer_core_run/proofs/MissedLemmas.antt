-- A load misses a put only for a named cause, in every history that led to the core and bytes that it began with.
use Rattle.std.proofs.Common.{◌≡◌, ◌≢◌, ℕ, ◌+◌, ◌<◌, inl, inr, Bool, true, false, List, [], ◌∷◌, Some, None, Result, refl, sym, ap, subst, ◌∙◌, arith}
use Rattle.std.specs.declared.vec.Vec.{Vec}
use Rattle.foyer_device_page.specs.declared.error.Error.{Error}
use Rattle.foyer_device_page.specs.declared.error.ErrorKind.TheVariants as kind
use Rattle.foyer_core_model.specs.Access.{ReadDone, ReadIssued}
use Rattle.foyer_core_model.specs.Event.{Put, newest}
use Rattle.foyer_core_model.specs.Laws.{IsAnswer, IsReached}
use Rattle.foyer_core_model.specs.Numbers.{last_number}
use Rattle.foyer_core_model.specs.Record.{Outcome, Holds, NoRecord, NotSupported, Undecodable}
use Rattle.foyer_core_model.specs.Reply as model_reply
use Rattle.foyer_core_model.specs.State.{State}
use Rattle.foyer_core_model.specs.Step as model_step
use Rattle.foyer_core_model.specs.Follows.{Follows}
use Rattle.foyer_core_model.specs.World.{World, WorldEvent, Applies, ReadBegins, ReadEnds, IsReadAt, after, after_all, covers}
use Rattle.foyer_core_model.proofs.Basics.{put_same}
use Rattle.foyer_core_model.proofs.Missed.{loads_newest_lem, looks_up_newest_lem}
use Rattle.foyer_core_model.proofs.Promises.{reached_more}
use Rattle.foyer_core_steps.specs.Asked.{step_of, ticket_of, came_of}
use Rattle.foyer_core_laws.specs.Content.{Content, Meaning}
use Rattle.foyer_core_laws.specs.CoreRules.{layout}
use Rattle.foyer_core_steps.specs.Refines.{IsRefined}
use Rattle.foyer_core_laws.specs.CoreRules.{machine}
use Rattle.foyer_core_laws.specs.CoreRules.{IsEncoded}
use Rattle.foyer_core_steps.specs.Replied.{IsReply}
use Rattle.foyer_core_laws.specs.Sizes.{AreValid}
use Rattle.foyer_core_steps.specs.StateOf.{IsStateOf}
use Rattle.foyer_core_steps.specs.declared.reply.Reply.{Reply}
use Rattle.foyer_core_steps.specs.declared.reply.Reply.TheVariants as reply
use Rattle.foyer_core_laws.specs.Settings.{Settings}
use Rattle.foyer_core_steps.specs.declared.state.Core.{Core}
use Rattle.foyer_core_steps.specs.declared.step.Step.TheVariants as step
use Rattle.foyer_core_steps.specs.declared.step.Ticket.{Ticket}
use Rattle.foyer_core_laws.proofs.LawLemmas.{demands}
use Rattle.foyer_core_run.specs.Newest.{IsHistory, IsMissedForCause, IsPutOrFault, MayFail}
use Rattle.foyer_core_run.specs.Running.{ticket_in}
use Rattle.foyer_core_run.proofs.LoadLemmas.{IsCome, began, ended, ends, gives, load_at}

-- the kinds for which the model refuses the load of a record
abbrev FailsAs : Outcome Content → model_reply.Kind → Type 0
FailsAs (Holds c) model_reply.Io = Unit {0}
FailsAs (Holds c) model_reply.Memory = Unit {0}
FailsAs (Holds c) k = ⊥
FailsAs Undecodable model_reply.Io = Unit {0}
FailsAs Undecodable model_reply.Parse = Unit {0}
FailsAs Undecodable model_reply.Memory = Unit {0}
FailsAs Undecodable k = ⊥
FailsAs NotSupported model_reply.Io = Unit {0}
FailsAs NotSupported model_reply.Unsupported = Unit {0}
FailsAs NotSupported k = ⊥
FailsAs NoRecord k = ⊥

-- how the model ends the load of a record
abbrev Gives : Outcome Content → model_reply.Reply Content → Type 0
Gives x (model_reply.Entry d age) = x ≡ Holds d
Gives x (model_reply.Refused k back) = FailsAs x k
Gives x it = ⊥

given : (t : model_step.Ticket) (result : model_step.ReadResult) (x : Outcome Content) (it : model_reply.Reply Content) → x ≢ NoRecord → IsAnswer t result x it → Gives x it
given t model_step.Fault NoRecord it some is = absurd (some refl)
given t model_step.Fault (Holds c) it some is = subst (Gives (Holds c)) (sym is) tt
given t model_step.Fault Undecodable it some is = subst (Gives Undecodable) (sym is) tt
given t model_step.Fault NotSupported it some is = subst (Gives NotSupported) (sym is) tt
given t (model_step.Bytes bs) NoRecord it some is = absurd (some refl)
given t (model_step.Bytes bs) (Holds c) it some is = elim is [
  | inl entry ↦ subst (Gives (Holds c)) (sym entry.1) refl
  | inr refused ↦ subst (Gives (Holds c)) (sym refused) tt
]
given t (model_step.Bytes bs) Undecodable it some is = elim is [
  | inl parse ↦ subst (Gives Undecodable) (sym parse) tt
  | inr refused ↦ subst (Gives Undecodable) (sym refused) tt
]
given t (model_step.Bytes bs) NotSupported it some is = subst (Gives NotSupported) (sym is) tt

of_kind : (x : Outcome Content) (j k : model_reply.Kind) → Some j ≡ Some k → FailsAs x k → FailsAs x j
of_kind x j k issued what = subst (FailsAs x) (let e : k ≡ j = cc in e) what

fails_io : (x : Outcome Content) → FailsAs x model_reply.Io → MayFail x kind.Io
fails_io (Holds c) what = inl refl
fails_io Undecodable what = inl refl
fails_io NotSupported what = inl refl
fails_io NoRecord what = what

fails_memory : (x : Outcome Content) → FailsAs x model_reply.Memory → MayFail x kind.Memory
fails_memory (Holds c) what = inr refl
fails_memory Undecodable what = inr (inr refl)
fails_memory NotSupported what = absurd what
fails_memory NoRecord what = what

fails_parse : (x : Outcome Content) → FailsAs x model_reply.Parse → MayFail x kind.Parse
fails_parse (Holds c) what = absurd what
fails_parse Undecodable what = inr (inl refl)
fails_parse NotSupported what = absurd what
fails_parse NoRecord what = what

fails_unsupported : (x : Outcome Content) → FailsAs x model_reply.Unsupported → MayFail x kind.Unsupported
fails_unsupported (Holds c) what = absurd what
fails_unsupported Undecodable what = absurd what
fails_unsupported NotSupported what = inr refl
fails_unsupported NoRecord what = what

never_closed : (x : Outcome Content) → FailsAs x model_reply.Closed → ⊥
never_closed (Holds c) what = what
never_closed Undecodable what = what
never_closed NotSupported what = what
never_closed NoRecord what = what

never_ends : (x : Outcome Content) → FailsAs x model_reply.SequenceEnd → ⊥
never_ends (Holds c) what = what
never_ends Undecodable what = what
never_ends NotSupported what = what
never_ends NoRecord what = what

module _ {K V P A : Type 0} (m : Meaning K V P) where
  -- and so the core does
  put_or_fault : (x : Outcome Content) (answer : Reply K V P A) (it : model_reply.Reply Content) → IsReply m answer it → Gives x it → IsPutOrFault m x answer
  put_or_fault x (reply.Entry key value age) it is what = subst (Gives x) is what
  put_or_fault x (reply.Refused kind.Io back) it (k, issued, is) what = fails_io x (of_kind x model_reply.Io k issued (subst (Gives x) is what))
  put_or_fault x (reply.Refused kind.Memory back) it (k, issued, is) what = fails_memory x (of_kind x model_reply.Memory k issued (subst (Gives x) is what))
  put_or_fault x (reply.Refused kind.Parse back) it (k, issued, is) what = fails_parse x (of_kind x model_reply.Parse k issued (subst (Gives x) is what))
  put_or_fault x (reply.Refused kind.Closed back) it (k, issued, is) what = absurd (never_closed x (of_kind x model_reply.Closed k issued (subst (Gives x) is what)))
  put_or_fault x (reply.Refused kind.Unsupported back) it (k, issued, is) what = fails_unsupported x (of_kind x model_reply.Unsupported k issued (subst (Gives x) is what))
  put_or_fault x (reply.Refused kind.SequenceEnd back) it (k, issued, is) what = absurd (never_ends x (of_kind x model_reply.SequenceEnd k issued (subst (Gives x) is what)))
  put_or_fault x (reply.Refused why back) it (k, issued, is) what = absurd (let e : None ≡ Some k = issued in cc)
  put_or_fault x (reply.Began blocks marks) it (ss, count, is) what = absurd (subst (Gives x) is what)
  put_or_fault x (reply.Ended pieces waits) it (ps, same, is) what = absurd (subst (Gives x) is what)
  put_or_fault x reply.Cleared it (blocks, is) what = absurd (subst (Gives x) is what)
  put_or_fault x (reply.Destroyed first) it (fault, as_model, is) what = absurd (subst (Gives x) is what)
  put_or_fault x answer it is what = absurd (subst (Gives x) is what)

  -- a reply that issues a read is the core's own
  issues_read : (answer : Reply K V P A) (t : model_step.Ticket) → IsReply m answer (model_reply.Read t) → (ticket : Ticket) × (ticket_in answer ≡ Some ticket)
  issues_read (reply.Read ticket) t is = (ticket, refl)
  issues_read (reply.Began blocks marks) t (ss, count, is) = absurd (cc)
  issues_read (reply.Ended pieces waits) t (ps, same, is) = absurd (cc)
  issues_read reply.Cleared t (blocks, is) = absurd (cc)
  issues_read (reply.Destroyed first) t (fault, as_model, is) = absurd (cc)
  issues_read (reply.Refused why back) t (k, issued, is) = absurd (cc)
  issues_read answer t is = absurd (cc)

  -- if a put is newest, the look-up issues a read of it
  looked_up : (s : Settings) (sound : AreValid s) (first : World Content) (events : List (WorldEvent Content)) (h : ℕ) (answer : model_reply.Reply Content) (looked : State Content) (b q : ℕ) (x : Outcome Content) (core : Core K V P A) (bytes : ℕ → ℕ → ℕ)
      → IsHistory m s sound first events core bytes → core.steps + 1 < last_number
      → (after_all (machine m s sound) first events).kept h ≡ Some b
      → newest h (after_all (machine m s sound) first events).history ≡ Some (Put h q x) → x ≢ NoRecord
      → Follows (machine m s sound) (layout s) (after_all (machine m s sound) first events).core (model_step.LoadBegin h false) answer looked
      → (t : model_step.Ticket) × (answer ≡ model_reply.Read t) × (t.hash ≡ h)
  looked_up s sound first events h answer looked b q x core bytes history few kept newer some follows =
      let rules = machine m s sound in
      let Splits = layout s in
      let is_value = IsEncoded m.is_key m.is_value in
      let w = after_all rules first events in
      let reached : IsReached rules Splits is_value w = record { first = first; events = events; opened = history.opened; happened = history.happened; is = refl } in
      let steps : w.core.steps ≡ core.steps = history.stands.steps in
      let early : w.core.steps < last_number = omega arith in
      elim (looks_up_newest_lem rules Splits is_value w h false answer looked b q x (demands m.is_key m.is_value s sound) reached (tt, follows) early kept newer some) [
        | inl throttled ↦ absurd (let e : false ≡ true = throttled.0 in cc)
        | inr read ↦ ((read.1).0, (read.1).1, (read.1).2)
      ]

  -- what a look-up answers by itself
  pub look_up_missed : (h : ℕ) (throttled : Bool) (answer : Reply K V P A) (old new : Core K V P A) (bytes : ℕ → ℕ → ℕ)
      → throttled ≡ false → ticket_in answer ≡ None
      → ((s : Settings) (sound : AreValid s) (v : World Content) → IsStateOf m s old v.core → IsRefined m s sound (step.LoadBegin h throttled) answer new v.core)
      → IsMissedForCause m h old bytes answer
  look_up_missed h throttled answer old new bytes not none meets = λ s sound first events history few b q x kept newer some.
      let w = after_all (machine m s sound) first events in
      let met = subst (λ z. IsRefined m s sound (step.LoadBegin h z) answer new w.core) not (meets s sound w history.stands) in
      let read = looked_up s sound first events h met.it met.after b q x old bytes history few kept newer some met.follows in
      let issued = issues_read answer read.0 (subst (IsReply m answer) read.1 met.reply) in
      absurd (let e : Some issued.0 ≡ None = sym issued.1 ∙ none in cc)

  -- what a load ends with, by the bytes of its own read
  pub load_missed : (h : ℕ) (throttled : Bool) (ticket : Ticket) (outcome : Result (Vec ℕ A) Error) (answer : Reply K V P A) (old mid new : Core K V P A) (bytes : ℕ → ℕ → ℕ)
      → throttled ≡ false
      → ((s : Settings) (sound : AreValid s) (v : World Content) → IsStateOf m s old v.core → IsRefined m s sound (step.LoadBegin h throttled) (reply.Read ticket) mid v.core)
      → IsCome bytes ticket outcome
      → ((s : Settings) (sound : AreValid s) (v : World Content) → IsStateOf m s mid v.core → IsRefined m s sound (step.LoadEnd ticket outcome) answer new v.core)
      → IsMissedForCause m h old bytes answer
  load_missed h throttled ticket outcome answer old mid new bytes not looks come loads = λ s sound first events history few b q x kept newer some.
      let rules = machine m s sound in
      let Splits = layout s in
      let is_value = IsEncoded m.is_key m.is_value in
      let w = after_all rules first events in
      let t = ticket_of ticket in
      let result = came_of outcome in
      let looked = subst (λ z. IsRefined m s sound (step.LoadBegin h z) (reply.Read ticket) mid w.core) not (looks s sound w history.stands) in
      let begin = Applies (model_step.LoadBegin h false) (model_reply.Read t) looked.after in
      let v = after rules w begin in
      let k = w.issued in
      let load = load_at m s sound t (newest t.hash w.history) (w.kept t.hash) ReadIssued in
      let issued : v.loads k ≡ Some load = put_same w.loads k (Some load) in
      let u = ends m s sound v k result in
      let read = ended m s sound v k result t (newest t.hash w.history) (w.kept t.hash) issued in
      let met = loads s sound u looked.stands in
      let issued_follows = subst (λ r. Follows rules Splits w.core (model_step.LoadBegin h false) r looked.after) looked.reply looked.follows in
      let has = load_at m s sound t (newest t.hash w.history) (w.kept t.hash) (ReadDone result) in
      let stands_read =
      subst (λ o. IsReadAt rules v.bytes o result) (sym (began m s sound v k t (newest t.hash w.history) (w.kept t.hash) issued))
      (gives m s sound v bytes ticket outcome (covers rules v t.address.block) history.same come) in
      let found = looked_up s sound first events h (model_reply.Read t) looked.after b q x old bytes history few kept newer some issued_follows in
      let ticket_is : found.0 ≡ t = (let e : model_reply.Read t ≡ model_reply.Read found.0 = found.1 in cc) in
      let hash : t.hash ≡ h = ap (λ z. z.hash) (sym ticket_is) ∙ found.2 in
      let steps : w.core.steps ≡ old.steps = history.stands.steps in
      let counted : looked.after.steps ≡ w.core.steps + 1 = ap (λ z. z.steps) ((issued_follows.2).2) in
      let early : looked.after.steps < last_number = omega arith in
      let reached : IsReached rules Splits is_value w = record { first = first; events = events; opened = history.opened; happened = history.happened; is = refl } in
      let gone = reached_more rules Splits is_value w (begin ∷ ReadBegins k ∷ ReadEnds k result ∷ []) reached ((tt, issued_follows), (tt, (stands_read, tt))) in
      let answered = loads_newest_lem rules Splits is_value u t result met.it met.after k has b q x (demands m.is_key m.is_value s sound) gone
      ((k, has, read, refl, refl), met.follows) early read refl refl
      (ap w.kept hash ∙ kept)
      (ap (λ j. newest j w.history) hash ∙ newer ∙ ap (λ j. Some (Put j q x)) (sym hash)) in
      put_or_fault x answer met.it met.reply (given t result x met.it some answered)
