-- What the briefs of a session say of its calls.
use Rattle.std.proofs.Common.{◌≡◌, ◌⊎◌, ℕ, Bool, true, List, vec_len, None, Some, Result, Err, inl, inr, sym, ap, subst, ◌∙◌}
use Rattle.std.specs.declared.vec.Vec.{Vec}
use Rattle.std.specs.Result.{IfOk}
use Rattle.foyer_core_shared.specs.Answers.{IsAnswer}
use Rattle.foyer_core_shared.specs.Reply.{Reply}
use Rattle.foyer_core_shared.specs.Reply.TheVariants as reply
use Rattle.foyer_core_shared.specs.Step.{Step}
use Rattle.foyer_core_shared.specs.Step.TheVariants as step
use Rattle.foyer_core_shared.specs.Ticket.{Ticket}
use Rattle.foyer_device_page.specs.declared.error.Error.{Error}
use Rattle.foyer_device_page.specs.declared.error.Error.TheVariants as error
use Rattle.foyer_device_page.specs.declared.error.ErrorKind.TheVariants as kind
use Rattle.foyer_storage_engine.specs.declared.load.Load.{Load}
use Rattle.foyer_core_shared.specs.Briefed.{IsNotedIn}
use Rattle.foyer_core_shared.specs.Briefs.{brief_of, len_of, reply_brief}
use Rattle.foyer_core_shared.specs.declared.brief.ReplyBrief.TheVariants as replied
use Rattle.foyer_core_shared.specs.declared.brief.StepBrief.TheVariants as asked
use Rattle.foyer_core_shared.specs.Sessions.{SessionState}
use Rattle.foyer_core_shared.specs.Kinds.{kind_in}
use Rattle.foyer_storage_engine.specs.Answering.{IsEndOf, IsLoadAs, IsLoadOf, IsLoaded, IsPairOf, IsRead}
use Rattle.foyer_core_tally.specs.Tally.{grown}

module _ {K V P A : Type 0} where
  -- what a load's last reply is answered as is what its brief says
  pub load_as : (answer : Reply K V P A) (result : Result (Load K V P A) Error) → IsLoadOf answer result → IsLoadAs (reply_brief answer) result
  load_as (reply.Entry key value age) result is = subst (IsLoadAs replied.Entry) (sym is) tt
  load_as (reply.NotNow back) result is = is
  load_as (reply.Refused kind back) result is = is
  load_as (reply.Ignored piece) result is = is
  load_as (reply.Queued sequence) result is = is
  load_as (reply.Dropped piece sequence) result is = is
  load_as (reply.Deleted sequence) result is = is
  load_as reply.Done result is = is
  load_as (reply.Answer answer) result is = is
  load_as reply.Miss result is = is
  load_as reply.Throttled result is = is
  load_as (reply.Read ticket) result is = is
  load_as reply.Empty result is = is
  load_as (reply.Received None) result is = is
  load_as (reply.Received (Some piece)) result is = is
  load_as (reply.Began blocks marks) result is = is
  load_as (reply.Write block writes) result is = is
  load_as reply.NoBlock result is = is
  load_as reply.Next result is = is
  load_as (reply.Committed puts) result is = is
  load_as reply.Failed result is = is
  load_as (reply.Ended pieces waits) result is = is
  load_as (reply.Picked block answers probation) result is = is
  load_as (reply.Scan block offset len verdicts) result is = is
  load_as (reply.Listed verdicts) result is = is
  load_as (reply.Clean block) result is = is
  load_as (reply.Destroying sequence) result is = is
  load_as reply.Cleared result is = is
  load_as (reply.Destroyed first) result is = is

  pub refused_load : (answer : Reply K V P A) (given : Step K V P A) (result : Result (Load K V P A) Error) → answer ≡ reply.Refused kind.Memory given → IsLoadOf answer result → result ≡ Err error.Memory
  refused_load answer given result is load = subst (λ r. IsLoadOf r result) is load

module _ {K V P A : Type 0} (is_key is_value : List ℕ → Bool) (key_of : K → List ℕ) (value_of : V → List ℕ) where
  -- the pair of an entry that a load answers is that of the bytes which its step brought
  pub pair_as : (given : Step K V P A) (answer : Reply K V P A) (result : Result (Load K V P A) Error)
      → IsAnswer is_key is_value key_of value_of given answer → IsLoadOf answer result → IsPairOf is_key is_value key_of value_of given result
  pair_as given (reply.Entry key value age) result brings is = subst (IsPairOf is_key is_value key_of value_of given) (sym is) brings
  pair_as given (reply.NotNow back) result brings is = subst (IsPairOf is_key is_value key_of value_of given) (sym is) tt
  pair_as given (reply.Refused kind back) result brings is = subst (IsPairOf is_key is_value key_of value_of given) (sym is) tt
  pair_as given (reply.Ignored piece) result brings is = subst (IsPairOf is_key is_value key_of value_of given) (sym is) tt
  pair_as given (reply.Queued sequence) result brings is = subst (IsPairOf is_key is_value key_of value_of given) (sym is) tt
  pair_as given (reply.Dropped piece sequence) result brings is = subst (IsPairOf is_key is_value key_of value_of given) (sym is) tt
  pair_as given (reply.Deleted sequence) result brings is = subst (IsPairOf is_key is_value key_of value_of given) (sym is) tt
  pair_as given reply.Done result brings is = subst (IsPairOf is_key is_value key_of value_of given) (sym is) tt
  pair_as given (reply.Answer answer) result brings is = subst (IsPairOf is_key is_value key_of value_of given) (sym is) tt
  pair_as given reply.Miss result brings is = subst (IsPairOf is_key is_value key_of value_of given) (sym is) tt
  pair_as given reply.Throttled result brings is = subst (IsPairOf is_key is_value key_of value_of given) (sym is) tt
  pair_as given (reply.Read ticket) result brings is = subst (IsPairOf is_key is_value key_of value_of given) (sym is) tt
  pair_as given reply.Empty result brings is = subst (IsPairOf is_key is_value key_of value_of given) (sym is) tt
  pair_as given (reply.Received None) result brings is = subst (IsPairOf is_key is_value key_of value_of given) (sym is) tt
  pair_as given (reply.Received (Some piece)) result brings is = subst (IsPairOf is_key is_value key_of value_of given) (sym is) tt
  pair_as given (reply.Began blocks marks) result brings is = subst (IsPairOf is_key is_value key_of value_of given) (sym is) tt
  pair_as given (reply.Write block writes) result brings is = subst (IsPairOf is_key is_value key_of value_of given) (sym is) tt
  pair_as given reply.NoBlock result brings is = subst (IsPairOf is_key is_value key_of value_of given) (sym is) tt
  pair_as given reply.Next result brings is = subst (IsPairOf is_key is_value key_of value_of given) (sym is) tt
  pair_as given (reply.Committed puts) result brings is = subst (IsPairOf is_key is_value key_of value_of given) (sym is) tt
  pair_as given reply.Failed result brings is = subst (IsPairOf is_key is_value key_of value_of given) (sym is) tt
  pair_as given (reply.Ended pieces waits) result brings is = subst (IsPairOf is_key is_value key_of value_of given) (sym is) tt
  pair_as given (reply.Picked block answers probation) result brings is = subst (IsPairOf is_key is_value key_of value_of given) (sym is) tt
  pair_as given (reply.Scan block offset len verdicts) result brings is = subst (IsPairOf is_key is_value key_of value_of given) (sym is) tt
  pair_as given (reply.Listed verdicts) result brings is = subst (IsPairOf is_key is_value key_of value_of given) (sym is) tt
  pair_as given (reply.Clean block) result brings is = subst (IsPairOf is_key is_value key_of value_of given) (sym is) tt
  pair_as given (reply.Destroying sequence) result brings is = subst (IsPairOf is_key is_value key_of value_of given) (sym is) tt
  pair_as given reply.Cleared result brings is = subst (IsPairOf is_key is_value key_of value_of given) (sym is) tt
  pair_as given (reply.Destroyed first) result brings is = subst (IsPairOf is_key is_value key_of value_of given) (sym is) tt

abbrev begin : {K V P A : Type 0} → ℕ → Bool → Step K V P A
begin hash throttled = step.LoadBegin hash throttled

module _ {K V P A : Type 0} (is_key is_value : List ℕ → Bool) (key_of : K → List ℕ) (value_of : V → List ℕ) (keeps : Bool) where
  -- the session has the step with this reply, or the step was refused for its note
  abbrev IsMade : SessionState → SessionState → Step K V P A → Reply K V P A → Type 0
  IsMade old new given answer = IsNotedIn old new given answer ⊎ ((keeps ≡ true) × (answer ≡ reply.Refused kind.Memory given) × (new ≡ old))

  -- a look-up without a ticket
  pub looked_up : (read_by : Ticket → Result (Vec ℕ A) Error → Type 0) (old new : SessionState) (hash : ℕ) (throttled : Bool) (answer : Reply K V P A) (result : Result (Load K V P A) Error)
      → IsMade old new (step.LoadBegin hash throttled) answer → IsAnswer is_key is_value key_of value_of (step.LoadBegin hash throttled) answer
      → (IsRead (reply_brief answer) → ⊥) → IsLoadOf answer result → IsLoaded is_key is_value key_of value_of read_by keeps old new hash throttled result
  looked_up read_by old new hash throttled answer result (inl noted) answers unread is = inl (record {
    answer = reply_brief answer;
    noted = record { newest = noted.newest; counted = noted.counted };
    before = noted.before;
    unread = unread;
    said = load_as answer result is;
    pair = pair_as is_key is_value key_of value_of (step.LoadBegin hash throttled) answer result answers is;
  })
  looked_up read_by old new hash throttled answer result (inr none) answers unread is =
      inr (inr (inr ((none.0, refused_load answer (step.LoadBegin hash throttled) result none.1 is, none.2))))

  -- one that got a ticket was noted
  got_ticket : (old new : SessionState) (hash : ℕ) (throttled : Bool) (ticket : Ticket) (answer : Reply K V P A) → answer ≡ reply.Read ticket
      → IsMade old new (step.LoadBegin hash throttled) answer → IsNotedIn old new (begin {K = K} {V = V} {P = P} {A = A} hash throttled) answer
  got_ticket old new hash throttled ticket answer is (inl noted) = noted
  got_ticket old new hash throttled ticket answer is (inr none) =
      let clash : ◌≡◌ {A = Reply K V P A} (reply.Read ticket) (reply.Refused kind.Memory (begin {K = K} {V = V} {P = P} {A = A} hash throttled)) = sym is ∙ none.1 in absurd cc

  -- the end of a load, or one that found no room for its note
  pub end_of : (old new : SessionState) (ticket : Ticket) (came : Result (Vec ℕ A) Error) (last : Reply K V P A) (result : Result (Load K V P A) Error)
      → IsMade old new (step.LoadEnd ticket came) last → IsAnswer is_key is_value key_of value_of (step.LoadEnd ticket came) last → IsLoadOf last result
      → IsEndOf is_key is_value key_of value_of keeps old new ticket came result
  end_of old new ticket came last result (inl noted) answers load = inl (record {
    answer = reply_brief last;
    noted = record { newest = noted.newest; counted = noted.counted };
    before = noted.before;
    said = load_as last result load;
    pair = pair_as is_key is_value key_of value_of (step.LoadEnd ticket came) last result answers load;
  })
  end_of old new ticket came last result (inr none) answers load = inr ((none.0, refused_load last (step.LoadEnd ticket came) result none.1 load, none.2))

  -- a load that was ended so
  pub ended : (read_by : Ticket → Result (Vec ℕ A) Error → Type 0) (old between new : SessionState) (hash : ℕ) (throttled : Bool) (ticket : Ticket) (came : Result (Vec ℕ A) Error) (first : Reply K V P A)
      (result : Result (Load K V P A) Error) → first ≡ reply.Read ticket → IsMade old between (step.LoadBegin hash throttled) first
      → IsAnswer is_key is_value key_of value_of (step.LoadBegin hash throttled) first → IfOk came (λ bytes. vec_len bytes ≡ ticket.address.len) → read_by ticket came
      → IsEndOf is_key is_value key_of value_of keeps between new ticket came result → IsLoaded is_key is_value key_of value_of read_by keeps old new hash throttled result
  ended read_by old between new hash throttled ticket came first result is made looks len read (inl end) =
      let begun = got_ticket old between hash throttled ticket first is made in
      inr (inr (inl (record {
        ticket = ticket;
        came = came;
        answer = end.answer;
        noted = record { newest = end.noted.newest; counted = end.noted.counted ∙ ap (grown (kind_in (asked.LoadEnd ticket (len_of came)) end.answer)) (begun.counted ∙ ap (λ r. grown (kind_in (asked.LoadBegin hash throttled) (reply_brief r)) old.shares.amounts) is) };
        before = end.before ∙ begun.newest ∙ ap (λ r. Some (brief_of (begin {K = K} {V = V} {P = P} {A = A} hash throttled) r)) is;
        said = end.said;
        own = subst (IsAnswer is_key is_value key_of value_of (step.LoadBegin hash throttled)) is looks;
        len = len;
        read = read;
        pair = end.pair;
      })))
  ended read_by old between new hash throttled ticket came first result is made looks len read (inr none) =
      let begun = got_ticket old between hash throttled ticket first is made in
      inr (inl (record {
        ticket = ticket;
        noted = record {
          newest = ap (λ (s : SessionState). s.newest) none.2 ∙ begun.newest ∙ ap (λ r. Some (brief_of (begin {K = K} {V = V} {P = P} {A = A} hash throttled) r)) is;
          counted = ap (λ (s : SessionState). s.shares.amounts) none.2 ∙ begun.counted ∙ ap (λ r. grown (kind_in (asked.LoadBegin hash throttled) (reply_brief r)) old.shares.amounts) is;
        };
        before = ap (λ (s : SessionState). s.before) none.2 ∙ begun.before;
        said = none.1;
      }))
