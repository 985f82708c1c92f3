-- What leads a core to rest: the steps of a flush, one after the other.
use Rattle.std.proofs.Common.{◌≡◌, ◌≢◌, ℕ, ◌+◌, ◌<◌, ◌⊎◌, Bool, true, false, List, [], ◌∷◌, Option, inl, inr, refl, sym, ap, subst, ◌∙◌, arith}
use Rattle.std.proofs.lemmas.Bool.{cases_lt}
use Rattle.foyer_core_model.specs.Destroy.{IsIdle}
use Rattle.foyer_core_model.specs.Follows.{Follows}
use Rattle.foyer_core_model.specs.Receive.{HasReceived, TakesFront}
use Rattle.foyer_core_model.specs.Reply as model_reply
use Rattle.foyer_core_model.specs.State.{Flusher, State}
use Rattle.foyer_core_model.specs.Step as model_step
use Rattle.foyer_core_laws.specs.Content.{Content, Meaning}
use Rattle.foyer_core_laws.specs.CoreRules.{layout, machine}
use Rattle.foyer_core_laws.specs.Sizes.{AreValid}
use Rattle.foyer_core_laws.specs.Settings.{Settings}
use Rattle.foyer_core_steps.specs.Asked.{step_of, went_well}
use Rattle.foyer_core_steps.specs.Refines.{IsHandedBack, Refines}
use Rattle.foyer_core_steps.specs.Replied.{IsReply}
use Rattle.foyer_core_steps.specs.StateOf.{IsStateOf}
use Rattle.foyer_core_steps.specs.declared.reply.Reply.{Reply}
use Rattle.foyer_core_steps.specs.declared.reply.Reply.TheVariants as reply
use Rattle.foyer_core_steps.specs.declared.state.Core.{Core}
use Rattle.foyer_core_steps.specs.declared.step.Step.{Step}
use Rattle.foyer_core_steps.specs.declared.step.Step.TheVariants as step
use Rattle.foyer_core_steps.proofs.RefinesLemmas.{IsOrdinary}
use Rattle.foyer_core_run.specs.Accesses.{AsksNoMore}
use Rattle.foyer_core_run.specs.AtRest.{BeginsNone, ComesToRest, EndsBatch, EndsBatchOnce, KeepsOthers, KeepsIdle, KeepsOthersIdle, Leads, LeavesAllIdle, LeavesIdle, LeavesIdleBelow, MayNotBegin, TakesQueue, TakesQueueIf, Without}
use Rattle.foyer_core_run.proofs.FlusherSteps.{begins_none_more, described_next, finishes_ends, follows_keep, keeps_more, keeps_same, receives_none, takes_empty, wrote_next}
use Rattle.foyer_core_run.proofs.IdleLemmas.{idle_in_each}
use Rattle.foyer_core_run.proofs.ReplyLemmas.{ordinary}

-- a reply that says that there was nothing to do
abbrev pub SaysNothing : {K V P A : Type 0} → Reply K V P A → Type 0
SaysNothing (reply.NotNow back) = Unit {0}
SaysNothing reply.Empty = Unit {0}
SaysNothing answer = ⊥

none_received : {X : Type 0} (xs : List X) → (xs ≢ [] → ⊥) → xs ≡ []
none_received [] none = refl
none_received (x ∷ xs) none = absurd (none (λ e. let f : x ∷ xs ≡ [] = e in cc))

-- an idle flusher has received nothing
idle_unreceived : {C : Type 0} (φ : Flusher C) → IsIdle φ → HasReceived φ → ⊥
idle_unreceived φ idle (inl some) = some idle.1
idle_unreceived φ idle (inr (inl some)) = some idle.2
idle_unreceived φ idle (inr (inr some)) = some idle.3

-- any two states
abbrev pub IsAny : State Content → State Content → Type 0
IsAny it after = Unit {0}

module _ {K V P A : Type 0} (m : Meaning K V P) where
  pub comes_to_rest : (a b : Core K V P A) → Leads m LeavesAllIdle a b → ComesToRest m a b
  comes_to_rest a b leads = λ s sound it at f s' it' at'.
      let led = leads s sound it at in
      idle_in_each m b s s' led.0 it' f led.1 at' (led.2 f)

  -- also from what leads there
  pub rest_after : (R : State Content → State Content → Type 0) (a b c : Core K V P A) → Leads m R a b → ComesToRest m b c → ComesToRest m a c
  rest_after R a b c leads rest = λ s sound it at. let led = leads s sound it at in rest s sound led.0 led.1

  -- nothing happens
  pub leads_none : (R : State Content → State Content → Type 0) (core : Core K V P A) → ((it : State Content) → R it it) → Leads m R core core
  leads_none R core same = λ s sound it at. (it, at, same it)

  -- one after the other
  pub leads_more : (Q R T : State Content → State Content → Type 0) (a b c : Core K V P A) → ((x y z : State Content) → Q x y → R y z → T x z)
      → Leads m Q a b → Leads m R b c → Leads m T a c
  leads_more Q R T a b c join one two = λ s sound it at.
      let first = one s sound it at in
      let second = two s sound first.0 first.1 in
      (second.0, second.1, join it first.0 second.0 first.2 second.2)

  -- whatever the states are
  pub any_none : (core : Core K V P A) → Leads m IsAny core core
  any_none core = leads_none IsAny core (λ it. tt)

  pub step_leads : (given : Step K V P A) (answer : Reply K V P A) (a b : Core K V P A) → Refines m given answer a b → Leads m IsAny a b
  step_leads given answer a b refines = λ s sound it at. let met = refines s sound it at in (met.after, met.stands, tt)

  pub any_more : (given : Step K V P A) (answer : Reply K V P A) (a b c : Core K V P A) → Leads m IsAny a b → Refines m given answer b c → Leads m IsAny a c
  any_more given answer a b c led refines = leads_more IsAny IsAny IsAny a b c (λ x y z one two. tt) led (step_leads given answer b c refines)

  module _ (f : ℕ) (answer : Reply K V P A) (a b : Core K V P A) where
    -- what is received begins no batch
    pub receive_leads : Refines m (step.Receive f) answer a b → Leads m (BeginsNone f) a b
    receive_leads refines = λ s sound it at.
        let met = refines s sound it at in
        (met.after, met.stands, receives_none (machine m s sound) (layout s) it met.after f met.it met.follows)

    -- and if nothing is received, the queue is empty
    pub receive_ends : SaysNothing answer → Refines m (step.Receive f) answer a b → Leads m (TakesQueue f) a b
    receive_ends nothing refines = λ s sound it at.
        let met = refines s sound it at in
        (met.after, met.stands, (receives_none (machine m s sound) (layout s) it met.after f met.it met.follows, go s sound it at answer nothing met.it met.reply met.after met.follows))
      where
        beyond : (s : Settings) (it : State Content) → IsStateOf m s a it → (f < s.flushers → ⊥) → (it.flushers f).queue ≡ []
        beyond s it at not = elim (cases_lt f s.flushers) [ inl lt ↦ absurd (not lt) | inr le ↦ ((at.flushers).beyond f le).0 ]

        taken : (s : Settings) (sound : AreValid s) (it done : State Content) (queue : _) → queue ≡ [] → TakesFront (machine m s sound) it f queue model_reply.Empty done → (done.flushers f).queue ≡ (it.flushers f).queue
        taken s sound it done queue e ok =
            let same : done ≡ it = subst (λ q. TakesFront (machine m s sound) it f q model_reply.Empty done) e ok in
            ap (λ k. (k.flushers f).queue) same

        none_taken : (s : Settings) (sound : AreValid s) (it after : State Content) → Follows (machine m s sound) (layout s) it (model_step.Receive f) model_reply.Empty after → (after.flushers f).queue ≡ []
        none_taken s sound it after (few, turn, (done, does, eq)) =
            let empty = takes_empty (machine m s sound) it done f (it.flushers f).queue does in
            ap (λ k. (k.flushers f).queue) eq ∙ taken s sound it done (it.flushers f).queue empty does ∙ empty

        go : (s : Settings) (sound : AreValid s) (it : State Content) → IsStateOf m s a it → (said : Reply K V P A) → SaysNothing said → (r : model_reply.Reply Content) → IsReply m said r → (after : State Content)
            → Follows (machine m s sound) (layout s) it (model_step.Receive f) r after → (after.flushers f).queue ≡ []
        go s sound it at (reply.NotNow back) nothing r is after follows =
            let late = subst (λ k. Follows (machine m s sound) (layout s) it (model_step.Receive f) k after) is follows in
            ap (λ k. (k.flushers f).queue) late.2 ∙ beyond s it at ((late.1).2)
        go s sound it at reply.Empty nothing r is after follows =
            let done = subst (λ k. Follows (machine m s sound) (layout s) it (model_step.Receive f) k after) is follows in
            none_taken s sound it after done
        go s sound it at said nothing r is after follows = absurd nothing

    -- a batch that isn't begun: there is one, or nothing was received
    pub begin_not : SaysNothing answer → Refines m (step.FlushBegin f) answer a b → Leads m (MayNotBegin f) a b
    begin_not nothing refines = λ s sound it at.
        let met = refines s sound it at in
        (met.after, met.stands, go s sound it at answer nothing met.it met.reply met.after met.follows)
      where
        never : (s : Settings) (sound : AreValid s) (it after : State Content) → Follows (machine m s sound) (layout s) it (model_step.FlushBegin f) model_reply.Empty after → ⊥
        never s sound it after (few, turn, (done, does, eq)) = does

        go : (s : Settings) (sound : AreValid s) (it : State Content) → IsStateOf m s a it → (said : Reply K V P A) → SaysNothing said → (r : model_reply.Reply Content) → IsReply m said r → (after : State Content)
            → Follows (machine m s sound) (layout s) it (model_step.FlushBegin f) r after → MayNotBegin f it after
        go s sound it at (reply.NotNow back) nothing r is after follows =
            let late = subst (λ k. Follows (machine m s sound) (layout s) it (model_step.FlushBegin f) k after) is follows in (
              late.2,
              λ none received. elim (cases_lt f s.flushers) [
                | inl lt ↦ (late.1).2 (lt, none, received)
                | inr le ↦ idle_unreceived (it.flushers f) ((at.flushers).beyond f le) received
              ],
            )
        go s sound it at reply.Empty nothing r is after follows =
            absurd (never s sound it after (subst (λ k. Follows (machine m s sound) (layout s) it (model_step.FlushBegin f) k after) is follows))
        go s sound it at said nothing r is after follows = absurd nothing

    pub begin_keeps : Refines m (step.FlushBegin f) answer a b → Leads m (KeepsOthers f) a b
    begin_keeps refines = λ s sound it at.
        let met = refines s sound it at in
        (met.after, met.stands, follows_keep (machine m s sound) (layout s) it met.after f (model_step.FlushBegin f) met.it refl met.follows)

    pub wait_keeps : (id : ℕ) → Refines m (step.Wait f id) answer a b → Leads m (KeepsOthers f) a b
    wait_keeps id refines = λ s sound it at.
        let met = refines s sound it at in
        (met.after, met.stands, follows_keep (machine m s sound) (layout s) it met.after f (model_step.Wait f id) met.it refl met.follows)

    pub block_keeps : Refines m (step.FlushBlock f) answer a b → Leads m (KeepsOthers f) a b
    block_keeps refines = λ s sound it at.
        let met = refines s sound it at in
        (met.after, met.stands, follows_keep (machine m s sound) (layout s) it met.after f (model_step.FlushBlock f) met.it refl met.follows)

    -- a batch that is ended is over
    pub end_leads : (IsHandedBack answer → ⊥) → Refines m (step.FlushEnd f) answer a b → Leads m (EndsBatch f) a b
    end_leads not refines = λ s sound it at.
        let met = refines s sound it at in
        (met.after, met.stands, go s sound it met.after met.it (ordinary m answer met.it not met.reply) met.follows)
      where
        go : (s : Settings) (sound : AreValid s) (it after : State Content) (r : model_reply.Reply Content) → IsOrdinary r
            → Follows (machine m s sound) (layout s) it (model_step.FlushEnd f) r after → EndsBatch f it after
        go s sound it after (model_reply.NotNow back) is follows = absurd is
        go s sound it after (model_reply.Refused k back) is follows = absurd is
        go s sound it after r is (few, turn, (done, does, eq)) =
            let ends = finishes_ends (machine m s sound) it done f (it.flushers f).batch r does in
            (λ g ne. ap (λ k. k.flushers g) eq ∙ ends.0 g ne, ap (λ k. (k.flushers f).batch) eq ∙ ends.1)

  -- one more write is reported
  pub report_more : (f : ℕ) (outcome : _) (answer : Reply K V P A) (a b c : Core K V P A) → Leads m (KeepsOthers f) a b → Refines m (step.FlushWrote f outcome) answer b c → Leads m (KeepsOthers f) a c
  report_more f outcome answer a b c led refines =
      leads_more (KeepsOthers f) (KeepsOthers f) (KeepsOthers f) a b c (keeps_more f) led (λ s sound it at.
      let met = refines s sound it at in
      (met.after, met.stands, follows_keep (machine m s sound) (layout s) it met.after f (model_step.FlushWrote f (went_well outcome)) met.it refl met.follows))

  asks_by : (given : Step K V P A) (f : ℕ) (answer : Reply K V P A) (a b c : Core K V P A) (R : State Content → State Content → Type 0) → Leads m R a b → Refines m given answer b c
      → ((s : Settings) (sound : AreValid s) (it after : State Content) → Follows (machine m s sound) (layout s) it (step_of m given) model_reply.Next after → ⊥)
      → AsksNoMore m a answer
  asks_by given f answer a b c R leads refines never = λ s sound it at next.
      let led = leads s sound it at in
      let met = refines s sound led.0 led.1 in
      let is : met.it ≡ model_reply.Next = subst (λ r. IsReply m r met.it) next met.reply in
      never s sound led.0 met.after (subst (λ r. Follows (machine m s sound) (layout s) led.0 (step_of m given) r met.after) is met.follows)

  -- a report that ends a block's writes
  pub report_asks : (f : ℕ) (outcome : _) (answer : Reply K V P A) (a b c : Core K V P A) → Leads m (KeepsOthers f) a b → Refines m (step.FlushWrote f outcome) answer b c
      → (went_well outcome ≡ false) ⊎ (answer ≡ reply.Next → ⊥) → AsksNoMore m a answer
  report_asks f outcome answer a b c leads refines (inr not) = λ s sound it at next. not next
  report_asks f outcome answer a b c leads refines (inl failed) =
      asks_by (step.FlushWrote f outcome) f answer a b c (KeepsOthers f) leads refines (λ s sound it after follows. wrote_next (machine m s sound) (layout s) it after f (went_well outcome) failed follows)

  -- and a block that isn't to be had
  pub block_asks : (f : ℕ) (answer : Reply K V P A) (a b : Core K V P A) → Refines m (step.FlushBlock f) answer a b → AsksNoMore m a answer
  block_asks f answer a b refines =
      asks_by (step.FlushBlock f) f answer a a b IsAny (any_none a) refines (λ s sound it after follows. described_next (machine m s sound) (layout s) it after f follows)

-- one relation after another

-- a flusher that has what it had is idle if it was
pub keeps_idle : {C F : Type 0} (filter : Option F) (f : ℕ) (x y : State C) → KeepsOthers f x y → KeepsOthersIdle filter f x y
keeps_idle filter f x y keeps none g ne idle = subst IsIdle (sym (keeps g ne)) idle

idle_more : {C F : Type 0} (filter : Option F) (f : ℕ) (x y z : State C) → KeepsOthersIdle filter f x y → KeepsOthersIdle filter f y z → KeepsOthersIdle filter f x z
idle_more filter f x y z one two none g ne idle = two none g ne (one none g ne idle)

takes_then : {C : Type 0} (f : ℕ) (x y z : State C) → BeginsNone f x y → TakesQueue f y z → TakesQueue f x z
takes_then f x y z one two = (begins_none_more f x y z one two.0, two.1)

-- what a turn of a flush did before, and what it takes
once_then : {C F : Type 0} (filter : Option F) (has_ended : Bool) (f : ℕ) (x y z : State C) → EndsBatchOnce filter has_ended f x y → TakesQueue f y z
    → EndsBatchOnce filter has_ended f x z × ((z.flushers f).queue ≡ [])
once_then filter has_ended f x y z one two = ((idle_more filter f x y z one.0 (keeps_idle filter f y z (two.0).0), λ ended. (two.0).1 (one.1 ended)), two.1)

-- after a batch that is over, with an empty queue, a flusher that may not begin is idle
idle_then : {C F : Type 0} (filter : Option F) (has_ended : Bool) → has_ended ≡ true → (f : ℕ) (x y z : State C)
    → EndsBatchOnce filter has_ended f x y × ((y.flushers f).queue ≡ []) → MayNotBegin f y z → LeavesIdle filter f x z
idle_then filter has_ended ended f x y z one two =
    let none = (one.0).1 ended in
    let unreceived = two.1 none in
    let idle : IsIdle (y.flushers f) = (
      one.1,
      none_received (y.flushers f).buffer (λ some. unreceived (inl some)),
      none_received (y.flushers f).marks (λ some. unreceived (inr (inl some))),
      none_received (y.flushers f).waits (λ some. unreceived (inr (inr some))),
      none,
    ) in
    (idle_more filter f x y z (one.0).0 (keeps_idle filter f y z (keeps_same f y z two.0)), subst (λ k. IsIdle (k.flushers f)) (sym two.0) idle)

ended_then : {C F : Type 0} (filter : Option F) (f : ℕ) (x y z : State C) → KeepsOthersIdle filter f x y → EndsBatch f y z → EndsBatchOnce filter true f x z
ended_then filter f x y z one two = (idle_more filter f x y z one (keeps_idle filter f y z two.0), λ ended. two.1)

-- one more flusher is idle
below_then : {C F : Type 0} (filter : Option F) (n next : ℕ) → next ≡ n + 1 → (x y z : State C) → LeavesIdleBelow filter n x y → LeavesIdle filter n y z → LeavesIdleBelow filter next x z
below_then filter n next e x y z one two = λ none f lt.
    elim (cases_lt f n) [
      | inl less ↦ two.0 none f (λ same. absurd (omega (arith, less, same))) (one none f less)
      | inr more ↦ let same : f ≡ n = omega (arith, lt, more, e) in subst (λ g. IsIdle (z.flushers g)) (sym same) two.1
    ]

-- so are all
pub all_idle : {K V P A F : Type 0} (m : Meaning K V P) (filter : Option F) (a b : Core K V P A) (n : ℕ) → n ≡ a.settings.flushers → Leads m (LeavesIdleBelow filter n) a b
    → Leads m (Without filter LeavesAllIdle) a b
all_idle m filter a b n is leads = λ s sound it at.
    let led = leads s sound it at in
    let count : n ≡ s.flushers = is ∙ ap (λ k. k.flushers) at.sizes in (
      led.0,
      led.1,
      λ none f. elim (cases_lt f n) [
        | inl lt ↦ led.2 none f lt
        | inr le ↦ ((led.1).flushers).beyond f (omega (arith, le, count))
      ],
    )

module _ {K V P A : Type 0} (m : Meaning K V P) (f : ℕ) (a b c : Core K V P A) where
  module _ (answer : Reply K V P A) where
    -- one more piece is received
    pub receive_more : Leads m (BeginsNone f) a b → Refines m (step.Receive f) answer b c → Leads m (BeginsNone f) a c
    receive_more led refines = leads_more m (BeginsNone f) (BeginsNone f) (BeginsNone f) a b c (begins_none_more f) led (receive_leads m f answer b c refines)

    -- and then none is left
    pub receive_over : SaysNothing answer → Leads m (BeginsNone f) a b → Refines m (step.Receive f) answer b c → Leads m (TakesQueue f) a c
    receive_over nothing led refines = leads_more m (BeginsNone f) (TakesQueue f) (TakesQueue f) a b c (takes_then f) led (receive_ends m f answer b c nothing refines)

  -- one more flusher is idle
  pub flusher_more : {F : Type 0} (filter : Option F) (next : ℕ) → next ≡ f + 1 → Leads m (LeavesIdleBelow filter f) a b → Leads m (LeavesIdle filter f) b c → Leads m (LeavesIdleBelow filter next) a c
  flusher_more filter next is led idle = leads_more m (LeavesIdleBelow filter f) (LeavesIdle filter f) (LeavesIdleBelow filter next) a b c (below_then filter f next is) led idle

-- the same, with a flag that says whether the queue is taken up to its end
pub takes_all : {K V P A : Type 0} (m : Meaning K V P) (f : ℕ) (a b : Core K V P A) → Leads m (TakesQueue f) a b → Leads m (TakesQueueIf true f) a b
takes_all m f a b led = λ s sound it at. let l = led s sound it at in (l.0, l.1, (l.2.0, λ is. l.2.1))

pub takes_some : {K V P A : Type 0} (m : Meaning K V P) (f : ℕ) (a b : Core K V P A) → Leads m (BeginsNone f) a b → Leads m (TakesQueueIf false f) a b
takes_some m f a b led = λ s sound it at. let l = led s sound it at in (l.0, l.1, (l.2, λ is. absurd (let e : false ≡ true = is in cc)))

took_all : {K V P A : Type 0} (m : Meaning K V P) (f : ℕ) (is_empty : Bool) (a b : Core K V P A) → is_empty ≡ true → Leads m (TakesQueueIf is_empty f) a b → Leads m (TakesQueue f) a b
took_all m f is_empty a b empty led = λ s sound it at. let l = led s sound it at in (l.0, l.1, (l.2.0, l.2.1 empty))

-- a turn of a flush, up to its batch: from what the turns before did, the queue is taken
module _ {K V P A F : Type 0} (m : Meaning K V P) (filter : Option F) (f : ℕ) (has_ended is_empty : Bool) (a b c d : Core K V P A) (led : Leads m (EndsBatchOnce filter has_ended f) a b)
    (taken : Leads m (TakesQueueIf is_empty f) b c) where
  -- and a batch may not begin
  pub flush_over : (begun : Reply K V P A) → has_ended ≡ true → is_empty ≡ true → SaysNothing begun → Refines m (step.FlushBegin f) begun c d → Leads m (LeavesIdle filter f) a d
  flush_over begun ended empty nothing begins =
      leads_more m (λ x y. EndsBatchOnce filter has_ended f x y × ((y.flushers f).queue ≡ [])) (MayNotBegin f) (LeavesIdle filter f) a c d (idle_then filter has_ended ended f)
      (leads_more m (EndsBatchOnce filter has_ended f) (TakesQueue f) (λ x y. EndsBatchOnce filter has_ended f x y × ((y.flushers f).queue ≡ [])) a b c (once_then filter has_ended f) led (took_all m f is_empty b c empty taken))
      (begin_not m f begun c d nothing begins)

  -- or one begins and goes on to its end
  pub flush_more : Leads m (KeepsOthers f) c d → (ended : Reply K V P A) (e g : Core K V P A) → (IsHandedBack ended → ⊥) → Leads m (KeepsOthersIdle filter f) d e → Refines m (step.FlushEnd f) ended e g
      → Leads m (EndsBatchOnce filter true f) a g
  flush_more begins ended e g not written ends =
      leads_more m (KeepsOthersIdle filter f) (EndsBatch f) (EndsBatchOnce filter true f) a e g (ended_then filter f)
      (leads_more m (KeepsOthersIdle filter f) (KeepsOthersIdle filter f) (KeepsOthersIdle filter f) a d e (idle_more filter f)
      (leads_more m (KeepsOthersIdle filter f) (KeepsOthers f) (KeepsOthersIdle filter f) a c d (λ x y z one two. idle_more filter f x y z one (keeps_idle filter f y z two))
      (leads_more m (EndsBatchOnce filter has_ended f) (TakesQueueIf is_empty f) (KeepsOthersIdle filter f) a b c (λ x y z one two. idle_more filter f x y z one.0 (keeps_idle filter f y z (two.0).0)) led taken)
      begins) written)
      (end_leads m f ended e g not ends)
