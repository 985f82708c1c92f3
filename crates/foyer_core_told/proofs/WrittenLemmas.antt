-- What has left its flusher is written, by what a history tells.
use Rattle.std.proofs.Common.{◌≡◌, ◌⊎◌, inl, inr, ℕ, suc, ◌+◌, ◌≤◌, ◌%◌, true, true≢false, List, [], ◌∷◌, ◌++◌, Option, Some, None, refl, sym, ap, ◌∙◌, subst, append_assoc, arith}
use Rattle.foyer_core_model.specs.World.{World, WorldEvent, Applies, MayAllHappen, after, after_all}
use Rattle.foyer_core_model.specs.Step as model_step
use Rattle.foyer_core_model.specs.Reply as model_reply
use Rattle.foyer_core_model.specs.State.{Batch, Flusher, State}
use Rattle.foyer_core_model.specs.Flush.{Finishes}
use Rattle.foyer_core_model.specs.Opened.{IsOpened}
use Rattle.foyer_core_model.specs.Rules.{Rules, Splitting}
use Rattle.foyer_core_model.specs.Follows.{Follows}
use Rattle.foyer_core_model.proofs.Basics.{put_same}
use Rattle.foyer_core_written.specs.Written.{HasLost, IsPast, PastStays, QueuedAreWritten, ReturnsQueued, passed_after, passed_at, queued_at, returned_at}
use Rattle.foyer_core_written.proofs.Flown.{returns_queued_lem}
use Rattle.foyer_core_written.proofs.Past.{past_stays_lem}
use Rattle.foyer_core_written.proofs.Written.{queued_are_written_lem}
use Rattle.foyer_core_rights.specs.Deeds as deeds
use Rattle.foyer_core_rights.specs.Deeds.{Deed, events_in, after_deed}
use Rattle.foyer_core_laws.specs.Content.{Content, Meaning, content_of}
use Rattle.foyer_core_laws.specs.CoreRules.{layout, machine, IsEncoded}
use Rattle.foyer_core_laws.specs.Sizes.{AreValid}
use Rattle.foyer_core_laws.specs.Settings.{Settings}
use Rattle.foyer_core_laws.proofs.LawLemmas.{demands}
use Rattle.foyer_core_steps.specs.Asked.{known_age, step_of}
use Rattle.foyer_core_steps.specs.Replied.{IsReply}
use Rattle.foyer_core_steps.specs.declared.step.Step.{Step}
use Rattle.foyer_core_steps.specs.declared.step.Step.TheVariants as steps
use Rattle.foyer_core_steps.specs.declared.reply.Reply.{Reply}
use Rattle.foyer_core_told.specs.declared.event.Told.{Told}
use Rattle.foyer_core_told.specs.declared.event.Told.TheVariants as told
use Rattle.foyer_core_told.specs.declared.queued.Moving.{Moving}
use Rattle.foyer_core_told.specs.declared.queued.Moving.TheVariants as moving
use Rattle.foyer_core_told.specs.ToldRuns.{Opens, Tells, LeadsTo, IsRun}
use Rattle.foyer_core_told.specs.ToldQueued.{AreWritten, HasLeft, HaveLeft, IsEnding, IsQueuing, lost_in, moving_of, passed_by, passed_in, queued_in, returned_by, returned_in}
use Rattle.foyer_core_told.proofs.ToldStepLemmas.{leads_split, run_join, run_split}
use Rattle.foyer_core_told.proofs.QueuedLemmas.{append_split, lost_back, lost_front, more_passed, more_queued, more_returned}
use Rattle.foyer_core_told.proofs.SpokenLemmas.{ended_as, ends_as, hash_named, is_queues, Moves, moves}

-- counts of the model's events, over more of them
module _ {C : Type 0} (rules : Rules C) (f : ℕ) where
  at_more_queued : (xs ys : List (WorldEvent C)) → queued_at rules f (xs ++ ys) ≡ queued_at rules f xs + queued_at rules f ys
  at_more_queued [] ys = omega arith
  at_more_queued (x ∷ xs) ys = let h : queued_at rules f (xs ++ ys) ≡ queued_at rules f xs + queued_at rules f ys = at_more_queued xs ys in omega arith

  at_more_returned : (xs ys : List (WorldEvent C)) → returned_at f (xs ++ ys) ≡ returned_at f xs + returned_at f ys
  at_more_returned [] ys = omega arith
  at_more_returned (x ∷ xs) ys = let h : returned_at f (xs ++ ys) ≡ returned_at f xs + returned_at f ys = at_more_returned xs ys in omega arith

  at_more_passed : (xs ys : List (WorldEvent C)) (n : ℕ) → passed_at f (xs ++ ys) n ≡ passed_at f ys (passed_at f xs n)
  at_more_passed [] ys n = refl
  at_more_passed (x ∷ xs) ys n = at_more_passed xs ys (passed_after f x n)

  ends_more : (w : World C) (xs ys : List (WorldEvent C)) → after_all rules w (xs ++ ys) ≡ after_all rules (after_all rules w xs) ys
  ends_more w [] ys = refl
  ends_more w (x ∷ xs) ys = ends_more (after rules w x) xs ys

may_more : {C : Type 0} (rules : Rules C) (Splits : Splitting C) (is_value : C → Type 0) (w : World C) (xs ys : List (WorldEvent C))
    → MayAllHappen rules Splits is_value w xs → MayAllHappen rules Splits is_value (after_all rules w xs) ys → MayAllHappen rules Splits is_value w (xs ++ ys)
may_more rules Splits is_value w [] ys front back = back
may_more rules Splits is_value w (x ∷ xs) ys front back = (front.0, may_more rules Splits is_value (after rules w x) xs ys front.1 back)

lost_split : {C : Type 0} (xs ys : List (WorldEvent C)) → HasLost (xs ++ ys) → HasLost xs ⊎ HasLost ys
lost_split [] ys lost = inr lost
lost_split (Applies (model_step.FlushWrote f ok) model_reply.Failed new ∷ xs) ys lost = inl tt
lost_split (Applies model_step.DestroyClear (model_reply.Cleared blocks) new ∷ xs) ys lost = inl tt
lost_split (x ∷ xs) ys lost = lost_split xs ys lost

-- a flusher whose batch has ended is in none
ended_none : {C : Type 0} (rules : Rules C) (old : State C) (f : ℕ) (batch : Option (Batch C)) (pieces : List (ℕ × C)) (waits : List ℕ) (done : State C)
    → Finishes rules old f batch (model_reply.Ended pieces waits) done → (done.flushers f).batch ≡ None
ended_none rules old f None pieces waits done ok = absurd ok
ended_none {C} rules old f (Some batch) pieces waits done ok =
    ap (λ (x : State C). (x.flushers f).batch) ok.2 ∙ ap (λ (φ : Flusher C). φ.batch) (put_same old.flushers f (record (old.flushers f) { batch = None }))

-- a piece that is queued is an Enqueue of the model
record Enqueues (hash sequence : ℕ) (d : Deed Content) : Type 0 where
  pub size : ℕ
  pub age : model_step.Age
  pub content : Content
  pub core : State Content
  pub is : events_in d ≡ Applies (model_step.Enqueue hash size age content) (model_reply.Queued sequence) core ∷ []

module _ {K V P A D : Type 0} (m : Meaning K V P) (s : Settings) (sound : AreValid s) (byte_at : D → ℕ → ℕ → ℕ) where
  -- events of the model that led from one world to another, and what they have in common with those that are told
  record Happened (w u : World Content) (es : List (Told K V P A D)) : Type 0 where
    pub events : List (WorldEvent Content)
    pub may : MayAllHappen (machine m s sound) (layout s) (IsEncoded m.is_key m.is_value) w events
    pub ends : after_all (machine m s sound) w events ≡ u
    pub queues : (f : ℕ) → queued_at (machine m s sound) f events ≡ queued_in s.flushers f es
    pub returns : (f : ℕ) → returned_at f events ≡ returned_in f es
    pub passes : (f n : ℕ) → passed_at f events n ≡ passed_in f es n
    pub loses : HasLost events → lost_in es ≡ true

  happened : (w : World Content) (es : List (Told K V P A D)) (u : World Content) → LeadsTo m s sound byte_at w es u → Happened w u es
  happened w [] u run = record {
    events = [];
    may = tt;
    ends = sym run;
    queues = λ f. refl;
    returns = λ f. refl;
    passes = λ f n. refl;
    loses = λ no. absurd no;
  }
  happened w (e ∷ es) u (d, tells, may, run) =
      let rest : Happened (after_deed (machine m s sound) w d) u es = happened (after_deed (machine m s sound) w d) es u run in
      let one : Moves m s sound byte_at e d = moves m s sound byte_at w e d tells in
      record {
        events = events_in d ++ rest.events;
        may = may_more (machine m s sound) (layout s) (IsEncoded m.is_key m.is_value) w (events_in d) rest.events may rest.may;
        ends = ends_more (machine m s sound) 0 w (events_in d) rest.events ∙ rest.ends;
        queues = λ f.
            let a : queued_at (machine m s sound) f (events_in d ++ rest.events) ≡ queued_at (machine m s sound) f (events_in d) + queued_at (machine m s sound) f rest.events = at_more_queued (machine m s sound) f (events_in d) rest.events in
            let b : queued_in s.flushers f (e ∷ es) ≡ queued_in s.flushers f (e ∷ []) + queued_in s.flushers f es = more_queued s.flushers f (e ∷ []) es in
            let c : queued_at (machine m s sound) f (events_in d) ≡ queued_in s.flushers f (e ∷ []) = one.queues f in
            let r : queued_at (machine m s sound) f rest.events ≡ queued_in s.flushers f es = rest.queues f in
            omega arith;
        returns = λ f.
            let a : returned_at f (events_in d ++ rest.events) ≡ returned_at f (events_in d) + returned_at f rest.events = at_more_returned (machine m s sound) f (events_in d) rest.events in
            let b : returned_in f (e ∷ es) ≡ returned_in f (e ∷ []) + returned_in f es = more_returned f (e ∷ []) es in
            let c : returned_at f (events_in d) ≡ returned_in f (e ∷ []) = one.returns f in
            let r : returned_at f rest.events ≡ returned_in f es = rest.returns f in
            omega arith;
        passes = λ f n.
            at_more_passed (machine m s sound) f (events_in d) rest.events n ∙ rest.passes f (passed_at f (events_in d) n)
            ∙ ap (passed_in f es) (one.passes f n) ∙ sym (more_passed f (e ∷ []) es n);
        loses = λ lost.
            elim (lost_split (events_in d) rest.events lost) [
              | inl first ↦ lost_front (e ∷ []) es (one.loses first)
              | inr later ↦ lost_back (e ∷ []) es (rest.loses later)
            ];
      }

  -- neither a piece that is queued nor the end of a batch opens anything
  opens_no_queuing : (e : Told K V P A D) (hash sequence : ℕ) (w : World Content) → IsQueuing hash sequence e → Opens m s sound byte_at e w → ⊥
  opens_no_queuing (told.Steps asked replied core) hash sequence w is opens = opens
  opens_no_queuing e hash sequence w is opens = is

  opens_no_ending : (e : Told K V P A D) (f : ℕ) (w : World Content) → IsEnding f e → Opens m s sound byte_at e w → ⊥
  opens_no_ending (told.Steps asked replied core) f w is opens = opens
  opens_no_ending e f w is opens = is

  -- a run is one of the model's events from an opened world on
  record BeganAt (log : List (Told K V P A D)) (u : World Content) : Type 0 where
    pub first : World Content
    pub opened : IsOpened (machine m s sound) first
    pub events : List (WorldEvent Content)
    pub may : MayAllHappen (machine m s sound) (layout s) (IsEncoded m.is_key m.is_value) first events
    pub ends : after_all (machine m s sound) first events ≡ u
    pub queues : (f : ℕ) → queued_at (machine m s sound) f events ≡ queued_in s.flushers f log
    pub returns : (f : ℕ) → returned_at f events ≡ returned_in f log
    pub passes : (f n : ℕ) → passed_at f events n ≡ passed_in f log n

  began : (log : List (Told K V P A D)) (u : World Content) → IsRun m s sound byte_at log u → BeganAt log u
  began [] u run = absurd run
  began (told.Opened core disk ∷ es) u (first, opens, leads) =
      let h : Happened first u es = happened first es u leads in
      record { first = first; opened = opens.0; events = h.events; may = h.may; ends = h.ends; queues = h.queues; returns = h.returns; passes = h.passes }
  began (e ∷ es) u run = absurd run.1

  ends_batch : (f : ℕ) (w : World Content) (e : Told K V P A D) (u : World Content) → IsEnding f e → LeadsTo m s sound byte_at w (e ∷ []) u → (u.core.flushers f).batch ≡ None
  ends_batch f w (told.Steps asked replied core) u is (deeds.Steps step it new, tells, may, ends) =
      let step_is : step ≡ model_step.FlushEnd f = tells.0 ∙ ap (step_of m) (ends_as asked.value f is.0) in
      let reply_is = ended_as m replied.value it is.1 tells.1 in
      let follows : Follows (machine m s sound) (layout s) w.core (model_step.FlushEnd f) (model_reply.Ended reply_is.0 reply_is.1) new =
      subst (λ (x : model_step.Step Content × model_reply.Reply Content). Follows (machine m s sound) (layout s) w.core x.0 x.1 new) (λ i. (step_is i, reply_is.2 i)) may.0.1 in
      ap (λ (x : World Content). (x.core.flushers f).batch) ends ∙ ap (λ (x : State Content). (x.flushers f).batch) follows.2.2
      ∙ ended_none (machine m s sound) w.core f (w.core.flushers f).batch reply_is.0 reply_is.1 follows.2.0 follows.2.1
  ends_batch f w (told.Steps asked replied core) u is (d, tells, may, ends) = absurd tells
  ends_batch f w e u is run = absurd is

  enqueues_as : (asked : Step K V P A) (hash sequence : ℕ) (step : model_step.Step Content) (it : model_reply.Reply Content) (new : State Content) → moving_of asked ≡ moving.Queues hash
      → step ≡ step_of m asked → it ≡ model_reply.Queued sequence → Enqueues hash sequence (deeds.Steps step it new)
  enqueues_as (steps.Enqueue piece size) hash sequence step it new moved step_is reply_is = record {
    size = size;
    age = known_age (m.age_of piece.piece.properties);
    content = content_of m piece;
    core = new;
    is = λ i. Applies ((step_is ∙ ap (λ h. model_step.Enqueue h size (known_age (m.age_of piece.piece.properties)) (content_of m piece)) (ap hash_named moved)) i) (reply_is i) new ∷ [];
  }
  enqueues_as asked hash sequence step it new moved step_is reply_is = absurd (true≢false (sym (ap is_queues moved)))

  enqueued : (hash sequence : ℕ) (w : World Content) (e : Told K V P A D) (d : Deed Content) → IsQueuing hash sequence e → Tells m s sound byte_at w e d → Enqueues hash sequence d
  enqueued hash sequence w (told.Steps asked replied core) (deeds.Steps step it new) is tells =
      enqueues_as asked.value hash sequence step it new is.0 tells.0 (subst (λ r. IsReply m r it) is.1 tells.1)
  enqueued hash sequence w (told.Steps asked replied core) d is tells = absurd tells
  enqueued hash sequence w e d is tells = absurd is

  module _ (written : QueuedAreWritten (machine m s sound) (layout s) (IsEncoded m.is_key m.is_value)) (stays : PastStays (machine m s sound) (layout s) (IsEncoded m.is_key m.is_value))
      (returned : ReturnsQueued (machine m s sound) (layout s) (IsEncoded m.is_key m.is_value)) where
    -- no more have left a flusher than were queued there
    left_below : (f : ℕ) (log : List (Told K V P A D)) (u : World Content) → IsRun m s sound byte_at log u → returned_in f log ≤ queued_in s.flushers f log
    left_below f log u run =
        let b : BeganAt log u = began log u run in
        let r : returned_at f b.events ≤ queued_at (machine m s sound) f b.events = returned b.first b.events f (demands m.is_key m.is_value s sound) b.opened b.may in
        let q : queued_at (machine m s sound) f b.events ≡ queued_in s.flushers f log = b.queues f in
        let t : returned_at f b.events ≡ returned_in f log = b.returns f in
        omega arith

    -- a piece whose place was left by the end of a batch
    left_then : (hash sequence : ℕ) (before mid : List (Told K V P A D)) (e : Told K V P A D) (u : World Content) → IsQueuing hash sequence e → IsRun m s sound byte_at (before ++ e ∷ mid) u
        → (u.core.flushers (hash % s.flushers)).batch ≡ None
        → suc (queued_in s.flushers (hash % s.flushers) before) + passed_in (hash % s.flushers) (before ++ e ∷ mid) 0 ≤ returned_in (hash % s.flushers) (before ++ e ∷ mid)
        → IsPast hash sequence u ⊎ (lost_in mid ≡ true)
    left_then hash sequence before mid e u is run none place =
        let f = hash % s.flushers in
        let a = run_split m s sound byte_at before e mid u (λ w. opens_no_queuing e hash sequence w is) run in
        let b : BeganAt before a.0 = began before a.0 a.1 in
        let l = a.2 in
        let q : Enqueues hash sequence l.0 = enqueued hash sequence a.0 e l.0 is l.1 in
        let h : Happened (after_deed (machine m s sound) a.0 l.0) u mid = happened (after_deed (machine m s sound) a.0 l.0) mid u l.3 in
        let x : WorldEvent Content = Applies (model_step.Enqueue hash q.size q.age q.content) (model_reply.Queued sequence) q.core in
        let may_x : MayAllHappen (machine m s sound) (layout s) (IsEncoded m.is_key m.is_value) a.0 (x ∷ []) = subst (MayAllHappen (machine m s sound) (layout s) (IsEncoded m.is_key m.is_value) a.0) q.is l.2 in
        let on : after_deed (machine m s sound) a.0 l.0 ≡ after (machine m s sound) a.0 x = ap (after_all (machine m s sound) a.0) q.is in
        let may_h : MayAllHappen (machine m s sound) (layout s) (IsEncoded m.is_key m.is_value) (after (machine m s sound) a.0 x) h.events =
        subst (λ w. MayAllHappen (machine m s sound) (layout s) (IsEncoded m.is_key m.is_value) w h.events) on h.may in
        let may_b : MayAllHappen (machine m s sound) (layout s) (IsEncoded m.is_key m.is_value) (after_all (machine m s sound) b.first b.events) (x ∷ h.events) =
        subst (λ w. MayAllHappen (machine m s sound) (layout s) (IsEncoded m.is_key m.is_value) w (x ∷ h.events)) (sym b.ends) (may_x.0, may_h) in
        let may : MayAllHappen (machine m s sound) (layout s) (IsEncoded m.is_key m.is_value) b.first (b.events ++ x ∷ h.events) =
        may_more (machine m s sound) (layout s) (IsEncoded m.is_key m.is_value) b.first b.events (x ∷ h.events) b.may may_b in
        let ends : after_all (machine m s sound) b.first (b.events ++ x ∷ h.events) ≡ u =
        ends_more (machine m s sound) 0 b.first b.events (x ∷ h.events) ∙ ap (λ w. after_all (machine m s sound) w (x ∷ h.events)) b.ends ∙ ap (λ w. after_all (machine m s sound) w h.events) (sym on) ∙ h.ends in
        let one : Moves m s sound byte_at e l.0 = moves m s sound byte_at a.0 e l.0 l.1 in
        let queued_is : queued_at (machine m s sound) f b.events ≡ queued_in s.flushers f before = b.queues f in
        let passed_is : passed_at f (b.events ++ x ∷ h.events) 0 ≡ passed_in f (before ++ e ∷ mid) 0 =
        at_more_passed (machine m s sound) f b.events (x ∷ h.events) 0 ∙ h.passes f (passed_at f b.events 0) ∙ ap (passed_in f mid) (b.passes f 0 ∙ sym (passed_queuing f e (passed_in f before 0) is))
        ∙ sym (more_passed f (e ∷ []) mid (passed_in f before 0)) ∙ sym (more_passed f before (e ∷ mid) 0) in
        let returned_front : returned_at f (b.events ++ x ∷ h.events) ≡ returned_at f b.events + returned_at f (x ∷ h.events) = at_more_returned (machine m s sound) f b.events (x ∷ h.events) in
        let returned_x : returned_at f (x ∷ h.events) ≡ 0 + returned_at f h.events = refl in
        let returned_b : returned_at f b.events ≡ returned_in f before = b.returns f in
        let returned_h : returned_at f h.events ≡ returned_in f mid = h.returns f in
        let told_front : returned_in f (before ++ e ∷ mid) ≡ returned_in f before + returned_in f (e ∷ mid) = more_returned f before (e ∷ mid) in
        let told_e : returned_in f (e ∷ mid) ≡ returned_in f (e ∷ []) + returned_in f mid = more_returned f (e ∷ []) mid in
        let none_e : returned_in f (e ∷ []) ≡ 0 = returned_queuing f e is in
        let enough : suc (queued_at (machine m s sound) f b.events) + passed_at f (b.events ++ x ∷ h.events) 0 ≤ returned_at f (b.events ++ x ∷ h.events) = omega arith in
        let free : ((after_all (machine m s sound) b.first (b.events ++ x ∷ h.events)).core.flushers f).batch ≡ None = ap (λ (w : World Content). (w.core.flushers f).batch) ends ∙ none in
        elim (written b.first b.events h.events hash q.size q.age q.content sequence q.core (demands m.is_key m.is_value s sound) b.opened may free enough) [
          | inl past ↦ inl (subst (IsPast hash sequence) ends past)
          | inr lost ↦ inr (h.loses lost)
        ]
      where
        passed_queuing : (f : ℕ) (e : Told K V P A D) (n : ℕ) → IsQueuing hash sequence e → passed_in f (e ∷ []) n ≡ n
        passed_queuing f (told.Steps asked replied core) n is =
            ap (λ (x : Moving × Reply K V P A). passed_by f x.0 x.1 n) (λ i. (is.0 i, is.1 i))
        passed_queuing f e n is = absurd is

        returned_queuing : (f : ℕ) (e : Told K V P A D) → IsQueuing hash sequence e → returned_in f (e ∷ []) ≡ 0
        returned_queuing f (told.Steps asked replied core) is =
            ap (λ (x : Moving × Reply K V P A). returned_by f x.0 x.1 + 0) (λ i. (is.0 i, is.1 i))
        returned_queuing f e is = absurd is

    by_left : (hash sequence place : ℕ) (log before since : List (Told K V P A D)) (e : Told K V P A D) (u : World Content) → IsRun m s sound byte_at log u → log ≡ before ++ e ∷ since
        → IsQueuing hash sequence e → suc (queued_in s.flushers (hash % s.flushers) before) ≤ place → HasLeft (hash % s.flushers) place log
        → IsPast hash sequence u ⊎ (lost_in since ≡ true)
    by_left hash sequence place log before since e u run split queuing below left =
        let f = hash % s.flushers in
        let prefix : List (Told K V P A D) = left.before ++ left.event ∷ [] in
        let whole : log ≡ left.before ++ (left.event ∷ left.since) = left.split ∙ append_assoc left.before (left.event ∷ []) left.since in
        let a = run_split m s sound byte_at left.before left.event left.since u (λ w. opens_no_ending left.event f w left.ends) (subst (λ l. IsRun m s sound byte_at l u) whole run) in
        let b = leads_split m s sound byte_at a.0 (left.event ∷ []) left.since u a.2 in
        let run_prefix : IsRun m s sound byte_at prefix b.0 = run_join m s sound byte_at left.before (left.event ∷ []) a.0 b.0 a.1 b.1 in
        let enough : place + passed_in f prefix 0 ≤ returned_in f prefix = left.enough in
        elim (append_split prefix left.since before since e (sym left.split ∙ split)) [
          | inl (mid, is, rest) ↦ (
              let run_e : IsRun m s sound byte_at (before ++ e ∷ mid) b.0 = subst (λ l. IsRun m s sound byte_at l b.0) is run_prefix in
              let same_passed : passed_in f prefix 0 ≡ passed_in f (before ++ e ∷ mid) 0 = ap (λ l. passed_in f l 0) is in
              let same_returned : returned_in f prefix ≡ returned_in f (before ++ e ∷ mid) = ap (returned_in f) is in
              elim (left_then hash sequence before mid e b.0 queuing run_e (ends_batch f a.0 left.event b.0 left.ends b.1) (omega arith)) [
                | inl past ↦ (
                    let h : Happened b.0 u left.since = happened b.0 left.since u b.2 in
                    elim (stays b.0 h.events hash sequence h.may past) [
                      | inl still ↦ inl (subst (IsPast hash sequence) h.ends still)
                      | inr lost ↦ inr (ap lost_in rest ∙ lost_back mid left.since (h.loses lost))
                    ]
                    )
                | inr lost ↦ inr (ap lost_in rest ∙ lost_front mid left.since lost)
              ]
              )
          | inr (mid, is, rest) ↦ (
              let fewer : returned_in f prefix ≤ queued_in s.flushers f prefix = left_below f prefix b.0 run_prefix in
              let more : queued_in s.flushers f before ≡ queued_in s.flushers f prefix + queued_in s.flushers f mid = ap (queued_in s.flushers f) is ∙ more_queued s.flushers f prefix mid in
              absurd (omega (arith, below))
              )
        ]

    -- what has left its flusher is written
    pub left_written : (hash : ℕ) (log : List (Told K V P A D)) (u : World Content) → IsRun m s sound byte_at log u → HaveLeft s.flushers hash log → AreWritten hash log u
    left_written hash log u run (place, up_to, which) before since e sequence split queuing =
        let below : suc (queued_in s.flushers (hash % s.flushers) before) ≤ place = up_to before since e sequence split queuing in
        elim which [
          | inl none ↦ absurd (omega (arith, below, none))
          | inr left ↦ by_left hash sequence place log before since e u run split queuing below left
        ]

-- the same, by the laws of the model
pub left_is_written_lem : {K V P A D : Type 0} (m : Meaning K V P) (s : Settings) (sound : AreValid s) (byte_at : D → ℕ → ℕ → ℕ) (hash : ℕ) (log : List (Told K V P A D)) (u : World Content)
    → IsRun m s sound byte_at log u → HaveLeft s.flushers hash log → AreWritten hash log u
left_is_written_lem m s sound byte_at =
    left_written m s sound byte_at (queued_are_written_lem (machine m s sound) (layout s) (IsEncoded m.is_key m.is_value))
    (past_stays_lem (machine m s sound) (layout s) (IsEncoded m.is_key m.is_value)) (returns_queued_lem (machine m s sound) (layout s) (IsEncoded m.is_key m.is_value))
