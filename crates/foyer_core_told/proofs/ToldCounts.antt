-- What a told event says of the deed that it tells of, and the numbers of tickets and steps.
use Rattle.std.proofs.Common.{◌≡◌, ℕ, ◌+◌, Bool, true, false, ◌||◌, List, [], ◌∷◌, Some, refl, sym, ap, ◌∙◌, subst, arith}
use Rattle.foyer_device_page.specs.declared.error.ErrorKind.{ErrorKind}
use Rattle.foyer_format_record.specs.declared.serde.ages.Age.{Age}
use Rattle.foyer_core_chronicle.specs.Rights.{one}
use Rattle.foyer_core_model.specs.World.{World, MayAllHappen}
use Rattle.foyer_core_model.specs.Access.{issued_after}
use Rattle.foyer_core_model.specs.Follows.{Follows}
use Rattle.foyer_core_model.specs.Opened.{IsOpened}
use Rattle.foyer_core_model.specs.Rules.{Rules, Splitting}
use Rattle.foyer_core_model.specs.State.{State}
use Rattle.foyer_core_model.specs.Step as model_step
use Rattle.foyer_core_model.specs.Reply as model_reply
use Rattle.foyer_core_rights.specs.Deeds as deeds
use Rattle.foyer_core_rights.specs.Deeds.{Deed, events_in, after_deed, takes_block, deed_takes, PicksBlock, BeginsReclaim}
use Rattle.foyer_core_laws.specs.Content.{Content, Meaning, content}
use Rattle.foyer_core_laws.specs.CoreRules.{layout, machine, IsEncoded}
use Rattle.foyer_core_laws.specs.Sizes.{AreValid}
use Rattle.foyer_core_laws.specs.Settings.{Settings}
use Rattle.foyer_core_steps.specs.Asked.{step_of, ticket_of}
use Rattle.foyer_core_steps.specs.Replied.{IsReply}
use Rattle.foyer_core_steps.specs.Destroying.{kind_of}
use Rattle.foyer_core_steps.specs.declared.step.Step.{Step}
use Rattle.foyer_core_steps.specs.declared.step.Ticket.{Ticket}
use Rattle.foyer_core_steps.specs.declared.reply.Reply.{Reply}
use Rattle.foyer_core_steps.specs.declared.reply.Reply.TheVariants as reply
use Rattle.foyer_core_told.specs.declared.event.Told.{Told}
use Rattle.foyer_core_told.specs.declared.event.Told.TheVariants as told
use Rattle.foyer_core_told.specs.ToldRuns.{Tells, LeadsTo, IsRun}
use Rattle.foyer_core_told.specs.ToldLoads.{is_read, makes_ticket, tickets_in, count_of, steps_in}
use Rattle.foyer_core_told.specs.ToldMisses.{IsPick, IsPickOf, takes_away, is_taken_in}

none_more : (n : ℕ) → n ≡ n + 0
none_more n = omega arith

none_first : (n : ℕ) → n ≡ 0 + n
none_first n = omega arith

or_false : (t : Bool) → t ≡ t || false
or_false true = refl
or_false false = refl

more_twice : (n a b : ℕ) → (n + a) + b ≡ n + (a + b)
more_twice n a b = omega arith

-- whether the model counts a step, by its reply
abbrev counted : {C : Type 0} → model_reply.Reply C → ℕ
counted (model_reply.NotNow back) = 0
counted (model_reply.Refused kind back) = 0
counted answer = 1

follows_counted : {C : Type 0} (rules : Rules C) (Splits : Splitting C) (old new : State C) (step : model_step.Step C) (it : model_reply.Reply C) → Follows rules Splits old step it new → new.steps ≡ old.steps + counted it
follows_counted rules Splits old new step (model_reply.NotNow back) ok = ap (λ s. s.steps) ok.2 ∙ none_more old.steps
follows_counted rules Splits old new step (model_reply.Refused kind back) ok = ap (λ s. s.steps) ok.2 ∙ none_more old.steps
follows_counted rules Splits old new step it (_, _, (_, _, eq)) = ap (λ s. s.steps) eq

-- what a reply is, by the model's
abbrev pub Shows : {K V P A : Type 0} → Meaning K V P → Reply K V P A → model_reply.Reply Content → Type 0
Shows m answer model_reply.Miss = answer ≡ reply.Miss
Shows m answer model_reply.Throttled = answer ≡ reply.Throttled
Shows m answer (model_reply.Read t) = (ticket : Ticket) × (answer ≡ reply.Read ticket) × (ticket_of ticket ≡ t)
Shows {K} {V} m answer (model_reply.Entry c age) = (key : K) × (value : V) × (a : Age) × (answer ≡ reply.Entry key value a) × (content m key value ≡ c)
Shows {K} {V} {P} {A} m answer (model_reply.Refused kind step) =
    (why : ErrorKind) × (back : Step K V P A) × (answer ≡ reply.Refused why back) × (kind_of why ≡ Some kind) × (step_of m back ≡ step)
Shows m answer it = Unit {0}

-- what it has in common with the model's
pub record Said {K V P A : Type 0} (m : Meaning K V P) (answer : Reply K V P A) (it : model_reply.Reply Content) : Type 0 where
  pub issues : (n : ℕ) → issued_after it n ≡ n + one (is_read answer)
  pub counts : counted it ≡ count_of answer
  pub takes : (b : ℕ) → takes_block b it ≡ takes_away b answer
  pub picks : (b : ℕ) → PicksBlock it b → IsPick answer b
  pub shows : Shows m answer it

module _ {K V P A : Type 0} (m : Meaning K V P) where
  pub said : (answer : Reply K V P A) (it : model_reply.Reply Content) → IsReply m answer it → Said m answer it
  said (reply.NotNow back) it is =
      subst (Said m (reply.NotNow back)) (sym is) (record { issues = λ n. none_more n; counts = refl; takes = λ b. refl; picks = λ b picked. picked; shows = tt })
  said (reply.Refused why back) it is =
      subst (Said m (reply.Refused why back)) (sym is.2) (record { issues = λ n. none_more n; counts = refl; takes = λ b. refl; picks = λ b picked. picked; shows = (why, back, refl, is.1, refl) })
  said (reply.Ignored piece) it is =
      subst (Said m (reply.Ignored piece)) (sym is) (record { issues = λ n. none_more n; counts = refl; takes = λ b. refl; picks = λ b picked. picked; shows = tt })
  said (reply.Queued sequence) it is =
      subst (Said m (reply.Queued sequence)) (sym is) (record { issues = λ n. none_more n; counts = refl; takes = λ b. refl; picks = λ b picked. picked; shows = tt })
  said (reply.Dropped piece sequence) it is =
      subst (Said m (reply.Dropped piece sequence)) (sym is) (record { issues = λ n. none_more n; counts = refl; takes = λ b. refl; picks = λ b picked. picked; shows = tt })
  said (reply.Deleted sequence) it is =
      subst (Said m (reply.Deleted sequence)) (sym is) (record { issues = λ n. none_more n; counts = refl; takes = λ b. refl; picks = λ b picked. picked; shows = tt })
  said reply.Done it is =
      subst (Said m reply.Done) (sym is) (record { issues = λ n. none_more n; counts = refl; takes = λ b. refl; picks = λ b picked. picked; shows = tt })
  said (reply.Answer b) it is =
      subst (Said m (reply.Answer b)) (sym is) (record { issues = λ n. none_more n; counts = refl; takes = λ b. refl; picks = λ b picked. picked; shows = tt })
  said reply.Miss it is =
      subst (Said m reply.Miss) (sym is) (record { issues = λ n. none_more n; counts = refl; takes = λ b. refl; picks = λ b picked. picked; shows = refl })
  said reply.Throttled it is =
      subst (Said m reply.Throttled) (sym is) (record { issues = λ n. none_more n; counts = refl; takes = λ b. refl; picks = λ b picked. picked; shows = refl })
  said (reply.Read ticket) it is =
      subst (Said m (reply.Read ticket)) (sym is) (record { issues = λ n. refl; counts = refl; takes = λ b. refl; picks = λ b picked. picked; shows = (ticket, refl, refl) })
  said (reply.Entry key value age) it is =
      subst (Said m (reply.Entry key value age)) (sym is) (record { issues = λ n. none_more n; counts = refl; takes = λ b. refl; picks = λ b picked. picked; shows = (key, value, age, refl, refl) })
  said reply.Empty it is =
      subst (Said m reply.Empty) (sym is) (record { issues = λ n. none_more n; counts = refl; takes = λ b. refl; picks = λ b picked. picked; shows = tt })
  said (reply.Received back) it is =
      subst (Said m (reply.Received back)) (sym is) (record { issues = λ n. none_more n; counts = refl; takes = λ b. refl; picks = λ b picked. picked; shows = tt })
  said (reply.Began blocks marks) it is =
      subst (Said m (reply.Began blocks marks)) (sym is.2) (record { issues = λ n. none_more n; counts = refl; takes = λ b. refl; picks = λ b picked. picked; shows = tt })
  said (reply.Write block writes) it is =
      subst (Said m (reply.Write block writes)) (sym is) (record { issues = λ n. none_more n; counts = refl; takes = λ b. refl; picks = λ b picked. picked; shows = tt })
  said reply.NoBlock it is =
      subst (Said m reply.NoBlock) (sym is) (record { issues = λ n. none_more n; counts = refl; takes = λ b. refl; picks = λ b picked. picked; shows = tt })
  said reply.Next it is =
      subst (Said m reply.Next) (sym is) (record { issues = λ n. none_more n; counts = refl; takes = λ b. refl; picks = λ b picked. picked; shows = tt })
  said (reply.Committed puts) it is =
      subst (Said m (reply.Committed puts)) (sym is) (record { issues = λ n. none_more n; counts = refl; takes = λ b. refl; picks = λ b picked. picked; shows = tt })
  said reply.Failed it is =
      subst (Said m reply.Failed) (sym is) (record { issues = λ n. none_more n; counts = refl; takes = λ b. refl; picks = λ b picked. picked; shows = tt })
  said (reply.Ended pieces waits) it is =
      subst (Said m (reply.Ended pieces waits)) (sym is.2) (record { issues = λ n. none_more n; counts = refl; takes = λ b. refl; picks = λ b picked. picked; shows = tt })
  said (reply.Picked block answers probation) it is =
      subst (Said m (reply.Picked block answers probation)) (sym is) (record { issues = λ n. none_more n; counts = refl; takes = λ b. refl; picks = λ b picked. picked; shows = tt })
  said (reply.Scan block offset len verdicts) it is =
      subst (Said m (reply.Scan block offset len verdicts)) (sym is) (record { issues = λ n. none_more n; counts = refl; takes = λ b. refl; picks = λ b picked. picked; shows = tt })
  said (reply.Listed verdicts) it is =
      subst (Said m (reply.Listed verdicts)) (sym is) (record { issues = λ n. none_more n; counts = refl; takes = λ b. refl; picks = λ b picked. picked; shows = tt })
  said (reply.Clean block) it is =
      subst (Said m (reply.Clean block)) (sym is) (record { issues = λ n. none_more n; counts = refl; takes = λ b. refl; picks = λ b picked. picked; shows = tt })
  said (reply.Destroying sequence) it is =
      subst (Said m (reply.Destroying sequence)) (sym is) (record { issues = λ n. none_more n; counts = refl; takes = λ b. refl; picks = λ b picked. picked; shows = tt })
  said reply.Cleared it is =
      subst (Said m reply.Cleared) (sym is.1) (record { issues = λ n. none_more n; counts = refl; takes = λ b. refl; picks = λ b picked. picked; shows = tt })
  said (reply.Destroyed first) it is =
      subst (Said m (reply.Destroyed first)) (sym is.2) (record { issues = λ n. none_more n; counts = refl; takes = λ b. refl; picks = λ b picked. picked; shows = tt })

module _ {K V P A D : Type 0} (m : Meaning K V P) (s : Settings) (sound : AreValid s) (byte_at : D → ℕ → ℕ → ℕ) where
  -- what an event has in common with its deed
  pub record Meets (w : World Content) (e : Told K V P A D) (d : Deed Content) : Type 0 where
    pub issued : (after_deed (machine m s sound) w d).issued ≡ w.issued + tickets_in (e ∷ [])
    pub steps : (after_deed (machine m s sound) w d).core.steps ≡ w.core.steps + steps_in (e ∷ [])
    pub takes : (b : ℕ) → deed_takes b d ≡ is_taken_in b (e ∷ [])
    pub picks : (b : ℕ) → BeginsReclaim d b → IsPickOf e b

  pub meets : (w : World Content) (e : Told K V P A D) (d : Deed Content) → Tells m s sound byte_at w e d → MayAllHappen (machine m s sound) (layout s) (IsEncoded m.is_key m.is_value) w (events_in d) → Meets w e d
  meets w (told.Steps asked replied core) (deeds.Steps step it new) tells may =
      let is : Said m replied.value it = said m replied.value it tells.1 in
      record {
        issued = is.issues w.issued ∙ ap (λ k. w.issued + k) (none_more (one (is_read replied.value)));
        steps = follows_counted (machine m s sound) (layout s) w.core new step it may.0.1 ∙ ap (λ k. w.core.steps + k) (is.counts ∙ none_more (count_of replied.value));
        takes = λ b. is.takes b ∙ or_false (takes_away b replied.value);
        picks = is.picks;
      }
  meets w (told.Steps asked replied core) d tells may = absurd tells
  meets w (told.Opened core disk) d tells may = absurd tells
  meets w e (deeds.Steps step it new) tells may = absurd tells
  meets w e d tells may = record { issued = none_more w.issued; steps = none_more w.core.steps; takes = λ b. refl; picks = λ b picked. absurd picked }

  -- one event in front
  tickets_front : (e : Told K V P A D) (es : List (Told K V P A D)) → tickets_in (e ∷ es) ≡ tickets_in (e ∷ []) + tickets_in es
  tickets_front e es = ap (λ k. k + tickets_in es) (none_more (one (makes_ticket e)))

  steps_front : (e : Told K V P A D) (es : List (Told K V P A D)) → steps_in (e ∷ es) ≡ steps_in (e ∷ []) + steps_in es
  steps_front (told.Steps asked replied core) es = ap (λ k. k + steps_in es) (none_more (count_of replied.value))
  steps_front e es = none_first (steps_in es)

  issued_after_all : (w : World Content) (es : List (Told K V P A D)) (u : World Content) → LeadsTo m s sound byte_at w es u → u.issued ≡ w.issued + tickets_in es
  issued_after_all w [] u is = ap (λ (x : World Content). x.issued) is ∙ none_more w.issued
  issued_after_all w (e ∷ es) u run =
      issued_after_all (after_deed (machine m s sound) w run.0) es u run.3 ∙ ap (λ k. k + tickets_in es) (meets w e run.0 run.1 run.2).issued
      ∙ more_twice w.issued (tickets_in (e ∷ [])) (tickets_in es) ∙ ap (λ k. w.issued + k) (sym (tickets_front e es))

  steps_after_all : (w : World Content) (es : List (Told K V P A D)) (u : World Content) → LeadsTo m s sound byte_at w es u → u.core.steps ≡ w.core.steps + steps_in es
  steps_after_all w [] u is = ap (λ (x : World Content). x.core.steps) is ∙ none_more w.core.steps
  steps_after_all w (e ∷ es) u run =
      steps_after_all (after_deed (machine m s sound) w run.0) es u run.3 ∙ ap (λ k. k + steps_in es) (meets w e run.0 run.1 run.2).steps
      ∙ more_twice w.core.steps (steps_in (e ∷ [])) (steps_in es) ∙ ap (λ k. w.core.steps + k) (sym (steps_front e es))

  -- behind the opening
  counted_behind : (first : World Content) (es : List (Told K V P A D)) (u : World Content) → IsOpened (machine m s sound) first → LeadsTo m s sound byte_at first es u
      → (u.issued ≡ tickets_in es) × (u.core.steps ≡ steps_in es)
  counted_behind first es u opened run = (
    issued_after_all first es u run ∙ ap (λ k. k + tickets_in es) opened.issued ∙ sym (none_first (tickets_in es)),
    steps_after_all first es u run ∙ ap (λ k. k + steps_in es) opened.steps ∙ sym (none_first (steps_in es)),
  )

  pub runs_counted : (log : List (Told K V P A D)) (u : World Content) → IsRun m s sound byte_at log u → (u.issued ≡ tickets_in log) × (u.core.steps ≡ steps_in log)
  runs_counted [] u run = absurd run
  runs_counted (told.Opened core disk ∷ es) u run =
      let counts = counted_behind run.0 es u run.1.0 run.2 in (counts.0 ∙ none_first (tickets_in es), counts.1)
  runs_counted (e ∷ es) u run = absurd run.1
