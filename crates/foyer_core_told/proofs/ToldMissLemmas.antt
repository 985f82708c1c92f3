-- A newest put is missed only for a cause that is told.
use Rattle.std.proofs.Common.{◌≡◌, ◌≢◌, ◌⊎◌, inl, inr, ℕ, ◌<◌, Bool, true, false, true≢false, ◌||◌, List, [], ◌∷◌, ◌++◌, Option, Some, None, Result, Ok, Err, refl, sym, ap, ◌∙◌, subst}
use Rattle.std.specs.declared.vec.Vec.{Vec}
use Rattle.foyer_device_page.specs.declared.error.Error.{Error}
use Rattle.foyer_core_model.specs.Kind.{Kind, Io, Memory, Parse, Unsupported}
use Rattle.foyer_core_model.specs.Numbers.{last_number}
use Rattle.foyer_core_model.specs.Record.{Outcome, NoRecord, NotSupported, Undecodable, Holds}
use Rattle.foyer_core_model.specs.World.{World, MayAllHappen}
use Rattle.foyer_core_model.specs.Laws.{IsReached, IsAnswer}
use Rattle.foyer_core_model.specs.Event.{Event, Put, newest}
use Rattle.foyer_core_model.specs.Follows.{Follows}
use Rattle.foyer_core_model.specs.Access.{ReadIssued, ReadDone}
use Rattle.foyer_core_model.specs.Step as model_step
use Rattle.foyer_core_model.specs.Reply as model_reply
use Rattle.foyer_core_model.proofs.Basics.{is_none_some}
use Rattle.foyer_core_model.proofs.Missed.{looks_up_newest_lem}
use Rattle.foyer_core_rights.specs.Deeds as deeds
use Rattle.foyer_core_rights.specs.Deeds.{Deed, events_in, after_deed}
use Rattle.foyer_core_rights.specs.Frames.{HasLoad, HasBlock}
use Rattle.foyer_core_rights.proofs.FrameLemmas.{frames}
use Rattle.foyer_core_rights.proofs.LossLemmas.{loses, opened_kept}
use Rattle.foyer_core_rights.proofs.ServingLemmas.{keeps, answers as served_answer}
use Rattle.foyer_core_laws.specs.Content.{Content, Meaning}
use Rattle.foyer_core_laws.specs.CoreRules.{layout, machine, IsEncoded}
use Rattle.foyer_core_laws.specs.Sizes.{AreValid}
use Rattle.foyer_core_laws.specs.Settings.{Settings}
use Rattle.foyer_core_laws.proofs.LawLemmas.{demands}
use Rattle.foyer_core_steps.specs.Asked.{step_of, ticket_of, came_of}
use Rattle.foyer_core_steps.specs.Replied.{IsReply}
use Rattle.foyer_core_steps.specs.declared.step.Ticket.{Ticket}
use Rattle.foyer_core_steps.specs.declared.reply.Reply.{Reply}
use Rattle.foyer_core_steps.specs.declared.reply.Reply.TheVariants as reply
use Rattle.foyer_core_told.specs.declared.event.Told.{Told}
use Rattle.foyer_core_told.specs.declared.event.Told.TheVariants as told
use Rattle.foyer_core_told.specs.ToldRuns.{Opens, Tells, LeadsTo, IsRun}
use Rattle.foyer_core_told.specs.ToldLoads.{tickets_in, steps_in, IssuesTicket, IsReadOf, AreOthers}
use Rattle.foyer_core_told.specs.ToldMisses.{LooksUp, EndsLoad, IsPickOf, takes_away, is_taken_in, IsTaken, IsFound, IsRefusedFor, IsAnswerTo}
use Rattle.foyer_core_told.proofs.ToldStepLemmas.{leads_split, leads_join, run_split, run_join}
use Rattle.foyer_core_told.proofs.ToldCounts.{Shows, said, meets, runs_counted}
use Rattle.foyer_core_told.proofs.ToldLoadLemmas.{opens_no_look_up, looked_at, kept, read_at, run_reached}

none_or_some : {X : Type 0} (o : Option X) → (o ≡ None) ⊎ ((x : X) × (o ≡ Some x))
none_or_some None = inl refl
none_or_some (Some x) = inr (x, refl)

or_none : (a b : Bool) → a || b ≡ false → (a ≡ false) × (b ≡ false)
or_none true b e = absurd (true≢false e)
or_none false b e = (refl, e)

false_or_true : (t : Bool) → (t ≡ false) ⊎ (t ≡ true)
false_or_true true = inr refl
false_or_true false = inl refl

abbrev is_miss : {K V P A : Type 0} → Reply K V P A → Bool
is_miss reply.Miss = true
is_miss answer = false

module _ {K V P A : Type 0} (m : Meaning K V P) where
  refused_for : (kind : Kind) (ticket : Ticket) (outcome : Result (Vec ℕ A) Error) (answer : Reply K V P A) → Shows m answer (model_reply.Refused kind (model_step.LoadEnd (ticket_of ticket) (came_of outcome)))
      → IsRefusedFor m kind ticket outcome answer
  refused_for kind ticket outcome answer (why, back, is, cause, same) = subst (IsRefusedFor m kind ticket outcome) (sym is) (cause, same)

  -- the model's answer as the real one
  answer_to : (ticket : Ticket) (outcome : Result (Vec ℕ A) Error) (x : Outcome Content) (answer : Reply K V P A) (it : model_reply.Reply Content) → Shows m answer it
      → IsAnswer (ticket_of ticket) (came_of outcome) x it → IsAnswerTo m ticket outcome x answer
  answer_to ticket (Err e) x answer it shows is = refused_for Io ticket (Err e) answer (subst (Shows m answer) is shows)
  answer_to ticket (Ok bytes) NoRecord answer it shows is = subst (Shows m answer) is shows
  answer_to ticket (Ok bytes) NotSupported answer it shows is = refused_for Unsupported ticket (Ok bytes) answer (subst (Shows m answer) is shows)
  answer_to ticket (Ok bytes) Undecodable answer it shows is =
      elim is [
        | inl parse ↦ inl (refused_for Parse ticket (Ok bytes) answer (subst (Shows m answer) parse shows))
        | inr memory ↦ inr (refused_for Memory ticket (Ok bytes) answer (subst (Shows m answer) memory shows))
      ]
  answer_to ticket (Ok bytes) (Holds c) answer it shows is =
      elim is [
        | inl entry ↦ inl (subst (Shows m answer) entry.1 shows)
        | inr memory ↦ inr (refused_for Memory ticket (Ok bytes) answer (subst (Shows m answer) memory shows))
      ]

module _ {K V P A D : Type 0} (m : Meaning K V P) (s : Settings) (sound : AreValid s) (byte_at : D → ℕ → ℕ → ℕ) where
  -- `IsTaken`, from any world on
  record WasTaken (from : World Content) (log : List (Told K V P A D)) (to : World Content) (h : ℕ) (put : Event Content) : Type 0 where
    pub early : List (Told K V P A D)
    pub began : Told K V P A D
    pub late : List (Told K V P A D)
    pub there : World Content
    pub block : ℕ
    pub is : log ≡ early ++ began ∷ late
    pub before : LeadsTo m s sound byte_at from early there
    pub since : LeadsTo m s sound byte_at there (began ∷ late) to
    pub newest_there : newest h there.history ≡ Some put
    pub stood : there.kept h ≡ Some block
    pub picked : IsPickOf began block
    pub gone : to.kept h ≡ None

  -- a put that is newest, whose block is no longer kept, lost it in this history, or before
  lost : (w : World Content) (es : List (Told K V P A D)) (v : World Content) (h n : ℕ) (x : Outcome Content) → LeadsTo m s sound byte_at w es v → newest h v.history ≡ Some (Put h n x) → v.kept h ≡ None
      → WasTaken w es v h (Put h n x) ⊎ ((newest h w.history ≡ Some (Put h n x)) × (w.kept h ≡ None))
  lost w [] v h n x is newer gone =
      inr (subst (λ (u : World Content). newest h u.history ≡ Some (Put h n x)) is newer, subst (λ (u : World Content). u.kept h ≡ None) is gone)
  lost w (e ∷ es) v h n x run newer gone =
      let w1 : World Content = after_deed (machine m s sound) w run.0 in
      elim (lost w1 es v h n x run.3 newer gone) [
        | inl taken ↦ inl (record {
          early = e ∷ taken.early;
          began = taken.began;
          late = taken.late;
          there = taken.there;
          block = taken.block;
          is = ap (λ l. e ∷ l) taken.is;
          before = (run.0, run.1, run.2, taken.before);
          since = taken.since;
          newest_there = taken.newest_there;
          stood = taken.stood;
          picked = taken.picked;
          gone = taken.gone;
        })
        | inr here ↦ elim (loses (machine m s sound) w run.0 h n x here.0) [
          | inl some ↦ absurd (is_none_some (sym here.1 ∙ some.1))
          | inr was ↦ elim was.1 [
            | inl same ↦ inr (was.0, sym same ∙ here.1)
            | inr pick ↦ inl (record {
              early = [];
              began = e;
              late = es;
              there = w;
              block = pick.0;
              is = refl;
              before = refl;
              since = run;
              newest_there = was.0;
              stood = pick.2;
              picked = (meets m s sound byte_at w e run.0 run.1 run.2).picks pick.0 pick.1;
              gone = gone;
            })
          ]
        ]
      ]

  -- what is newest is kept, or was taken
  kept_or_taken : (before : List (Told K V P A D)) (v : World Content) (h n : ℕ) (x : Outcome Content) → IsRun m s sound byte_at before v
      → newest h v.history ≡ Some (Put h n x) → ((b : ℕ) × (v.kept h ≡ Some b)) ⊎ IsTaken m s sound byte_at before v h (Put h n x)
  kept_or_taken [] v h n x run newer = absurd run
  kept_or_taken (told.Opened core disk ∷ es) v h n x run newer =
      elim (none_or_some (v.kept h)) [
        | inl gone ↦ elim (lost run.0 es v h n x run.2 newer gone) [
          | inl taken ↦ inr (record {
            early = told.Opened core disk ∷ taken.early;
            began = taken.began;
            late = taken.late;
            there = taken.there;
            block = taken.block;
            is = ap (λ l. told.Opened core disk ∷ l) taken.is;
            before = (run.0, run.1, taken.before);
            since = taken.since;
            newest_there = taken.newest_there;
            stood = taken.stood;
            picked = taken.picked;
            gone = taken.gone;
          })
          | inr here ↦ absurd (let some = opened_kept (machine m s sound) run.0 h (Put h n x) run.1.0 here.0 in is_none_some (sym here.1 ∙ some.1))
        ]
        | inr some ↦ inl some
      ]
  kept_or_taken (e ∷ es) v h n x run newer = absurd run.1

  found_at : (w : World Content) (e : Told K V P A D) (d : Deed Content) (h : ℕ) (throttled : Bool) (answer : Reply K V P A) (b n : ℕ) (x : Outcome Content)
      → LooksUp e h throttled answer → Tells m s sound byte_at w e d → MayAllHappen (machine m s sound) (layout s) (IsEncoded m.is_key m.is_value) w (events_in d)
      → IsReached (machine m s sound) (layout s) (IsEncoded m.is_key m.is_value) w → w.core.steps < last_number
      → w.kept h ≡ Some b → newest h w.history ≡ Some (Put h n x) → x ≢ NoRecord → IsFound h n throttled answer
  found_at w (told.Steps asked replied core) (deeds.Steps step it new) h throttled answer b n x is tells may r few stands newer some =
      let step_is : step ≡ model_step.LoadBegin h throttled = tells.0 ∙ ap (step_of m) is.0 in
      let shows : Shows m answer it = subst (λ k. Shows m k it) is.1 (said m replied.value it tells.1).shows in
      let follows : Follows (machine m s sound) (layout s) w.core (model_step.LoadBegin h throttled) it new =
      subst (λ k. Follows (machine m s sound) (layout s) w.core k it new) step_is may.0.1 in
      elim (looks_up_newest_lem (machine m s sound) (layout s) (IsEncoded m.is_key m.is_value) w h throttled it new b n x (demands m.is_key m.is_value s sound) r (tt, follows) few stands newer some) [
        | inl slow ↦ inl (slow.0, subst (Shows m answer) slow.1 shows)
        | inr reads ↦ inr (let ticket = subst (Shows m answer) (reads.1).1 shows in (
          reads.0,
          (ticket.0, ticket.1, ap (λ (t : model_step.Ticket). t.hash) ticket.2 ∙ (reads.1).2, ap (λ (t : model_step.Ticket). t.address.sequence) ticket.2 ∙ (reads.1).3),
        ))
      ]
  found_at w (told.Steps asked replied core) d h throttled answer b n x is tells may r few stands newer some = absurd tells
  found_at w e d h throttled answer b n x is tells may r few stands newer some = absurd is

  few_steps : (before : List (Told K V P A D)) (v : World Content) → IsRun m s sound byte_at before v → steps_in before < last_number → v.core.steps < last_number
  few_steps before v run few = subst (λ (k : ℕ). k < last_number) (sym (runs_counted m s sound byte_at before v run).1) few

  opens_no_step : (e : Told K V P A D) (h : ℕ) (throttled : Bool) (answer : Reply K V P A) (w : World Content) → LooksUp e h throttled answer → Opens m s sound byte_at e w → ⊥
  opens_no_step (told.Steps asked replied core) h throttled answer w is opens = opens
  opens_no_step e h throttled answer w is opens = is

  pub looks_up : (before after : List (Told K V P A D)) (looked : Told K V P A D) (h : ℕ) (throttled : Bool) (answer : Reply K V P A) (u : World Content)
      → LooksUp looked h throttled answer → steps_in before < last_number
      → IsRun m s sound byte_at (before ++ looked ∷ after) u
      → (v : World Content) × IsRun m s sound byte_at before v
      × ((n : ℕ) (x : Outcome Content) → newest h v.history ≡ Some (Put h n x) → x ≢ NoRecord
      → IsFound h n throttled answer ⊎ IsTaken m s sound byte_at before v h (Put h n x))
  looks_up before after looked h throttled answer u is few run =
      let a = run_split m s sound byte_at before looked after u (λ w. opens_no_step looked h throttled answer w is) run in
      let l = a.2 in (
        a.0,
        a.1,
        λ n x newer some.
            elim (kept_or_taken before a.0 h n x a.1 newer) [
              | inl stands ↦ inl (found_at a.0 looked l.0 h throttled answer stands.0 n x is l.1 l.2 (run_reached m s sound byte_at before a.0 a.1) (few_steps before a.0 a.1 few) stands.1 newer some)
              | inr taken ↦ inr taken
            ],
      )

  -- a look-up that issued a read has the block that is kept
  block_at : (w : World Content) (e : Told K V P A D) (d : Deed Content) (ticket : Ticket) (b : ℕ) → IssuesTicket e ticket → Tells m s sound byte_at w e d → w.kept ticket.hash ≡ Some b
      → HasBlock (after_deed (machine m s sound) w d) w.issued b
  block_at w (told.Steps asked replied core) (deeds.Steps step answer new) ticket b is tells stands =
      let step_is : step ≡ model_step.LoadBegin is.0.0 is.0.1 = tells.0 ∙ ap (step_of m) is.0.2 in
      let answer_is : answer ≡ model_reply.Read (ticket_of ticket) = subst (λ r. IsReply m r answer) is.1 tells.1 in
      subst (λ (x : model_step.Step Content × model_reply.Reply Content). HasBlock (after_deed (machine m s sound) w (deeds.Steps x.0 x.1 new)) w.issued b)
      (λ i. (sym step_is i, sym answer_is i))
      (keeps (machine m s sound) (layout s) (IsEncoded m.is_key m.is_value) w is.0.0 is.0.1 (ticket_of ticket) new b stands)
  block_at w (told.Steps asked replied core) d ticket b is tells stands = absurd tells
  block_at w e d ticket b is tells stands = absurd is

  -- one event in front
  takes_front : (b : ℕ) (e : Told K V P A D) (es : List (Told K V P A D)) → is_taken_in b (e ∷ es) ≡ is_taken_in b (e ∷ []) || is_taken_in b es
  takes_front b (told.Steps asked replied core) es = go (takes_away b replied.value)
    where
      go : (t : Bool) → t || is_taken_in b es ≡ (t || false) || is_taken_in b es
      go true = refl
      go false = refl
  takes_front b e es = refl

  block_kept : (b n : ℕ) (w : World Content) (es : List (Told K V P A D)) (u : World Content) → is_taken_in b es ≡ false → LeadsTo m s sound byte_at w es u → HasBlock w n b → HasBlock u n b
  block_kept b n w [] u free is h = subst (λ (x : World Content). HasBlock x n b) (sym is) h
  block_kept b n w (e ∷ es) u free run h =
      let apart = or_none (is_taken_in b (e ∷ [])) (is_taken_in b es) (sym (takes_front b e es) ∙ free) in
      block_kept b n (after_deed (machine m s sound) w run.0) es u apart.1 run.3
      ((frames (machine m s sound) w run.0).blocks n b ((meets m s sound byte_at w e run.0 run.1 run.2).takes b ∙ apart.0) h)

  ended_at : (w : World Content) (e : Told K V P A D) (d : Deed Content) (n : ℕ) (ticket : Ticket) (outcome : Result (Vec ℕ A) Error) (answer : Reply K V P A) (b k : ℕ) (x : Outcome Content)
      → EndsLoad e ticket outcome answer → Tells m s sound byte_at w e d → MayAllHappen (machine m s sound) (layout s) (IsEncoded m.is_key m.is_value) w (events_in d)
      → IsReached (machine m s sound) (layout s) (IsEncoded m.is_key m.is_value) w → w.core.steps < last_number
      → HasLoad w n (ticket_of ticket) (Some (Put ticket.hash k x)) (ReadDone (came_of outcome)) → HasBlock w n b → IsAnswerTo m ticket outcome x answer
  ended_at w (told.Steps asked replied core) (deeds.Steps step it new) n ticket outcome answer b k x is tells may r few h stands =
      let step_is : step ≡ model_step.LoadEnd (ticket_of ticket) (came_of outcome) = tells.0 ∙ ap (step_of m) is.0 in
      let shows : Shows m answer it = subst (λ q. Shows m q it) is.1 (said m replied.value it tells.1).shows in
      let follows : Follows (machine m s sound) (layout s) w.core (model_step.LoadEnd (ticket_of ticket) (came_of outcome)) it new =
      subst (λ q. Follows (machine m s sound) (layout s) w.core q it new) step_is may.0.1 in
      answer_to m ticket outcome x answer it shows
      (served_answer (machine m s sound) (layout s) (IsEncoded m.is_key m.is_value) w n (ticket_of ticket) (came_of outcome) it new b k x (demands m.is_key m.is_value s sound) r few h stands follows)
  ended_at w (told.Steps asked replied core) d n ticket outcome answer b k x is tells may r few h stands = absurd tells
  ended_at w e d n ticket outcome answer b k x is tells may r few h stands = absurd is

  pub ends_as : (before mid late : List (Told K V P A D)) (looked read ended : Told K V P A D) (ticket : Ticket) (outcome : Result (Vec ℕ A) Error) (answer : Reply K V P A) (u : World Content)
      → IssuesTicket looked ticket → AreOthers (tickets_in before) mid → IsReadOf read (tickets_in before) outcome → AreOthers (tickets_in before) late
      → EndsLoad ended ticket outcome answer → steps_in (before ++ looked ∷ (mid ++ read ∷ late)) < last_number
      → IsRun m s sound byte_at (before ++ looked ∷ (mid ++ read ∷ (late ++ ended ∷ []))) u
      → (v : World Content) × IsRun m s sound byte_at before v
      × ((n : ℕ) (x : Outcome Content) → newest ticket.hash v.history ≡ Some (Put ticket.hash n x)
      → IsAnswerTo m ticket outcome x answer
      ⊎ (IsTaken m s sound byte_at before v ticket.hash (Put ticket.hash n x)
      ⊎ ((block : ℕ) × (v.kept ticket.hash ≡ Some block) × (is_taken_in block (mid ++ read ∷ late) ≡ true))))
  ends_as before mid late looked read ended ticket outcome answer u is_look mid_others is_read late_others is_end few run =
      let n = tickets_in before in
      let a = run_split m s sound byte_at before looked (mid ++ read ∷ (late ++ ended ∷ [])) u (λ w. opens_no_look_up m s sound byte_at looked ticket w is_look) run in
      let v = a.0 in
      let l = a.2 in
      let w1 = after_deed (machine m s sound) v l.0 in
      let b = leads_split m s sound byte_at w1 mid (read ∷ (late ++ ended ∷ [])) u l.3 in
      let r = b.2 in
      let w3 = after_deed (machine m s sound) b.0 r.0 in
      let c = leads_split m s sound byte_at w3 late (ended ∷ []) u r.3 in
      let e = c.2 in
      let between : LeadsTo m s sound byte_at w1 (mid ++ read ∷ late) c.0 = leads_join m s sound byte_at w1 mid (read ∷ late) b.0 c.0 b.1 (r.0, r.1, r.2, c.1) in
      let all : IsRun m s sound byte_at (before ++ looked ∷ (mid ++ read ∷ late)) c.0 =
      run_join m s sound byte_at before (looked ∷ (mid ++ read ∷ late)) v c.0 a.1 (l.0, l.1, l.2, between) in
      let number : v.issued ≡ n = (runs_counted m s sound byte_at before v a.1).0 in
      let promised = newest ticket.hash v.history in
      let h1 : HasLoad w1 n (ticket_of ticket) promised ReadIssued =
      subst (λ (k : ℕ). HasLoad w1 k (ticket_of ticket) promised ReadIssued) number (looked_at m s sound byte_at v looked l.0 ticket is_look l.1) in
      let h2 = kept m s sound byte_at n (ticket_of ticket) promised ReadIssued tt w1 mid b.0 mid_others b.1 h1 in
      let h3 = read_at m s sound byte_at b.0 read r.0 n outcome (ticket_of ticket) promised is_read r.1 h2 in
      let h4 : HasLoad c.0 n (ticket_of ticket) promised (ReadDone (came_of outcome)) =
      kept m s sound byte_at n (ticket_of ticket) promised (ReadDone (came_of outcome)) tt w3 late c.0 late_others c.1 h3 in (
        v,
        a.1,
        λ k x newer.
            elim (kept_or_taken before v ticket.hash k x a.1 newer) [
              | inr taken ↦ inr (inl taken)
              | inl stands ↦ elim (false_or_true (is_taken_in stands.0 (mid ++ read ∷ late))) [
                | inr since ↦ inr (inr (stands.0, stands.1, since))
                | inl free ↦ inl (
                    let b1 : HasBlock w1 n stands.0 = subst (λ (j : ℕ). HasBlock w1 j stands.0) number (block_at v looked l.0 ticket stands.0 is_look l.1 stands.1) in
                    let b4 : HasBlock c.0 n stands.0 = block_kept stands.0 n w1 (mid ++ read ∷ late) c.0 free between b1 in
                    ended_at c.0 ended e.0 n ticket outcome answer stands.0 k x is_end e.1 e.2 (run_reached m s sound byte_at (before ++ looked ∷ (mid ++ read ∷ late)) c.0 all)
                    (few_steps (before ++ looked ∷ (mid ++ read ∷ late)) c.0 all few)
                    (subst (λ (p : Option (Event Content)). HasLoad c.0 n (ticket_of ticket) p (ReadDone (came_of outcome))) newer h4) b4
                    )
              ]
            ],
      )

  pub look_caused : (before after : List (Told K V P A D)) (looked : Told K V P A D) (h : ℕ) (throttled : Bool) (u : World Content)
      → LooksUp looked h throttled reply.Miss → steps_in before < last_number
      → IsRun m s sound byte_at (before ++ looked ∷ after) u
      → (v : World Content) × IsRun m s sound byte_at before v
      × ((n : ℕ) (x : Outcome Content) → newest h v.history ≡ Some (Put h n x) → x ≢ NoRecord → IsTaken m s sound byte_at before v h (Put h n x))
  look_caused before after looked h throttled u is few run =
      let found = looks_up before after looked h throttled reply.Miss u is few run in (
        found.0,
        found.1,
        λ n x newer some.
            elim (found.2 n x newer some) [
              | inl other ↦ elim other [
                | inl slow ↦ absurd (true≢false (ap is_miss slow.1))
                | inr reads ↦ absurd (true≢false (ap is_miss (reads.1).1))
              ]
              | inr taken ↦ taken
            ],
      )

  pub end_caused : (before mid late : List (Told K V P A D)) (looked read ended : Told K V P A D) (ticket : Ticket) (bytes : Vec ℕ A) (u : World Content)
      → IssuesTicket looked ticket → AreOthers (tickets_in before) mid → IsReadOf read (tickets_in before) (Ok bytes) → AreOthers (tickets_in before) late
      → EndsLoad ended ticket (Ok bytes) reply.Miss → steps_in (before ++ looked ∷ (mid ++ read ∷ late)) < last_number
      → IsRun m s sound byte_at (before ++ looked ∷ (mid ++ read ∷ (late ++ ended ∷ []))) u
      → (v : World Content) × IsRun m s sound byte_at before v
      × ((n : ℕ) (c : Content) → newest ticket.hash v.history ≡ Some (Put ticket.hash n (Holds c))
      → IsTaken m s sound byte_at before v ticket.hash (Put ticket.hash n (Holds c))
      ⊎ ((block : ℕ) × (v.kept ticket.hash ≡ Some block) × (is_taken_in block (mid ++ read ∷ late) ≡ true)))
  end_caused before mid late looked read ended ticket bytes u is_look mid_others is_read late_others is_end few run =
      let found = ends_as before mid late looked read ended ticket (Ok bytes) reply.Miss u is_look mid_others is_read late_others is_end few run in (
        found.0,
        found.1,
        λ n c newer.
            elim (found.2 n (Holds c) newer) [
              | inl answered ↦ elim answered [
                | inl entry ↦ absurd (true≢false (ap is_miss entry.3))
                | inr refused ↦ absurd refused
              ]
              | inr cause ↦ cause
            ],
      )
