-- What a look-up is answered is what was newest when it looked.
use Rattle.std.proofs.Common.{◌≡◌, ℕ, List, [], ◌∷◌, ◌++◌, Option, Some, Result, refl, sym, ap, ◌∙◌, subst}
use Rattle.std.specs.declared.vec.Vec.{Vec}
use Rattle.foyer_device_page.specs.declared.error.Error.{Error}
use Rattle.foyer_core_model.specs.World.{World, MayAllHappen}
use Rattle.foyer_core_model.specs.Laws.{IsReached}
use Rattle.foyer_core_model.specs.Record.{Holds}
use Rattle.foyer_core_model.specs.Event.{Event, Put, newest}
use Rattle.foyer_core_model.specs.Follows.{Follows}
use Rattle.foyer_core_model.specs.Access.{ReadState, ReadIssued, ReadDone}
use Rattle.foyer_core_model.specs.Step as model_step
use Rattle.foyer_core_model.specs.Reply as model_reply
use Rattle.foyer_core_model.proofs.Promises.{reached_more}
use Rattle.foyer_core_rights.specs.Deeds as deeds
use Rattle.foyer_core_rights.specs.Deeds.{Deed, events_in, after_deed}
use Rattle.foyer_core_rights.specs.Frames.{IsSettled, HasLoad}
use Rattle.foyer_core_rights.proofs.FrameLemmas.{frames}
use Rattle.foyer_core_rights.proofs.ServingLemmas.{looks, read_done, ends}
use Rattle.foyer_core_laws.specs.Content.{Content, Meaning, content}
use Rattle.foyer_core_laws.specs.CoreRules.{layout, machine, IsEncoded}
use Rattle.foyer_core_laws.specs.Sizes.{AreValid}
use Rattle.foyer_core_laws.specs.Settings.{Settings}
use Rattle.foyer_core_laws.proofs.LawLemmas.{demands}
use Rattle.foyer_core_steps.specs.Asked.{step_of, ticket_of, came_of, age_of}
use Rattle.foyer_core_steps.specs.Replied.{IsReply}
use Rattle.foyer_core_steps.specs.declared.step.Ticket.{Ticket}
use Rattle.foyer_core_told.specs.declared.event.Told.{Told}
use Rattle.foyer_core_told.specs.declared.event.Told.TheVariants as told
use Rattle.foyer_core_told.specs.ToldRuns.{Opens, Tells, LeadsTo, IsRun}
use Rattle.foyer_core_told.specs.ToldLoads.{tickets_in, IssuesTicket, IsReadOf, IsOther, AreOthers, AnswersEntry}
use Rattle.foyer_core_told.proofs.ToldStepLemmas.{leads_split, run_split}
use Rattle.foyer_core_told.proofs.ToldCounts.{runs_counted}

module _ {K V P A D : Type 0} (m : Meaning K V P) (s : Settings) (sound : AreValid s) (byte_at : D → ℕ → ℕ → ℕ) where
  -- what the world after a look-up has of it
  pub looked_at : (w : World Content) (e : Told K V P A D) (d : Deed Content) (ticket : Ticket) → IssuesTicket e ticket → Tells m s sound byte_at w e d
      → HasLoad (after_deed (machine m s sound) w d) w.issued (ticket_of ticket) (newest ticket.hash w.history) ReadIssued
  looked_at w (told.Steps asked replied core) (deeds.Steps step answer new) ticket is tells =
      let step_is : step ≡ model_step.LoadBegin is.0.0 is.0.1 = tells.0 ∙ ap (step_of m) is.0.2 in
      let answer_is : answer ≡ model_reply.Read (ticket_of ticket) = subst (λ r. IsReply m r answer) is.1 tells.1 in
      subst (λ (x : model_step.Step Content × model_reply.Reply Content). HasLoad (after_deed (machine m s sound) w (deeds.Steps x.0 x.1 new)) w.issued (ticket_of ticket) (newest ticket.hash w.history) ReadIssued)
      (λ i. (sym step_is i, sym answer_is i))
      (looks (machine m s sound) (layout s) (IsEncoded m.is_key m.is_value) w is.0.0 is.0.1 (ticket_of ticket) new)
  looked_at w (told.Steps asked replied core) d ticket is tells = absurd tells
  looked_at w e d ticket is tells = absurd is

  -- others don't take its right
  spared : (n : ℕ) (w : World Content) (e : Told K V P A D) (d : Deed Content) → IsOther n e → Tells m s sound byte_at w e d → deeds.Takes d (deeds.OfLoad n) → ⊥
  spared n w (told.Reads j came) (deeds.ReadsAt k result) is tells takes = is (sym tells.0 ∙ takes)
  spared n w e (deeds.ReadsAt k result) is tells takes = tells
  spared n w e d is tells takes = takes

  pub kept : (n : ℕ) (t : model_step.Ticket) (promised : Option (Event Content)) (state : ReadState) → IsSettled state → (w : World Content) (es : List (Told K V P A D)) (u : World Content) → AreOthers n es
      → LeadsTo m s sound byte_at w es u → HasLoad w n t promised state → HasLoad u n t promised state
  kept n t promised state calm w [] u all is h = subst (λ (x : World Content). HasLoad x n t promised state) (sym is) h
  kept n t promised state calm w (e ∷ es) u all run h =
      kept n t promised state calm (after_deed (machine m s sound) w run.0) es u all.1 run.3
      ((frames (machine m s sound) w run.0).loads n t promised state calm (spared n w e run.0 all.0 run.1) h)

  pub read_at : (w : World Content) (e : Told K V P A D) (d : Deed Content) (n : ℕ) (outcome : Result (Vec ℕ A) Error) (t : model_step.Ticket) (promised : Option (Event Content)) → IsReadOf e n outcome
      → Tells m s sound byte_at w e d → HasLoad w n t promised ReadIssued → HasLoad (after_deed (machine m s sound) w d) n t promised (ReadDone (came_of outcome))
  read_at w (told.Reads j came) (deeds.ReadsAt k result) n outcome t promised is tells h =
      subst (λ (x : ℕ × model_step.ReadResult). HasLoad (after_deed (machine m s sound) w (deeds.ReadsAt x.0 x.1)) n t promised (ReadDone (came_of outcome)))
      (λ i. (sym (tells.0 ∙ is.0) i, sym (tells.1 ∙ ap came_of is.1) i))
      (read_done (machine m s sound) (layout s) (IsEncoded m.is_key m.is_value) w n t promised (came_of outcome) h)
  read_at w (told.Reads j came) d n outcome t promised is tells h = absurd tells
  read_at w e d n outcome t promised is tells h = absurd is

  pub reached : (w : World Content) (es : List (Told K V P A D)) (u : World Content) → LeadsTo m s sound byte_at w es u
      → IsReached (machine m s sound) (layout s) (IsEncoded m.is_key m.is_value) w → IsReached (machine m s sound) (layout s) (IsEncoded m.is_key m.is_value) u
  reached w [] u is r = subst (IsReached (machine m s sound) (layout s) (IsEncoded m.is_key m.is_value)) (sym is) r
  reached w (e ∷ es) u run r =
      reached (after_deed (machine m s sound) w run.0) es u run.3 (reached_more (machine m s sound) (layout s) (IsEncoded m.is_key m.is_value) w (events_in run.0) r run.2)

  answered_at : (w : World Content) (e : Told K V P A D) (d : Deed Content) (n : ℕ) (ticket : Ticket) (outcome : Result (Vec ℕ A) Error) (key : K) (value : V) (promised : Option (Event Content))
      → AnswersEntry e ticket outcome key value → Tells m s sound byte_at w e d → MayAllHappen (machine m s sound) (layout s) (IsEncoded m.is_key m.is_value) w (events_in d)
      → IsReached (machine m s sound) (layout s) (IsEncoded m.is_key m.is_value) w → HasLoad w n (ticket_of ticket) promised (ReadDone (came_of outcome))
      → promised ≡ Some (Put ticket.hash ticket.address.sequence (Holds (content m key value)))
  answered_at w (told.Steps asked replied core) (deeds.Steps step answer new) n ticket outcome key value promised is tells may r h =
      let step_is : step ≡ model_step.LoadEnd (ticket_of ticket) (came_of outcome) = tells.0 ∙ ap (step_of m) is.0 in
      let answer_is : answer ≡ model_reply.Entry (content m key value) (age_of is.1.0) = subst (λ x. IsReply m x answer) is.1.1 tells.1 in
      let follows : Follows (machine m s sound) (layout s) w.core (model_step.LoadEnd (ticket_of ticket) (came_of outcome)) (model_reply.Entry (content m key value) (age_of is.1.0)) new =
      subst (λ (x : model_step.Step Content × model_reply.Reply Content). Follows (machine m s sound) (layout s) w.core x.0 x.1 new) (λ i. (step_is i, answer_is i)) may.0.1 in
      ends (machine m s sound) (layout s) (IsEncoded m.is_key m.is_value) w n (ticket_of ticket) promised (came_of outcome) (content m key value) (age_of is.1.0) new
      (demands m.is_key m.is_value s sound) r h follows
  answered_at w (told.Steps asked replied core) d n ticket outcome key value promised is tells may r h = absurd tells
  answered_at w e d n ticket outcome key value promised is tells may r h = absurd is

  pub opens_no_look_up : (e : Told K V P A D) (ticket : Ticket) (w : World Content) → IssuesTicket e ticket → Opens m s sound byte_at e w → ⊥
  opens_no_look_up (told.Steps asked replied core) ticket w is opens = opens
  opens_no_look_up e ticket w is opens = is

  pub run_reached : (log : List (Told K V P A D)) (u : World Content) → IsRun m s sound byte_at log u → IsReached (machine m s sound) (layout s) (IsEncoded m.is_key m.is_value) u
  run_reached [] u run = absurd run
  run_reached (told.Opened core disk ∷ es) u run = reached run.0 es u run.2 (record { first = run.0; events = []; opened = run.1.0; happened = tt; is = refl })
  run_reached (e ∷ es) u run = absurd run.1

  pub answers : (before mid late : List (Told K V P A D)) (looked read answered : Told K V P A D) (ticket : Ticket) (outcome : Result (Vec ℕ A) Error) (key : K) (value : V) (u : World Content)
      → IssuesTicket looked ticket → AreOthers (tickets_in before) mid → IsReadOf read (tickets_in before) outcome → AreOthers (tickets_in before) late
      → AnswersEntry answered ticket outcome key value
      → IsRun m s sound byte_at (before ++ looked ∷ (mid ++ read ∷ (late ++ answered ∷ []))) u
      → (v : World Content) × IsRun m s sound byte_at before v
      × (newest ticket.hash v.history ≡ Some (Put ticket.hash ticket.address.sequence (Holds (content m key value))))
  answers before mid late looked read answered ticket outcome key value u is_look mid_others is_read late_others is_answer run =
      let n = tickets_in before in
      let a = run_split m s sound byte_at before looked (mid ++ read ∷ (late ++ answered ∷ [])) u (λ w. opens_no_look_up looked ticket w is_look) run in
      let v = a.0 in
      let l = a.2 in
      let w1 = after_deed (machine m s sound) v l.0 in
      let b = leads_split m s sound byte_at w1 mid (read ∷ (late ++ answered ∷ [])) u l.3 in
      let r = b.2 in
      let w3 = after_deed (machine m s sound) b.0 r.0 in
      let c = leads_split m s sound byte_at w3 late (answered ∷ []) u r.3 in
      let e = c.2 in
      let reached_1 = reached_more (machine m s sound) (layout s) (IsEncoded m.is_key m.is_value) v (events_in l.0) (run_reached before v a.1) l.2 in
      let reached_2 = reached w1 mid b.0 b.1 reached_1 in
      let reached_3 = reached_more (machine m s sound) (layout s) (IsEncoded m.is_key m.is_value) b.0 (events_in r.0) reached_2 r.2 in
      let reached_4 = reached w3 late c.0 c.1 reached_3 in
      let promised = newest ticket.hash v.history in
      let number : v.issued ≡ n = (runs_counted m s sound byte_at before v a.1).0 in
      let h1 : HasLoad w1 n (ticket_of ticket) promised ReadIssued =
      subst (λ (k : ℕ). HasLoad w1 k (ticket_of ticket) promised ReadIssued) number (looked_at v looked l.0 ticket is_look l.1) in
      let h2 = kept n (ticket_of ticket) promised ReadIssued tt w1 mid b.0 mid_others b.1 h1 in
      let h3 = read_at b.0 read r.0 n outcome (ticket_of ticket) promised is_read r.1 h2 in
      let h4 = kept n (ticket_of ticket) promised (ReadDone (came_of outcome)) tt w3 late c.0 late_others c.1 h3 in
      (v, a.1, answered_at c.0 answered e.0 n ticket outcome key value promised is_answer e.1 e.2 reached_4 h4)
