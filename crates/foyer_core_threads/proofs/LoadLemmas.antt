-- A load, from its look-up to its answer, in the history that its session has seen.
use Rattle.std.proofs.Common.{◌≡◌, ◌≢◌, ◌⊎◌, inl, inr, ℕ, ◌<◌, ◌≤◌, Bool, true, false, true≢false, ◌||◌, List, [], ◌∷◌, ◌++◌, Option, Some, Result, Ok, Err, refl, sym, ap, ◌∙◌, subst}
use Rattle.std.specs.declared.vec.Vec.{Vec}
use Rattle.foyer_device_page.specs.declared.error.Error.{Error}
use Rattle.foyer_device_page.specs.declared.error.ErrorKind.TheVariants as kind
use Rattle.foyer_format_record.specs.declared.serde.ages.Age.{Age}
use Rattle.foyer_core_chronicle.specs.Rights.{times}
use Rattle.foyer_core_chronicle.specs.SharedHistory.{Continues}
use Rattle.foyer_core_chronicle.specs.declared.View.{View}
use Rattle.foyer_core_model.specs.Access.{ReadIssued, ReadDone}
use Rattle.foyer_core_model.specs.Event.{Event, Put, newest, sequence_in}
use Rattle.foyer_core_model.specs.Follows.{Follows}
use Rattle.foyer_core_model.specs.Numbers.{last_number}
use Rattle.foyer_core_model.specs.Record.{NoRecord, Holds}
use Rattle.foyer_core_model.specs.Reply as model_reply
use Rattle.foyer_core_model.specs.World.{World, MayAllHappen}
use Rattle.foyer_core_rights.specs.Deeds as deeds
use Rattle.foyer_core_rights.specs.Deeds.{Deed, events_in, after_deed}
use Rattle.foyer_core_rights.specs.Frames.{HasLoad}
use Rattle.foyer_core_laws.specs.Content.{Content, Meaning, content}
use Rattle.foyer_core_laws.specs.CoreRules.{layout, machine, IsEncoded}
use Rattle.foyer_core_laws.specs.Sizes.{AreValid}
use Rattle.foyer_core_laws.specs.Settings.{Settings}
use Rattle.foyer_core_steps.specs.Asked.{ticket_of, came_of}
use Rattle.foyer_core_steps.specs.Replied.{IsReply}
use Rattle.foyer_core_steps.specs.declared.reply.Reply.{Reply}
use Rattle.foyer_core_steps.specs.declared.reply.Reply.TheVariants as replies
use Rattle.foyer_core_steps.specs.declared.step.Step.{Step}
use Rattle.foyer_core_steps.specs.declared.step.Step.TheVariants as steps
use Rattle.foyer_core_steps.specs.declared.step.Ticket.{Ticket}
use Rattle.foyer_core_shared.specs.Replies.{may_reply}
use Rattle.foyer_core_told.specs.declared.event.Told.{Told}
use Rattle.foyer_core_told.specs.declared.event.Told.TheVariants as told
use Rattle.foyer_core_told.specs.ToldRuns.{Opens, Tells, IsRun, IsTold}
use Rattle.foyer_core_told.specs.ToldLoads.{tickets_in, steps_in, IssuesTicket, IsReadOf, AreOthers, AnswersEntry}
use Rattle.foyer_core_told.specs.ToldMisses.{LooksUp, EndsLoad, IsTaken, takes_away, is_taken_in}
use Rattle.foyer_core_told.specs.ToldQueued.{IsAllWritten}
use Rattle.foyer_core_told.specs.ToldRights.{ticket_right, takes}
use Rattle.foyer_core_told.specs.Telling.{IsStep, BringsTrue, HasGoneOn, HasStepped}
use Rattle.foyer_core_told.proofs.ToldStepLemmas.{run_split}
use Rattle.foyer_core_told.proofs.ToldCounts.{runs_counted}
use Rattle.foyer_core_told.proofs.ToldLoadLemmas.{opens_no_look_up, looked_at, answers}
use Rattle.foyer_core_told.proofs.ToldMissLemmas.{look_caused, end_caused}
use Rattle.foyer_core_told.proofs.ToldRightLemmas.{excluded}
use Rattle.foyer_core_told.proofs.TellingLemmas.{not_empty}
use Rattle.foyer_io_told.specs.ToldAccess.{HasTicket}
use Rattle.foyer_io_told.proofs.ToldAccessLemmas.{known_on}
use Rattle.foyer_core_threads.specs.Newest.{Moment, WasNewest, WasMissed, WasMissedWritten, WasPutLast}
use Rattle.foyer_core_threads.proofs.HistoryJoins.{in_one, two_in_one, ticket_above}

or_second : (a b : Bool) → b ≡ true → (a || b) ≡ true
or_second true b is = refl
or_second false b is = is

holds_record : (c : Content) → Holds c ≢ NoRecord
holds_record c same = cc

-- an entry that was newest when all that had been queued was written was put last
pub put_last_of : {K V P A D : Type 0} (m : Meaning K V P) (byte_at : D → ℕ → ℕ → ℕ) (before after : List (Told K V P A D)) (h : ℕ) (c : Content) (newest_is : WasNewest m byte_at before after h c) → IsAllWritten m byte_at h newest_is.moment.there
    → WasPutLast m byte_at before after h c
put_last_of m byte_at before after h c newest_is written = record {
  moment = newest_is.moment;
  put_last = λ s sound u run.
      let a = newest_is.newest_then s sound u run in (
        a.0,
        a.1,
        (
          a.2.0,
          a.2.1,
          λ front since e sequence split queuing.
              elim (written s sound a.0 a.1 front since e sequence split queuing) [
                | inl below ↦ inl (subst (λ k. sequence ≤ k) (ap sequence_in a.2.1) below)
                | inr lost ↦ inr lost
              ],
        ),
      );
}

module _ {K V P A D : Type 0} where
  issues : (h : ℕ) (throttled : Bool) (ticket : Ticket) (e : Told K V P A D) → IsStep (steps.LoadBegin h throttled) (replies.Read ticket) e → IssuesTicket e ticket
  issues h throttled ticket (told.Steps made gave left) is = ((h, throttled, is.0), is.1)
  issues h throttled ticket e is = absurd is

  looks_up : (h : ℕ) (throttled : Bool) (answer : Reply K V P A) (e : Told K V P A D) → IsStep (steps.LoadBegin h throttled) answer e → LooksUp e h throttled answer
  looks_up h throttled answer (told.Steps made gave left) is = is
  looks_up h throttled answer e is = absurd is

  ends_load : (ticket : Ticket) (outcome : Result (Vec ℕ A) Error) (answer : Reply K V P A) (e : Told K V P A D) → IsStep (steps.LoadEnd ticket outcome) answer e → EndsLoad e ticket outcome answer
  ends_load ticket outcome answer (told.Steps made gave left) is = is
  ends_load ticket outcome answer e is = absurd is

  answers_entry : (ticket : Ticket) (outcome : Result (Vec ℕ A) Error) (key : K) (value : V) (age : Age) (e : Told K V P A D) → IsStep (steps.LoadEnd ticket outcome) (replies.Entry key value age) e
      → AnswersEntry e ticket outcome key value
  answers_entry ticket outcome key value age (told.Steps made gave left) is = (is.0, (age, is.1))
  answers_entry ticket outcome key value age e is = absurd is

  -- what was taken in a part of the history was in all of it
  taken_front : (b : ℕ) (e : Told K V P A D) (es : List (Told K V P A D)) → is_taken_in b es ≡ true → is_taken_in b (e ∷ es) ≡ true
  taken_front b (told.Steps step reply core) es is = or_second (takes_away b reply.value) (is_taken_in b es) is
  taken_front b (told.Opened core disk) es is = is
  taken_front b (told.Reads number outcome) es is = is
  taken_front b (told.Scans block outcome) es is = is
  taken_front b (told.Writes flusher is_ok disk) es is = is
  taken_front b (told.Cleans block is_ok disk) es is = is

  taken_more : (b : ℕ) (xs ys : List (Told K V P A D)) → is_taken_in b xs ≡ true → is_taken_in b (xs ++ ys) ≡ true
  taken_more b [] ys is = absurd (true≢false (sym is))
  taken_more b (told.Steps step reply core ∷ xs) ys is = go (takes_away b reply.value) (taken_more b xs ys) is
    where
      go : (t : Bool) → (is_taken_in b xs ≡ true → is_taken_in b (xs ++ ys) ≡ true) → t || is_taken_in b xs ≡ true → t || is_taken_in b (xs ++ ys) ≡ true
      go true rest is = refl
      go false rest is = rest is
  taken_more b (told.Opened core disk ∷ xs) ys is = taken_more b xs ys is
  taken_more b (told.Reads number outcome ∷ xs) ys is = taken_more b xs ys is
  taken_more b (told.Scans block outcome ∷ xs) ys is = taken_more b xs ys is
  taken_more b (told.Writes flusher is_ok disk ∷ xs) ys is = taken_more b xs ys is
  taken_more b (told.Cleans block is_ok disk ∷ xs) ys is = taken_more b xs ys is

  taken_between : (b : ℕ) (mid late : List (Told K V P A D)) (e c : Told K V P A D) → is_taken_in b (mid ++ e ∷ late) ≡ true → is_taken_in b (mid ++ e ∷ (late ++ c ∷ [])) ≡ true
  taken_between b mid late e c is = subst (λ l. is_taken_in b l ≡ true) (regroup mid) (taken_more b (mid ++ e ∷ late) (c ∷ []) is)
    where
      regroup : (xs : List (Told K V P A D)) → (xs ++ e ∷ late) ++ c ∷ [] ≡ xs ++ e ∷ (late ++ c ∷ [])
      regroup [] = refl
      regroup (x ∷ xs) = ap (λ l. x ∷ l) (regroup xs)

  module _ (m : Meaning K V P) (byte_at : D → ℕ → ℕ → ℕ) where
    -- a look-up that issued a read: its ticket is known
    pub looked_known : (mine after : View (Told K V P A D)) (h : ℕ) (throttled : Bool) (ticket : Ticket) (n : ℕ) → HasStepped m byte_at mine after (steps.LoadBegin h throttled) (replies.Read ticket) n
        → HasTicket m byte_at after.seen n ticket ReadIssued
    looked_known mine after h throttled ticket n stepped =
        let g = stepped.gone in
        let looks : IssuesTicket g.event ticket = issues h throttled ticket g.event g.is in
        subst (λ l. HasTicket m byte_at l n ticket ReadIssued) (sym g.seen) (
          not_empty g.log g.event,
          λ s sound u run.
              let parts = run_split m s sound byte_at g.log g.event [] u (λ w. opens_no_look_up m s sound byte_at g.event ticket w looks) run in
              let v : World Content = parts.0 in
              let number : v.issued ≡ n = (runs_counted m s sound byte_at g.log v parts.1).0 ∙ sym stepped.number_is in
              let there : HasLoad (after_deed (machine m s sound) v parts.2.0) v.issued (ticket_of ticket) (newest ticket.hash v.history) ReadIssued =
              looked_at m s sound byte_at v g.event parts.2.0 ticket looks parts.2.1 in
              (newest ticket.hash v.history, subst (λ (x : World Content × ℕ). HasLoad x.0 x.1 (ticket_of ticket) (newest ticket.hash v.history) ReadIssued) (λ i. (sym parts.2.3 i, number i)) there),
        )

    -- a read that was done: its outcome may be brought
    pub end_brings : (mine : View (Told K V P A D)) (n : ℕ) (ticket : Ticket) (outcome : Result (Vec ℕ A) Error) → 0 < times (ticket_right n) mine.has → HasTicket m byte_at mine.seen n ticket (ReadDone (came_of outcome))
        → BringsTrue m byte_at mine (steps.LoadEnd ticket outcome)
    end_brings mine n ticket outcome right knows s sound log u kept run =
        let there = known_on m byte_at mine.seen mine.has (λ s w. (promise : Option (Event Content)) × HasLoad w n (ticket_of ticket) promise (ReadDone (came_of outcome))) log knows kept
        (λ s w u keeps h. (h.0, keeps.loads n (ticket_of ticket) h.0 (ReadDone (came_of outcome)) tt (kept.2 (ticket_right n) right) h.1)) in
        let h = (there.1 s sound u run).1 in
        (n, h.load, h.at, h.ticket, h.read_state)

    -- the moment of the first event of a list that was seen
    abbrev moment_of : (before after log rest : List (Told K V P A D)) (e : Told K V P A D) (has : List ℕ) → Continues takes log before has → after ≡ log ++ e ∷ rest → IsTold m byte_at after → Moment m byte_at before after
    moment_of before after log rest e has kept is legal = record { there = log; first = kept.0; since = e ∷ rest; later = kept.1; earlier = is; told = legal }

    -- An entry was newest when it was looked up.
    newest_there : (mine looked_view read_view after : View (Told K V P A D)) (h : ℕ) (throttled : Bool) (ticket : Ticket) (n k : ℕ) (outcome : Result (Vec ℕ A) Error) (key : K) (value : V) (age : Age)
        → (looked : HasStepped m byte_at mine looked_view (steps.LoadBegin h throttled) (replies.Read ticket) n) → HasGoneOn m byte_at looked_view read_view (λ e. IsReadOf e n outcome)
        → HasStepped m byte_at read_view after (steps.LoadEnd ticket outcome) (replies.Entry key value age) k → ticket.hash ≡ h
        → (was : WasNewest m byte_at mine.seen after.seen h (content m key value)) × (was.moment.there ≡ looked.gone.log)
    newest_there mine looked_view read_view after h throttled ticket n k outcome key value age looked read ended same =
        let l = looked.gone in
        let e = ended.gone in
        let mid = read.kept.0 in
        let late = e.kept.0 in
        let has_1 : 0 < times (ticket_right n) looked_view.has = looked.ticket refl in
        let has_2 : 0 < times (ticket_right n) read_view.has = read.rights (ticket_right n) (ticket_above n) has_1 in
        let number : n ≡ tickets_in l.log = looked.number_is in
        let mid_others : AreOthers (tickets_in l.log) mid = subst (λ j. AreOthers j mid) number ((excluded mid).others n (read.kept.2 (ticket_right n) has_1)) in
        let late_others : AreOthers (tickets_in l.log) late = subst (λ j. AreOthers j late) number ((excluded late).others n (e.kept.2 (ticket_right n) has_2)) in
        let is_read : IsReadOf read.event (tickets_in l.log) outcome = subst (λ j. IsReadOf read.event j outcome) number read.is in
        let whole : after.seen ≡ l.log ++ l.event ∷ (mid ++ read.event ∷ (late ++ e.event ∷ [])) =
        e.seen ∙ ap (λ x. x ++ e.event ∷ []) (e.kept.1 ∙ ap (λ x. x ++ late) (read.seen ∙ ap (λ x. x ++ read.event ∷ []) (read.kept.1 ∙ ap (λ x. x ++ mid) l.seen)))
        ∙ in_one l.log mid late l.event read.event e.event in (
          record {
            moment = moment_of mine.seen after.seen l.log (mid ++ read.event ∷ (late ++ e.event ∷ [])) l.event mine.has l.kept whole (subst (IsTold m byte_at) (sym e.seen) e.goes_on);
            newest_then = λ s sound u run.
                let a = answers m s sound byte_at l.log mid late l.event read.event e.event ticket outcome key value u (issues h throttled ticket l.event l.is) mid_others is_read late_others
                (answers_entry ticket outcome key value age e.event e.is) (subst (λ x. IsRun m s sound byte_at x u) whole run) in
                (a.0, a.1, (ticket.address.sequence, subst (λ j. newest j a.0.history ≡ Some (Put j ticket.address.sequence (Holds (content m key value)))) same a.2));
          },
          refl,
        )

    pub was_newest : (mine looked_view read_view after : View (Told K V P A D)) (h : ℕ) (throttled : Bool) (ticket : Ticket) (n k : ℕ) (outcome : Result (Vec ℕ A) Error) (key : K) (value : V) (age : Age)
        → HasStepped m byte_at mine looked_view (steps.LoadBegin h throttled) (replies.Read ticket) n → HasGoneOn m byte_at looked_view read_view (λ e. IsReadOf e n outcome)
        → HasStepped m byte_at read_view after (steps.LoadEnd ticket outcome) (replies.Entry key value age) k → ticket.hash ≡ h
        → WasNewest m byte_at mine.seen after.seen h (content m key value)
    was_newest mine looked_view read_view after h throttled ticket n k outcome key value age looked read ended same = (newest_there mine looked_view read_view after h throttled ticket n k outcome key value age looked read ended same).0

    -- It was put last then, if all that had been queued was written.
    pub was_put_last : (mine looked_view read_view after : View (Told K V P A D)) (h : ℕ) (throttled : Bool) (ticket : Ticket) (n k : ℕ) (outcome : Result (Vec ℕ A) Error) (key : K) (value : V) (age : Age)
        → (looked : HasStepped m byte_at mine looked_view (steps.LoadBegin h throttled) (replies.Read ticket) n) → IsAllWritten m byte_at h looked.gone.log → HasGoneOn m byte_at looked_view read_view (λ e. IsReadOf e n outcome)
        → HasStepped m byte_at read_view after (steps.LoadEnd ticket outcome) (replies.Entry key value age) k → ticket.hash ≡ h
        → WasPutLast m byte_at mine.seen after.seen h (content m key value)
    was_put_last mine looked_view read_view after h throttled ticket n k outcome key value age looked written read ended same =
        let was = newest_there mine looked_view read_view after h throttled ticket n k outcome key value age looked read ended same in
        put_last_of m byte_at mine.seen after.seen h (content m key value) was.0 (subst (IsAllWritten m byte_at h) (sym was.1) written)

    -- a step that misses counts
    pub opens_no_step : (s : Settings) (sound : AreValid s) (step : Step K V P A) (answer : Reply K V P A) (e : Told K V P A D) (w : World Content) → IsStep step answer e → Opens m s sound byte_at e w → ⊥
    opens_no_step s sound step answer (told.Steps made gave left) w is opens = opens
    opens_no_step s sound step answer e w is opens = is

    miss_few : (s : Settings) (sound : AreValid s) (w : World Content) (step : Step K V P A) (e : Told K V P A D) (d : Deed Content) → IsStep step replies.Miss e → Tells m s sound byte_at w e d
        → MayAllHappen (machine m s sound) (layout s) (IsEncoded m.is_key m.is_value) w (events_in d) → w.core.steps < last_number
    miss_few s sound w step (told.Steps made gave left) (deeds.Steps it answer new) is tells may =
        let answer_is : answer ≡ model_reply.Miss = subst (λ r. IsReply m r answer) is.1 tells.1 in
        (subst (λ x. Follows (machine m s sound) (layout s) w.core it x new) answer_is may.0.1).0
    miss_few s sound w step (told.Steps made gave left) d is tells may = absurd tells
    miss_few s sound w step e d is tells may = absurd is

    few_before : (s : Settings) (sound : AreValid s) (log : List (Told K V P A D)) (step : Step K V P A) (e : Told K V P A D) (u : World Content) → IsStep step replies.Miss e → IsRun m s sound byte_at (log ++ e ∷ []) u → steps_in log < last_number
    few_before s sound log step e u is run =
        let parts = run_split m s sound byte_at log e [] u (λ w. opens_no_step s sound step replies.Miss e w is) run in
        subst (λ k. k < last_number) ((runs_counted m s sound byte_at log parts.0 parts.1).1) (miss_few s sound parts.0 step e parts.2.0 is parts.2.1 parts.2.2)

    -- A look-up that misses.
    missed_there : (mine after : View (Told K V P A D)) (h : ℕ) (throttled : Bool) (n : ℕ) → (stepped : HasStepped m byte_at mine after (steps.LoadBegin h throttled) replies.Miss n) → (was : WasMissed m byte_at mine.seen after.seen h) × (was.moment.there ≡ stepped.gone.log)
    missed_there mine after h throttled n stepped =
        let g = stepped.gone in (
          record {
            moment = moment_of mine.seen after.seen g.log [] g.event mine.has g.kept g.seen (subst (IsTold m byte_at) (sym g.seen) g.goes_on);
            caused = λ s sound u run.
                let told_run : IsRun m s sound byte_at (g.log ++ g.event ∷ []) u = subst (λ x. IsRun m s sound byte_at x u) g.seen run in
                let a = look_caused m s sound byte_at g.log [] g.event h throttled u (looks_up h throttled replies.Miss g.event g.is)
                (few_before s sound g.log (steps.LoadBegin h throttled) g.event u g.is told_run) told_run in
                (a.0, a.1, λ j c newer. inl (a.2 j (Holds c) newer (holds_record c)));
          },
          refl,
        )

    pub was_missed : (mine after : View (Told K V P A D)) (h : ℕ) (throttled : Bool) (n : ℕ) → HasStepped m byte_at mine after (steps.LoadBegin h throttled) replies.Miss n → WasMissed m byte_at mine.seen after.seen h
    was_missed mine after h throttled n stepped = (missed_there mine after h throttled n stepped).0

    pub was_missed_written : (mine after : View (Told K V P A D)) (h : ℕ) (throttled : Bool) (n : ℕ) → (stepped : HasStepped m byte_at mine after (steps.LoadBegin h throttled) replies.Miss n) → IsAllWritten m byte_at h stepped.gone.log → WasMissedWritten m byte_at mine.seen after.seen h
    was_missed_written mine after h throttled n stepped written =
        let was = missed_there mine after h throttled n stepped in
        record { missed = was.0; written = subst (IsAllWritten m byte_at h) (sym was.1) written }

    -- An end that misses, by bytes that were read.
    missed_late_there : (mine looked_view read_view after : View (Told K V P A D)) (h : ℕ) (throttled : Bool) (ticket : Ticket) (n k : ℕ) (outcome : Result (Vec ℕ A) Error)
        → (looked : HasStepped m byte_at mine looked_view (steps.LoadBegin h throttled) (replies.Read ticket) n) → HasGoneOn m byte_at looked_view read_view (λ e. IsReadOf e n outcome)
        → HasStepped m byte_at read_view after (steps.LoadEnd ticket outcome) replies.Miss k → may_reply {K = K} {V = V} {P = P} {A = A} (steps.LoadEnd ticket outcome) replies.Miss ≡ true → ticket.hash ≡ h
        → (was : WasMissed m byte_at mine.seen after.seen h) × (was.moment.there ≡ looked.gone.log)
    missed_late_there mine looked_view read_view after h throttled ticket n k (Err x) looked read ended may same = absurd (true≢false (sym may))
    missed_late_there mine looked_view read_view after h throttled ticket n k (Ok bytes) looked read ended may same =
        let l = looked.gone in
        let e = ended.gone in
        let mid = read.kept.0 in
        let late = e.kept.0 in
        let has_1 : 0 < times (ticket_right n) looked_view.has = looked.ticket refl in
        let has_2 : 0 < times (ticket_right n) read_view.has = read.rights (ticket_right n) (ticket_above n) has_1 in
        let number : n ≡ tickets_in l.log = looked.number_is in
        let mid_others : AreOthers (tickets_in l.log) mid = subst (λ j. AreOthers j mid) number ((excluded mid).others n (read.kept.2 (ticket_right n) has_1)) in
        let late_others : AreOthers (tickets_in l.log) late = subst (λ j. AreOthers j late) number ((excluded late).others n (e.kept.2 (ticket_right n) has_2)) in
        let is_read : IsReadOf read.event (tickets_in l.log) (Ok bytes) = subst (λ j. IsReadOf read.event j (Ok bytes)) number read.is in
        let before_end : e.log ≡ l.log ++ l.event ∷ (mid ++ read.event ∷ late) =
        e.kept.1 ∙ ap (λ x. x ++ late) (read.seen ∙ ap (λ x. x ++ read.event ∷ []) (read.kept.1 ∙ ap (λ x. x ++ mid) l.seen)) ∙ two_in_one l.log mid late l.event read.event in
        let whole : after.seen ≡ l.log ++ l.event ∷ (mid ++ read.event ∷ (late ++ e.event ∷ [])) =
        e.seen ∙ ap (λ x. x ++ e.event ∷ []) (e.kept.1 ∙ ap (λ x. x ++ late) (read.seen ∙ ap (λ x. x ++ read.event ∷ []) (read.kept.1 ∙ ap (λ x. x ++ mid) l.seen)))
        ∙ in_one l.log mid late l.event read.event e.event in (
          record {
            moment = moment_of mine.seen after.seen l.log (mid ++ read.event ∷ (late ++ e.event ∷ [])) l.event mine.has l.kept whole (subst (IsTold m byte_at) (sym e.seen) e.goes_on);
            caused = λ s sound u run.
                let few : steps_in (l.log ++ l.event ∷ (mid ++ read.event ∷ late)) < last_number =
                subst (λ x. steps_in x < last_number) before_end (few_before s sound e.log (steps.LoadEnd ticket (Ok bytes)) e.event u e.is (subst (λ x. IsRun m s sound byte_at x u) e.seen run)) in
                let a = end_caused m s sound byte_at l.log mid late l.event read.event e.event ticket bytes u (issues h throttled ticket l.event l.is) mid_others is_read late_others
                (ends_load ticket (Ok bytes) replies.Miss e.event e.is) few (subst (λ x. IsRun m s sound byte_at x u) whole run) in (
                  a.0,
                  a.1,
                  subst (λ j. (i : ℕ) (c : Content) → newest j a.0.history ≡ Some (Put j i (Holds c))
                      → IsTaken m s sound byte_at l.log a.0 j (Put j i (Holds c))
                      ⊎ ((block : ℕ) × (a.0.kept j ≡ Some block) × (is_taken_in block (l.event ∷ (mid ++ read.event ∷ (late ++ e.event ∷ []))) ≡ true))) same
                      (λ i c newer.
                      elim (a.2 i c newer) [
                        | inl taken ↦ inl taken
                        | inr lost ↦ inr (lost.0, lost.1, taken_front lost.0 l.event (mid ++ read.event ∷ (late ++ e.event ∷ [])) (taken_between lost.0 mid late read.event e.event lost.2))
                      ]),
                );
          },
          refl,
        )

    pub was_missed_late : (mine looked_view read_view after : View (Told K V P A D)) (h : ℕ) (throttled : Bool) (ticket : Ticket) (n k : ℕ) (outcome : Result (Vec ℕ A) Error)
        → HasStepped m byte_at mine looked_view (steps.LoadBegin h throttled) (replies.Read ticket) n → HasGoneOn m byte_at looked_view read_view (λ e. IsReadOf e n outcome)
        → HasStepped m byte_at read_view after (steps.LoadEnd ticket outcome) replies.Miss k → may_reply {K = K} {V = V} {P = P} {A = A} (steps.LoadEnd ticket outcome) replies.Miss ≡ true → ticket.hash ≡ h
        → WasMissed m byte_at mine.seen after.seen h
    was_missed_late mine looked_view read_view after h throttled ticket n k outcome looked read ended may same = (missed_late_there mine looked_view read_view after h throttled ticket n k outcome looked read ended may same).0

    pub was_missed_late_written : (mine looked_view read_view after : View (Told K V P A D)) (h : ℕ) (throttled : Bool) (ticket : Ticket) (n k : ℕ) (outcome : Result (Vec ℕ A) Error)
        → (looked : HasStepped m byte_at mine looked_view (steps.LoadBegin h throttled) (replies.Read ticket) n) → IsAllWritten m byte_at h looked.gone.log → HasGoneOn m byte_at looked_view read_view (λ e. IsReadOf e n outcome)
        → HasStepped m byte_at read_view after (steps.LoadEnd ticket outcome) replies.Miss k → may_reply {K = K} {V = V} {P = P} {A = A} (steps.LoadEnd ticket outcome) replies.Miss ≡ true → ticket.hash ≡ h
        → WasMissedWritten m byte_at mine.seen after.seen h
    was_missed_late_written mine looked_view read_view after h throttled ticket n k outcome looked written read ended may same =
        let was = missed_late_there mine looked_view read_view after h throttled ticket n k outcome looked read ended may same in
        record { missed = was.0; written = subst (IsAllWritten m byte_at h) (sym was.1) written }

-- what a look-up and an end are answered with
pub no_entry : {K V P A : Type 0} {X : Type 0} (throttled : Bool) (h : ℕ) (answer : Reply K V P A) (key : K) (value : V) (age : Age)
    → (may_reply (steps.LoadBegin h throttled) answer ≡ true) ⊎ (X × (answer ≡ replies.Refused kind.Memory (steps.LoadBegin h throttled))) → answer ≡ replies.Entry key value age → ⊥
no_entry {K} {V} {P} {A} throttled h answer key value age (inl may) is = true≢false (sym (subst (λ (r : Reply K V P A). may_reply (steps.LoadBegin h throttled) r ≡ true) is may))
no_entry {K} {V} {P} {A} throttled h answer key value age (inr none) is = let e : replies.Refused kind.Memory (steps.LoadBegin h throttled) ≡ replies.Entry key value age = sym none.1 ∙ is in cc

-- a look-up of what is written, that was noted and told, or found no room for its note and was refused
pub looked_as : {K V P A D : Type 0} {X Y : Type 0} (m : Meaning K V P) (byte_at : D → ℕ → ℕ → ℕ) (mine after : View (Told K V P A D)) (step : Step K V P A) (answer wanted : Reply K V P A) (n h : ℕ)
    → ((stepped : HasStepped m byte_at mine after step answer n) × IsAllWritten m byte_at h stepped.gone.log) ⊎ (X × (answer ≡ replies.Refused kind.Memory step) × Y) → answer ≡ wanted
    → ((back : Step K V P A) → wanted ≡ replies.Refused kind.Memory back → ⊥)
    → (stepped : HasStepped m byte_at mine after step wanted n) × IsAllWritten m byte_at h stepped.gone.log
looked_as m byte_at mine after step answer wanted n h (inl looked) is other = subst (λ r. (stepped : HasStepped m byte_at mine after step r n) × IsAllWritten m byte_at h stepped.gone.log) is looked
looked_as m byte_at mine after step answer wanted n h (inr none) is other = absurd (other step (sym is ∙ none.1))

-- a step that was noted and told, or found no room for its note and was refused
pub stepped_as : {K V P A D : Type 0} {X Y : Type 0} (m : Meaning K V P) (byte_at : D → ℕ → ℕ → ℕ) (mine after : View (Told K V P A D)) (step : Step K V P A) (answer wanted : Reply K V P A) (n : ℕ)
    → HasStepped m byte_at mine after step answer n ⊎ (X × (answer ≡ replies.Refused kind.Memory step) × Y) → answer ≡ wanted → ((back : Step K V P A) → wanted ≡ replies.Refused kind.Memory back → ⊥)
    → HasStepped m byte_at mine after step wanted n
stepped_as m byte_at mine after step answer wanted n (inl stepped) is other = subst (λ r. HasStepped m byte_at mine after step r n) is stepped
stepped_as m byte_at mine after step answer wanted n (inr none) is other = absurd (other step (sym is ∙ none.1))

pub ended_as : {K V P A D : Type 0} {X Y : Type 0} (m : Meaning K V P) (byte_at : D → ℕ → ℕ → ℕ) (mine after : View (Told K V P A D)) (step : Step K V P A) (answer wanted : Reply K V P A)
    → ((n : ℕ) × HasStepped m byte_at mine after step answer n) ⊎ (X × (answer ≡ replies.Refused kind.Memory step) × Y) → answer ≡ wanted → ((back : Step K V P A) → wanted ≡ replies.Refused kind.Memory back → ⊥)
    → (n : ℕ) × HasStepped m byte_at mine after step wanted n
ended_as m byte_at mine after step answer wanted (inl stepped) is other = (stepped.0, subst (λ r. HasStepped m byte_at mine after step r stepped.0) is stepped.1)
ended_as m byte_at mine after step answer wanted (inr none) is other = absurd (other step (sym is ∙ none.1))

pub may_miss : {K V P A : Type 0} {X : Type 0} (step : Step K V P A) (answer : Reply K V P A) → (may_reply step answer ≡ true) ⊎ (X × (answer ≡ replies.Refused kind.Memory step)) → answer ≡ replies.Miss → may_reply step replies.Miss ≡ true
may_miss {K} {V} {P} {A} step answer (inl may) is = subst (λ (r : Reply K V P A). may_reply step r ≡ true) is may
may_miss {K} {V} {P} {A} step answer (inr none) is = let e : replies.Refused kind.Memory step ≡ replies.Miss = sym none.1 ∙ is in cc

pub miss_no_refusal : {K V P A : Type 0} (back : Step K V P A) → replies.Miss ≡ replies.Refused kind.Memory back → ⊥
miss_no_refusal back is = cc

pub entry_no_refusal : {K V P A : Type 0} (key : K) (value : V) (age : Age) (back : Step K V P A) → replies.Entry key value age ≡ replies.Refused kind.Memory back → ⊥
entry_no_refusal key value age back is = cc

pub read_no_refusal : {K V P A : Type 0} (ticket : Ticket) (back : Step K V P A) → replies.Read ticket ≡ replies.Refused kind.Memory back → ⊥
read_no_refusal ticket back is = cc
