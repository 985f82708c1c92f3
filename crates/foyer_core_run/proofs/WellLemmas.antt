-- That a run's events went well, by what was answered and if no access failed.
use Rattle.std.proofs.Common.{◌≡◌, ℕ, Bool, true, false, not, ◌||◌, List, [], ◌∷◌, ◌++◌, inl, inr, refl, sym, ap, subst, ◌∙◌}
use Rattle.std.proofs.lemmas.Bool.{or_parts}
use Rattle.foyer_core_model.specs.Kind.{Kind}
use Rattle.foyer_core_model.specs.Reply as model_reply
use Rattle.foyer_core_model.specs.Step as model_step
use Rattle.foyer_core_model.specs.World.{World, WorldEvent, Applies, ReadBegins, ReadEnds, ScanBegins, ScanEnds, WriteBegins, WriteEnds, CleanBegins, CleanEnds, after_all}
use Rattle.foyer_core_restart.specs.Restart.{AllGoWell, AllRefused, StepGoesWell}
use Rattle.foyer_core_laws.specs.Content.{Content, Meaning}
use Rattle.foyer_core_laws.specs.CoreRules.{machine}
use Rattle.foyer_core_laws.specs.Sizes.{AreValid}
use Rattle.foyer_core_laws.specs.Settings.{Settings}
use Rattle.foyer_core_steps.specs.Asked.{step_of}
use Rattle.foyer_core_steps.specs.Replied.{IsReply}
use Rattle.foyer_core_steps.specs.declared.reply.Reply.{Reply}
use Rattle.foyer_core_steps.specs.declared.reply.Reply.TheVariants as reply
use Rattle.foyer_core_run.specs.Causes.{has_fault, is_fault}
use Rattle.foyer_core_run.specs.Moves.{AreMade, IsApplied, Makes, asked}
use Rattle.foyer_core_run.specs.Stopped.{AllSayWell, SaysWell}
use Rattle.foyer_core_run.specs.declared.moves.Move.{Move}
use Rattle.foyer_core_run.specs.declared.moves.Move.TheVariants as move
use Rattle.foyer_core_run.proofs.FaultLists.{faults_join}

-- a reply of the model that gives nothing up
abbrev AnswersWell : {C : Type 0} → model_reply.Reply C → Type 0
AnswersWell model_reply.Failed = ⊥
AnswersWell (model_reply.Scans b offset len verdicts) = AllRefused verdicts
AnswersWell (model_reply.Listed verdicts) = AllRefused verdicts
AnswersWell it = Unit {0}

wrote_well : {C : Type 0} (f : ℕ) (ok : Bool) (it : model_reply.Reply C) → AnswersWell it → StepGoesWell (model_step.FlushWrote f ok) it
wrote_well f ok model_reply.Failed well = absurd well
wrote_well f ok it well = tt

read_well : {C : Type 0} (b : ℕ) (bs : List ℕ) (it : model_reply.Reply C) → AnswersWell it → StepGoesWell (model_step.ReclaimRead b (model_step.Bytes bs)) it
read_well b bs (model_reply.Scans d offset len verdicts) well = (tt, well)
read_well b bs (model_reply.Listed verdicts) well = (tt, well)
read_well b bs it well = tt

is_ok : (ok : Bool) → not ok ≡ false → ok ≡ true
is_ok true e = refl
is_ok false e = absurd (let f : true ≡ false = e in cc)

well_join : {C : Type 0} (one two : List (WorldEvent C)) → AllGoWell one → AllGoWell two → AllGoWell (one ++ two)
well_join [] two well others = others
well_join (event ∷ one) two well others = (well.0, well_join one two well.1 others)

say_parts : {K V P A : Type 0} (one two : List (Reply K V P A)) → AllSayWell (one ++ two) → AllSayWell one × AllSayWell two
say_parts [] two say = (tt, say)
say_parts (answer ∷ one) two say = let rest = say_parts one two say.1 in ((say.0, rest.0), rest.1)

module _ {K V P A : Type 0} (m : Meaning K V P) where
  answers_well : (answer : Reply K V P A) (it : model_reply.Reply Content) → IsReply m answer it → SaysWell answer → AnswersWell it
  answers_well (reply.NotNow back) it is well = subst AnswersWell (sym is) tt
  answers_well (reply.Refused why back) it is well = subst AnswersWell (sym is.2) tt
  answers_well (reply.Ignored piece) it is well = subst AnswersWell (sym is) tt
  answers_well (reply.Queued sequence) it is well = subst AnswersWell (sym is) tt
  answers_well (reply.Dropped piece sequence) it is well = subst AnswersWell (sym is) tt
  answers_well (reply.Deleted sequence) it is well = subst AnswersWell (sym is) tt
  answers_well reply.Done it is well = subst AnswersWell (sym is) tt
  answers_well (reply.Answer b) it is well = subst AnswersWell (sym is) tt
  answers_well reply.Miss it is well = subst AnswersWell (sym is) tt
  answers_well reply.Throttled it is well = subst AnswersWell (sym is) tt
  answers_well (reply.Read ticket) it is well = subst AnswersWell (sym is) tt
  answers_well (reply.Entry key value age) it is well = subst AnswersWell (sym is) tt
  answers_well reply.Empty it is well = subst AnswersWell (sym is) tt
  answers_well (reply.Received back) it is well = subst AnswersWell (sym is) tt
  answers_well (reply.Began blocks marks) it is well = subst AnswersWell (sym is.2) tt
  answers_well (reply.Write block writes) it is well = subst AnswersWell (sym is) tt
  answers_well reply.NoBlock it is well = subst AnswersWell (sym is) tt
  answers_well reply.Next it is well = subst AnswersWell (sym is) tt
  answers_well (reply.Committed puts) it is well = subst AnswersWell (sym is) tt
  answers_well reply.Failed it is well = absurd well
  answers_well (reply.Ended pieces waits) it is well = subst AnswersWell (sym is.2) tt
  answers_well (reply.Picked block answers probation) it is well = subst AnswersWell (sym is) tt
  answers_well (reply.Scan block offset len verdicts) it is well = subst AnswersWell (sym is) well
  answers_well (reply.Listed verdicts) it is well = subst AnswersWell (sym is) well
  answers_well (reply.Clean block) it is well = subst AnswersWell (sym is) tt
  answers_well (reply.Destroying sequence) it is well = subst AnswersWell (sym is) tt
  answers_well reply.Cleared it is well = subst AnswersWell (sym is.1) tt
  answers_well (reply.Destroyed first) it is well = subst AnswersWell (sym is.2) tt

  -- the reply of a move's step
  applied_well : (accesses : List (WorldEvent Content)) (given : model_step.Step Content) (events : List (WorldEvent Content)) (said : List (Reply K V P A)) (applied : IsApplied m accesses given events said)
      → AllSayWell said → AnswersWell applied.it
  applied_well accesses given events said applied say =
      let one = subst AllSayWell applied.said_is say in answers_well applied.answer applied.it applied.reply one.0

  -- and of its events
  brought_well : (b : ℕ) (came : model_step.ReadResult) (events : List (WorldEvent Content)) (said : List (Reply K V P A))
      → IsApplied m (ScanBegins b ∷ ScanEnds b came ∷ []) (model_step.ReclaimRead b came) events said → AllSayWell said → has_fault events ≡ false → AllGoWell events
  brought_well b (model_step.Bytes bs) events said applied say none =
      subst AllGoWell (sym applied.is) (tt, (tt, (read_well b bs applied.it (applied_well _ _ events said applied say), tt)))
  brought_well b model_step.Fault events said applied say none =
      absurd (let f : true ≡ false = sym (ap has_fault applied.is) ∙ none in cc)

  made_well : (from w : World Content) (x : Move K V P A) (events : List (WorldEvent Content)) (said : List (Reply K V P A)) → Makes m from w (asked x) events said → AllSayWell said → has_fault events ≡ false
      → AllGoWell events
  made_well from w (move.LoadEnd n) events said (inl passed) say none = subst AllGoWell (sym (passed.0).0) tt
  made_well from w (move.LoadEnd n) events said (inr (t, came, due, applied)) say none = subst AllGoWell (sym applied.is) (tt, (tt, (tt, tt)))
  made_well from w (move.FlushWrote f) events said (inl passed) say none = subst AllGoWell (sym (passed.0).0) tt
  made_well from w (move.FlushWrote f) events said (inr (ok, torn, due, applied)) say none =
      let both = or_parts (not ok) false (sym (ap has_fault applied.is) ∙ none) in
      subst AllGoWell (sym applied.is) (tt, (is_ok ok both.0, (wrote_well f ok applied.it (applied_well _ _ events said applied say), tt)))
  made_well from w (move.ReclaimRead b) events said (inl passed) say none = subst AllGoWell (sym (passed.0).0) tt
  made_well from w (move.ReclaimRead b) events said (inr (came, due, applied)) say none = brought_well b came events said applied say none
  made_well from w (move.ReclaimCleaned b) events said (inl passed) say none = subst AllGoWell (sym (passed.0).0) tt
  made_well from w (move.ReclaimCleaned b) events said (inr (ok, torn, due, applied)) say none = subst AllGoWell (sym applied.is) (tt, (tt, (tt, tt)))
  made_well from w (move.DestroyCleaned b) events said (inl passed) say none = subst AllGoWell (sym (passed.0).0) tt
  made_well from w (move.DestroyCleaned b) events said (inr (fault, torn, due, applied)) say none = subst AllGoWell (sym applied.is) (tt, (tt, (tt, tt)))
  made_well from w x events said made say none = subst AllGoWell (sym made.is) (tt, tt)

  -- of all moves
  pub all_well : (s : Settings) (sound : AreValid s) (from : World Content) (moves : List (Move K V P A)) (w : World Content) (events : List (WorldEvent Content)) (said : List (Reply K V P A))
      → AreMade m s sound from w moves events said → AllSayWell said → has_fault events ≡ false → AllGoWell events
  all_well s sound from [] w events said made say none = subst AllGoWell (sym made.0) tt
  all_well s sound from (x ∷ xs) w events said made say none =
      let parts = say_parts made.answers made.others (subst AllSayWell made.said_is say) in
      let faults = or_parts (has_fault made.now) (has_fault made.later) (sym (faults_join made.now made.later) ∙ sym (ap has_fault made.is) ∙ none) in
      subst AllGoWell (sym made.is) (well_join made.now made.later
      (made_well from w x made.now made.answers made.made parts.0 faults.0)
      (all_well s sound from xs (after_all (machine m s sound) w made.now) made.later made.others made.more parts.1 faults.1))
