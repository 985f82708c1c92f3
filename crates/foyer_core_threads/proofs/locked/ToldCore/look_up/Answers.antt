use Rattle.std.proofs.Common.{inl, refl, sym, ap, ◌∙◌, subst}
use Rattle.foyer_core_laws.specs.Content.{meaning}
use Rattle.foyer_core_steps.specs.Refines.{Refines}
use Rattle.foyer_core_steps.specs.declared.step.Step.TheVariants as steps
use Rattle.foyer_core_told.specs.declared.queued.Moving.TheVariants as moving
use Rattle.foyer_core_told.specs.ToldQueued.{IsAllWritten, moving_of}
use Rattle.foyer_core_told.specs.Telling.{HasStepped, IsCoreStep, StandsAt}
use Rattle.foyer_core_threads.specs.Queued.{HasSeenLeave}
use Rattle.foyer_core_threads.proofs.AnswerLemmas.{is_answer}
use Rattle.foyer_core_threads.proofs.GoingLemmas.{same_on, stepped_on}
use Rattle.foyer_core_threads.proofs.NotedLemmas.{looked_written, noted_other, noted_step}
use Rattle.foyer_core_threads.proofs.locked.ToldCore.look_up.Goals as goal

pub tell_step-number-requires-clause-core : goal.tell_step-number-requires-clause-core
tell_step-number-requires-clause-core g c =
    subst (λ x. IsCoreStep (meaning g.K.Code.encoding g.V.Code.encoding g.K.Code.is_encodable g.V.Code.is_encodable g.K.Code.is_decodable g.V.Code.is_decodable g.P.Properties.age) g.D.Disk.byte_at c.self.inside.witness.me.0 x c.in-Ok.reply c.core-2.result.now) (sym c.of-said.ensures)
    (c.self.inside.locked.noted.core, c.self.invariant.4, subst (λ x. Refines (meaning g.K.Code.encoding g.V.Code.encoding g.K.Code.is_encodable g.V.Code.is_encodable g.K.Code.is_decodable g.V.Code.is_decodable g.P.Properties.age) (steps.LoadBegin c.args.hash c.args.throttled) c.in-Ok.reply c.self.inside.locked.noted.core x) (sym c.core-2.ensures) c.in-Ok.ensures.meets)

pub invariant_of-self-2 : goal.invariant_of-self-2
invariant_of-self-2 g c = (
  c.tell_step-number.ensures.same.0 ∙ c.self.invariant.0,
  c.tell_step-number.ensures.whole.0,
  c.tell_step-number.ensures.right,
  c.tell_step-number.ensures.counted,
  subst (StandsAt (meaning g.K.Code.encoding g.V.Code.encoding g.K.Code.is_encodable g.V.Code.is_encodable g.K.Code.is_decodable g.V.Code.is_decodable g.P.Properties.age) g.D.Disk.byte_at c.tell_step-number.new.own.me.0.seen) c.core-2.ensures c.tell_step-number.ensures.core,
  noted_step c.self.inside.places c.self.inside.places c.self.inside.witness.me.0 c.tell_step-number.new.own.me.0 c.of-said.result.value moving.Other c.in-Ok.reply c.core-2.result.now c.self.invariant.5 c.tell_step-number.ensures.added
      (ap moving_of (sym c.of-said.ensures)) (noted_other c.self.inside.places c.in-Ok.reply),
)

pub returns-clause-told : goal.returns-clause-told
returns-clause-told g c = inl (subst (λ x. (stepped : HasStepped (meaning g.K.Code.encoding g.V.Code.encoding g.K.Code.is_encodable g.V.Code.is_encodable g.K.Code.is_decodable g.V.Code.is_decodable g.P.Properties.age) g.D.Disk.byte_at c.args.session.now.witness.me.0 c.tell_step-number.new.mine.me.0 x c.in-Ok.reply c.tell_step-number.result) × IsAllWritten (meaning g.K.Code.encoding g.V.Code.encoding g.K.Code.is_encodable g.V.Code.is_encodable g.K.Code.is_decodable g.V.Code.is_decodable g.P.Properties.age) g.D.Disk.byte_at c.args.hash stepped.gone.log) c.of-said.ensures (
  c.tell_step-number.ensures.told,
  looked_written (meaning g.K.Code.encoding g.V.Code.encoding g.K.Code.is_encodable g.V.Code.is_encodable g.K.Code.is_decodable g.V.Code.is_decodable g.P.Properties.age) g.D.Disk.byte_at c.self.inside.places c.args.hash c.self.inside.witness.me.0 c.args.session.now.witness.me.0 c.tell_step-number.new.own.me.0 c.tell_step-number.new.mine.me.0 c.of-said.result.value c.in-Ok.reply c.self.inside.locked.noted.core c.core-2.result.now c.tell_step-number.result
      c.self.invariant.5 c.self.invariant.4 (subst (λ n. HasSeenLeave c.self.inside.places n c.args.hash) (ap (λ x. x.flushers) (c.settings-flushers.ensures ∙ ap (λ x. x.settings) c.core.ensures)) c.in_ok-have_left.ensures.left)
      c.tell_step-number.ensures.added c.tell_step-number.ensures.both c.tell_step-number.ensures.told,
))

pub returns-clause-on : goal.returns-clause-on
returns-clause-on g c =
    stepped_on (meaning g.K.Code.encoding g.V.Code.encoding g.K.Code.is_encodable g.V.Code.is_encodable g.K.Code.is_decodable g.V.Code.is_decodable g.P.Properties.age) g.D.Disk.byte_at c.args.session.now.witness.me.0 c.tell_step-number.new.mine.me.0 c.of-said.result.value c.in-Ok.reply c.tell_step-number.result c.tell_step-number.ensures.told

pub returns-in_err-have_left-clause-on : goal.returns-in_err-have_left-clause-on
returns-in_err-have_left-clause-on g c = same_on (meaning g.K.Code.encoding g.V.Code.encoding g.K.Code.is_encodable g.V.Code.is_encodable g.K.Code.is_decodable g.V.Code.is_decodable g.P.Properties.age) g.D.Disk.byte_at c.args.session.now.witness.me.0 c.args.session.now.witness.me.0 refl

pub returns-clause-answer : goal.returns-clause-answer
returns-clause-answer g c = is_answer c.self.inside.locked.noted.core c.step.new.self.noted.core g.K.Code.is_decodable g.V.Code.is_decodable g.K.Code.encoding g.V.Code.encoding (steps.LoadBegin c.args.hash c.args.throttled) c.in-Ok.reply c.in-Ok.ensures.back c.in-Ok.ensures.issued

pub returns-in-Err-clause-on : goal.returns-in-Err-clause-on
returns-in-Err-clause-on g c = same_on (meaning g.K.Code.encoding g.V.Code.encoding g.K.Code.is_encodable g.V.Code.is_encodable g.K.Code.is_decodable g.V.Code.is_decodable g.P.Properties.age) g.D.Disk.byte_at c.args.session.now.witness.me.0 c.args.session.now.witness.me.0 refl
