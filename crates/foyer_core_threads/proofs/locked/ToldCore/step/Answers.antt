use Rattle.std.proofs.Common.{sym, ap, ◌∙◌, subst}
use Rattle.foyer_core_laws.specs.Content.{meaning}
use Rattle.foyer_core_steps.specs.Refines.{Refines}
use Rattle.foyer_core_told.specs.ToldQueued.{moving_of}
use Rattle.foyer_core_told.specs.Telling.{IsCoreStep, StandsAt}
use Rattle.foyer_core_threads.proofs.AnswerLemmas.{is_answer}
use Rattle.foyer_core_threads.proofs.NotedLemmas.{noted_step}
use Rattle.foyer_core_threads.proofs.locked.ToldCore.step.Goals as goal

pub tell_step-number-requires-clause-core : goal.tell_step-number-requires-clause-core
tell_step-number-requires-clause-core g c =
    subst (λ x. IsCoreStep (meaning g.K.Code.encoding g.V.Code.encoding g.K.Code.is_encodable g.V.Code.is_encodable g.K.Code.is_decodable g.V.Code.is_decodable g.P.Properties.age) g.D.Disk.byte_at c.self.inside.witness.me.0 x c.in-Ok.reply c.core.result.now) (sym c.of-said.ensures)
    (c.self.inside.locked.noted.core, c.self.invariant.4, subst (λ x. Refines (meaning g.K.Code.encoding g.V.Code.encoding g.K.Code.is_encodable g.V.Code.is_encodable g.K.Code.is_decodable g.V.Code.is_decodable g.P.Properties.age) c.args.step c.in-Ok.reply c.self.inside.locked.noted.core x) (sym c.core.ensures) c.in-Ok.ensures.meets)

pub invariant_of-self-2 : goal.invariant_of-self-2
invariant_of-self-2 g c = (
  c.tell_step-number.ensures.same.0 ∙ c.self.invariant.0,
  c.tell_step-number.ensures.whole.0,
  c.tell_step-number.ensures.right,
  c.tell_step-number.ensures.counted,
  subst (StandsAt (meaning g.K.Code.encoding g.V.Code.encoding g.K.Code.is_encodable g.V.Code.is_encodable g.K.Code.is_decodable g.V.Code.is_decodable g.P.Properties.age) g.D.Disk.byte_at c.tell_step-number.new.own.me.0.seen) c.core.ensures c.tell_step-number.ensures.core,
  noted_step c.self.inside.places c.note.new.self c.self.inside.witness.me.0 c.tell_step-number.new.own.me.0 c.of-said.result.value c.moving_of-done.result c.in-Ok.reply c.core.result.now c.self.invariant.5 c.tell_step-number.ensures.added
      (c.moving_of-done.ensures ∙ ap moving_of (sym c.of-said.ensures)) c.note.ensures,
)

pub returns-clause-answer : goal.returns-clause-answer
returns-clause-answer g c = is_answer c.self.inside.locked.noted.core c.step.new.self.noted.core g.K.Code.is_decodable g.V.Code.is_decodable g.K.Code.encoding g.V.Code.encoding c.args.step c.in-Ok.reply c.in-Ok.ensures.back c.in-Ok.ensures.issued
