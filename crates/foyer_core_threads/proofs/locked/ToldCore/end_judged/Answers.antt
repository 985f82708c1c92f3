use Rattle.std.proofs.Common.{◌≡◌, true, true≢false, sym, ap, ◌∙◌, subst}
use Rattle.foyer_core_laws.specs.Content.{meaning}
use Rattle.foyer_core_steps.specs.Refines.{Refines}
use Rattle.foyer_core_steps.specs.declared.step.Step.TheVariants as steps
use Rattle.foyer_core_told.specs.ToldRights.{step_takes}
use Rattle.foyer_core_told.specs.declared.queued.Moving.TheVariants as moving
use Rattle.foyer_core_told.specs.ToldQueued.{moving_of}
use Rattle.foyer_core_told.specs.Telling.{BringsTrue, HasStepped, IsCoreStep, StandsAt}
use Rattle.foyer_core_threads.proofs.NotedLemmas.{noted_step}
use Rattle.foyer_core_threads.proofs.locked.ToldCore.end_judged.Goals as goal

pub tell_step-requires-clause-core : goal.tell_step-requires-clause-core
tell_step-requires-clause-core g c =
    subst (λ x. IsCoreStep (meaning g.K.Code.encoding g.V.Code.encoding g.K.Code.is_encodable g.V.Code.is_encodable g.K.Code.is_decodable g.V.Code.is_decodable g.P.Properties.age) g.D.Disk.byte_at c.self.inside.witness.me.0 x c.in-Ok.answer.0 c.core.result.now) (sym c.requires.said)
    (c.self.inside.locked.noted.core, c.self.invariant.4, subst (λ x. Refines (meaning g.K.Code.encoding g.V.Code.encoding g.K.Code.is_encodable g.V.Code.is_encodable g.K.Code.is_decodable g.V.Code.is_decodable g.P.Properties.age) (steps.LoadEnd c.args.judged.ticket c.args.judged.outcome) c.in-Ok.answer.0 c.self.inside.locked.noted.core x) (sym c.core.ensures) c.in-Ok.ensures.meets)

pub tell_step-requires-clause-rights : goal.tell_step-requires-clause-rights
tell_step-requires-clause-rights g c = (c.self.invariant.2, λ k taken. absurd (true≢false (sym (subst (λ s. step_takes s k ≡ true) c.requires.said taken))))

pub tell_step-requires-clause-brings : goal.tell_step-requires-clause-brings
tell_step-requires-clause-brings g c = subst (λ x. BringsTrue (meaning g.K.Code.encoding g.V.Code.encoding g.K.Code.is_encodable g.V.Code.is_encodable g.K.Code.is_decodable g.V.Code.is_decodable g.P.Properties.age) g.D.Disk.byte_at c.args.session.now.witness.me.0 x) (sym c.requires.said) c.requires.brings

pub returns-clause-told : goal.returns-clause-told
returns-clause-told g c =
    (c.tell_step.result, subst (λ x. HasStepped (meaning g.K.Code.encoding g.V.Code.encoding g.K.Code.is_encodable g.V.Code.is_encodable g.K.Code.is_decodable g.V.Code.is_decodable g.P.Properties.age) g.D.Disk.byte_at c.args.session.now.witness.me.0 c.tell_step.new.mine.me.0 x c.in-Ok.answer.0 c.tell_step.result) c.requires.said c.tell_step.ensures.told)

pub invariant_of-self-2 : goal.invariant_of-self-2
invariant_of-self-2 g c = (
  c.tell_step.ensures.same.0 ∙ c.self.invariant.0,
  c.tell_step.ensures.whole.0,
  c.tell_step.ensures.right,
  c.tell_step.ensures.counted,
  subst (StandsAt (meaning g.K.Code.encoding g.V.Code.encoding g.K.Code.is_encodable g.V.Code.is_encodable g.K.Code.is_decodable g.V.Code.is_decodable g.P.Properties.age) g.D.Disk.byte_at c.tell_step.new.own.me.0.seen) c.core.ensures c.tell_step.ensures.core,
  noted_step c.self.inside.places c.note.new.self c.self.inside.witness.me.0 c.tell_step.new.own.me.0 c.args.said.value moving.Other c.in-Ok.answer.0 c.core.result.now c.self.invariant.5 c.tell_step.ensures.added
      (ap moving_of (sym c.requires.said)) c.note.ensures,
)
