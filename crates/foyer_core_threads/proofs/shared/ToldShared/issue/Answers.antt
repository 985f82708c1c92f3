use Rattle.std.proofs.Common.{ap}
use Rattle.foyer_core_laws.specs.Content.{meaning}
use Rattle.foyer_core_threads.proofs.WriteLemmas.{are_issued}
use Rattle.foyer_core_steps.specs.declared.step.Step.TheVariants as steps
use Rattle.foyer_core_threads.proofs.DoneLemmas.{made_of, noted_of}
use Rattle.foyer_core_threads.proofs.shared.ToldShared.issue.Goals as goal

pub returns-clause-issued : goal.returns-clause-issued
returns-clause-issued g c = λ block writes is.
    are_issued (meaning g.K.Code.encoding g.V.Code.encoding g.K.Code.is_encodable g.V.Code.is_encodable g.K.Code.is_decodable g.V.Code.is_decodable g.P.Properties.age) g.D.Disk.byte_at c.args.session.now.witness.me.0 c.step-reply.new.session.witness.me.0 c.args.flusher c.step-reply.result.1 c.step-reply.result.0 block writes c.step-reply.ensures.told is

pub returns-clause-told : goal.returns-clause-told
returns-clause-told g c =
    made_of (meaning g.K.Code.encoding g.V.Code.encoding g.K.Code.is_encodable g.V.Code.is_encodable g.K.Code.is_decodable g.V.Code.is_decodable g.P.Properties.age) g.D.Disk.byte_at c.args.session.now.witness.me.0 c.step-reply.new.session.witness.me.0 (steps.FlushBlock c.args.flusher) c.step-reply.result.0 c.step-reply.result.1 g.N.Noting.keeps _ (λ same. ap (λ x. x.witness.me.0) same) c.step-reply.ensures.told

pub returns-clause-noted : goal.returns-clause-noted
returns-clause-noted g c =
    noted_of c.args.session.now.session c.step-reply.new.session.session (steps.FlushBlock c.args.flusher) c.step-reply.result.0 g.N.Noting.keeps _ (λ same. ap (λ x. x.session) same) c.step-reply.ensures.noted

pub returns-clause-replied : goal.returns-clause-replied
returns-clause-replied g c = c.step-reply.ensures.replied
