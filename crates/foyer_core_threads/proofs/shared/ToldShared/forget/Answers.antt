use Rattle.std.proofs.Common.{ap}
use Rattle.foyer_core_laws.specs.Content.{meaning}
use Rattle.foyer_core_steps.specs.declared.step.Step.TheVariants as steps
use Rattle.foyer_core_threads.proofs.DoneLemmas.{made_of, noted_of}
use Rattle.foyer_core_threads.proofs.ReclaimLemmas.{is_to_clean}
use Rattle.foyer_core_threads.proofs.shared.ToldShared.forget.Goals as goal

pub returns-clause-issued : goal.returns-clause-issued
returns-clause-issued g c = λ other is.
    is_to_clean (meaning g.K.Code.encoding g.V.Code.encoding g.K.Code.is_encodable g.V.Code.is_encodable g.K.Code.is_decodable g.V.Code.is_decodable g.P.Properties.age) g.D.Disk.byte_at c.args.session.now.witness.me.0 c.ask-reply.new.session.witness.me.0 c.args.block other c.ask-reply.result.1 c.ask-reply.result.0 c.ask-reply.ensures.told is

pub returns-clause-told : goal.returns-clause-told
returns-clause-told g c =
    made_of (meaning g.K.Code.encoding g.V.Code.encoding g.K.Code.is_encodable g.V.Code.is_encodable g.K.Code.is_decodable g.V.Code.is_decodable g.P.Properties.age) g.D.Disk.byte_at c.args.session.now.witness.me.0 c.ask-reply.new.session.witness.me.0 (steps.ReclaimForget c.args.block) c.ask-reply.result.0 c.ask-reply.result.1 g.N.Noting.keeps _ (λ same. ap (λ x. x.witness.me.0) same) c.ask-reply.ensures.told

pub returns-clause-noted : goal.returns-clause-noted
returns-clause-noted g c =
    noted_of c.args.session.now.session c.ask-reply.new.session.session (steps.ReclaimForget c.args.block) c.ask-reply.result.0 g.N.Noting.keeps _ (λ same. ap (λ x. x.session) same) c.ask-reply.ensures.noted

pub returns-clause-replied : goal.returns-clause-replied
returns-clause-replied g c = c.ask-reply.ensures.replied
