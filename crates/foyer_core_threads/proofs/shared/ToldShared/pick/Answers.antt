use Rattle.std.proofs.Common.{ap}
use Rattle.foyer_core_laws.specs.Content.{meaning}
use Rattle.foyer_core_steps.specs.declared.step.Step.TheVariants as steps
use Rattle.foyer_core_threads.proofs.DoneLemmas.{made_of, noted_of}
use Rattle.foyer_core_threads.proofs.ReclaimLemmas.{is_picked}
use Rattle.foyer_core_threads.proofs.shared.ToldShared.pick.Goals as goal

pub returns-clause-picked : goal.returns-clause-picked
returns-clause-picked g c = λ block answers probation sizes knows is.
    is_picked (meaning g.K.Code.encoding g.V.Code.encoding g.K.Code.is_encodable g.V.Code.is_encodable g.K.Code.is_decodable g.V.Code.is_decodable g.P.Properties.age) g.D.Disk.byte_at c.args.session.now.witness.me.0 c.ask-reply.new.session.witness.me.0 block c.ask-reply.result.1 answers probation sizes c.ask-reply.result.0 c.ask-reply.ensures.told knows is

pub returns-clause-told : goal.returns-clause-told
returns-clause-told g c =
    made_of (meaning g.K.Code.encoding g.V.Code.encoding g.K.Code.is_encodable g.V.Code.is_encodable g.K.Code.is_decodable g.V.Code.is_decodable g.P.Properties.age) g.D.Disk.byte_at c.args.session.now.witness.me.0 c.ask-reply.new.session.witness.me.0 steps.ReclaimBegin c.ask-reply.result.0 c.ask-reply.result.1 g.N.Noting.keeps _ (λ same. ap (λ x. x.witness.me.0) same) c.ask-reply.ensures.told

pub returns-clause-noted : goal.returns-clause-noted
returns-clause-noted g c =
    noted_of c.args.session.now.session c.ask-reply.new.session.session steps.ReclaimBegin c.ask-reply.result.0 g.N.Noting.keeps _ (λ same. ap (λ x. x.session) same) c.ask-reply.ensures.noted

pub returns-clause-replied : goal.returns-clause-replied
returns-clause-replied g c = c.ask-reply.ensures.replied
