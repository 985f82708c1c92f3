use Rattle.std.proofs.Common.{◌≡◌, ap, refl, sym, subst, ◌∙◌}
use Rattle.foyer_core_laws.specs.Content.{meaning}
use Rattle.foyer_core_shared.specs.Answers.{IsAnswer}
use Rattle.foyer_core_threads.specs.Done.{IsNotedAgain}
use Rattle.foyer_core_threads.specs.Going.{IsMadeAgain}
use Rattle.foyer_core_threads.proofs.AgainLemmas.{made_last, refused_more, tried_on}
use Rattle.foyer_core_threads.proofs.DoneLemmas.{noted_last, noted_more}
use Rattle.foyer_core_threads.proofs.GoingLemmas.{on_on}
use Rattle.foyer_core_threads.proofs.shared.ToldShared.step_again.Goals as goal

pub loop-init : goal.loop-init
loop-init g c = (refl, c.requires.mine.0, c.requires.mine.1, refl, (0, refl), c.requires.brings, c.requires.rights, (0, refl))

pub loop-preserved : goal.loop-preserved
loop-preserved g c =
    let back_is : c.in-Ok.back ≡ c.args.step = subst (IsAnswer g.K.Code.is_decodable g.V.Code.is_decodable g.K.Code.encoding g.V.Code.encoding c.loop.given) c.in-Ok.ensures c.step-reply.ensures.answer ∙ c.loop.invariant.0 in
    let more = refused_more (meaning g.K.Code.encoding g.V.Code.encoding g.K.Code.is_encodable g.V.Code.is_encodable g.K.Code.is_decodable g.V.Code.is_decodable g.P.Properties.age) g.D.Disk.byte_at c.args.session.now.witness.me.0 c.loop.session.witness.me.0 c.step-reply.new.session.witness.me.0 c.args.step c.loop.given c.in-Ok.back c.step-reply.result.0 c.loop.invariant.4.0 c.step-reply.result.1 _ (λ same. ap (λ x. x.witness.me.0) same)
    c.step-reply.ensures.told c.in-Ok.ensures c.loop.invariant.0 back_is c.loop.invariant.4.1 c.requires.again c.loop.invariant.6 c.loop.invariant.5 in (
      back_is,
      c.step-reply.ensures.mine.0,
      c.step-reply.ensures.mine.1,
      c.step-reply.ensures.parts ∙ c.loop.invariant.3,
      more.0,
      more.1,
      more.2,
      noted_more c.args.session.now.session c.loop.session.session c.step-reply.new.session.session c.args.step c.loop.given c.in-Ok.back c.step-reply.result.0 g.N.Noting.keeps c.loop.invariant.7.0 _ (λ same. ap (λ x. x.session) same)
          c.step-reply.ensures.noted c.in-Ok.ensures c.loop.invariant.0 back_is c.loop.invariant.7.1,
    )

pub returns-in-Err-clause-told : goal.returns-in-Err-clause-told
returns-in-Err-clause-told g c =
    subst (λ r. IsMadeAgain (meaning g.K.Code.encoding g.V.Code.encoding g.K.Code.is_encodable g.V.Code.is_encodable g.K.Code.is_decodable g.V.Code.is_decodable g.P.Properties.age) g.D.Disk.byte_at c.args.session.now.witness.me.0 c.step-reply.new.session.witness.me.0 c.args.step r) (sym c.in-Err.ensures.0) (record {
      times = c.loop.invariant.4.0;
      tried = c.loop.session.witness.me.0;
      refused = c.loop.invariant.4.1;
      number = c.step-reply.result.1;
      made = made_last (meaning g.K.Code.encoding g.V.Code.encoding g.K.Code.is_encodable g.V.Code.is_encodable g.K.Code.is_decodable g.V.Code.is_decodable g.P.Properties.age) g.D.Disk.byte_at c.loop.session.witness.me.0 c.step-reply.new.session.witness.me.0 c.args.step c.loop.given c.step-reply.result.0 c.step-reply.result.1 c.step-reply.ensures.told c.loop.invariant.0 c.in-Err.ensures.1;
      ended = c.in-Err.ensures.1;
    })

pub returns-in-Err-clause-on : goal.returns-in-Err-clause-on
returns-in-Err-clause-on g c =
    on_on (meaning g.K.Code.encoding g.V.Code.encoding g.K.Code.is_encodable g.V.Code.is_encodable g.K.Code.is_decodable g.V.Code.is_decodable g.P.Properties.age) g.D.Disk.byte_at c.args.session.now.witness.me.0 c.loop.session.witness.me.0 c.step-reply.new.session.witness.me.0
    (tried_on (meaning g.K.Code.encoding g.V.Code.encoding g.K.Code.is_encodable g.V.Code.is_encodable g.K.Code.is_decodable g.V.Code.is_decodable g.P.Properties.age) g.D.Disk.byte_at c.loop.invariant.4.0 c.args.step c.args.session.now.witness.me.0 c.loop.session.witness.me.0 c.loop.invariant.4.1) c.step-reply.ensures.on

pub returns-in-Err-clause-noted : goal.returns-in-Err-clause-noted
returns-in-Err-clause-noted g c =
    subst (λ r. IsNotedAgain g.N.Noting.keeps c.args.session.now.session c.step-reply.new.session.session c.args.step r) (sym c.in-Err.ensures.0)
    (c.loop.session.session, c.loop.invariant.7, noted_last c.loop.session.session c.step-reply.new.session.session c.args.step c.loop.given c.step-reply.result.0 c.step-reply.ensures.noted c.loop.invariant.0 c.in-Err.ensures.1)
