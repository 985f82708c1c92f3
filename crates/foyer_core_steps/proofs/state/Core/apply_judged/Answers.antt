use Rattle.std.proofs.Common.{◌+◌, ◌-◌, ◌^◌, ◌<◌, refl, sym, subst, arith}
use Rattle.foyer_block_index.proofs.Rooms.{kept_itself}
use Rattle.foyer_device_page.specs.declared.error.ErrorKind.TheVariants as kind
use Rattle.foyer_core_flusher.specs.Content.{meaning}
use Rattle.foyer_core_steps.specs.Refines.{IsRefined}
use Rattle.foyer_core_steps.specs.declared.reply.Reply.TheVariants as reply
use Rattle.foyer_core_steps.specs.declared.step.Step.TheVariants as step
use Rattle.foyer_core_steps.proofs.RefinesLemmas.{met, met_back, met_at_end}
use Rattle.foyer_core_steps.proofs.state.Core.apply_judged.Goals as goal

pub returns-then-self-clause-meets : goal.returns-then-self-clause-meets
returns-then-self-clause-meets g c = λ s sound it stands.
    let m = meaning g.K.Code.encoding g.V.Code.encoding g.K.Code.is_encodable g.V.Code.is_encodable g.K.Code.is_decodable g.V.Code.is_decodable g.P.Properties.age in
    let given = step.LoadEnd c.args.judged.ticket c.args.judged.outcome in
    subst (λ back. IsRefined m s sound given (reply.Refused kind.SequenceEnd back) c.args.self.now it) (sym c.into_step-given.ensures)
    (met_at_end m s sound given c.args.self.now c.args.self.now it stands (omega (arith, c.if-self.true)))

pub returns-then-is_handed_back-clause-meets : goal.returns-then-is_handed_back-clause-meets
returns-then-is_handed_back-clause-meets g c = λ s sound it stands.
    let m = meaning g.K.Code.encoding g.V.Code.encoding g.K.Code.is_encodable g.V.Code.is_encodable g.K.Code.is_decodable g.V.Code.is_decodable g.P.Properties.age in
    met_back m s sound (step.LoadEnd c.args.judged.ticket c.args.judged.outcome) c.args.self.now c.end_judged-reply.new.self it stands c.end_judged-reply.result.0 c.if-is_handed_back.ensures
    (c.end_judged-reply.ensures.meets g.P.Properties.age s sound it stands (omega (arith, c.if-self.false)))

pub returns-clause-meets : goal.returns-clause-meets
returns-clause-meets g c = λ s sound it stands.
    let m = meaning g.K.Code.encoding g.V.Code.encoding g.K.Code.is_encodable g.V.Code.is_encodable g.K.Code.is_decodable g.V.Code.is_decodable g.P.Properties.age in
    let few : c.args.self.now.steps < 2 ^ 64 - 1 = omega (arith, c.if-self.false) in
    met m s sound (step.LoadEnd c.args.judged.ticket c.args.judged.outcome) c.args.self.now c.end_judged-reply.new.self it stands c.end_judged-reply.result.0 (c.args.self.now.steps + 1) _
    (record { index = kept_itself _; next = refl; steps = refl; closed = refl; queued = refl; settings = refl; flushers = refl; manager = refl; reclaims = λ b. refl; destroy = refl })
    c.if-is_handed_back.ensures few refl
    (c.end_judged-reply.ensures.meets g.P.Properties.age s sound it stands few)
