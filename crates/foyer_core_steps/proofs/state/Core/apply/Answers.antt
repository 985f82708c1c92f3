use Rattle.std.proofs.Common.{◌+◌, ◌-◌, ◌^◌, ◌<◌, refl, arith}
use Rattle.foyer_block_index.proofs.Rooms.{kept_itself}
use Rattle.foyer_core_flusher.specs.Content.{meaning}
use Rattle.foyer_core_steps.proofs.RefinesLemmas.{met, met_back, met_at_end}
use Rattle.foyer_core_steps.proofs.state.Core.apply.Goals as goal

pub returns-then-self-clause-meets : goal.returns-then-self-clause-meets
returns-then-self-clause-meets g c = λ s sound it stands.
    let m = meaning g.K.Code.encoding g.V.Code.encoding g.K.Code.is_encodable g.V.Code.is_encodable g.K.Code.is_decodable g.V.Code.is_decodable g.P.Properties.age in
    met_at_end m s sound c.args.step c.args.self.now c.args.self.now it stands (omega (arith, c.if-self.true))

pub returns-then-is_handed_back-clause-meets : goal.returns-then-is_handed_back-clause-meets
returns-then-is_handed_back-clause-meets g c = λ s sound it stands.
    let m = meaning g.K.Code.encoding g.V.Code.encoding g.K.Code.is_encodable g.V.Code.is_encodable g.K.Code.is_decodable g.V.Code.is_decodable g.P.Properties.age in
    met_back m s sound c.args.step c.args.self.now c.dispatch-reply.new.self it stands c.dispatch-reply.result c.if-is_handed_back.ensures
    (c.dispatch-reply.ensures.meets s sound it stands (omega (arith, c.if-self.false)))

pub returns-clause-meets : goal.returns-clause-meets
returns-clause-meets g c = λ s sound it stands.
    let m = meaning g.K.Code.encoding g.V.Code.encoding g.K.Code.is_encodable g.V.Code.is_encodable g.K.Code.is_decodable g.V.Code.is_decodable g.P.Properties.age in
    let few : c.args.self.now.steps < 2 ^ 64 - 1 = omega (arith, c.if-self.false) in
    met m s sound c.args.step c.args.self.now c.dispatch-reply.new.self it stands c.dispatch-reply.result (c.args.self.now.steps + 1) _
    (record { index = kept_itself _; next = refl; steps = refl; closed = refl; queued = refl; settings = refl; flushers = refl; manager = refl; reclaims = λ b. refl; destroy = refl })
    c.if-is_handed_back.ensures few refl
    (c.dispatch-reply.ensures.meets s sound it stands few)
