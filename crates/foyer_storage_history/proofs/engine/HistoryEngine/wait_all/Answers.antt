use Rattle.std.proofs.Common.{◌≡◌, ◌<◌, sym, subst, ◌∙◌, refl, arith}
use Rattle.foyer_core_laws.specs.Content.{meaning}
use Rattle.foyer_storage_history.proofs.HistoryLemmas.{goes_on, goes_self, waited_more}
use Rattle.foyer_storage_history.proofs.engine.HistoryEngine.wait_all.Goals as goal

pub loop-flusher-init : goal.loop-flusher-init
loop-flusher-init g c = (goes_self (meaning g.K.Code.encoding g.V.Code.encoding g.K.Code.is_encodable g.V.Code.is_encodable g.K.Code.is_decodable g.V.Code.is_decodable g.P.Properties.age) g.D.Disk.byte_at _, λ f below. absurd (omega arith), refl)

pub loop-flusher-preserved : goal.loop-flusher-preserved
loop-flusher-preserved g c = (
  goes_on (meaning g.K.Code.encoding g.V.Code.encoding g.K.Code.is_encodable g.V.Code.is_encodable g.K.Code.is_decodable g.V.Code.is_decodable g.P.Properties.age) g.D.Disk.byte_at _ c.loop-flusher.session.told.witness.me.0 c.wait_for.new.session.told.witness.me.0 c.loop-flusher.invariant.0 c.wait_for.ensures.on,
  waited_more (meaning g.K.Code.encoding g.V.Code.encoding g.K.Code.is_encodable g.V.Code.is_encodable g.K.Code.is_decodable g.V.Code.is_decodable g.P.Properties.age) g.D.Disk.byte_at _ c.loop-flusher.session.told.witness.me.0 c.wait_for.new.session.told.witness.me.0 c.loop-flusher.flusher c.loop-flusher.invariant.0 c.wait_for.ensures.on c.loop-flusher.invariant.1 c.in-Ok.ensures.waited,
  c.wait_for.ensures.same ∙ c.loop-flusher.invariant.2,
)

pub returns-clause-waited : goal.returns-clause-waited
returns-clause-waited g c = λ f below.
    let all : c.loop-flusher.flusher ≡ c.args.self.now.settings.flushers = omega (arith, c.loop-flusher-test.false, c.loop-flusher.auto.flusher-end) in
    c.loop-flusher.invariant.1 f (subst (λ n. f < n) (sym all) below)
