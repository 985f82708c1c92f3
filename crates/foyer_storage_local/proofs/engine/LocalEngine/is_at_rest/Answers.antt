use Rattle.std.proofs.Common.{◌≡◌, inl, inr, sym, ap, subst, ◌∙◌, arith}
use Rattle.std.proofs.lemmas.Bool.{cases_lt}
use Rattle.foyer_core_run.specs.AtRest.{IsFlusherIdle}
use Rattle.foyer_core_run.proofs.IdleLemmas.{still_idle}
use Rattle.foyer_core_laws.specs.Content.{meaning}
use Rattle.foyer_storage_local.proofs.engine.LocalEngine.is_at_rest.Goals as goal

pub loop-flusher-init : goal.loop-flusher-init
loop-flusher-init g c = λ f below. absurd (omega (arith, below))

pub loop-flusher-preserved : goal.loop-flusher-preserved
loop-flusher-preserved g c =
    let m = meaning g.K.Code.encoding g.V.Code.encoding g.K.Code.is_encodable g.V.Code.is_encodable g.K.Code.is_decodable g.V.Code.is_decodable g.P.Properties.age in
    λ f below.
    elim (cases_lt f c.loop-flusher.flusher) [
      | inl less ↦ c.loop-flusher.invariant f less
      | inr more ↦ let same : f ≡ c.loop-flusher.flusher = omega (arith, below, more) in
          subst (λ k. IsFlusherIdle m k c.args.self.now.core) (sym same)
          (still_idle m c.args.self.now.core c.loop-flusher.flusher (λ found lt at. sym (c.is_idle.ensures.there found lt at) ∙ c.if-not-is_idle.false))
    ]

pub returns : goal.returns
returns g c = λ is f s it at.
    let counted : c.settings-flusher-end.result.flushers ≡ c.args.self.now.core.settings.flushers = ap (λ k. k.flushers) c.settings-flusher-end.ensures in
    let all : c.loop-flusher.flusher ≡ c.args.self.now.core.settings.flushers = omega (arith, counted, c.loop-flusher-test.false, c.loop-flusher.auto.flusher-end) in
    let count : c.loop-flusher.flusher ≡ s.flushers = all ∙ ap (λ k. k.flushers) at.sizes in
    elim (cases_lt f c.loop-flusher.flusher) [
      | inl less ↦ c.loop-flusher.invariant f less s it at
      | inr more ↦ (at.flushers).beyond f (omega (arith, more, count))
    ]
