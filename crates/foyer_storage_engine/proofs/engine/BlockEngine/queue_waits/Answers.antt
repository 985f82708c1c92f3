use Rattle.std.proofs.Common.{◌≡◌, ◌+◌, ◌-◌, refl, sym, subst, ◌∙◌, arith}
use Rattle.foyer_core_shared.specs.Step.TheVariants as step
use Rattle.foyer_storage_engine.specs.Ending.{AsksToWait}
use Rattle.foyer_storage_engine.proofs.EndingLemmas.{asked_to_wait}
use Rattle.foyer_storage_engine.proofs.HoldingLemmas.{held_by_made, held_on, made_one}
use Rattle.foyer_storage_engine.proofs.engine.BlockEngine.queue_waits.Goals as goal

pub loop-flusher-preserved : goal.loop-flusher-preserved
loop-flusher-preserved g c =
    let same : c.loop-flusher.flusher + 1 - 1 ≡ c.loop-flusher.flusher = omega arith in (
      c.step-reply.ensures.parts ∙ c.loop-flusher.invariant.0,
      λ some. subst (λ f. AsksToWait f c.id-id.result c.step-reply.new.session) (sym same)
          (asked_to_wait g.N.Noting.keeps c.loop-flusher.session c.step-reply.new.session c.loop-flusher.flusher c.id-id.result c.step-reply.result c.step-reply.ensures.noted (λ k back is. c.in_default.not-Refused k back is)),
      held_on c.args.session.now c.loop-flusher.session c.step-reply.new.session c.loop-flusher.invariant.2
          (held_by_made g.N.Noting.keeps c.loop-flusher.session c.step-reply.new.session (step.Wait c.loop-flusher.flusher c.id-id.result) c.step-reply.result refl refl refl c.step-reply.ensures.noted),
      made_one g.N.Noting.keeps c.args.session.now c.loop-flusher.session c.step-reply.new.session (step.Wait c.loop-flusher.flusher c.id-id.result) c.step-reply.result c.loop-flusher.flusher refl c.step-reply.ensures.noted
          (λ k back is. c.in_default.not-Refused k back is) c.loop-flusher.invariant.3,
    )
