use Rattle.std.proofs.lemmas.Grind.{common_steps}
use Rattle.std.proofs.Common.{◌≡◌, ◌∙◌, ap, arith}
use Rattle.std.specs.Prelude.{replicate}
use Rattle.foyer_core_flusher.specs.Idle.{idle}
use Rattle.foyer_core_steps.proofs.open.idle_flushers.Goals as goal

pub returns-clause-idle : goal.returns-clause-idle
returns-clause-idle g c =
    let all : c.each_flusher.counter ≡ (c.args.settings.now).flushers = omega arith in
    c.each_flusher.invariant.idle ∙ ap (λ n. replicate n (idle c.args.settings.now)) all

pub each_flusher-preserved : goal.each_flusher-preserved
each_flusher-preserved g c = grind (arith, common_steps)
