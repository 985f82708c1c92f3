use Rattle.std.proofs.Common.{nat_eq, option_map, refl, ap, subst}
use Rattle.std.specs.Map.{lookup}
use Rattle.foyer_core_flusher.specs.Standing.{IsManagedAs}
use Rattle.foyer_core_steps.specs.Opened.{opened_sets}
use Rattle.foyer_core_steps.specs.Reclaiming.{reclaiming}
use Rattle.foyer_core_steps.proofs.state.Core.begin.Goals as goal

pub returns-clause-opened : goal.returns-clause-opened
returns-clause-opened g c = record {
  sizes = refl;
  index = λ hash. refl;
  next = refl;
  steps = refl;
  closed = refl;
  queued = refl;
  flushers = c.in_ok-flushers.ensures.idle;
  manager = subst (λ l. IsManagedAs c.args.settings c.in_ok-manager.manager (opened_sets c.args.settings.blocks l)) c.deref.ensures.value c.in_ok-manager.ensures.placed;
  reclaims = λ b. ap (λ es. option_map reclaiming (lookup (nat_eq b) es)) c.new-reclaims.ensures.empty;
  destroy = refl;
}
