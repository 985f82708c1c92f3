use Rattle.std.proofs.Common.{true, refl}
use Rattle.foyer_core_model.specs.Reply.{Done}
use Rattle.foyer_core_steps.proofs.state.Core.close.Goals as goal

pub returns-clause-meets : goal.returns-clause-meets
returns-clause-meets g c = λ m s sound it stands few. record {
  after = record it { closed = true };
  it = Done;
  stands = record {
    sizes = stands.sizes;
    index = stands.index;
    next = stands.next;
    steps = stands.steps;
    closed = refl;
    flushers = stands.flushers;
    queued = stands.queued;
    manager = stands.manager;
    has = stands.has;
    reclaims = stands.reclaims;
    destroy = stands.destroy;
  };
  reply = refl;
  turns = (tt, (refl, refl));
}
