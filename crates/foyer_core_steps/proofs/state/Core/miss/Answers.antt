use Rattle.foyer_core_flusher.proofs.SlotLemmas.{index_removed}
use Rattle.foyer_core_steps.proofs.state.Core.miss.Goals as goal

pub returns-clause-meets : goal.returns-clause-meets
returns-clause-meets g c = λ m s it stands. record {
  sizes = stands.sizes;
  index = index_removed s c.args.self.now.index.slots c.remove.new.self.slots it.index c.args.ticket.now.hash c.args.ticket.now.address c.remove.result
      c.remove.ensures.answer c.remove.ensures.removed c.remove.ensures.unchanged stands.index;
  next = stands.next;
  steps = stands.steps;
  closed = stands.closed;
  flushers = stands.flushers;
  queued = stands.queued;
  manager = stands.manager;
  has = stands.has;
  reclaims = stands.reclaims;
  destroy = stands.destroy;
}
