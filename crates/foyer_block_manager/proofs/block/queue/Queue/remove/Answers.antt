use Rattle.std.proofs.Common.{Bool, List, ℕ, sym, subst}
use Rattle.foyer_core_model.specs.Ids.{without_id}
use Rattle.foyer_block_manager.specs.Queues.{AreFlagged}
use Rattle.foyer_block_manager.proofs.QueueLemmas.{flagged_without}
use Rattle.foyer_block_manager.proofs.block.queue.Queue.remove.Goals as goal

pub invariant_of-self : goal.invariant_of-self
invariant_of-self c =
    let ids : List ℕ = c.self.inside.ids.items in
    let flags : List Bool = c.self.inside.is_queued.items in
    subst (λ xs. AreFlagged xs c.set_flag.new.is_queued.items) (sym c.take_out.ensures.ids)
    (subst (λ fs. AreFlagged (without_id c.args.id ids) fs) (sym c.set_flag.ensures) (flagged_without ids flags c.args.id c.self.invariant))
