use Rattle.std.proofs.Common.{◌≡◌, ◌++◌, ◌∷◌, [], Bool, List, ℕ, false, sym, ap, subst, ◌∙◌}
use Rattle.foyer_core_model.specs.Ids.{is_id_in}
use Rattle.foyer_block_manager.specs.Queues.{Queued, AreFlagged}
use Rattle.foyer_block_manager.proofs.QueueLemmas.{flagged_with}
use Rattle.foyer_block_manager.proofs.block.queue.Queue.push.Goals as goal

pub invariant_of-self : goal.invariant_of-self
invariant_of-self c =
    let ids : List ℕ = c.self.inside.ids.items in
    let flags : List Bool = c.self.inside.is_queued.items in
    let not : is_id_in c.args.id ids ≡ false = ap (λ (v : Queued). is_id_in c.args.id v.ids) c.self.view_is ∙ sym c.has.ensures ∙ c.if-has.false in
    subst (λ xs. AreFlagged xs c.set_flag.new.is_queued.items) (sym c.push_back_reserved.ensures.items)
    (subst (λ fs. AreFlagged (ids ++ c.args.id ∷ []) fs) (sym c.set_flag.ensures) (flagged_with ids flags c.args.id c.self.invariant not))
