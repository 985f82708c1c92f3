use Rattle.std.proofs.Common.{◌≡◌, ◌==◌, ◌∙◌, not, rules, refl}
use Rattle.foyer_block_manager.proofs.QueueLemmas.{front_without, none_without}
use Rattle.foyer_block_manager.proofs.WaitingLemmas.{filtered_is, without_id_filter}
use Rattle.foyer_block_manager.proofs.block.queue.take_out.Goals as goal

pub returns-clause-ids : goal.returns-clause-ids
returns-clause-ids c =
    filtered_is _ (λ y. not (y == c.args.id)) (λ p. (p.0).now ≡ c.args.id)
    (λ p x b q i r. (search rules, search rules)) _ c.args.ids.now.items c.retain.new.self.items refl c.retain.ensures.filtered
    ∙ without_id_filter c.args.id c.args.ids.now.items

pub returns-then-front-id-clause-ids : goal.returns-then-front-id-clause-ids
returns-then-front-id-clause-ids c =
    front_without c.args.ids.now.items c.pop_front.new.self.items c.args.id c.in-Some.front c.requires c.in-Some.ensures c.if-front-id.true c.pop_front.ensures.rest

pub returns-in_default-clause-ids : goal.returns-in_default-clause-ids
returns-in_default-clause-ids c = none_without c.args.ids.now.items c.args.id c.in_default.ensures
