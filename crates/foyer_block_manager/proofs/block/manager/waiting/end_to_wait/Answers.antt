use Rattle.std.proofs.Common.{◌≡◌, ◌==◌, not, ◌∙◌, rules, refl}
use Rattle.foyer_block_manager.proofs.WaitingLemmas.{filtered_is, without_id_filter}
use Rattle.foyer_block_manager.proofs.block.manager.waiting.end_to_wait.Goals as goal

pub returns-clause-waits : goal.returns-clause-waits
returns-clause-waits g c =
    filtered_is _ (λ y. not (y == c.args.flusher)) (λ p. (p.0).now ≡ c.args.flusher)
    (λ p x b q i r. (search rules, search rules)) _ c.args.waiting.now.items c.retain.new.self.items refl c.retain.ensures.filtered
    ∙ without_id_filter c.args.flusher c.args.waiting.now.items
