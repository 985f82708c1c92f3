use Rattle.std.proofs.Common.{◌≡◌, true, false, Some, None, sym, ◌∙◌}
use Rattle.foyer_block_index.proofs.Entries.{held-lacking}
use Rattle.foyer_block_index.proofs.shard.Shard.exchange.Goals as goal

pub returns-in-None-clause-answer : goal.returns-in-None-clause-answer
returns-in-None-clause-answer g c = (
  (λ t. absurd (let clash : false ≡ true = t in cc)),
  λ e. absurd (let clash : None ≡ Some c.args.held = sym (held-lacking c.args.self.now.entries c.args.hash c.in-None.ensures) ∙ e in cc),
)
