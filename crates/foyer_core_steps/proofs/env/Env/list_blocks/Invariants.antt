use Rattle.std.proofs.Common.{◌≡◌}
use Rattle.foyer_core_model.specs.Ids.{ids}
use Rattle.foyer_core_steps.proofs.env.Env.list_blocks.Given as goal

abbrev pub invariant-each_block : goal.invariant-each_block
invariant-each_block g l = record {
  ids : l.self.own.items ≡ ids l.block;
  pickers : l.self.pickers ≡ l.fn.self.pickers;
  filter : (l.self.reinsertion ≡ l.fn.self.reinsertion) × (l.self.io ≡ l.fn.self.io);
}
