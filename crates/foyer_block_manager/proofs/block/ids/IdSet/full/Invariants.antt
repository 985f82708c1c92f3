use Rattle.std.proofs.Common.{◌≡◌}
use Rattle.foyer_core_model.specs.Ids.{ids}
use Rattle.foyer_block_manager.proofs.block.ids.IdSet.full.Given as goal

abbrev pub invariant-each_id : goal.invariant-each_id
invariant-each_id g l = (l.set.ids ≡ ids l.id) × (l.set.bound ≡ l.bound)
