use Rattle.std.proofs.Common.{◌≡◌, ℕ, true, take, drop, slice_get}
use Rattle.foyer_core_model.specs.Ids.{is_id_in}
use Rattle.foyer_block_manager.specs.BlockSets.{BlockSets, Stands, HasSameRules}
use Rattle.foyer_block_manager.specs.Initial.{with_clean}
use Rattle.foyer_block_manager.specs.Managed.{is_evictable}
use Rattle.foyer_block_manager.proofs.block.manager.BlockManager.make_all_clean.Given as goal

abbrev pub invariant-each_id : goal.invariant-each_id
invariant-each_id g l =
    HasSameRules l.initial.self l.self
    × ((s : BlockSets) → Stands l.initial.self s → Stands l.self (with_clean s (take l.id-index l.clean)))
    × ((b : ℕ) → is_id_in b (drop l.id-index l.clean) ≡ true → is_evictable (slice_get l.self.blocks b) ≡ true)
