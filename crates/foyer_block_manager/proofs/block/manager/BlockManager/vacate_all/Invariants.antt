use Rattle.std.proofs.Common.{◌≡◌, ◌≤◌, ℕ, slice_get}
use Rattle.foyer_block_manager.specs.BlockSets.{BlockSets, Stands, HasSameRules}
use Rattle.foyer_block_manager.specs.Clearing.{vacated_below}
use Rattle.foyer_block_manager.specs.Shown.{AreShownAll, written_below}
use Rattle.foyer_block_manager.proofs.block.manager.BlockManager.vacate_all.Given as goal

abbrev pub invariant-each_block : goal.invariant-each_block
invariant-each_block g l =
    HasSameRules l.initial.self l.self
    × ((s : BlockSets) → Stands l.initial.self s → Stands l.self (record s { block_set = vacated_below l.index s.block_set }))
    × AreShownAll g.P.EvictionPicker.learns (written_below (l.initial.self).blocks l.index) l.initial.pickers l.pickers
    × ((q : ℕ) → l.index ≤ q → slice_get (l.self).blocks q ≡ slice_get (l.initial.self).blocks q)
