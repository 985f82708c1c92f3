use Rattle.std.proofs.Common.{◌≡◌, ℕ, map, drop}
use Rattle.foyer_core_model.specs.Flush.{all_invalidated}
use Rattle.foyer_core_model.specs.State as model_state
use Rattle.foyer_block_manager.specs.BlockSets.{BlockSets, Stands, HasSameRules}
use Rattle.foyer_core_blocks.specs.Addresses.{invalid_of}
use Rattle.foyer_core_blocks.proofs.manager.invalidate_all.Given as goal

-- what is left to be counted comes onto what stands
abbrev pub invariant-each_stats : goal.invariant-each_stats
invariant-each_stats g l = record {
  same : HasSameRules l.fn.manager l.manager;
  counted : (s : BlockSets) → Stands l.fn.manager s
      → (now : ℕ → model_state.Stats) × Stands l.manager (record s { stats = now })
      × (all_invalidated s.block_set s.filling (map invalid_of (drop l.stats-index l.invalid)) now ≡ all_invalidated s.block_set s.filling (map invalid_of l.invalid) s.stats);
}
