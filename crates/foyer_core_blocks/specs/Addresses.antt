-- Addresses, marks and invalid bytes as the model has them.
use Rattle.std.specs.Prelude.{ℕ, ◌==◌, ◌&&◌, Bool, false, Option, Some, None}
use Rattle.foyer_core_model.specs.Flush.{may_hold}
use Rattle.foyer_block_manager.specs.BlockSets.{model_set}
use Rattle.foyer_block_manager.specs.declared.block.states.BlockState.{BlockState}
use Rattle.foyer_block_index.specs.declared.indexer.EntryAddress.{EntryAddress}
use Rattle.foyer_block_index.specs.declared.indexer.HashedEntryAddress.{HashedEntryAddress}
use Rattle.foyer_block_index.specs.declared.tombstone.Tombstone.{Tombstone}
use Rattle.foyer_core_model.specs.Record.{Address}
use Rattle.foyer_core_model.specs.State as model_state
use Rattle.foyer_core_blocks.specs.declared.manager.Invalidated.{Invalidated}

abbrev pub address_of : EntryAddress → Address
address_of a = record { block = a.block; offset = a.offset; len = a.len; sequence = a.sequence; filling = a.filling }

abbrev pub listed_of : HashedEntryAddress → ℕ × Address
listed_of e = (e.hash, address_of e.address)

abbrev pub mark_of : Tombstone → ℕ × ℕ
mark_of mark = (mark.hash, mark.sequence)

abbrev pub invalid_of : Invalidated → model_state.Invalidated
invalid_of i = record { block = i.stats.block; filling = i.filling; bytes = i.stats.size }

-- whether what is known of a block has this filling, and may hold records
abbrev pub state_has : Option BlockState → ℕ → Bool
state_has None n = false
state_has (Some it) n = (it.filling == n) && may_hold (model_set it.block_set)
