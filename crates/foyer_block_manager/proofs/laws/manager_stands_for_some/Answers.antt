use Rattle.std.proofs.Common.{ℕ, Option, Some, None, slice_get, refl, ap}
use Rattle.foyer_core_model.specs.State as model_state
use Rattle.foyer_block_manager.specs.BlockSets.{BlockSets, Stands, model_set}
use Rattle.foyer_block_manager.specs.Managed.{Managed, filling_of}
use Rattle.foyer_block_manager.specs.declared.block.states.BlockState.{BlockState}
use Rattle.foyer_block_manager.proofs.laws.manager_stands_for_some.Goals as goal

-- of a block that isn't there anything
set_of : Option BlockState → model_state.BlockSet
set_of None = model_state.Clean
set_of (Some it) = model_set it.block_set

stats_of : Option BlockState → model_state.Stats
stats_of None = model_state.no_stats
stats_of (Some it) = record { invalid = it.statistics.invalid; access = it.statistics.access; probation = it.statistics.probation }

ready_of : Option (Option ℕ) → Option ℕ
ready_of None = None
ready_of (Some r) = r

sets_of : Managed → BlockSets
sets_of m = record {
  block_set = λ b. set_of (slice_get m.blocks b);
  clean = m.clean;
  waiting = m.waiting;
  ready = λ f. ready_of (slice_get m.ready f);
  filling = λ b. filling_of (slice_get m.blocks b);
  stats = λ b. stats_of (slice_get m.blocks b);
  is_cleaning = m.is_cleaning;
}

stands : (m : Managed) → Stands m (sets_of m)
unfolding set_of stats_of ready_of sets_of
stands m = record {
  blocks = λ b it is. record { block_set = ap set_of is; filling = ap filling_of is; stats = ap stats_of is };
  clean = refl;
  waiting = refl;
  ready = λ f r is. ap ready_of is;
  is_cleaning = refl;
}

pub returns : goal.returns
returns c = λ m. (sets_of m, stands m)
