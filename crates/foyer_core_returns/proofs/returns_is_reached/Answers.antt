use Rattle.std.proofs.Common.{refl, arith}
use Rattle.foyer_core_returns.proofs.ReturnsReached.{reached}
use Rattle.foyer_core_returns.proofs.returns_is_reached.Goals as goal

pub returns-clause-sizes : goal.returns-clause-sizes
returns-clause-sizes c = λ s. record {
  some_flusher = omega arith;
  some_shard = omega arith;
  enough_blocks = omega arith;
  whole_block = refl;
  offsets_fit = omega arith;
  whole_index = refl;
  some_index = omega arith;
  room = omega arith;
  some_buffer = omega arith;
  some_reclaimer = omega arith;
  few_workers = omega arith;
}

pub returns-clause-run : goal.returns-clause-run
returns-clause-run c = λ is_key is_value s sound key value key_is value_is short. reached is_key is_value s sound key value key_is value_is short
