use Rattle.std.proofs.Common.{◌≡◌, ◌++◌, map, take, drop, None}
use Rattle.foyer_block_manager.proofs.block.manager.clearing.forget.Given as goal

abbrev pub invariant-each_flusher : goal.invariant-each_flusher
invariant-each_flusher g l =
    l.given-items ≡ map (λ _. None) (take l.given-index l.initial.given-items) ++ drop l.given-index l.initial.given-items
