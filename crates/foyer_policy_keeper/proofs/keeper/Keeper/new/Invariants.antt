use Rattle.std.proofs.Common.{◌≡◌, length}
use Rattle.foyer_policy_keeper.proofs.keeper.Keeper.new.Given as goal

abbrev pub invariant-loop : goal.invariant-loop
invariant-loop g l = length l.made.items ≡ l.counter
