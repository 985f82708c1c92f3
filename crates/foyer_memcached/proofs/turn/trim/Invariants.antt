use Rattle.std.proofs.Common.{◌≡◌, ◌≤◌, length, take}
use Rattle.foyer_memcached.specs.Turn.{without_blanks}
use Rattle.foyer_memcached.proofs.turn.trim.Given as goal

abbrev pub invariant-loop-end : goal.invariant-loop-end
invariant-loop-end l = record {
  within : l.end ≤ length l.value;
  same : without_blanks (take l.end l.value) ≡ without_blanks l.value;
}

abbrev pub decreases-loop-end : goal.decreases-loop-end
decreases-loop-end l = l.end
