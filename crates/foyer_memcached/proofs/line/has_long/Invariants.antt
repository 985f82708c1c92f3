use Rattle.std.proofs.Common.{◌≡◌, length}
use Rattle.foyer_memcached.specs.Lines.{any_long}
use Rattle.foyer_memcached.specs.Words.{words}
use Rattle.foyer_memcached.proofs.line.has_long.Given as goal

abbrev pub invariant-loop-word : goal.invariant-loop-word
invariant-loop-word l = any_long (words l.rest) ≡ any_long (words l.args)

abbrev pub decreases-loop-word : goal.decreases-loop-word
decreases-loop-word l = length l.rest
