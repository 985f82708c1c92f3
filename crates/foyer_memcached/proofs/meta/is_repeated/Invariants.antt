use Rattle.std.proofs.Common.{◌≡◌, length}
use Rattle.foyer_memcached.specs.Meta.{any_begins}
use Rattle.foyer_memcached.specs.Words.{words}
use Rattle.foyer_memcached.proofs.meta.is_repeated.Given as goal

abbrev pub invariant-loop-word : goal.invariant-loop-word
invariant-loop-word l = any_begins l.first (words l.rest) ≡ any_begins l.first (words l.args)

abbrev pub decreases-loop-word : goal.decreases-loop-word
decreases-loop-word l = length l.rest
