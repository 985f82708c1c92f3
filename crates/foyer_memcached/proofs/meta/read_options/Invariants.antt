use Rattle.std.proofs.Common.{◌≡◌, length}
use Rattle.foyer_memcached.specs.Meta.{options_at, options_from}
use Rattle.foyer_memcached.specs.Words.{words}
use Rattle.foyer_memcached.proofs.meta.read_options.Given as goal

abbrev pub invariant-loop-word : goal.invariant-loop-word
invariant-loop-word l = options_from l.options (words l.rest) ≡ options_at (words l.args)

abbrev pub decreases-loop-word : goal.decreases-loop-word
decreases-loop-word l = length l.rest
