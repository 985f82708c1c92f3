use Rattle.std.proofs.Common.{◌≡◌, length}
use Rattle.foyer_memcached.specs.Lines.{ends_http}
use Rattle.foyer_memcached.specs.Words.{words}
use Rattle.foyer_memcached.proofs.line.ends_http.Given as goal

abbrev pub invariant-loop-word : goal.invariant-loop-word
invariant-loop-word l = ends_http l.is_last (words l.rest) ≡ ends_http l.before (words l.args)

abbrev pub decreases-loop-word : goal.decreases-loop-word
decreases-loop-word l = length l.rest
