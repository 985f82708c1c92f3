use Rattle.std.proofs.Common.{◌≡◌, drop}
use Rattle.foyer_memcached.specs.Words.{words}
use Rattle.foyer_memcached.proofs.words.skip_blanks.Given as goal

abbrev pub invariant-loop-i : goal.invariant-loop-i
invariant-loop-i l = words (drop l.i l.line) ≡ words l.line
