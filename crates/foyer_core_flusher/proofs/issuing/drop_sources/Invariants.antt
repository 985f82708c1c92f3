use Rattle.std.proofs.Common.{◌≡◌, drop}
use Rattle.foyer_core_flusher.proofs.issuing.drop_sources.Given as goal

-- so many have left
abbrev pub invariant-each_place : goal.invariant-each_place
invariant-each_place g l = l.sources.items ≡ drop l.counter l.fn.sources.items
