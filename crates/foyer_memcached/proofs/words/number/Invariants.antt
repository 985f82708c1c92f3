use Rattle.std.proofs.Common.{◌≡◌, ◌<◌, ◌^◌, drop}
use Rattle.foyer_memcached.specs.Words.{decimal_after}
use Rattle.foyer_memcached.proofs.words.number.Given as goal

abbrev pub invariant-loop-byte : goal.invariant-loop-byte
invariant-loop-byte l = record {
  value : decimal_after l.value (drop l.byte-index l.digits) ≡ decimal_after 0 l.digits;
  fits : l.value < 2 ^ 64;
}
