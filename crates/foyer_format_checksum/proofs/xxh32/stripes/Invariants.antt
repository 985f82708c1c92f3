use Rattle.std.proofs.Common.{◌≡◌, ◌-◌, ◌^◌}
use Rattle.foyer_format_checksum.specs.Xxh32.{column, add32, prime1, prime2}
use Rattle.foyer_format_checksum.proofs.xxh32.stripes.Given as goal

abbrev pub invariant-stripes : goal.invariant-stripes
invariant-stripes l = record {
  first : l.a1 ≡ column (add32 prime1 prime2) l.bytes 0 l.i;
  second : l.a2 ≡ column prime2 l.bytes 1 l.i;
  third : l.a3 ≡ column 0 l.bytes 2 l.i;
  fourth : l.a4 ≡ column (2 ^ 32 - prime1) l.bytes 3 l.i;
}
