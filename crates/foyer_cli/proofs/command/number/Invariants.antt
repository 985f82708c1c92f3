use Rattle.std.proofs.Common.{◌≡◌, ◌+◌, ◌*◌, ◌/◌, ◌<◌, ◌^◌, length, take}
use Rattle.std.specs.Str.Parse.{AllDigits, digits_value}
use Rattle.foyer_cli.proofs.command.number.Given as goal

abbrev pub invariant-loop-four : goal.invariant-loop-four
invariant-loop-four l = record {
  digits : AllDigits 10 (take (l.four-index * 4) l.digits);
  value : l.value ≡ digits_value 10 (take (l.four-index * 4) l.digits);
  fits : l.value < 2 ^ 64;
}

abbrev pub invariant-loop-byte : goal.invariant-loop-byte
invariant-loop-byte l = record {
  digits : AllDigits 10 (take (length l.digits / 4 * 4 + l.byte-index) l.digits);
  value : l.value ≡ digits_value 10 (take (length l.digits / 4 * 4 + l.byte-index) l.digits);
  fits : l.value < 2 ^ 64;
}
