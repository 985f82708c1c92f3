use Rattle.std.proofs.Common.{◌≡◌, drop}
use Rattle.foyer_format_checksum.specs.Xxh64.{mix_bytes}
use Rattle.foyer_format_checksum.proofs.xxh64.mix_bytes.Given as goal

abbrev pub invariant-loop-byte : goal.invariant-loop-byte
invariant-loop-byte l = mix_bytes l.h (drop l.byte-index l.bytes) ≡ mix_bytes l.fn.h l.bytes
