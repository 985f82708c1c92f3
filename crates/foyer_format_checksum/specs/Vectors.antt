-- Texts with the checksums that the reference implementation gives: none, few bytes, and 63 bytes, which
-- are stripes, lanes, a half lane and bytes.
use Rattle.std.specs.Prelude.{◌≡◌, [], codes}
use Rattle.foyer_format_checksum.specs.Xxh64.{xxh64}
use Rattle.foyer_format_checksum.specs.Xxh32.{xxh32}

abbrev pub Xxh64Vectors : Type 0
Xxh64Vectors =
    (xxh64 [] ≡ 0xEF46DB3751D8E999)
    × (xxh64 (codes "a") ≡ 0xD24EC4F1A98C6E5B)
    × (xxh64 (codes "abc") ≡ 0x44BC2CF5AD770999)
    × (xxh64 (codes "Nobody inspects the spammish repetition, and nobody expects it!") ≡ 0x58605F8DF90BAB7A)

abbrev pub Xxh32Vectors : Type 0
Xxh32Vectors =
    (xxh32 [] ≡ 0x02CC5D05)
    × (xxh32 (codes "a") ≡ 0x550D7456)
    × (xxh32 (codes "abc") ≡ 0x32D153FF)
    × (xxh32 (codes "Nobody inspects the spammish repetition, and nobody expects it!") ≡ 0x7AE021B8)
