-- The header of a record.
use Rattle.std.specs.Prelude.{ℕ, ◌+◌, ◌/◌, ◌%◌, ◌<◌, ◌^◌, ◌==◌, List, ◌++◌, drop, Result, Ok, Err, if◌then◌else◌, ◌*◌}
use Rattle.byteorder.specs.Endian.{big_number, big_bytes}
use Rattle.foyer_format_code.specs.Error.{Error}
use Rattle.foyer_format_code.specs.Error.TheVariants.{MagicMismatch}
use Rattle.foyer_format_record.specs.Compression.{byte_of, compression_of}
use Rattle.foyer_format_record.specs.declared.compress.Compression.{Compression}
use Rattle.foyer_format_record.specs.declared.block.serde.EntryHeader.{EntryHeader}

-- the number in the n bytes from byte i, the highest first
unfoldable pub number_at : ℕ → ℕ → List ℕ → ℕ
number_at i n b = big_number n (drop i b)

-- what the last word begins with
abbrev pub magic : ℕ
magic = 0x970327

-- the 36 bytes of a header
unfoldable pub header_bytes : EntryHeader → List ℕ
header_bytes h =
    big_bytes 4 h.key_len ++ (big_bytes 4 h.value_len ++ (big_bytes 8 h.hash
    ++ (big_bytes 8 h.sequence ++ (big_bytes 8 h.checksum
    ++ big_bytes 4 (magic * 256 + byte_of h.compression)))))

-- the header with this compression
abbrev pub header_with : List ℕ → Result Compression Error → Result EntryHeader Error
header_with b (Ok c) = Ok (record {
  key_len = number_at 0 4 b;
  value_len = number_at 4 4 b;
  hash = number_at 8 8 b;
  sequence = number_at 16 8 b;
  checksum = number_at 24 8 b;
  compression = c;
})
header_with b (Err e) = Err e

-- the header that the first 36 bytes of b spell
unfoldable pub header_of : List ℕ → Result EntryHeader Error
header_of b =
    if number_at 32 4 b / 256 == magic
    then header_with b (compression_of (number_at 32 4 b % 256))
    else Err MagicMismatch

-- each number fits its field
pub record FitsFields (h : EntryHeader) : Type 0 where
  pub key_len : h.key_len < 2 ^ 32
  pub value_len : h.value_len < 2 ^ 32
  pub hash : h.hash < 2 ^ 64
  pub sequence : h.sequence < 2 ^ 64
  pub checksum : h.checksum < 2 ^ 64
