-- A compression is read as it was written.
use Rattle.std.proofs.Common.{◌≡◌, Ok, refl}
use Rattle.foyer_format_record.specs.Compression.{byte_of, compression_of}
use Rattle.foyer_format_record.specs.declared.compress.Compression.{Compression}
use Rattle.foyer_format_record.specs.declared.compress.Compression.TheVariants as compression

pub compression_again : (c : Compression) → compression_of (byte_of c) ≡ Ok c
compression_again compression.None = refl
compression_again compression.Zstd = refl
compression_again compression.Lz4 = refl
