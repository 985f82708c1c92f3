-- The byte that names a compression.
use Rattle.std.specs.Prelude.{ℕ, zero, suc, Result, Ok, Err}
use Rattle.foyer_format_code.specs.Error.{Error}
use Rattle.foyer_format_code.specs.Error.TheVariants.{Parse}
use Rattle.foyer_format_record.specs.declared.compress.Compression.{Compression}
use Rattle.foyer_format_record.specs.declared.compress.Compression.TheVariants as compression

abbrev pub byte_of : Compression → ℕ
byte_of compression.None = 0
byte_of compression.Zstd = 1
byte_of compression.Lz4 = 2

abbrev pub compression_of : ℕ → Result Compression Error
compression_of zero = Ok compression.None
compression_of (suc zero) = Ok compression.Zstd
compression_of (suc (suc zero)) = Ok compression.Lz4
compression_of (suc (suc (suc n))) = Err Parse
