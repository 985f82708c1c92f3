-- A worked example: a header.
use Rattle.std.specs.Prelude.{◌≡◌, [], ◌∷◌}
use Rattle.foyer_format_record.specs.declared.compress.Compression.TheVariants as compression
use Rattle.foyer_format_record.specs.Header.{header_bytes}

-- key_len 8, value_len 3, hash 1, sequence 2, checksum 0, not compressed
abbrev pub HeaderVector : Type 0
HeaderVector =
    header_bytes (record {
      key_len = 8;
      value_len = 3;
      hash = 1;
      sequence = 2;
      checksum = 0;
      compression = compression.None;
    })
    ≡ 0 ∷ 0 ∷ 0 ∷ 8 ∷ 0 ∷ 0 ∷ 0 ∷ 3
    ∷ 0 ∷ 0 ∷ 0 ∷ 0 ∷ 0 ∷ 0 ∷ 0 ∷ 1
    ∷ 0 ∷ 0 ∷ 0 ∷ 0 ∷ 0 ∷ 0 ∷ 0 ∷ 2
    ∷ 0 ∷ 0 ∷ 0 ∷ 0 ∷ 0 ∷ 0 ∷ 0 ∷ 0
    ∷ 0x97 ∷ 0x03 ∷ 0x27 ∷ 0x00 ∷ []
