-- The texts' checksums by XXH32, computed by the check.
use Rattle.std.proofs.Common.{refl}
use Rattle.foyer_format_checksum.specs.Xxh32.{xxh32, round, lane, column, merge_columns, stripes, mix_lane, mix_byte, mix_lanes, mix_bytes, mix_tail, avalanche}
use Rattle.foyer_format_checksum.specs.Vectors.{Xxh32Vectors}

pub xxh32_vectors : Xxh32Vectors
unfolding xxh32 round lane column merge_columns stripes mix_lane mix_byte mix_lanes mix_bytes mix_tail avalanche
xxh32_vectors = (refl, refl, refl, refl)
