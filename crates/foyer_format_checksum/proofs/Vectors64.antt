-- The texts' checksums by XXH64, computed by the check.
use Rattle.std.proofs.Common.{refl}
use Rattle.foyer_format_checksum.specs.Xxh64.{xxh64, round, lane, half_lane, column, merge, merge_columns, stripes, mix_lane, mix_half_lane, mix_byte, mix_lanes, mix_bytes, mix_last, mix_tail, avalanche}
use Rattle.foyer_format_checksum.specs.Vectors.{Xxh64Vectors}

pub xxh64_vectors : Xxh64Vectors
unfolding xxh64 round lane half_lane column merge merge_columns stripes mix_lane mix_half_lane mix_byte mix_lanes mix_bytes mix_last mix_tail avalanche
xxh64_vectors = (refl, refl, refl, refl)
