-- The lengths that a serializer gives.
use Rattle.std.specs.Prelude.{◌≡◌, ℕ, ◌+◌, ◌<◌, ◌^◌, List, length}
use Rattle.foyer_format_record.specs.declared.serde.entries.KvInfo.{KvInfo}

-- These are the lengths of the value and the key, unless the writer's count reached its end.
abbrev pub IsWritten : (taken : ℕ) → (value key : List ℕ) → KvInfo → Type 0
IsWritten taken value key info =
    taken + length value + length key < 2 ^ 64
    → (info.value_len ≡ length value) × (info.key_len ≡ length key)
