-- When an item is no longer seen.
use Rattle.std.specs.Prelude.{ℕ, ◌+◌, ◌*◌, ◌-◌, ◌^◌, List, drop, slice_index, min, nat_le, Option, Some, None, ◌==◌, if◌then◌else◌}
use Rattle.foyer_memcached.specs.declared.expiry.Expiry.{Expiry}
use Rattle.foyer_memcached.specs.declared.expiry.Expiry.TheVariants.{Past, After}
use Rattle.foyer_memcached.specs.Words.{number_of}

abbrev pub past : Option ℕ → Option Expiry
past None = None
past (Some n) = Some Past

abbrev pub after : Option ℕ → Option Expiry
after None = None
after (Some n) = Some (After n)

-- the expiry that a word writes: a number, or a minus and a number
unfoldable pub expiry_of : List ℕ → Option Expiry
expiry_of word = if slice_index word 0 == 45 then past (number_of (drop 1 word)) else after (number_of word)

-- the second of Unix time that an expiry means at a time, and 0 if it means none: up to thirty days are counted from now on
abbrev pub moment : ℕ → Expiry → ℕ
moment now Past = 1
moment now (After n) =
    if n == 0 then 0
    else if nat_le n (60 * 60 * 24 * 30) then min (now + n) (2 ^ 32 - 1)
    else min n (2 ^ 32 - 1)
