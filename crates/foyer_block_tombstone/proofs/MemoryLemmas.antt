-- The memory of a page.
use Rattle.std.proofs.Common.{◌≡◌, ℕ, List, length, refl, arith, Option, Some, None}
use Rattle.std.proofs.lemmas.Grind.{common_steps}
use Rattle.foyer_device_page.specs.Refilled.{refilled}
use Rattle.foyer_block_tombstone.specs.Views.{HasMemory}

refilled_length : (old bytes : List ℕ) → length (refilled old bytes) ≡ length old
refilled_length old bytes = grind (arith, common_steps)

-- whatever is written over what is shown
pub lent_memory : (page : Option ℕ) (shown : List ℕ) (spare : Option (List ℕ)) (bytes : List ℕ) → HasMemory page shown spare
    → HasMemory page (refilled shown bytes) spare
lent_memory None shown (Some spare) bytes has = (rw has.0 refl, has.1)
lent_memory (Some n) shown (Some spare) bytes has = (rw (refilled_length shown bytes) has.0, has.1)
lent_memory None shown None bytes has = has
lent_memory (Some n) shown None bytes has = has
