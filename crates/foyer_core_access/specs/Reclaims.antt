-- What a reclaim reads of its block, and what a clean leaves.
use Rattle.std.specs.Prelude.{◌≡◌, ℕ, ◌<◌, Option, Some, None}
use Rattle.foyer_core_model.specs.Numbers.{page}
use Rattle.foyer_core_steps.specs.declared.reply.Reply.{Reply}
use Rattle.foyer_core_steps.specs.declared.reply.Reply.TheVariants as reply
use Rattle.foyer_io_disk.specs.Disk.{IsTorn}
use Rattle.foyer_core_access.specs.declared.reclaims.Part.{Part}

-- the part that a reply has a reclaim read next
abbrev pub part_in : {K V P A : Type 0} → Reply K V P A → Option Part
part_in (reply.Scan b offset len verdicts) = Some (record { offset = offset; len = len })
part_in answer = None

-- the first page of a block is zeros, and all else is as before
abbrev pub IsCleaned : (ℕ → ℕ → ℕ) → ℕ → (ℕ → ℕ → ℕ) → Type 0
IsCleaned old block new = ((o : ℕ) → o < page → new block o ≡ 0) × IsTorn old block 0 page new
