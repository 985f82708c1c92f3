-- What was done at a disk behind a lock: some disk of its type did it, as it was then.
use Rattle.std.specs.Prelude.{ℕ, Result, IfErr, IfOk, OnErr, OnOk}
use Rattle.std.specs.declared.vec.Vec.{Vec}
use Rattle.foyer_core_model.specs.Numbers.{page}
use Rattle.foyer_core_access.specs.Reclaims.{IsCleaned}
use Rattle.foyer_core_shared.specs.Ticket.{Ticket}
use Rattle.foyer_device_page.specs.declared.error.Error.{Error}
use Rattle.foyer_io_disk.specs.Disk.{IsRead, SurelyCame}

-- These bytes are stored where the ticket says, if contracts see what the disk has. Or the read failed with an error that the disk may
-- answer there.
pub record IsReadBy {D A : Type 0} (is_known : D → Type 0) (byte_at : D → ℕ → ℕ → ℕ) (may_answer : D → ℕ → ℕ → ℕ → Error → Type 0) (ticket : Ticket) (came : Result (Vec ℕ A) Error) : Type 0 where
  pub disk : D
  pub read : is_known disk → IfOk came (λ bytes. IsRead (byte_at disk) ticket.address.block ticket.address.offset bytes.items)
  pub fault : IfErr came (may_answer disk ticket.address.block ticket.address.offset ticket.address.len)

-- This block's first page became zeros, and no other byte changed; or the clean failed, which a range that surely comes does not.
pub record IsCleanedBy {D : Type 0} (is_known : D → Type 0) (byte_at : D → ℕ → ℕ → ℕ) (has lies : D → ℕ → ℕ → ℕ → Type 0) (faults : D → ℕ) (block : ℕ) (outcome : Result (Unit {0}) Error) : Type 0 where
  pub before : D
  pub after : D
  pub cleaned : is_known before → OnOk outcome (IsCleaned (byte_at before) block (byte_at after))
  pub fails : OnErr outcome (SurelyCame (has before) (lies before) (faults before) (faults after) block 0 page → ⊥)
