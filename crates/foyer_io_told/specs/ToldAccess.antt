-- What the lock of a disk keeps, and what a thread knows of its access before and after.
use Rattle.std.specs.Prelude.{◌≡◌, ℕ, Bool, if◌then◌else◌, List, [], ◌∷◌, ◌++◌, Option, Some, Result}
use Rattle.std.specs.declared.vec.Vec.{Vec}
use Rattle.atomic_table.specs.Seated.{TableId}
use Rattle.foyer_device_page.specs.declared.error.Error.{Error}
use Rattle.foyer_format_layout.specs.BlockBytes.{Write}
use Rattle.foyer_core_chronicle.specs.declared.View.{View}
use Rattle.foyer_core_model.specs.Access.{Issued, CleanState, ReadState}
use Rattle.foyer_core_model.specs.Event.{Event}
use Rattle.foyer_core_rights.specs.Frames.{HasLoad}
use Rattle.foyer_core_laws.specs.Content.{Content, Meaning}
use Rattle.foyer_core_steps.specs.Asked.{ticket_of}
use Rattle.foyer_core_steps.specs.declared.step.Ticket.{Ticket}
use Rattle.foyer_core_access.specs.declared.reclaims.Part.{Part}
use Rattle.foyer_core_told.specs.declared.event.Told.{Told}
use Rattle.foyer_core_told.specs.declared.event.Told.TheVariants as told
use Rattle.foyer_core_told.specs.ToldRuns.{Knows}

-- a name that no table has
abbrev pub no_table : TableId
no_table = record { words = 0; slots = 0; views_name = 0; atom = 0; block = 0; offset = 0; slot_names = [] }

-- the event is a read for the reclaim of this block, and gave this
abbrev pub IsScanOf : {K V P A D : Type 0} → Told K V P A D → ℕ → Result (Vec ℕ A) Error → Type 0
IsScanOf (told.Scans block gave) b outcome = (block ≡ b) × (gave.value ≡ outcome)
IsScanOf event b outcome = ⊥

-- the event is a write of this flusher with this outcome, which left this disk
abbrev pub IsWriteOf : {K V P A D : Type 0} → Told K V P A D → ℕ → Bool → D → Type 0
IsWriteOf (told.Writes flusher is_ok left) f ok disk = (flusher ≡ f) × (is_ok ≡ ok) × (left.value ≡ disk)
IsWriteOf event f ok disk = ⊥

-- the event is the clean of this block with this outcome, which left this disk
abbrev pub IsCleanOf : {K V P A D : Type 0} → Told K V P A D → ℕ → Bool → D → Type 0
IsCleanOf (told.Cleans block is_ok left) b ok disk = (block ≡ b) × (is_ok ≡ ok) × (left.value ≡ disk)
IsCleanOf event b ok disk = ⊥

module _ {K V P A D : Type 0} (m : Meaning K V P) (byte_at : D → ℕ → ℕ → ℕ) where
  -- it is known that the bytes are those of the disk
  abbrev pub LiesAt : List (Told K V P A D) → D → Type 0
  LiesAt log disk = Knows m byte_at log (λ s u. u.bytes ≡ byte_at disk)

  -- the read of the ticket of this number is in this state
  abbrev pub HasTicket : List (Told K V P A D) → ℕ → Ticket → ReadState → Type 0
  HasTicket log n ticket state = Knows m byte_at log (λ s u. (promise : Option (Event Content)) × HasLoad u n (ticket_of ticket) promise state)

  -- the read of this part for the reclaim of a block is in this state
  abbrev pub HasScan : List (Told K V P A D) → ℕ → Part → ReadState → Type 0
  HasScan log b part state = Knows m byte_at log (λ s u. u.scans b ≡ Some (record { offset = part.offset; len = part.len; read_state = state }))

  -- of the writes of a flusher into a block, these results are to be reported, and these writes to be done
  abbrev pub HasWrites : List (Told K V P A D) → (flusher block : ℕ) → List Bool → List Write → Type 0
  HasWrites log f b results writes = Knows m byte_at log (λ s u. u.block_writes f ≡ Issued b results writes)

  -- the clean of a block is in this state
  abbrev pub HasClean : List (Told K V P A D) → (block : ℕ) → CleanState → Type 0
  HasClean log b state = Knows m byte_at log (λ s u. u.clean_states b ≡ state)

  -- a write that was done is to be reported then, and the writes behind it are to be done if it went well
  abbrev pub HasWritten : (mine after : View (Told K V P A D)) → (flusher block : ℕ) → Write → Bool → Type 0
  HasWritten mine after f b write ok =
      (results : List Bool) (left : List Write) → HasWrites mine.seen f b results (write ∷ left) → HasWrites after.seen f b (results ++ ok ∷ []) (if ok then left else [])
