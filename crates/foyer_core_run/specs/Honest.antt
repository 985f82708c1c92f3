-- Faults that are told, and the accesses that failed.
use Rattle.std.specs.Prelude.{◌≡◌, ◌⊎◌, ℕ, ◌∷◌, length, replicate, slice_get, Some, IsSomeAnd}
use Rattle.std.specs.declared.vec.Vec.{Vec}
use Rattle.foyer_block_index.specs.Index.{address_at}
use Rattle.foyer_block_index.specs.declared.indexer.EntryAddress.{EntryAddress}
use Rattle.foyer_device_page.specs.declared.error.ErrorKind.TheVariants as kind
use Rattle.foyer_core_model.specs.State.{State}
use Rattle.foyer_core_laws.specs.Content.{Content, Meaning}
use Rattle.foyer_core_laws.specs.Sizes.{AreValid}
use Rattle.foyer_core_laws.specs.Settings.{Settings}
use Rattle.foyer_core_steps.specs.Failing.{MustGrowFor}
use Rattle.foyer_core_steps.specs.Issuing.{written_bytes}
use Rattle.foyer_core_steps.specs.Write.{Write}
use Rattle.foyer_core_steps.specs.Refines.{Refines}
use Rattle.foyer_core_steps.specs.StateOf.{IsStateOf}
use Rattle.foyer_core_steps.specs.declared.reply.Reply.{Reply}
use Rattle.foyer_core_steps.specs.declared.reply.Reply.TheVariants as reply
use Rattle.foyer_core_steps.specs.declared.state.Core.{Core}
use Rattle.foyer_core_steps.specs.declared.step.Step.{Step}
use Rattle.foyer_core_steps.specs.declared.step.Step.TheVariants as step
use Rattle.foyer_core_run.specs.Accesses.{writes_of}
use Rattle.foyer_core_run.specs.Runs.{Runs}

-- From each state of the model that the core stood for: a load is answered Io only if the index has an address of the hash, and it isn't
-- sure that a read of that address came.
abbrev pub FailsAtRead : {K V P A : Type 0} → Meaning K V P → (hash : ℕ) → (came : ℕ → ℕ → ℕ → Type 0) → Core K V P A → Reply K V P A → Type 0
FailsAtRead {K} {V} {P} {A} m hash came old last =
    (back : Step K V P A) → last ≡ reply.Refused kind.Io back → (s : Settings) → AreValid s → (it : State Content) → IsStateOf m s old it
    → (a : EntryAddress) × (address_at old.index.slots hash ≡ Some a) × (came a.block a.offset a.len → ⊥)

-- A flusher was issued a block's writes, and the last of those that were done, behind so many that went well, was answered
-- Failed: it isn't sure that it came; or the index, which none of them changed, had to grow for the block's records.
pub record IsFailedForCause {K V P A : Type 0} (m : Meaning K V P) (flusher : ℕ) (came : ℕ → ℕ → ℕ → Type 0) (is_known : Type 0) (old : Core K V P A) (bytes : ℕ → ℕ → ℕ) : Type 0 where
  pub block : ℕ
  pub writes : Vec (Write A) A
  pub issued : Core K V P A
  pub issues : Refines m (step.FlushBlock flusher) (reply.Write block writes) old issued
  pub count : ℕ
  pub write : Write A
  pub there : slice_get writes.items count ≡ Some write
  pub core : Core K V P A
  pub still : core.index ≡ old.index
  pub runs : is_known → (ws : Vec (Write A) A) × (now : ℕ → ℕ → ℕ) × (ws.items ≡ writes.items)
      × Runs m (writes_of flusher count) (reply.Write block ws ∷ replicate count reply.Next) old core bytes now
  pub cause : (came block write.offset (length (written_bytes write.bytes)) → ⊥) ⊎ IsSomeAnd (slice_get core.flushers.items flusher) (MustGrowFor core.index)

-- From each state of the model that the core stood for there is such a cause, if Failed was answered last.
abbrev pub FailsForCause : {K V P A : Type 0} → Meaning K V P → (flusher : ℕ) → (came : ℕ → ℕ → ℕ → Type 0) → (is_known : Type 0) → Core K V P A → (ℕ → ℕ → ℕ) → Reply K V P A → Type 0
FailsForCause m flusher came is_known old bytes last =
    last ≡ reply.Failed → (s : Settings) → AreValid s → (it : State Content) → IsStateOf m s old it → IsFailedForCause m flusher came is_known old bytes
