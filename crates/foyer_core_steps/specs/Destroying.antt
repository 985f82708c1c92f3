-- How far a destroy is, and which of the model's it stands for.
use Rattle.std.specs.Prelude.{◌≡◌, ◌≢◌, ℕ, ◌<◌, Bool, true, false, List, [], Option, Some, None, Result, Ok, Err}
use Rattle.foyer_device_page.specs.declared.error.Error.{Error}
use Rattle.foyer_device_page.specs.declared.error.Error.TheVariants as error
use Rattle.foyer_device_page.specs.declared.error.ErrorKind.{ErrorKind}
use Rattle.foyer_device_page.specs.declared.error.ErrorKind.TheVariants as kind
use Rattle.foyer_core_model.specs.Ids.{is_id_in}
use Rattle.foyer_core_model.specs.Reply as model_reply
use Rattle.foyer_core_model.specs.State as model_state
use Rattle.foyer_block_manager.specs.IdList.{IdList, IsWithout}
use Rattle.foyer_core_steps.specs.declared.destroy.Destroy.{Destroy}
use Rattle.foyer_core_steps.specs.declared.destroy.Destroy.TheVariants as destroy

-- the kinds by which a step is refused
abbrev pub kind_of : ErrorKind → Option model_reply.Kind
kind_of kind.Io = Some model_reply.Io
kind_of kind.Memory = Some model_reply.Memory
kind_of kind.Parse = Some model_reply.Parse
kind_of kind.Closed = Some model_reply.Closed
kind_of kind.Unsupported = Some model_reply.Unsupported
kind_of kind.SequenceEnd = Some model_reply.SequenceEnd
kind_of other = None

-- the fault of a clean, if it failed: memory was refused, or the device failed
abbrev pub fault_kind : {X : Type 0} → Result X Error → Option ErrorKind
fault_kind (Ok x) = None
fault_kind (Err error.Memory) = Some kind.Memory
fault_kind (Err e) = Some kind.Io

-- the fault that came first
abbrev pub first_of : Option ErrorKind → Option ErrorKind → Option ErrorKind
first_of None fault = fault
first_of (Some k) fault = Some k

-- the block's clean has yet to come
abbrev pub awaits : {A : Type 0} → ℕ → Destroy A → Bool
awaits b destroy.Absent = false
awaits b destroy.Begun = false
awaits b (destroy.Cleaning left first) = is_id_in b left.ids

-- a block's clean has come, and another has yet to come
abbrev pub HasCleaned : {A : Type 0} → ℕ → Option ErrorKind → Destroy A → Destroy A → Type 0
HasCleaned b fault destroy.Absent new = ⊥
HasCleaned b fault destroy.Begun new = ⊥
HasCleaned b fault (destroy.Cleaning left first) new =
    (rest : IdList) × IsWithout b left.ids rest.ids × (rest.ids ≢ []) × (new ≡ destroy.Cleaning rest (first_of first fault))

-- the last block's clean has come, and this is the fault that came first
abbrev pub HasEnded : {A : Type 0} → ℕ → Option ErrorKind → Option ErrorKind → Destroy A → Destroy A → Type 0
HasEnded b fault said destroy.Absent new = ⊥
HasEnded b fault said destroy.Begun new = ⊥
HasEnded b fault said (destroy.Cleaning left first) new =
    IsWithout b left.ids [] × (said ≡ first_of first fault) × (new ≡ destroy.Absent)

-- a fault as the model names it
abbrev pub IsFaultAs : Option ErrorKind → Option model_reply.Kind → Type 0
IsFaultAs None it = it ≡ None
IsFaultAs (Some k) it = (j : model_reply.Kind) × (kind_of k ≡ Some j) × (it ≡ Some j)

-- the same blocks are left, each of those that there are, in whatever order
pub record AreLeftAs (blocks : ℕ) (left its : List ℕ) : Type 0 where
  pub same : (b : ℕ) → is_id_in b its ≡ is_id_in b left
  pub there : (b : ℕ) → is_id_in b its ≡ true → b < blocks

-- a destroy is the model's
abbrev pub IsDestroyAs : {A : Type 0} → ℕ → Destroy A → model_state.Destroy → Type 0
IsDestroyAs blocks destroy.Absent it = it ≡ model_state.NoDestroy
IsDestroyAs blocks destroy.Begun it = it ≡ model_state.Begun
IsDestroyAs blocks (destroy.Cleaning left first) it =
    (its : List ℕ) × (fault : Option model_reply.Kind) × AreLeftAs blocks left.ids its × IsFaultAs first fault
    × (it ≡ model_state.Cleaning its fault)
