-- What an engine's calls answer, and what they do.
use Rattle.std.specs.Prelude.{◌≡◌, ◌⊎◌, ℕ, ◌+◌, ◌-◌, ◌^◌, ◌≤◌, min, Bool, true, false, List, [], ◌∷◌, length, Some, Result, Ok, Err, IfErr}
use Rattle.foyer_block_index.specs.Index.{address_at}
use Rattle.foyer_block_index.specs.declared.indexer.EntryAddress.{EntryAddress}
use Rattle.foyer_device_page.specs.declared.error.Error.{Error}
use Rattle.foyer_device_page.specs.declared.error.Error.TheVariants as error
use Rattle.foyer_device_page.specs.declared.error.ErrorKind.{ErrorKind}
use Rattle.foyer_device_page.specs.declared.error.ErrorKind.TheVariants as kind
use Rattle.foyer_core_model.specs.Numbers.{page}
use Rattle.foyer_core_model.specs.Record.{Outcome, Holds}
use Rattle.foyer_core_model.specs.State.{State}
use Rattle.foyer_core_model.specs.World.{World, WorldEvent}
use Rattle.foyer_policy_piece.specs.Record.{Record}
use Rattle.foyer_policy_piece.specs.Referred.{Referred}
use Rattle.foyer_core_laws.specs.Content.{Content, Meaning, content}
use Rattle.foyer_core_laws.specs.Sizes.{AreValid}
use Rattle.foyer_core_laws.specs.Settings.{Settings}
use Rattle.foyer_core_steps.specs.StateOf.{IsStateOf}
use Rattle.foyer_core_steps.specs.declared.reply.Reply.{Reply}
use Rattle.foyer_core_steps.specs.declared.reply.Reply.TheVariants as reply
use Rattle.foyer_core_steps.specs.declared.state.Core.{Core}
use Rattle.foyer_core_run.specs.Accesses.{Says, load_of}
use Rattle.foyer_core_run.specs.Causes.{DrivesForCause, HasCome}
use Rattle.foyer_core_run.specs.Newest.{IsHistory, IsNewest, MayFail, OfPut}
use Rattle.foyer_core_run.specs.Runs.{IsFront}
use Rattle.foyer_core_run.specs.declared.moves.Move.TheVariants as move
use Rattle.foyer_storage_local.specs.EntryLoads.{answer_of_key}
use Rattle.foyer_core_steps.specs.Refusals.{error_of}
use Rattle.foyer_storage_local.specs.StepAnswers.{contains_as, deleted_as, enqueued_as, loaded_as}
use Rattle.foyer_storage_local.specs.declared.load.Enqueued.{Enqueued}
use Rattle.foyer_storage_local.specs.declared.load.Load.{Load}
use Rattle.foyer_storage_local.specs.declared.load.Load.TheVariants as load

-- From one disk to another: what surely lay in it still does, and the faults that were counted stay so.
abbrev pub KeepsLies : {D : Type 0} → (lies : D → ℕ → ℕ → ℕ → Type 0) → (faults : D → ℕ) → (old new : D) → Type 0
KeepsLies lies faults old new = ((b o n : ℕ) → lies old b o n → lies new b o n) × (faults old ≤ faults new)

-- If the disk is known, events of this kind lead from one core and disk to others, and each of their accesses that failed has a cause.
abbrev pub LeadsForCause : {K V P A D : Type 0} → (is_known : D → Type 0) (byte_at : D → ℕ → ℕ → ℕ) (lies : D → ℕ → ℕ → ℕ → Type 0) (faults : D → ℕ) → (List (WorldEvent Content) → Type 0) → Meaning K V P
    → (old : Core K V P A) (old_disk : D) (new : Core K V P A) (new_disk : D) → Type 0
LeadsForCause is_known byte_at lies faults Are m old old_disk new new_disk =
    KeepsLies lies faults old_disk new_disk
    × (is_known old_disk → is_known new_disk × DrivesForCause (HasCome lies faults old_disk new_disk) Are m old new (byte_at old_disk) (byte_at new_disk))

-- an error that a disk, or what it has become by then, may answer to the clean of a block
pub record IsCleanFault {D : Type 0} (lies : D → ℕ → ℕ → ℕ → Type 0) (faults : D → ℕ) (may_answer : D → ℕ → ℕ → ℕ → Error → Type 0) (old : D) (e : Error) : Type 0 where
  pub disk : D
  pub block : ℕ
  pub keeps : KeepsLies lies faults old disk
  pub answers : may_answer disk block 0 page e

-- why a record isn't answered: its read failed, memory was refused, or what was found doesn't decode, or isn't supported
abbrev pub IsReadFault : Outcome Content → Error → Type 0
IsReadFault x e = (why : ErrorKind) × (e ≡ error_of why) × (MayFail x why ⊎ (why ≡ kind.Memory))

module _ {K V P : Type 0} (m : Meaning K V P) where
  -- the entry that was put, or the fault for which it isn't answered
  abbrev pub IsEntryOrFault : Outcome Content → Result (Load K V) Error → Type 0
  IsEntryOrFault x (Ok (load.Entry own value populated)) = x ≡ Holds (content m own value)
  IsEntryOrFault x (Err e) = IsReadFault x e
  IsEntryOrFault x said = ⊥

  -- what was put has another key
  pub record HasOtherKey (eq : K → K → Bool) (key : K) (x : Outcome Content) : Type 0 where
    pub own : K
    pub value : V
    pub is : x ≡ Holds (content m own value)
    pub other : eq own key ≡ false

  -- or it has another key, and is a miss
  abbrev pub IsKeysEntryOrFault : (K → K → Bool) → K → Outcome Content → Result (Load K V) Error → Type 0
  IsKeysEntryOrFault eq key x (Ok (load.Entry own value populated)) = (eq own key ≡ true) × (x ≡ Holds (content m own value))
  IsKeysEntryOrFault eq key x (Err e) = IsReadFault x e
  IsKeysEntryOrFault eq key x (Ok load.Miss) = HasOtherKey eq key x
  IsKeysEntryOrFault eq key x (Ok load.Throttled) = ⊥

module _ {K V P A : Type 0} (m : Meaning K V P) where
  -- from each state of the model that the core stood for, an error is one of these
  abbrev pub IsRefusedOnlyAs : {X : Type 0} → (is_error : Error → Bool) → Core K V P A → Result X Error → Type 0
  IsRefusedOnlyAs is_error core said =
      (s : Settings) → AreValid s → (it : State Content) → IsStateOf m s core it → IfErr said (λ e. is_error e ≡ true)

  -- and if the core is closed, the call is refused as closed, or since no step is left
  abbrev pub IsRefusedIfClosed : {X : Type 0} → Core K V P A → Result X Error → Type 0
  IsRefusedIfClosed core said =
      core.closed ≡ true → (s : Settings) → AreValid s → (it : State Content) → IsStateOf m s core it
      → (said ≡ Err error.Closed) ⊎ (said ≡ Err error.SequenceEnd)

  -- And a load is answered Io only if the index has an address of the hash, and it isn't sure that a read of that address came.
  abbrev pub IsIoForCause : (hash : ℕ) → (came : ℕ → ℕ → ℕ → Type 0) → Core K V P A → Result (Load K V) Error → Type 0
  IsIoForCause hash came core said =
      said ≡ Err error.Io → (s : Settings) → AreValid s → (it : State Content) → IsStateOf m s core it
      → (a : EntryAddress) × (address_at core.index.slots hash ≡ Some a) × (came a.block a.offset a.len → ⊥)

  -- an entry that is answered is the newest put of this hash, in every history that led to this core and these bytes
  abbrev pub IsNewestOfHash : ℕ → Core K V P A → (ℕ → ℕ → ℕ) → Result (Load K V) Error → Type 0
  IsNewestOfHash hash core bytes (Ok (load.Entry own value populated)) = IsNewest m hash core bytes (reply.Entry own value populated.age)
  IsNewestOfHash hash core bytes said = Unit {0}

  -- and has this key
  abbrev pub IsNewestOfKey : (K → K → Bool) → K → ℕ → Core K V P A → (ℕ → ℕ → ℕ) → Result (Load K V) Error → Type 0
  IsNewestOfKey eq key hash core bytes (Ok (load.Entry own value populated)) =
      (eq own key ≡ true) × IsNewest m hash core bytes (reply.Entry own value populated.age)
  IsNewestOfKey eq key hash core bytes said = Unit {0}

  -- So it is answered of the newest put of a hash, in every history that led to this core and these bytes: no miss.
  abbrev pub IsHashMissedForCause : ℕ → Core K V P A → (ℕ → ℕ → ℕ) → Result (Load K V) Error → Type 0
  IsHashMissedForCause hash core bytes said = OfPut m hash core bytes (λ x. IsEntryOrFault m x said)

  -- And so of a key's: no miss, unless that put has another key.
  abbrev pub IsKeyMissedForCause : (K → K → Bool) → K → ℕ → Core K V P A → (ℕ → ℕ → ℕ) → Result (Load K V) Error → Type 0
  IsKeyMissedForCause eq key hash core bytes said = OfPut m hash core bytes (λ x. IsKeysEntryOrFault m eq key x said)

  -- Throttled is answered, in every history that led to this core and these bytes, only if the device is said to be throttled
  abbrev pub IsThrottledIfSaid : Bool → Core K V P A → (ℕ → ℕ → ℕ) → Result (Load K V) Error → Type 0
  IsThrottledIfSaid throttled core bytes said =
      (s : Settings) (sound : AreValid s) (first : World Content) (events : List (WorldEvent Content)) → IsHistory m s sound first events core bytes
      → said ≡ Ok load.Throttled → throttled ≡ true

  -- a load of this hash, at a device that is throttled or not, was answered so, and nothing else happened
  pub record IsHashLoaded (hash : ℕ) (throttled : Bool) (old new : Core K V P A) (old_bytes new_bytes : ℕ → ℕ → ℕ) (answered : Result (Load K V) Error) : Type 0 where
    pub last : Reply K V P A
    pub is : answered ≡ loaded_as last
    pub says : Says m (load_of hash throttled) last old new old_bytes new_bytes

  -- or memory for it was refused, and a front of it happened
  abbrev pub IsHashLoadedOrRefused : ℕ → Bool → (old new : Core K V P A) → (old_bytes new_bytes : ℕ → ℕ → ℕ) → Result (Load K V) Error → Type 0
  IsHashLoadedOrRefused hash throttled old new old_bytes new_bytes answered =
      IsHashLoaded hash throttled old new old_bytes new_bytes answered
      ⊎ ((answered ≡ Err error.Memory) × IsFront m (load_of hash throttled) old new old_bytes new_bytes)

  -- such a load of the key's hash was answered so, of the key
  pub record IsKeyLoaded (eq : K → K → Bool) (key : K) (hash : ℕ) (throttled : Bool) (old new : Core K V P A) (old_bytes new_bytes : ℕ → ℕ → ℕ) (answered : Result (Load K V) Error) : Type 0 where
    pub found : Result (Load K V) Error
    pub loaded : IsHashLoadedOrRefused hash throttled old new old_bytes new_bytes found
    pub is : answered ≡ answer_of_key eq key found

  -- an Enqueue of this piece, with the size of both codes, was answered so, and nothing else happened
  pub record IsPieceEnqueued (piece : Record K V P) (old new : Core K V P A) (old_bytes new_bytes : ℕ → ℕ → ℕ) (answered : Result Enqueued Error) : Type 0 where
    pub reference : Referred K V P
    pub size : ℕ
    pub last : Reply K V P A
    pub piece_is : reference.piece ≡ piece
    pub size_is : m.is_encodable piece.key piece.value ≡ true → size ≡ min (length (m.value_of piece.value) + length (m.key_of piece.key)) (2 ^ 64 - 1)
    pub is : answered ≡ enqueued_as last
    pub says : Says m (move.Enqueue reference size ∷ []) last old new old_bytes new_bytes

  -- or memory for its piece was refused, and nothing happened
  abbrev pub IsEnqueuedOrRefused : Record K V P → (old new : Core K V P A) → (old_bytes new_bytes : ℕ → ℕ → ℕ) → Result Enqueued Error → Type 0
  IsEnqueuedOrRefused piece old new old_bytes new_bytes answered =
      IsPieceEnqueued piece old new old_bytes new_bytes answered ⊎ ((answered ≡ Err error.Memory) × (new ≡ old) × (new_bytes ≡ old_bytes))

  -- a Delete of this hash was answered so, and nothing else happened
  pub record IsHashDeleted (hash : ℕ) (old new : Core K V P A) (old_bytes new_bytes : ℕ → ℕ → ℕ) (answered : Result (Unit {0}) Error) : Type 0 where
    pub last : Reply K V P A
    pub is : answered ≡ deleted_as last
    pub says : Says m (move.Delete hash ∷ []) last old new old_bytes new_bytes

  -- a question for this hash was answered so, and nothing else happened
  pub record IsHashAsked (hash : ℕ) (old new : Core K V P A) (old_bytes new_bytes : ℕ → ℕ → ℕ) (answered : Result Bool Error) : Type 0 where
    pub last : Reply K V P A
    pub is : answered ≡ contains_as last
    pub says : Says m (move.MayContains hash ∷ []) last old new old_bytes new_bytes
