-- What the calls of a store make of its engine's answers.
use Rattle.std.specs.Prelude.{◌≡◌, ◌+◌, ◌-◌, ◌^◌, ◌<◌, ◌⊎◌, ℕ, min, Bool, true, false, List, length, Option, Some, None, Result, Ok, Err, IfErr, OnOk}
use Rattle.foyer_storage_engine.specs.Sessions.{SessionState}
use Rattle.foyer_core_tally.specs.Tally.{saturated}
use Rattle.foyer_storage_engine.specs.Ticket.{Ticket}
use Rattle.std.specs.declared.vec.Vec.{Vec}
use Rattle.foyer_device_page.specs.declared.error.Error.{Error}
use Rattle.foyer_device_page.specs.declared.error.Error.TheVariants as error
use Rattle.foyer_device_throttle.specs.declared.throttle.Throttle.{Throttle}
use Rattle.foyer_device_statistics.specs.declared.state.IoState.{IoState}
use Rattle.foyer_format_record.specs.declared.serde.ages.Age.TheVariants as age
use Rattle.foyer_policy_filter.specs.Conditions.{IsThrottledBy}
use Rattle.foyer_policy_filter.specs.Verdict.{AreAnswers, IsAdmit, IsReject, IsVerdict}
use Rattle.foyer_policy_filter.specs.declared.verdict.StorageFilterResult.{StorageFilterResult}
use Rattle.foyer_policy_filter.specs.declared.verdict.StorageFilterResult.TheVariants.{Admit, Reject, Throttled}
use Rattle.std.specs.Duration.{as_nanos, max_nanos}
use Rattle.std.specs.declared.time.Duration.{Duration}
use Rattle.foyer_storage_engine.specs.Answering.{IsLoaded, is_draw_error}
use Rattle.foyer_storage_engine.specs.Decided.{decided_load}
use Rattle.foyer_storage_engine.specs.Ending.{AsksForReclaims, EndsWithClean, HasMade, HoldsButCloses, HoldsButDestroys, HoldsNamed}
use Rattle.foyer_storage_engine.specs.declared.engine.Enqueued.{Enqueued}
use Rattle.foyer_storage_engine.specs.declared.engine.Enqueued.TheVariants as enqueued
use Rattle.foyer_storage_engine.specs.declared.load.Load.{Load}
use Rattle.foyer_storage_engine.specs.declared.load.Load.TheVariants as load

-- A load looks its hash up, and is throttled only if there is a limit of reads. An entry that it answers is the pair of what it read, and was
-- read so.
pub record IsLoadedUnder {K V P A : Type 0} (is_key is_value : List ℕ → Bool) (key_of : K → List ℕ) (value_of : V → List ℕ) (read_by : Ticket → Result (Vec ℕ A) Error → Type 0) (limits : Throttle)
    (old new : SessionState) (hash : ℕ) (answered : Result (Load K V P A) Error) : Type 0 where
  pub throttled : Bool
  pub unlimited : limits.read_throughput ≡ None → limits.read_iops ≡ None → throttled ≡ false
  pub said : answered ≡ Ok load.Throttled → throttled ≡ true
  pub loaded : IsLoaded is_key is_value key_of value_of read_by false old new hash throttled answered

-- what the keeper alone answers: the key's piece, young
abbrev pub IsKept : {K V P A : Type 0} → (K → K → Bool) → K → Result (Load K V P A) Error → Type 0
IsKept eq key (Ok (load.Piece piece populated)) = (populated.age ≡ age.Young) × (eq piece.key key ≡ true)
IsKept eq key (Err e) = e ≡ error.Memory
IsKept eq key other = ⊥

-- what a store makes of its engine's answer, if the keeper has nothing
abbrev pub IsDecided : {K V P A : Type 0} → (K → K → Bool) → K → Result (Load K V P A) Error → Result (Load K V P A) Error → Type 0
IsDecided eq key (Ok answer) given = given ≡ Ok (decided_load eq key None answer)
IsDecided eq key (Err e) given = given ≡ Err e

-- a delete that stands for an enqueue
abbrev pub deleted_for : Result (Unit {0}) Error → Result Enqueued Error
deleted_for (Ok done) = Ok enqueued.Deleted
deleted_for (Err e) = Err e

-- how many bytes a piece is estimated to take: both codes together, saturating, if they can be encoded
abbrev pub IsEstimated : (is_encodable : Bool) → (encoding : List ℕ) → (is_key_encodable : Bool) → (key : List ℕ) → (size : ℕ) → Type 0
IsEstimated is_encodable encoding is_key_encodable key size =
    is_key_encodable ≡ true → is_encodable ≡ true → size ≡ min (length encoding + length key) (2 ^ 64 - 1)

-- What conditions said, and a wait that is asked for last: a rejection stays one, and else the wait comes on top, saturating.
abbrev pub IsVerdictWithWait : (before : StorageFilterResult) → (wait : Duration) → StorageFilterResult → Type 0
IsVerdictWithWait Reject wait verdict = IsReject verdict
IsVerdictWithWait Admit wait verdict = IsThrottledBy wait verdict
IsVerdictWithWait (Throttled other) wait Admit = as_nanos other + as_nanos wait ≡ 0
IsVerdictWithWait (Throttled other) wait Reject = ⊥
IsVerdictWithWait (Throttled other) wait (Throttled both) = (0 < as_nanos both) × (as_nanos both ≡ min (as_nanos other + as_nanos wait) max_nanos)

-- what the conditions of a filter, if there is one, may say of a hash and a size, by what the device did: all is admitted without one
abbrev pub IsFiltered : {C : Type 0} → (C → IoState → ℕ → ℕ → StorageFilterResult → Type 0) → Option (List C) → IoState → (hash size : ℕ) → StorageFilterResult → Type 0
IsFiltered may None io hash size verdict = IsAdmit verdict
IsFiltered may (Some conditions) io hash size verdict =
    (answers : List StorageFilterResult) × AreAnswers (λ c a. may c io hash size a) conditions answers × IsVerdict answers verdict

-- What an engine says of an entry: its admission filter, and last, whether the device's limits have writes wait.
pub record IsAdmission {C : Type 0} (may : C → IoState → ℕ → ℕ → StorageFilterResult → Type 0) (admission : Option (List C)) (io : IoState) (hash size : ℕ) (verdict : StorageFilterResult) : Type 0 where
  pub before : StorageFilterResult
  pub filtered : IsFiltered may admission io hash size before
  pub last : IsVerdictWithWait before io.write_throttle verdict

-- The same by what the device did just then. Without a limit of writes none waits.
pub record IsAdmissionUnder {C : Type 0} (may : C → IoState → ℕ → ℕ → StorageFilterResult → Type 0) (limits : Throttle) (admission : Option (List C)) (hash size : ℕ) (verdict : StorageFilterResult) : Type 0 where
  pub io : IoState
  pub unlimited : limits.write_throughput ≡ None → limits.write_iops ≡ None → as_nanos io.write_throttle ≡ 0
  pub admitted : IsAdmission may admission io hash size verdict

-- A piece that is forced goes to the engine. Another piece goes there if the filter admits it. Else its hash is deleted there.
abbrev pub IsStored : (StorageFilterResult → Type 0) → (Result Enqueued Error → Type 0) → (Result (Unit {0}) Error → Type 0) → Bool → Result Enqueued Error → Type 0
IsStored may_judge may_enqueue may_delete force answered =
    ((force ≡ true) × may_enqueue answered)
    ⊎ ((force ≡ false) × (verdict : StorageFilterResult) × may_judge verdict × ((IsAdmit verdict × may_enqueue answered)
    ⊎ ((IsAdmit verdict → ⊥) × (deleted : Result (Unit {0}) Error) × may_delete deleted × (answered ≡ deleted_for deleted))))

-- A wait that ended: it made so many steps at least, of which the last asks whether no reclaim runs. None of them was a put, a delete or a load,
-- and it closed and destroyed nothing.
abbrev pub HasWaited : (steps : ℕ) → SessionState → SessionState → Result (Unit {0}) Error → Type 0
HasWaited steps old new answered =
    HoldsNamed old new × OnOk answered (AsksForReclaims new) × OnOk answered (HasMade steps old new) × IfErr answered (λ e. is_draw_error e ≡ true)

-- The same of a close, which is one close, and destroyed nothing.
abbrev pub HasClosed : (steps : ℕ) → SessionState → SessionState → Result (Unit {0}) Error → Type 0
HasClosed steps old new answered =
    HoldsButCloses old new × OnOk answered (new.closes ≡ saturated (old.closes + 1)) × OnOk answered (AsksForReclaims new)
    × OnOk answered (HasMade steps old new) × IfErr answered (λ e. is_draw_error e ≡ true)

-- A destroy of so many blocks that ended: its last step brings the outcome of the last block's clean, which came of it so, and it is
-- answered so; or it is refused before that. It made no put, no delete and no load, and closed nothing.
abbrev pub HasDestroyed : (came : ℕ → Result (Unit {0}) Error → Type 0) → (blocks : ℕ) → SessionState → SessionState → Result (Unit {0}) Error → Type 0
HasDestroyed came blocks old new answered =
    HoldsButDestroys old new × OnOk answered (0 < blocks → EndsWithClean came (blocks - 1) new answered)
    × IfErr answered (λ e. (is_draw_error e ≡ true) ⊎ (0 < blocks → EndsWithClean came (blocks - 1) new answered))
