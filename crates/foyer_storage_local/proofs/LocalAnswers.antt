-- What is answered of a core's replies.
use Rattle.std.proofs.Common.{◌≡◌, ℕ, ◌+◌, Bool, true, false, List, None, Some, Ok, Err, inl, inr, refl, sym, subst, ◌∙◌}
use Rattle.std.specs.Prelude.{◌⊎◌, IfErr, IfSome, IsErr, Option, Result, ◌&&◌, ◌-◌, ◌^◌, min, length, if◌then◌else◌}
use Rattle.foyer_device_page.specs.declared.error.Error.{Error}
use Rattle.foyer_device_page.specs.declared.error.Error.TheVariants as error
use Rattle.foyer_core_laws.specs.Content.{Content, Meaning, content}
use Rattle.foyer_core_model.specs.Record.{Outcome, Holds}
use Rattle.foyer_core_steps.specs.Refines.{IsHandedBack}
use Rattle.foyer_core_steps.specs.declared.reply.Reply.{Reply}
use Rattle.foyer_core_steps.specs.declared.reply.Reply.TheVariants as reply
use Rattle.foyer_core_steps.specs.declared.state.Core.{Core}
use Rattle.foyer_core_run.specs.Newest.{IsMissedForCause, IsNewest, IsPutOrFault}
use Rattle.foyer_core_run.proofs.RestLemmas.{SaysNothing}
use Rattle.foyer_storage_local.specs.EntryCalls.{IsEntryOrFault, IsHashMissedForCause, IsKeyMissedForCause, IsKeysEntryOrFault, IsNewestOfHash, IsNewestOfKey, IsThrottledIfSaid}
use Rattle.foyer_storage_local.specs.EntryLoads.{answer_of_key}
use Rattle.foyer_storage_local.specs.StepAnswers.{destroyed_as, done_as, fault_in, first_of, is_destroy_error, is_wait_error, loaded_as, wait_error}
use Rattle.foyer_storage_local.specs.declared.load.Load.{Load}
use Rattle.foyer_storage_local.specs.declared.load.Load.TheVariants as load
use Rattle.foyer_storage_local.specs.declared.load.Populated.{Populated}

-- an error isn't a success
pub refused_not_ok : {X : Type 0} (said : Result X Error) (x : X) → IsErr said → said ≡ Ok x → ⊥
refused_not_ok (Err e) x is = λ same. cc
refused_not_ok (Ok y) x is = absurd (let e : false ≡ true = is in cc)

-- why a wait ends early is why a destroy does
pub wait_destroys : (e : Error) → is_wait_error e ≡ true → is_destroy_error e ≡ true
wait_destroys error.Closed is = absurd (let same : false ≡ true = is in cc)
wait_destroys e is = is

-- the first clean that failed is one before, or this one
pub first_fault : (before : Option Error) (outcome : Result (Unit {0}) Error) (May : Error → Type 0) → IfErr outcome May → IfSome (first_of before outcome) (λ e. (before ≡ Some e) ⊎ May e)
first_fault None (Ok done) May is = tt
first_fault None (Err e) May is = inr is
first_fault (Some e) outcome May is = inl refl

-- so it is as those before were
pub fault_more : (before first : Option Error) (Is May : Error → Type 0) → ((e : Error) → May e → Is e) → IfSome before Is → IfSome first (λ e. (before ≡ Some e) ⊎ May e) → IfSome first Is
fault_more before None Is May may is said = tt
fault_more before (Some e) Is May may is said = elim said [
  | inl same ↦ subst (λ o. IfSome o Is) same is
  | inr answers ↦ may e answers
]

pub some_weakens : (first : Option Error) (P Q : Error → Type 0) → ((e : Error) → P e → Q e) → IfSome first P → IfSome first Q
some_weakens None P Q only is = tt
some_weakens (Some e) P Q only is = only e is

-- and what a destroy answers of it is
pub fault_answered : (said : Result (Unit {0}) Error) (first : Option Error) (Other Is : Error → Type 0) → IfSome first Is → IfErr said (λ e. Other e ⊎ (first ≡ Some e)) → IfErr said (λ e. Other e ⊎ Is e)
fault_answered (Ok done) first Other Is is refused = tt
fault_answered (Err e) first Other Is is refused = elim refused [
  | inl other ↦ inl other
  | inr same ↦ inr (subst (λ o. IfSome o Is) same is)
]

module _ {K V P A : Type 0} where
  -- what is answered as a success is the end of a destroy without a failed clean
  pub destroyed_ok : (last : Reply K V P A) (first : Option Error) (said : Result (Unit {0}) Error) → said ≡ destroyed_as last first → said ≡ Ok tt → last ≡ reply.Destroyed None
  destroyed_ok (reply.Destroyed None) first said says ok = refl
  destroyed_ok (reply.Destroyed (Some why)) first said says ok = absurd (let e : Err (fault_in first) ≡ Ok tt = sym says ∙ ok in cc)
  destroyed_ok (reply.Refused why back) first said says ok = absurd (let e : Err (wait_error why) ≡ Ok tt = sym says ∙ ok in cc)
  destroyed_ok last first said says ok = absurd (let e : Err error.Io ≡ Ok tt = sym says ∙ ok in cc)

  -- a step that did nothing, and one that did something
  pub done_nothing : (last : Reply K V P A) (did : Bool) → done_as last ≡ Ok did → did ≡ false → SaysNothing last
  done_nothing (reply.NotNow back) did is none = tt
  done_nothing reply.Empty did is none = tt
  done_nothing (reply.Refused why back) did is none = absurd (let e : Err (wait_error why) ≡ Ok did = is in cc)
  done_nothing last did is none = absurd (let e : Ok true ≡ Ok did = is in cc)

  pub done_something : (last : Reply K V P A) (did : Bool) → done_as last ≡ Ok did → did ≡ true → IsHandedBack last → ⊥
  done_something (reply.NotNow back) did is done = let e : Ok false ≡ Ok did = is in cc
  done_something (reply.Refused why back) did is done = let e : Err (wait_error why) ≡ Ok did = is in cc
  done_something last did is done = λ back. absurd back

  module _ (m : Meaning K V P) where
    -- what is answered of a load's entry is the newest of its hash
    pub newest_got : (hash : ℕ) (core : Core K V P A) (bytes : ℕ → ℕ → ℕ) (last : Reply K V P A) → IsNewest m hash core bytes last → IsNewestOfHash m hash core bytes (loaded_as last)
    newest_got hash core bytes (reply.Entry own value age) newest = newest
    newest_got hash core bytes reply.Throttled newest = tt
    newest_got hash core bytes (reply.Refused why back) newest = tt
    newest_got hash core bytes last newest = tt

    put_got : (x : Outcome Content) (last : Reply K V P A) → IsPutOrFault m x last → IsEntryOrFault m x (loaded_as last)
    put_got x (reply.Entry own value age) is = is
    put_got x (reply.Refused why back) is = (why, refl, inl is)
    put_got x last is = absurd is

    -- and it is answered of each put that is answered
    pub missed_got : (hash : ℕ) (core : Core K V P A) (bytes : ℕ → ℕ → ℕ) (last : Reply K V P A) → IsMissedForCause m hash core bytes last → IsHashMissedForCause m hash core bytes (loaded_as last)
    missed_got hash core bytes last missed = λ s sound first events history few b sequence x kept newer some.
        put_got x last (missed s sound first events history few b sequence x kept newer some)

    -- of a key: an entry of it alone
    module _ (eq : K → K → Bool) (key : K) (hash : ℕ) (core : Core K V P A) (bytes : ℕ → ℕ → ℕ) where
      entry_newest : (own : K) (value : V) (populated : Populated) (is : Bool) → eq own key ≡ is → IsNewest m hash core bytes (reply.Entry own value populated.age)
          → IsNewestOfKey m eq key hash core bytes (Ok (if is then load.Entry own value populated else load.Miss))
      entry_newest own value populated true same newest = (same, newest)
      entry_newest own value populated false same newest = tt

      pub newest_of_key : (found : Result (Load K V) Error) → IsNewestOfHash m hash core bytes found → IsNewestOfKey m eq key hash core bytes (answer_of_key eq key found)
      newest_of_key (Ok (load.Entry own value populated)) newest = entry_newest own value populated (eq own key) refl newest
      newest_of_key (Ok load.Throttled) newest = tt
      newest_of_key (Ok load.Miss) newest = tt
      newest_of_key (Err e) newest = tt

      entry_put : (x : Outcome Content) (own : K) (value : V) (populated : Populated) (is : Bool) → eq own key ≡ is → x ≡ Holds (content m own value)
          → IsKeysEntryOrFault m eq key x (Ok (if is then load.Entry own value populated else load.Miss))
      entry_put x own value populated true same holds = (same, holds)
      entry_put x own value populated false same holds = record { own = own; value = value; is = holds; other = same }

      put_of_key : (x : Outcome Content) (found : Result (Load K V) Error) → IsEntryOrFault m x found → IsKeysEntryOrFault m eq key x (answer_of_key eq key found)
      put_of_key x (Ok (load.Entry own value populated)) is = entry_put x own value populated (eq own key) refl is
      put_of_key x (Ok load.Throttled) is = absurd is
      put_of_key x (Ok load.Miss) is = absurd is
      put_of_key x (Err e) is = is

      pub missed_of_key : (found : Result (Load K V) Error) → IsHashMissedForCause m hash core bytes found → IsKeyMissedForCause m eq key hash core bytes (answer_of_key eq key found)
      missed_of_key found missed = λ s sound first events history few b sequence x kept newer some.
          put_of_key x found (missed s sound first events history few b sequence x kept newer some)

      entry_throttled : (own : K) (value : V) (populated : Populated) (is : Bool) → ◌≡◌ {A = Result (Load K V) Error} (Ok (if is then load.Entry own value populated else load.Miss)) (Ok load.Throttled) → ⊥
      entry_throttled own value populated true same = cc
      entry_throttled own value populated false same = cc

      said_throttled : (found : Result (Load K V) Error) → answer_of_key eq key found ≡ Ok load.Throttled → found ≡ Ok load.Throttled
      said_throttled (Ok (load.Entry own value populated)) same = absurd (entry_throttled own value populated (eq own key) same)
      said_throttled (Ok load.Throttled) same = refl
      said_throttled (Ok load.Miss) same = absurd (let e : ◌≡◌ {A = Result (Load K V) Error} (Ok load.Miss) (Ok load.Throttled) = same in cc)
      said_throttled (Err why) same = absurd (let e : ◌≡◌ {A = Result (Load K V) Error} (Err why) (Ok load.Throttled) = same in cc)

      pub throttled_of_key : (throttled : Bool) (found : Result (Load K V) Error) → IsThrottledIfSaid m throttled core bytes found → IsThrottledIfSaid m throttled core bytes (answer_of_key eq key found)
      throttled_of_key throttled found said = λ s sound first events history is. said s sound first events history (said_throttled found is)

-- both of a pair that can be encoded can
both_encodable : (a b : Bool) → (a && b) ≡ true → (a ≡ true) × (b ≡ true)
both_encodable true true is = (refl, refl)
both_encodable true false is = absurd (let e : false ≡ true = is in cc)
both_encodable false b is = absurd (let e : false ≡ true = is in cc)

-- the size of both codes, of a key and a value that are these
pub size_of : {K V : Type 0} (key_of : K → List ℕ) (value_of : V → List ℕ) (encodes_key : K → Bool) (encodes_value : V → Bool) (k j : K) (v w : V) (n : ℕ) → k ≡ j → v ≡ w
    → (encodes_key k ≡ true → encodes_value v ≡ true → n ≡ min (length (value_of v) + length (key_of k)) (2 ^ 64 - 1))
    → (encodes_key j && encodes_value w) ≡ true → n ≡ min (length (value_of w) + length (key_of j)) (2 ^ 64 - 1)
size_of key_of value_of encodes_key encodes_value k j v w n same_key same_value size is =
    let both = both_encodable (encodes_key j) (encodes_value w) is in
    subst (λ l. n ≡ min (length (value_of w) + length (key_of l)) (2 ^ 64 - 1)) same_key
    (subst (λ u. n ≡ min (length (value_of u) + length (key_of k)) (2 ^ 64 - 1)) same_value
    (size (subst (λ l. encodes_key l ≡ true) (sym same_key) both.0) (subst (λ u. encodes_value u ≡ true) (sym same_value) both.1)))
