-- Refusals of codes, entries and records.
use Rattle.std.proofs.Common.{◌≡◌, ◌≢◌, ℕ, List, Option, Some, None, Result, Ok, Err, refl, sym, ap, ◌∙◌, subst}
use Rattle.std.specs.Prelude.{IfOk, IfErr, IfSome, IfNone}
use Rattle.foyer_format_code.specs.PageError.{IsDecodeFault}
use Rattle.foyer_format_code.specs.Error.{Error}
use Rattle.foyer_format_code.specs.Error.TheVariants as error
use Rattle.foyer_format_record.specs.Record.{Outcome, outcome_of}
use Rattle.foyer_format_record.specs.Record.{Outcome as outcome}
use Rattle.foyer_format_record.specs.Refusals.{IsEntryFault, ReachesCodes, ReachesPair, IsRecordFault}

-- a code's refusal, if the codes were reached and every refusal except for memory is a fault
pub decode_fault : (fault : Option Error) (e : Error) → IsDecodeFault e → ReachesCodes fault
    → (e ≢ error.Memory → fault ≡ Some error.Parse) → IsEntryFault fault e
decode_fault fault error.Memory kind reached other = reached
decode_fault fault error.Parse kind reached other = other (λ h. cc)
decode_fault fault error.Io kind reached other = absurd kind
decode_fault fault error.Config kind reached other = absurd kind
decode_fault fault error.MagicMismatch kind reached other = absurd kind
decode_fault fault error.ChecksumMismatch kind reached other = absurd kind
decode_fault fault error.OutOfRange kind reached other = absurd kind
decode_fault fault error.BufferSizeLimit kind reached other = absurd kind
decode_fault fault error.NoSpace kind reached other = absurd kind
decode_fault fault error.Recover kind reached other = absurd kind
decode_fault fault error.Closed kind reached other = absurd kind
decode_fault fault error.Unsupported kind reached other = absurd kind
decode_fault fault error.SequenceEnd kind reached other = absurd kind

-- an entry whose codes were reached is a pair, or can't be decoded
reaches_pair : (o : Outcome) (key value : List ℕ) (fault : Option Error) → o ≡ outcome_of key value fault → ReachesCodes fault → ReachesPair o
reaches_pair o key value None is reached = let P : Outcome → Type 0 = ReachesPair in subst P (sym is) tt
reaches_pair o key value (Some error.Parse) is reached = let P : Outcome → Type 0 = ReachesPair in subst P (sym is) tt
reaches_pair o key value (Some error.Memory) is reached = absurd reached
reaches_pair o key value (Some error.Unsupported) is reached = absurd reached
reaches_pair o key value (Some error.OutOfRange) is reached = absurd reached
reaches_pair o key value (Some error.ChecksumMismatch) is reached = absurd reached
reaches_pair o key value (Some error.Io) is reached = absurd reached
reaches_pair o key value (Some error.Config) is reached = absurd reached
reaches_pair o key value (Some error.MagicMismatch) is reached = absurd reached
reaches_pair o key value (Some error.BufferSizeLimit) is reached = absurd reached
reaches_pair o key value (Some error.NoSpace) is reached = absurd reached
reaches_pair o key value (Some error.Recover) is reached = absurd reached
reaches_pair o key value (Some error.Closed) is reached = absurd reached
reaches_pair o key value (Some error.SequenceEnd) is reached = absurd reached

-- an entry's refusal is a record's, except those of an entry that is no record at all
pub record_fault : (o : Outcome) (key value : List ℕ) (fault : Option Error) (e : Error) → o ≡ outcome_of key value fault
    → IsEntryFault fault e → e ≢ error.OutOfRange → e ≢ error.ChecksumMismatch → IsRecordFault o e
record_fault o key value fault error.Memory is entry a b = reaches_pair o key value fault is entry
record_fault o key value fault error.Parse is entry a b = is ∙ ap (outcome_of key value) entry
record_fault o key value fault error.Unsupported is entry a b = is ∙ ap (outcome_of key value) entry
record_fault o key value fault error.OutOfRange is entry a b = absurd (a refl)
record_fault o key value fault error.ChecksumMismatch is entry a b = absurd (b refl)
record_fault o key value fault error.Io is entry a b = absurd entry
record_fault o key value fault error.Config is entry a b = absurd entry
record_fault o key value fault error.MagicMismatch is entry a b = absurd entry
record_fault o key value fault error.BufferSizeLimit is entry a b = absurd entry
record_fault o key value fault error.NoSpace is entry a b = absurd entry
record_fault o key value fault error.Recover is entry a b = absurd entry
record_fault o key value fault error.Closed is entry a b = absurd entry
record_fault o key value fault error.SequenceEnd is entry a b = absurd entry

-- what a record of no pair isn't refused by
no_record_fault : (o : Outcome) (e : Error) → o ≡ outcome.NoRecord → IsRecordFault o e → ⊥
no_record_fault o error.Memory is fault = let P : Outcome → Type 0 = ReachesPair in subst P is fault
no_record_fault o error.Parse is fault = cc
no_record_fault o error.Unsupported is fault = cc
no_record_fault o error.OutOfRange is fault = fault
no_record_fault o error.ChecksumMismatch is fault = fault
no_record_fault o error.Io is fault = fault
no_record_fault o error.Config is fault = fault
no_record_fault o error.MagicMismatch is fault = fault
no_record_fault o error.BufferSizeLimit is fault = fault
no_record_fault o error.NoSpace is fault = fault
no_record_fault o error.Recover is fault = fault
no_record_fault o error.Closed is fault = fault
no_record_fault o error.SequenceEnd is fault = fault

-- a compressed record is refused by one error
only_unsupported : (o : Outcome) (e : Error) → o ≡ outcome.Unsupported → IsRecordFault o e → e ≡ error.Unsupported
only_unsupported o error.Memory is fault = absurd (let P : Outcome → Type 0 = ReachesPair in subst P is fault)
only_unsupported o error.Parse is fault = cc
only_unsupported o error.Unsupported is fault = refl
only_unsupported o error.OutOfRange is fault = absurd fault
only_unsupported o error.ChecksumMismatch is fault = absurd fault
only_unsupported o error.Io is fault = absurd fault
only_unsupported o error.Config is fault = absurd fault
only_unsupported o error.MagicMismatch is fault = absurd fault
only_unsupported o error.BufferSizeLimit is fault = absurd fault
only_unsupported o error.NoSpace is fault = absurd fault
only_unsupported o error.Recover is fault = absurd fault
only_unsupported o error.Closed is fault = absurd fault
only_unsupported o error.SequenceEnd is fault = absurd fault

module _ {X : Type 0} (o : Outcome) (key value : X → List ℕ) where
  pub absent_only : (r : Result (Option X) Error) → IfOk r (λ q. IfSome q (λ x. o ≡ outcome.Pair (key x) (value x)))
      → IfErr r (IsRecordFault o) → o ≡ outcome.NoRecord → r ≡ Ok None
  absent_only (Ok None) pair fault is = refl
  absent_only (Ok (Some x)) pair fault is = cc
  absent_only (Err e) pair fault is = absurd (no_record_fault o e is fault)

  pub unsupported_only : (r : Result (Option X) Error) → IfOk r (λ q. IfSome q (λ x. o ≡ outcome.Pair (key x) (value x)))
      → IfOk r (λ q. IfNone q (o ≡ outcome.NoRecord)) → IfErr r (IsRecordFault o) → o ≡ outcome.Unsupported → r ≡ Err error.Unsupported
  unsupported_only (Ok None) pair absent fault is = cc
  unsupported_only (Ok (Some x)) pair absent fault is = cc
  unsupported_only (Err e) pair absent fault is = ap (λ (f : Error). Err f) (only_unsupported o e is fault)

pub ruleset record_answers = (absent_only, unsupported_only)
