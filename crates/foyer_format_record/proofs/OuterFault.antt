-- The faults of an entry that show before its codes are asked.
use Rattle.std.proofs.Common.{◌≡◌, ◌+◌, ℕ, List, Bool, true, false, Option, Some, None, take, drop, length, nat_lt, not, if◌then◌else◌, ◌&&◌, refl, subst}
use Rattle.foyer_format_checksum.specs.Xxh64.{xxh64}
use Rattle.foyer_format_code.specs.Error.{Error}
use Rattle.foyer_format_code.specs.Error.TheVariants as error
use Rattle.foyer_format_record.specs.declared.compress.Compression.{Compression}
use Rattle.foyer_format_record.specs.Record.{entry_fault, outer_fault, is_other_sum, is_plain}
use Rattle.foyer_format_record.specs.Refusals.{IsEntryFault}

abbrev outer : (short other packed : Bool) → Option Error → Option Error
outer short other packed rest = if short then Some error.OutOfRange else if other then Some error.ChecksumMismatch else if packed then Some error.Unsupported else rest

none_outside : (short other packed : Bool) (rest : Option Error) → outer short other packed None ≡ None → outer short other packed rest ≡ rest
none_outside true other packed rest h = cc
none_outside false true packed rest h = cc
none_outside false false true rest h = cc
none_outside false false false rest h = refl

told_outside : (a e : Error) → IsEntryFault (Some a) a → Some a ≡ Some e → IsEntryFault (Some a) e
told_outside a e is h =
    let same : a ≡ e = cc in
    let P : Error → Type 0 = λ f. IsEntryFault (Some a) f in
    subst P same is

some_outside : (short other packed : Bool) (rest : Option Error) (e : Error) → outer short other packed None ≡ Some e → IsEntryFault (outer short other packed rest) e
some_outside true other packed rest e h = told_outside error.OutOfRange e refl h
some_outside false true packed rest e h = told_outside error.ChecksumMismatch e refl h
some_outside false false true rest e h = told_outside error.Unsupported e refl h
some_outside false false false rest e h = cc

module _ (is_key is_value : List ℕ → Bool) (b : List ℕ) (key_len value_len : ℕ) (c : Compression) (given : Option ℕ) where
  abbrev short : Bool
  short = nat_lt (length b) (value_len + key_len)

  abbrev other : Bool
  other = is_other_sum given (xxh64 (take (value_len + key_len) b))

  abbrev decoded : Option Error
  decoded = if is_value (take value_len b) && is_key (take key_len (drop value_len b)) then None else Some error.Parse

  pub outer_none : outer_fault b key_len value_len c given ≡ None
      → entry_fault is_key is_value b key_len value_len c given ≡ (if is_value (take value_len b) && is_key (take key_len (drop value_len b)) then None else Some error.Parse)
  unfolding outer_fault entry_fault
  outer_none h = none_outside short other (not (is_plain c)) decoded h

  pub outer_some : (e : Error) → outer_fault b key_len value_len c given ≡ Some e
      → IsEntryFault (entry_fault is_key is_value b key_len value_len c given) e
  unfolding outer_fault entry_fault
  outer_some e h = some_outside short other (not (is_plain c)) decoded e h

pub ruleset outer_faults = (outer_none, outer_some)
