-- What the calls on entries and records answer in place of their result.
use Rattle.std.specs.Prelude.{◌≡◌, ◌⊎◌, ℕ, Option, Some, None}
use Rattle.foyer_format_code.specs.Error.{Error}
use Rattle.foyer_format_code.specs.Error.TheVariants as error
use Rattle.foyer_format_record.specs.declared.compress.Compression.{Compression}
use Rattle.foyer_format_record.specs.declared.compress.Compression.TheVariants as compression
use Rattle.foyer_format_record.specs.Record.{Outcome}
use Rattle.foyer_format_record.specs.Record.{Outcome as outcome}
use Rattle.foyer_format_code.specs.Writing.{IsWriteFault}

-- Serializing n bytes is refused for another compression than None. With None it is refused if a
-- code can't encode its value, or if the writer, of this room, fails.
abbrev pub IsSerializeFault : Compression → (is_encodable : Type 0) → Option ℕ → ℕ → Error → Type 0
IsSerializeFault compression.None is_encodable room n e = (is_encodable → ⊥) ⊎ IsWriteFault room n e
IsSerializeFault _ is_encodable room n e = e ≡ error.Unsupported

-- the codes were reached
abbrev pub ReachesCodes : Option Error → Type 0
ReachesCodes None = Unit {0}
ReachesCodes (Some error.Parse) = Unit {0}
ReachesCodes (Some _) = ⊥

-- an entry whose bytes have this first fault, if any, is refused by this error
abbrev pub IsEntryFault : Option Error → Error → Type 0
IsEntryFault fault error.OutOfRange = fault ≡ Some error.OutOfRange
IsEntryFault fault error.ChecksumMismatch = fault ≡ Some error.ChecksumMismatch
IsEntryFault fault error.Unsupported = fault ≡ Some error.Unsupported
IsEntryFault fault error.Parse = fault ≡ Some error.Parse
IsEntryFault fault error.Memory = ReachesCodes fault
IsEntryFault fault _ = ⊥

-- the codes of a record were reached
abbrev pub ReachesPair : Outcome → Type 0
ReachesPair outcome.NoRecord = ⊥
ReachesPair outcome.Unsupported = ⊥
ReachesPair outcome.Undecodable = Unit {0}
ReachesPair (outcome.Pair key value) = Unit {0}

-- a record of this outcome is refused by this error
abbrev pub IsRecordFault : Outcome → Error → Type 0
IsRecordFault o error.Unsupported = o ≡ outcome.Unsupported
IsRecordFault o error.Parse = o ≡ outcome.Undecodable
IsRecordFault o error.Memory = ReachesPair o
IsRecordFault o _ = ⊥
