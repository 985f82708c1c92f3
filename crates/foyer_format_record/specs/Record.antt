-- A record: its header, the value's bytes, and the key's bytes; and what bytes are as a record.
use Rattle.std.specs.Prelude.{ℕ, ◌+◌, ◌==◌, ◌&&◌, not, nat_lt, Bool, true, false, List, ◌++◌, length, take, drop, Option, Some, None, Result, Ok, Err, if◌then◌else◌}
use Rattle.foyer_format_checksum.specs.Xxh64.{xxh64}
use Rattle.foyer_format_code.specs.Error.{Error}
use Rattle.foyer_format_code.specs.Error.TheVariants as error
use Rattle.foyer_format_record.specs.declared.compress.Compression.{Compression}
use Rattle.foyer_format_record.specs.declared.compress.Compression.TheVariants as compression
use Rattle.foyer_format_record.specs.declared.block.serde.EntryHeader.{EntryHeader}
use Rattle.foyer_format_record.specs.Header.{header_bytes, header_of}

-- the record of an encoded key and an encoded value
unfoldable pub record_bytes : (hash sequence : ℕ) → (key value : List ℕ) → List ℕ
record_bytes hash sequence key value =
    header_bytes (record {
      key_len = length key;
      value_len = length value;
      hash = hash;
      sequence = sequence;
      checksum = xxh64 (value ++ key);
      compression = compression.None;
    }) ++ (value ++ key)

-- the checksum is another one than was given, if one was given
abbrev pub is_other_sum : Option ℕ → ℕ → Bool
is_other_sum None sum = false
is_other_sum (Some given) sum = not (sum == given)

abbrev pub is_plain : Compression → Bool
is_plain compression.None = true
is_plain _ = false

-- the first fault of the bytes of a value and a key that shows before their codes are asked
unfoldable pub outer_fault : List ℕ → (key_len value_len : ℕ) → Compression → Option ℕ → Option Error
outer_fault b key_len value_len c given =
    if nat_lt (length b) (value_len + key_len) then Some error.OutOfRange
    else if is_other_sum given (xxh64 (take (value_len + key_len) b))
    then Some error.ChecksumMismatch
    else if not (is_plain c) then Some error.Unsupported
    else None

-- the first fault of the bytes of a value and a key
unfoldable pub entry_fault : (is_key is_value : List ℕ → Bool) → List ℕ → (key_len value_len : ℕ)
    → Compression → Option ℕ → Option Error
entry_fault is_key is_value b key_len value_len c given =
    if nat_lt (length b) (value_len + key_len) then Some error.OutOfRange
    else if is_other_sum given (xxh64 (take (value_len + key_len) b))
    then Some error.ChecksumMismatch
    else if not (is_plain c) then Some error.Unsupported
    else if is_value (take value_len b) && is_key (take key_len (drop value_len b)) then None
    else Some error.Parse

-- What bytes are, for the hash and the sequence that were looked for: another record or none, a
-- compressed one, one whose value or key isn't encoded right, or a pair.
pub data Outcome : Type 0 where
  NoRecord : Outcome
  Unsupported : Outcome
  Undecodable : Outcome
  Pair : (key value : List ℕ) → Outcome

abbrev pub outcome_of : (key value : List ℕ) → Option Error → Outcome
outcome_of key value None = Pair key value
outcome_of key value (Some error.Unsupported) = Unsupported
outcome_of key value (Some error.Parse) = Undecodable
outcome_of key value (Some _) = NoRecord

-- what the bytes behind a header are
unfoldable pub body_outcome : (is_key is_value : List ℕ → Bool) → EntryHeader → List ℕ → Outcome
body_outcome is_key is_value head body =
    outcome_of (take head.key_len (drop head.value_len body)) (take head.value_len body)
    (entry_fault is_key is_value body head.key_len head.value_len
    head.compression (Some head.checksum))

-- b as a record with this header
abbrev pub outcome_with : (is_key is_value : List ℕ → Bool) → List ℕ → (hash sequence : ℕ)
    → Result EntryHeader Error → Outcome
outcome_with is_key is_value b hash sequence (Err e) = NoRecord
outcome_with is_key is_value b hash sequence (Ok head) =
    if (head.hash == hash) && (head.sequence == sequence)
    && (length b == 36 + head.key_len + head.value_len)
    then body_outcome is_key is_value head (drop 36 b)
    else NoRecord

-- what b is, if this hash and this sequence are looked for
unfoldable pub pair_of : (is_key is_value : List ℕ → Bool) → List ℕ → (hash sequence : ℕ) → Outcome
pair_of is_key is_value b hash sequence =
    outcome_with is_key is_value b hash sequence (header_of (take 36 b))
