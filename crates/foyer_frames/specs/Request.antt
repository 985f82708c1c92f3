-- The bytes of a request, and what bytes are read as.
use Rattle.std.specs.Prelude.{◌≡◌, ℕ, ◌+◌, ◌-◌, ◌^◌, ◌<◌, ◌≤◌, List, ◌∷◌, ◌++◌, length, take, drop, slice_index, nat_lt, Option, Some, None, Result, Ok, Err, if◌then◌else◌}
use Rattle.std.specs.Borrow.{Bor}
use Rattle.foyer_frames.specs.declared.kind.Kind.{Kind}
use Rattle.foyer_frames.specs.declared.request.Fault.{Fault}
use Rattle.foyer_frames.specs.declared.request.Fault.TheVariants.{Short, UnknownKind, KeyTooLong, ValueTooLong, UnwantedKey, UnwantedValue}
use Rattle.foyer_frames.specs.declared.request.Head.{Head}
use Rattle.foyer_frames.specs.declared.request.Limits.{Limits}
use Rattle.foyer_frames.specs.declared.request.Request.{Request}
use Rattle.foyer_frames.specs.Kind.{kind_byte, kind_of, has_key, has_value}
use Rattle.foyer_frames.specs.Numbers.{◌>>=◌, number_bytes, number_at}

-- a request without its place in memory
pub record Asked : Type 0 where
  pub kind : Kind
  pub number : ℕ
  pub key : List ℕ
  pub value : List ℕ

abbrev pub asked : Request → Asked
asked r = record { kind = r.kind; number = r.number; key = r.key.now; value = r.value.now }

-- what was returned is this request, and this rest
abbrev pub IsReadAs : Result (Request × Bor (List ℕ)) Fault → Asked → List ℕ → Type 0
IsReadAs (Ok x) r rest = (asked x.0 ≡ r) × (x.1.now ≡ rest)
IsReadAs (Err e) r rest = ⊥

-- the frame of a request
abbrev pub request_bytes : Asked → List ℕ
request_bytes r = kind_byte r.kind ∷ (number_bytes r.number ++ (number_bytes (length r.key) ++ (number_bytes (length r.value) ++ (r.key ++ r.value))))

-- the most bytes of key that a request of a kind may have, and the fault of one that has more
abbrev pub key_limit : Limits → Kind → ℕ
key_limit limits kind = if has_key kind then limits.key else 0

abbrev pub key_fault : Kind → Fault
key_fault kind = if has_key kind then KeyTooLong else UnwantedKey

-- the same of its value
abbrev pub value_limit : Limits → Kind → ℕ
value_limit limits kind = if has_value kind then limits.value else 0

abbrev pub value_fault : Kind → Fault
value_fault kind = if has_value kind then ValueTooLong else UnwantedValue

-- a request that has a frame, under the limits
pub record Fits (limits : Limits) (r : Asked) : Type 0 where
  pub number : r.number < 2 ^ 32
  pub key : length r.key ≤ key_limit limits r.kind
  pub value : length r.value ≤ value_limit limits r.kind
  pub key_width : length r.key < 2 ^ 32
  pub value_width : length r.value < 2 ^ 32

-- a request whose lengths four bytes hold; a length is 0 if its kind has no such part
abbrev pub IsSendable : Asked → Type 0
IsSendable r = (length r.key ≤ key_limit (record { key = 2 ^ 32 - 1; value = 2 ^ 32 - 1 }) r.kind) × (length r.value ≤ value_limit (record { key = 2 ^ 32 - 1; value = 2 ^ 32 - 1 }) r.kind)

-- the head of these fields, or the first fault
abbrev pub head_of : Limits → Option Kind → ℕ → ℕ → ℕ → Result Head Fault
head_of limits None number key_len value_len = Err UnknownKind
head_of limits (Some kind) number key_len value_len =
    if nat_lt (key_limit limits kind) key_len then Err (key_fault kind)
    else if nat_lt (value_limit limits kind) value_len then Err (value_fault kind)
    else Ok (record { kind = kind; number = number; key_len = key_len; value_len = value_len })

-- the head at the front of the bytes, or the first fault
abbrev pub head_at : Limits → List ℕ → Result Head Fault
head_at limits bytes =
    if nat_lt (length bytes) 13 then Err Short
    else head_of limits (kind_of (slice_index bytes 0)) (number_at 1 bytes) (number_at 5 bytes) (number_at 9 bytes)

-- what stands behind a head: the key, the value, and what follows the frame
abbrev pub body_at : Head → List ℕ → Result (Asked × List ℕ) Fault
body_at head body =
    if nat_lt (length body) (head.key_len + head.value_len) then Err Short
    else Ok (record { kind = head.kind; number = head.number; key = take head.key_len body; value = take head.value_len (drop head.key_len body) }, drop head.value_len (drop head.key_len body))

-- the request at the front of the bytes and the bytes behind its frame, or the first fault
unfoldable pub request_at : Limits → List ℕ → Result (Asked × List ℕ) Fault
request_at limits bytes = head_at limits bytes >>= λ head. body_at head (drop 13 bytes)
