-- A reader of requests: what it holds of its stream, and what its calls find there.
use Rattle.std.specs.Prelude.{◌≡◌, ◌≢◌, ℕ, ◌<◌, List, [], length, slice_range, Option, Some, Ok, Err}
use Rattle.std.specs.Io.KnownBytes.{IsAtEnd, prepend_known}
use Rattle.foyer_frames.specs.declared.frames.Frames.{Frames}
use Rattle.foyer_frames.specs.declared.frames.Next.{Next}
use Rattle.foyer_frames.specs.declared.frames.Next.TheVariants as next
use Rattle.foyer_frames.specs.declared.request.Fault.TheVariants.{Short}
use Rattle.foyer_frames.specs.declared.request.Head.{Head}
use Rattle.foyer_frames.specs.declared.request.Limits.{Limits}
use Rattle.foyer_frames.specs.declared.window.Filled.{Filled}
use Rattle.foyer_frames.specs.declared.window.Filled.TheVariants as filled
use Rattle.foyer_frames.specs.declared.window.Taken.{Taken}
use Rattle.foyer_frames.specs.declared.window.Taken.TheVariants as taken
use Rattle.foyer_frames.specs.declared.window.Window.{Window}
use Rattle.foyer_frames.specs.Request.{Asked, request_at}

module _ {A : Type 0} where
  -- what was read and not taken, and the key and the value of the request that was taken last
  abbrev pub held : Window A → List ℕ
  held w = slice_range w.bytes.items w.start w.end

  abbrev pub held_key : Window A → List ℕ
  held_key w = slice_range w.bytes.items w.key w.value

  abbrev pub held_value : Window A → List ℕ
  held_value w = slice_range w.bytes.items w.value w.start

module _ {R A : Type 0} where
  abbrev pub limits_of : Frames R A → Limits
  limits_of f = f.window.limits

  -- the same of a reader
  abbrev pub buffered : Frames R A → List ℕ
  buffered f = held f.window

  abbrev pub last_key : Frames R A → List ℕ
  last_key f = held_key f.window

  abbrev pub last_value : Frames R A → List ℕ
  last_value f = held_value f.window

  -- the bytes that were not taken yet, if they are known: those that were read, and those that the input has left
  abbrev pub unread : (R → Option (List ℕ)) → Frames R A → Option (List ℕ)
  unread remaining f = prepend_known (buffered f) (remaining f.input)

  -- how many bytes the buffer has
  abbrev pub buffer_len : Frames R A → ℕ
  buffer_len f = length f.window.bytes.items

-- a request of this head, with this key and value
abbrev pub with_head : Head → List ℕ → List ℕ → Asked
with_head h key value = record { kind = h.kind; number = h.number; key = key; value = value }

-- what was found at the front of the bytes, and what is left of them
abbrev pub Takes : Limits → List ℕ → Taken → List ℕ → List ℕ → List ℕ → Type 0
Takes limits bytes (taken.Request head) key value rest = request_at limits bytes ≡ Ok (with_head head key value, rest)
Takes limits bytes (taken.Refused fault) key value rest = (request_at limits bytes ≡ Err fault) × (fault ≢ Short) × (rest ≡ bytes)
Takes limits bytes taken.Partial key value rest = (request_at limits bytes ≡ Err Short) × (rest ≡ bytes)

-- what a call for more found, by what was held, what is held now and, if it is known, what the input has left
abbrev pub Fills : Limits → List ℕ → Filled → List ℕ → Option (List ℕ) → Type 0
Fills limits old filled.More new left = length old < length new
Fills limits old filled.Ready new left = (request_at limits old ≢ Err Short) × (new ≡ old)
Fills limits old filled.End new left = (new ≡ []) × (old ≡ []) × IsAtEnd left
Fills limits old filled.Cut new left = (request_at limits new ≡ Err Short) × (new ≡ old) × (0 < length new) × IsAtEnd left

-- what stands next in the known bytes of a stream
abbrev pub Finds : Limits → List ℕ → Next → List ℕ → List ℕ → Option (List ℕ) → Type 0
Finds limits bytes (next.Request head) key value left = (rest : List ℕ) × (left ≡ Some rest) × (request_at limits bytes ≡ Ok (with_head head key value, rest))
Finds limits bytes (next.Refused fault) key value left = (request_at limits bytes ≡ Err fault) × (fault ≢ Short)
Finds limits bytes next.Cut key value left = (request_at limits bytes ≡ Err Short) × (0 < length bytes)
Finds limits bytes next.End key value left = bytes ≡ []
