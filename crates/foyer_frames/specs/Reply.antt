-- The bytes of a reply, and what bytes are read as.
use Rattle.std.specs.Prelude.{◌≡◌, ℕ, ◌^◌, ◌<◌, ◌≤◌, List, ◌∷◌, ◌++◌, length, take, drop, slice_index, nat_lt, Result, Ok, Err, if◌then◌else◌}
use Rattle.std.specs.Borrow.{Bor}
use Rattle.foyer_frames.specs.declared.request.Fault.{Fault}
use Rattle.foyer_frames.specs.declared.request.Fault.TheVariants.{Short, ValueTooLong}
use Rattle.foyer_frames.specs.declared.reply.Reply.{Reply}
use Rattle.foyer_frames.specs.Numbers.{number_bytes, number_at}

-- a reply without its place in memory
pub record Answer : Type 0 where
  pub number : ℕ
  pub code : ℕ
  pub bytes : List ℕ

abbrev pub answer : Reply → Answer
answer r = record { number = r.number; code = r.code; bytes = r.bytes.now }

-- what was returned is this reply, and this rest
abbrev pub IsReadAs : Result (Reply × Bor (List ℕ)) Fault → Answer → List ℕ → Type 0
IsReadAs (Ok x) r rest = (answer x.0 ≡ r) × (x.1.now ≡ rest)
IsReadAs (Err e) r rest = ⊥

-- the frame of a reply
abbrev pub reply_bytes : Answer → List ℕ
reply_bytes r = number_bytes r.number ++ r.code ∷ (number_bytes (length r.bytes) ++ r.bytes)

-- a reply that has a frame, of at most so many bytes
pub record Fits (limit : ℕ) (r : Answer) : Type 0 where
  pub number : r.number < 2 ^ 32
  pub code : r.code < 2 ^ 8
  pub bytes : length r.bytes ≤ limit
  pub width : length r.bytes < 2 ^ 32

-- the reply of these fields and what stands behind them, or the first fault
abbrev pub reply_of : ℕ → ℕ → ℕ → ℕ → List ℕ → Result (Answer × List ℕ) Fault
reply_of limit number code len body =
    if nat_lt limit len then Err ValueTooLong
    else if nat_lt (length body) len then Err Short
    else Ok (record { number = number; code = code; bytes = take len body }, drop len body)

-- the reply at the front of the bytes and the bytes behind its frame, or the first fault
unfoldable pub reply_at : ℕ → List ℕ → Result (Answer × List ℕ) Fault
reply_at limit bytes =
    if nat_lt (length bytes) 9 then Err Short
    else reply_of limit (number_at 0 bytes) (slice_index bytes 4) (number_at 5 bytes) (drop 9 bytes)
