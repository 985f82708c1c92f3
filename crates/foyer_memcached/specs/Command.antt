-- The one reading of a connection's bytes: a command and what follows it, or that more bytes are needed, or that no line ends where one must.
use Rattle.std.specs.Prelude.{ℕ, ◌+◌, ◌||◌, List, [], ◌∷◌, length, take, drop, codes, nat_lt, Option, Some, None, Result, Ok, Err, if◌then◌else◌}
use Rattle.foyer_memcached.specs.declared.command.Fault.{Fault}
use Rattle.foyer_memcached.specs.declared.command.Fault.TheVariants.{Short, TooLong}
use Rattle.foyer_memcached.specs.declared.command.Limits.{Limits}
use Rattle.foyer_memcached.specs.declared.command.Refusal.TheVariants.{BadChunk}
use Rattle.foyer_memcached.specs.Asked.{Asked, Flagged, Said, Storing, Bad, Data, MetaStore, Store, TooLarge, Whole}
use Rattle.foyer_memcached.specs.Lines.{is, refusal_for, said_at}
use Rattle.foyer_memcached.specs.Steps.{◌>>=◌}
use Rattle.foyer_memcached.specs.Words.{line_at, without_return, words}

-- the most bytes that a line may have, without its line feed: those of get, gets, gat and gats list keys
abbrev pub line_limit : Limits → List ℕ → ℕ
line_limit limits line = if is (take 3 line) (codes "get") || is (take 3 line) (codes "gat") then limits.get_line else limits.line

-- the line that was found, and what follows it; if none was, more bytes are needed, unless there are too many already
abbrev pub line_of : Limits → List ℕ → Option (List ℕ × List ℕ) → Result (List ℕ × List ℕ) Fault
line_of limits bytes None = if nat_lt (line_limit limits bytes) (length bytes) then Err TooLong else Err Short
line_of limits bytes (Some x) = if nat_lt (line_limit limits x.0) (length x.0) then Err TooLong else Ok x

-- the bytes of an item of this value, as memcached counts them
abbrev pub item_len : Storing → ℕ
item_len s = s.len + length s.key + 48

-- the value must be followed by a carriage return and a line feed; that it isn't is not told to one who asked for no reply
abbrev pub stored_as : Storing → Option Flagged → List ℕ → Asked
stored_as s None value = Store s value
stored_as s (Some f) value = MetaStore s f value

abbrev pub value_of : Storing → Option Flagged → List ℕ → List ℕ → Asked
value_of s f value end = if is end (13 ∷ (10 ∷ [])) then stored_as s f value else Bad (refusal_for s.is_quiet BadChunk)

-- the command that a line says, and what follows it; a value that is too large is not taken
abbrev pub after_line : Limits → Said → List ℕ → Result (Asked × List ℕ) Fault
after_line limits (Whole c) rest = Ok (c, rest)
after_line limits (Data s f) rest =
    if nat_lt limits.item (item_len s) then Ok (TooLarge s, rest)
    else if nat_lt (length rest) (s.len + 2) then Err Short
    else Ok (value_of s f (take s.len rest) (take 2 (drop s.len rest)), drop (s.len + 2) rest)

-- the command at the front of the bytes and the bytes behind it, or why there is none
unfoldable pub command_at : Limits → List ℕ → Result (Asked × List ℕ) Fault
command_at limits bytes =
    line_of limits bytes (line_at bytes) >>= λ x. after_line limits (said_at (words (without_return x.0))) x.1
