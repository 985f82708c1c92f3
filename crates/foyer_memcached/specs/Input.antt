-- The commands of bytes, one after another.
use Rattle.std.specs.Prelude.{◌≡◌, ℕ, ◌+◌, ◌-◌, List, ◌++◌, length, drop, Ok, Err}
use Rattle.foyer_memcached.specs.declared.command.Fault.TheVariants.{Short, TooLong}
use Rattle.foyer_memcached.specs.declared.command.Limits.{Limits}
use Rattle.foyer_memcached.specs.declared.input.Input.{Input}
use Rattle.foyer_memcached.specs.declared.input.Taken.{Taken}
use Rattle.foyer_memcached.specs.declared.input.Taken.TheVariants as taken
use Rattle.foyer_memcached.specs.Asked.{Asked, Get, GetTouch, Store, TooLarge, Delete, Count, Touch, Flush, Stats, Version, Verbosity, Quit, NoOperation, MetaGet, MetaStore, MetaDelete, MetaCount, MetaShow, Skip, Bad, asked}
use Rattle.foyer_memcached.specs.Command.{command_at}

-- the bytes that weren't taken yet, and how many that weren't read yet are passed over
abbrev pub left : Input → List ℕ × ℕ
left i = (i.rest.now, i.over)

-- how many bytes behind a command are passed over: a value that is too large or whose flags are refused, and the end of its line
abbrev pub passed : Asked → ℕ
passed (Get has_cas keys) = 0
passed (GetTouch has_cas e keys) = 0
passed (Store s value) = 0
passed (TooLarge s) = s.len + 2
passed (Delete k q) = 0
passed (Count up k by q) = 0
passed (Touch k e q) = 0
passed (Flush delay q) = 0
passed (Stats words) = 0
passed Version = 0
passed (Verbosity q) = 0
passed Quit = 0
passed NoOperation = 0
passed (MetaGet key flags) = 0
passed (MetaStore s flags value) = 0
passed (MetaDelete key flags) = 0
passed (MetaCount up key flags) = 0
passed (MetaShow key is_binary) = 0
passed (Skip refusal len) = len + 2
passed (Bad refusal) = 0

-- bytes that were read and not taken, and how many that weren't read yet are passed over
abbrev pub passing : ℕ → List ℕ → List ℕ × ℕ
passing n bytes = (drop n bytes, n - length bytes)

-- the same after more bytes
abbrev pub pushed : List ℕ × ℕ → List ℕ → List ℕ × ℕ
pushed old more = (old.0 ++ drop old.1 more, old.1 - length more)

-- what was found at the front of the bytes, and what is left of them
abbrev pub Takes : Limits → List ℕ × ℕ → Taken → List ℕ × ℕ → Type 0
Takes limits old (taken.Command c) new = (rest : List ℕ) × (command_at limits old.0 ≡ Ok (asked c, rest)) × (new ≡ passing (passed (asked c)) rest)
Takes limits old taken.Partial new = (command_at limits old.0 ≡ Err Short) × (new ≡ old)
Takes limits old taken.Refused new = (command_at limits old.0 ≡ Err TooLong) × (new ≡ old)
