-- The lines that the program reads and prints.
use Rattle.std.specs.Prelude.{◌≡◌, ℕ, ◌+◌, ◌-◌, ◌*◌, ◌^◌, ◌<◌, List, [], ◌∷◌, ◌++◌, codes, slice_index}
use Rattle.std.specs.Char.{IsAsciiDigit}
use Rattle.std.specs.Str.{IsUtf8}
use Rattle.std.specs.Str.Parse.{IsNumeral, digits_value}
use Rattle.foyer_device_page.specs.declared.error.ErrorKind.{ErrorKind}
use Rattle.foyer_device_page.specs.Error.{kind_name}
use Rattle.foyer_cli.specs.declared.command.Command.{Command}
use Rattle.foyer_cli.specs.declared.command.Command.TheVariants as command

-- one decimal digit or more, and nothing else, that write the number, which fits 64 bits
abbrev pub IsNumber : List ℕ → ℕ → Type 0
IsNumber digits n = IsNumeral 10 digits × (digits_value 10 digits ≡ n) × (n < 2 ^ 64)

-- four decimal digits that write the number
abbrev pub AreFour : List ℕ → ℕ → Type 0
AreFour four n =
    IsAsciiDigit (slice_index four 0) × IsAsciiDigit (slice_index four 1) × IsAsciiDigit (slice_index four 2) × IsAsciiDigit (slice_index four 3)
    × (n ≡ (slice_index four 0 - 48) * 1000 + (slice_index four 1 - 48) * 100 + (slice_index four 2 - 48) * 10 + (slice_index four 3 - 48))

-- the line, without its end, is this command
abbrev pub IsLine : List ℕ → Command → Type 0
IsLine line (command.Put key text) = (digits : List ℕ) × IsNumber digits key × IsUtf8 text.now × (line ≡ codes "put " ++ (digits ++ (codes " " ++ text.now)))
IsLine line (command.Get key) = (digits : List ℕ) × IsNumber digits key × (line ≡ codes "get " ++ digits)
IsLine line (command.Delete key) = (digits : List ℕ) × IsNumber digits key × (line ≡ codes "del " ++ digits)
IsLine line command.Wait = line ≡ codes "wait"
IsLine line command.Destroy = line ≡ codes "destroy"
IsLine line command.Close = line ≡ codes "close"

-- a text and the line feed that ends it
abbrev pub ended : List ℕ → List ℕ
ended text = text ++ 10 ∷ []

-- the line, without its end, that a fault is printed as
abbrev pub fault_text : ErrorKind → List ℕ
fault_text kind = codes "fault " ++ kind_name kind
