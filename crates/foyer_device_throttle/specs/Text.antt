-- The texts that name a way to count calls.
use Rattle.std.specs.Prelude.{◌≡◌, ◌≢◌, ℕ, ◌<◌, ◌^◌, List, ◌++◌, Result, Ok, MatchResult, codes, decimal}
use Rattle.std.specs.Int.NonZero.{non_zero_usize_get}
use Rattle.std.specs.Str.{trim}
use Rattle.std.specs.Str.Parse.{IsNumeral, digits_value, without_leading_plus}
use Rattle.foyer_device_page.specs.declared.error.Error.{Error}
use Rattle.foyer_device_page.specs.declared.error.Error.TheVariants.{Parse}
use Rattle.foyer_device_throttle.specs.declared.iops.IopsCounter.{IopsCounter}
use Rattle.foyer_device_throttle.specs.declared.iops.IopsCounter.TheVariants.{PerIo, PerIoSize}

-- a text that is printed
abbrev pub counter_text : IopsCounter → List ℕ
counter_text PerIo = codes "PerIo"
counter_text (PerIoSize size) = codes "PerIoSize(" ++ (decimal (non_zero_usize_get size) ++ codes ")")

-- between the brackets stand decimal digits of n, perhaps behind a plus
abbrev pub IsSizeText : List ℕ → ℕ → Type 0
IsSizeText text n =
    (0 < n) × (n < 2 ^ 64)
    × ((digits : List ℕ) × (text ≡ codes "PerIoSize(" ++ (digits ++ codes ")"))
    × IsNumeral 10 (without_leading_plus digits) × (digits_value 10 (without_leading_plus digits) ≡ n))

-- what a text names, white space around it aside
abbrev pub Names : List ℕ → IopsCounter → Type 0
Names text PerIo = trim text ≡ codes "PerIo"
Names text (PerIoSize size) = IsSizeText (trim text) (non_zero_usize_get size)

-- the counter that the text names, or Parse if it names none
abbrev pub IsCounterOf : List ℕ → Result IopsCounter Error → Type 0
IsCounterOf text r =
    MatchResult r (λ c. Names text c)
    (λ e. (e ≡ Parse) × (trim text ≢ codes "PerIo") × ((n : ℕ) → ¬ (IsSizeText (trim text) n)))

-- a number of bytes that callers have
abbrev pub HasSize : IopsCounter → Type 0
HasSize PerIo = Unit {0}
HasSize (PerIoSize size) = (0 < non_zero_usize_get size) × (non_zero_usize_get size < 2 ^ 64)

-- what is printed names what it was printed of, and nothing else
abbrev pub TextsReadBack : Type 0
TextsReadBack =
    (c : IopsCounter) (r : Result IopsCounter Error) → HasSize c → IsCounterOf (counter_text c) r → r ≡ Ok c
