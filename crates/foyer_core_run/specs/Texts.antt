-- What a core sees of keys that are numbers of 64 bits and of values that are texts.
use Rattle.std.specs.Prelude.{ℕ, ◌^◌, nat_lt, Option, string_bytes}
use Rattle.std.specs.declared.string.String.{String}
use Rattle.std.specs.Int.{w64}
use Rattle.foyer_format_code.specs.Codes.{number_bytes, is_number, counted, is_counted_text, is_sized_text}
use Rattle.foyer_format_record.specs.declared.serde.ages.Age.{Age}
use Rattle.foyer_core_laws.specs.Content.{Meaning, meaning}

abbrev pub of_texts : {Z P : Type 0} → (P → Option Age) → Meaning ℕ (String Z) P
of_texts age = meaning (number_bytes w64) (λ s. counted (string_bytes s)) (λ n. nat_lt n (2 ^ 64)) (λ s. is_sized_text (string_bytes s))
    (is_number w64) is_counted_text age
