-- Settings, each a name, an equals sign and a number.
use Rattle.std.specs.Prelude.{◌≡◌, ℕ, ◌-◌, ◌^◌, ◌≤◌, ◌==◌, Bool, true, false, not, List, ◌∷◌, ◌++◌, codes}
use Rattle.std.specs.Str.Parse.{IsNumeral, digits_value, without_leading_plus}
use Rattle.foyer_bench_stats.specs.declared.settings.Setting.{Setting}
use Rattle.foyer_bench_stats.specs.declared.settings.Setting.TheVariants as setting
use Rattle.foyer_bench_stats.specs.declared.settings.Refusal.{Refusal}
use Rattle.foyer_bench_stats.specs.declared.settings.Refusal.TheVariants as refusal

-- The decimal number of a text, which may begin with a plus sign, within bounds.
pub record IsNumberIn (text : List ℕ) (least greatest number : ℕ) : Type 0 where
  pub digits : IsNumeral 10 (without_leading_plus text)
  pub value : digits_value 10 (without_leading_plus text) ≡ number
  pub low : least ≤ number
  pub high : number ≤ greatest

abbrev pub name_of : Setting → List ℕ
name_of setting.Calls = codes "calls"
name_of setting.Keys = codes "keys"
name_of setting.Skew = codes "skew"
name_of setting.Gets = codes "gets"
name_of setting.Seed = codes "seed"
name_of setting.Fill = codes "fill"
name_of setting.Engines = codes "engines"
name_of setting.Flushers = codes "flushers"
name_of setting.Recoverers = codes "recoverers"
name_of setting.Cores = codes "cores"
name_of setting.Patience = codes "patience"
name_of setting.Through = codes "through"
name_of setting.Reinsert = codes "reinsert"

abbrev pub least_of : Setting → ℕ
least_of setting.Keys = 1
least_of setting.Engines = 1
least_of setting.Flushers = 1
least_of setting.Recoverers = 1
least_of setting.Cores = 1
least_of _ = 0

abbrev pub greatest_of : Setting → ℕ
greatest_of setting.Keys = 2 ^ 26
greatest_of setting.Skew = 1000
greatest_of setting.Gets = 100
greatest_of setting.Engines = 1024
greatest_of setting.Flushers = 1024
greatest_of setting.Recoverers = 1024
greatest_of setting.Cores = 4
greatest_of setting.Patience = 2 ^ 32 - 1
greatest_of setting.Through = 1
greatest_of setting.Reinsert = 1
greatest_of _ = 2 ^ 64 - 1

-- whether it may have a number between these: a store has one core, two or four
abbrev pub takes : Setting → ℕ → Bool
takes setting.Cores number = not (number == 3)
takes _ number = true

-- the word is a setting's name, an equals sign, and a number that it may have
pub record IsSetting (word : List ℕ) (s : Setting) (number : ℕ) : Type 0 where
  pub text : List ℕ
  pub parts : word ≡ name_of s ++ 61 ∷ text
  pub is_number : IsNumberIn text (least_of s) (greatest_of s) number
  pub is_taken : takes s number ≡ true

-- why a word is no setting: its name is none's, or its number is none that the setting may have
abbrev pub IsRefusedWord : List ℕ → Refusal → Type 0
IsRefusedWord word refusal.Unknown = (s : Setting) (text : List ℕ) → ¬ (word ≡ name_of s ++ 61 ∷ text)
IsRefusedWord word (refusal.Number s) = (text : List ℕ) × (word ≡ name_of s ++ 61 ∷ text) × ((number : ℕ) → IsNumberIn text (least_of s) (greatest_of s) number → takes s number ≡ false)
IsRefusedWord word _ = ⊥
