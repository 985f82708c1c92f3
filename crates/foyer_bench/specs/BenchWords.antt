-- The words of the program.
use Rattle.std.specs.Prelude.{List, Option, Some, None, drop, map, string_bytes, take}
use Rattle.std.specs.declared.string.String.{String}
use Rattle.foyer_bench_stats.specs.declared.plan.Plan.{Plan}
use Rattle.foyer_bench_stats.specs.declared.settings.Refusal.{Refusal}
use Rattle.foyer_bench_stats.specs.BenchPlans.{AreRefused, ArePlanWords}
use Rattle.foyer_cli.specs.Arguments.{AreWords}
use Rattle.foyer_cli.specs.declared.options.Options.{Options}

-- three words of sizes, and those of a plan
pub record AreBenchWords {A : Type 0} (words : List (String A)) (options : Options) (plan : Plan) : Type 0 where
  pub sizes : AreWords (take 3 words) options
  pub is_plan : ArePlanWords (map string_bytes (drop 3 words)) plan

-- why they are refused: the first three are no sizes, or the others no plan
abbrev pub IsRefusalOf : {A : Type 0} → List (String A) → Option Refusal → Type 0
IsRefusalOf words None = (options : Options) → ¬ AreWords (take 3 words) options
IsRefusalOf words (Some refusal) = AreRefused (map string_bytes (drop 3 words)) refusal
