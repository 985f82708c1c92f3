-- The words that say what a bench runs.
use Rattle.std.specs.Prelude.{◌≡◌, ℕ, ◌^◌, ◌<◌, ◌≤◌, List, [], ◌∷◌, Some, None, length, drop, slice_index_or}
use Rattle.foyer_bench_stats.specs.declared.plan.Plan.{Plan}
use Rattle.foyer_bench_stats.specs.declared.settings.Setting.{Setting}
use Rattle.foyer_bench_stats.specs.declared.settings.Setting.TheVariants as setting
use Rattle.foyer_bench_stats.specs.declared.settings.Refusal.{Refusal}
use Rattle.foyer_bench_stats.specs.declared.settings.Refusal.TheVariants as refusal
use Rattle.foyer_bench_stats.specs.Settings.{IsNumberIn, IsRefusedWord, IsSetting}

-- the plan with a setting in place of the one before
abbrev pub set_to : Setting → ℕ → Plan → Plan
set_to setting.Calls number plan = record plan { calls = Some number }
set_to setting.Keys number plan = record plan { keys = number }
set_to setting.Skew number plan = record plan { skew = number }
set_to setting.Gets number plan = record plan { gets = number }
set_to setting.Seed number plan = record plan { seed = number }
set_to setting.Fill number plan = record plan { fill = number }
set_to setting.Engines number plan = record plan { engines = number }
set_to setting.Flushers number plan = record plan { flushers = number }
set_to setting.Recoverers number plan = record plan { recoverers = number }
set_to setting.Cores number plan = record plan { cores = number }
set_to setting.Patience number plan = record plan { patience = number }
set_to setting.Through number plan = record plan { through = number }
set_to setting.Reinsert number plan = record plan { reinsert = number }

-- each word is a setting, and the plan has the last of each name
unfoldable pub AreSettings : Plan → List (List ℕ) → Plan → Type 0
AreSettings plan [] after = after ≡ plan
AreSettings plan (word ∷ words) after = (s : Setting) × (number : ℕ) × IsSetting word s number × AreSettings (set_to s number plan) words after

-- The plan if no setting is given. There are 100,000 keys at a skew of 0.99. Of a hundred calls 90 are gets. Nothing is put before the
-- calls. Loads read through one engine, one flusher writes, and eight workers read the blocks at the opening. There is one core. No put
-- looks again, a miss puts nothing, and nothing is written again.
abbrev pub default_plan : ℕ → ℕ → ℕ → Plan
default_plan threads value_bytes seconds = record {
  threads = threads;
  value_bytes = value_bytes;
  seconds = seconds;
  calls = None;
  keys = 100000;
  skew = 99;
  gets = 90;
  seed = 1;
  fill = 0;
  engines = 1;
  flushers = 1;
  recoverers = 8;
  cores = 1;
  patience = 0;
  through = 0;
  reinsert = 0;
}

abbrev pub word_at : List (List ℕ) → ℕ → List ℕ
word_at words k = slice_index_or words k []

-- what a run can be made of
pub record HasBounds (plan : Plan) : Type 0 where
  pub some_threads : 0 < plan.threads
  pub few_threads : plan.threads ≤ 1024
  pub value_bytes : plan.value_bytes ≤ 2 ^ 30
  pub some_keys : 0 < plan.keys
  pub few_keys : plan.keys ≤ 2 ^ 26
  pub skew : plan.skew ≤ 1000

-- three numbers, and then settings
pub record ArePlanWords (words : List (List ℕ)) (plan : Plan) : Type 0 where
  pub enough : 3 ≤ length words
  pub threads : ℕ
  pub is_threads : IsNumberIn (word_at words 0) 1 1024 threads
  pub value_bytes : ℕ
  pub is_value_bytes : IsNumberIn (word_at words 1) 0 (2 ^ 30) value_bytes
  pub seconds : ℕ
  pub is_seconds : IsNumberIn (word_at words 2) 1 (2 ^ 30) seconds
  pub settings : AreSettings (default_plan threads value_bytes seconds) (drop 3 words) plan

-- no such number is in the words at this place
abbrev pub HasNoNumberIn : List (List ℕ) → ℕ → ℕ → ℕ → Type 0
HasNoNumberIn words k least greatest = (3 ≤ length words) × ((number : ℕ) → ¬ IsNumberIn (word_at words k) least greatest number)

-- why the words are refused
abbrev pub AreRefused : List (List ℕ) → Refusal → Type 0
AreRefused words refusal.Missing = length words < 3
AreRefused words refusal.Threads = HasNoNumberIn words 0 1 1024
AreRefused words refusal.ValueBytes = HasNoNumberIn words 1 0 (2 ^ 30)
AreRefused words refusal.Seconds = HasNoNumberIn words 2 1 (2 ^ 30)
AreRefused words r = (k : ℕ) × (3 ≤ k) × (k < length words) × IsRefusedWord (word_at words k) r
