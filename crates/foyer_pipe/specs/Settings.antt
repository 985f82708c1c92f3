-- What each setting of the program changes.
use Rattle.std.specs.Prelude.{◌≡◌, ◌⊎◌, ℕ, ◌^◌, ◌<◌, ◌==◌, Bool, true, false, ◌&&◌, ◌||◌, if◌then◌else◌, List, [], ◌∷◌, ◌++◌, codes, Option, Some, None, length, nat_le, slice_index_or, take}
use Rattle.std.specs.Option.{option_map}
use Rattle.foyer_block_recover.specs.declared.block.recover.RecoverMode.{RecoverMode}
use Rattle.foyer_block_recover.specs.declared.block.recover.RecoverMode.TheVariants as recover_mode
use Rattle.foyer_cli.specs.Lines.{IsNumber}
use Rattle.foyer_frames.specs.declared.request.Limits.{Limits}
use Rattle.foyer_pipe.specs.declared.options.PipeOptions.{PipeOptions}
use Rattle.foyer_pipe.specs.declared.options.Setting.{Setting}
use Rattle.foyer_pipe.specs.declared.options.Setting.TheVariants as setting

abbrev pub default_options : PipeOptions
default_options = record {
  flushers = 1;
  reclaimers = 1;
  engines = 1;
  readers = 0;
  wait_ms = 60000;
  patience = 0;
  seed = 0;
  cores = 1;
  clean = 1;
  log = None;
  mode = recover_mode.Quiet;
  read_bytes = 0;
  write_bytes = 0;
  read_calls = 0;
  write_calls = 0;
  limits = record { key = 2 ^ 16; value = 2 ^ 26 };
}

abbrev pub setting_name : Setting → List ℕ
setting_name setting.Flushers = codes "flushers"
setting_name setting.Reclaimers = codes "reclaimers"
setting_name setting.Engines = codes "engines"
setting_name setting.Readers = codes "readers"
setting_name setting.WaitMs = codes "wait_ms"
setting_name setting.Patience = codes "patience"
setting_name setting.Seed = codes "seed"
setting_name setting.Cores = codes "cores"
setting_name setting.Clean = codes "clean"
setting_name setting.Log = codes "log"
setting_name setting.ReadBytes = codes "read_bytes"
setting_name setting.WriteBytes = codes "write_bytes"
setting_name setting.ReadCalls = codes "read_calls"
setting_name setting.WriteCalls = codes "write_calls"
setting_name setting.Key = codes "key"
setting_name setting.Value = codes "value"

abbrev pub mode_text : RecoverMode → List ℕ
mode_text recover_mode.Quiet = codes "quiet"
mode_text recover_mode.Strict = codes "strict"
mode_text recover_mode.None = codes "none"

-- how many cores there may be
abbrev pub core_count : ℕ → Option ℕ
core_count n = if n == 1 || (n == 2 || n == 4) then Some n else None

-- a setting that is on or off
abbrev pub flag : ℕ → Option Bool
flag n = if n == 0 then Some false else (if n == 1 then Some true else None)

-- from 1 to 1024, up to another number, or from 1 to it
abbrev pub count_in : (greatest : ℕ) → ℕ → Option ℕ
count_in greatest n = if nat_le 1 n && nat_le n greatest then Some n else None

abbrev pub number_in : (greatest : ℕ) → ℕ → Option ℕ
number_in greatest n = if nat_le n greatest then Some n else None

-- the options with this number for a setting, if the setting can have it
abbrev pub set_number : Setting → ℕ → PipeOptions → Option PipeOptions
set_number setting.Flushers n o = option_map (λ m. record o { flushers = m }) (count_in 1024 n)
set_number setting.Reclaimers n o = option_map (λ m. record o { reclaimers = m }) (count_in 1024 n)
set_number setting.Engines n o = option_map (λ m. record o { engines = m }) (count_in 1024 n)
set_number setting.Readers n o = option_map (λ m. record o { readers = m }) (number_in 1024 n)
set_number setting.WaitMs n o = option_map (λ m. record o { wait_ms = m }) (number_in 4294967295 n)
set_number setting.Patience n o = option_map (λ m. record o { patience = m }) (number_in 4294967295 n)
set_number setting.Seed n o = Some (record o { seed = n })
set_number setting.Cores n o = option_map (λ m. record o { cores = m }) (core_count n)
set_number setting.Clean n o = Some (record o { clean = n })
set_number setting.Log n o = option_map (λ b. record o { log = Some b }) (flag n)
set_number setting.ReadBytes n o = Some (record o { read_bytes = n })
set_number setting.WriteBytes n o = Some (record o { write_bytes = n })
set_number setting.ReadCalls n o = Some (record o { read_calls = n })
set_number setting.WriteCalls n o = Some (record o { write_calls = n })
set_number setting.Key n o = option_map (λ m. record o { limits = record o.limits { key = m } }) (count_in 1073741824 n)
set_number setting.Value n o = option_map (λ m. record o { limits = record o.limits { value = m } }) (count_in 1073741824 n)

-- A name and its value change options to others: the mode is named by a word, all else is a number of decimal digits.
abbrev pub IsSetting : (name text : List ℕ) → (old new : PipeOptions) → Type 0
IsSetting name text old new =
    ((name ≡ codes "recover") × (mode : RecoverMode) × (text ≡ mode_text mode) × (new ≡ record old { mode = mode }))
    ⊎ ((s : Setting) × (n : ℕ) × (name ≡ setting_name s) × IsNumber text n × (set_number s n old ≡ Some new))

-- a word is a name, an equals sign and a value, which change options to others
pub record IsWord (word : List ℕ) (old new : PipeOptions) : Type 0 where
  pub name : List ℕ
  pub text : List ℕ
  pub parts : word ≡ name ++ 61 ∷ text
  pub sets : IsSetting name text old new

-- one word after another changes options
unfoldable pub AreSettings : PipeOptions → List (List ℕ) → PipeOptions → Type 0
AreSettings old [] new = new ≡ old
AreSettings old (word ∷ words) new = (o : PipeOptions) × IsWord word old o × AreSettings o words new

-- the words before this place change the defaults to options that the word at this place can't change
pub record IsFirstBad (words : List (List ℕ)) (place : ℕ) : Type 0 where
  pub one : place < length words
  pub options : PipeOptions
  pub before : AreSettings default_options (take place words) options
  pub bad : (new : PipeOptions) → ¬ IsWord (slice_index_or words place []) options new
