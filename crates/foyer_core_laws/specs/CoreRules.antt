-- The model that a core is: its sizes, and what its bytes mean.
use Rattle.std.specs.Prelude.{◌≡◌, ℕ, ◌%◌, ◌^◌, ◌<◌, ◌≤◌, Bool, true, nat_lt, ◌&&◌, if◌then◌else◌, List, map, length, Option, Some, None}
use Rattle.std.specs.Option.{option_map}
use Rattle.std.proofs.Common.{arith}
use Rattle.foyer_format_layout.specs.Page.{page_up}
use Rattle.foyer_format_record.specs.Record.{Outcome, record_bytes, pair_of}
use Rattle.foyer_format_record.specs.Record.Outcome.{NoRecord, Unsupported, Undecodable, Pair}
use Rattle.foyer_core_model.specs.Record as model_record
use Rattle.foyer_core_model.specs.Record.{IndexEntry}
use Rattle.foyer_core_model.specs.Rules.{Rules, Splitting}
use Rattle.foyer_core_restart.specs.Bridge.{entry_of}
use Rattle.foyer_core_laws.specs.Content.{Content, Meaning}
use Rattle.foyer_core_restart.specs.LayoutSplits.{IsLaidOut, part_writes}
use Rattle.foyer_core_restart.specs.IndexBytes.{index_at}
use Rattle.foyer_core_settings.specs.Sizes.{AreValid, buffer_room, sizes_in}
use Rattle.foyer_core_settings.specs.declared.settings.Settings.{Settings}

-- what bytes are, as the model has it
abbrev pub outcome_of : Outcome → model_record.Outcome Content
outcome_of NoRecord = model_record.NoRecord
outcome_of Unsupported = model_record.NotSupported
outcome_of Undecodable = model_record.Undecodable
outcome_of (Pair key value) = model_record.Holds (record { key = key; value = value; is_encodable = true })

-- both codes succeed, and each length has 32 bits
abbrev pub has_record : Content → Bool
has_record c = c.is_encodable && (nat_lt (length c.key) (2 ^ 32) && nat_lt (length c.value) (2 ^ 32))

-- the bytes of a content's record, if it has one
abbrev pub encoded : (hash sequence : ℕ) → Content → Option (List ℕ)
encoded hash sequence c = if has_record c then Some (record_bytes hash sequence c.key c.value) else None

-- a content that callers have: what can be encoded is encoded as its codes say
abbrev pub IsEncoded : (is_key is_value : List ℕ → Bool) → Content → Type 0
IsEncoded is_key is_value c = c.is_encodable ≡ true → (is_key c.key ≡ true) × (is_value c.value ≡ true)

pub page_up_above : (n : ℕ) → n ≤ page_up n
unfolding page_up
page_up_above n = omega arith

pub holds_page : (size : ℕ) → 0 < size → size % 4096 ≡ 0 → 4096 ≤ size
holds_page size some whole = omega arith

-- the entries that these bytes of a place list, if the bytes are an index and each entry fits
abbrev pub entries_at : Settings → (place : ℕ) → List ℕ → Option (List IndexEntry)
entries_at s place b = option_map (map entry_of) (index_at (sizes_in s) place b)

-- The machine of these sizes and codes.
abbrev pub rules_of : (is_key is_value : List ℕ → Bool) (s : Settings) → AreValid s → Rules Content
rules_of is_key is_value s sound = record {
  flushers = s.flushers;
  blocks = s.blocks;
  reclaimers = s.reclaimers;
  index_size = s.blob_index_size;
  block_size = s.block_size;
  room = λ f. buffer_room s;
  threshold = s.submit_queue_size_threshold;
  clean_threshold = s.clean_block_threshold;
  has_log = s.tombstone_log;
  page_up = page_up;
  encode = encoded;
  pair_of = λ b hash sequence. outcome_of (pair_of is_key is_value b hash sequence);
  entries_of = entries_at s;
  writes_of = part_writes s.block_size;
  some_flusher = sound.some_flusher;
  page_up_above = page_up_above;
  index_holds_page = holds_page s.blob_index_size sound.some_index sound.whole_index;
}

-- how a batch is laid out
abbrev pub layout : Settings → Splitting Content
layout s = IsLaidOut (sizes_in s)

-- the machine of a core
abbrev pub machine : {K V P : Type 0} → Meaning K V P → (s : Settings) → AreValid s → Rules Content
machine m s sound = rules_of m.is_key m.is_value s sound
