-- The program's arguments.
use Rattle.std.specs.Prelude.{◌≡◌, ℕ, ◌/◌, ◌^◌, ◌<◌, ◌≤◌, List, [], ◌∷◌, ◌++◌, false, string_bytes, codes}
use Rattle.std.specs.declared.string.String.{String}
use Rattle.foyer_format_layout.specs.Page.{page_up}
use Rattle.foyer_core_settings.specs.Sizes.{IsDefaultShardCount}
use Rattle.foyer_core_settings.specs.declared.settings.Settings.{Settings}
use Rattle.foyer_cli.specs.Lines.{IsNumber}
use Rattle.foyer_cli.specs.declared.options.Options.{Options}
use Rattle.foyer_cli.specs.declared.words.BadWord.{BadWord}

-- three words are these: the directory as it stands, and two numbers
abbrev pub AreWords : {A : Type 0} → List (String A) → Options → Type 0
AreWords [] o = ⊥
AreWords (d ∷ []) o = ⊥
AreWords (d ∷ (c ∷ [])) o = ⊥
AreWords (d ∷ (c ∷ (b ∷ []))) o =
    ((o.directory).now ≡ string_bytes d) × IsNumber (string_bytes c) o.capacity × IsNumber (string_bytes b) o.block_size
AreWords (d ∷ (c ∷ (b ∷ (w ∷ ws)))) o = ⊥

-- one word, which asks for the version
abbrev pub AskVersion : {A : Type 0} → List (String A) → Type 0
AskVersion [] = ⊥
AskVersion (w ∷ []) = string_bytes w ≡ codes "--version"
AskVersion (w ∷ (x ∷ ws)) = ⊥

-- one word, which asks for help
abbrev pub AskHelp : {A : Type 0} → List (String A) → Type 0
AskHelp [] = ⊥
AskHelp (w ∷ []) = string_bytes w ≡ codes "--help"
AskHelp (w ∷ (x ∷ ws)) = ⊥

-- the line that names a bad word of a program
abbrev pub bad_text : List ℕ → BadWord → List ℕ
bad_text program bad = program ++ (codes ": " ++ ((bad.what).now ++ ((bad.word).now ++ codes "\n")))

-- how many blocks a device of so many bytes holds, the size of a block rounded up to whole pages
abbrev pub blocks_held : Options → ℕ
blocks_held o = o.capacity / 4096 / (page_up o.block_size / 4096)

-- The sizes go together: a block has room behind its first index, its offsets have 32 bits, and there is a block, but no
-- more than can be numbered.
pub record GoTogether (o : Options) : Type 0 where
  pub room : 4096 < o.block_size
  pub offsets : o.block_size ≤ 2 ^ 32
  pub some : 1 ≤ blocks_held o
  pub few : blocks_held o < 2 ^ 32

-- the sizes that were asked for, and the defaults for all else
pub record AreAsked (o : Options) (s : Settings) : Type 0 where
  pub block_size : s.block_size ≡ page_up o.block_size
  pub blocks : s.blocks ≡ blocks_held o
  pub blob_index_size : s.blob_index_size ≡ 4096
  pub flushers : s.flushers ≡ 1
  pub indexer_shards : IsDefaultShardCount s.blocks s.block_size s.indexer_shards
  pub submit_queue_size_threshold : s.submit_queue_size_threshold ≡ 2 ^ 24
  pub buffer_pool_size : s.buffer_pool_size ≡ 2 ^ 24
  pub reclaimers : s.reclaimers ≡ 1
  pub clean_block_threshold : s.clean_block_threshold ≡ 1
  pub tombstone_log : s.tombstone_log ≡ false
