-- The bytes that ask for a command.
use Rattle.std.specs.Prelude.{◌≡◌, ◌≢◌, ℕ, ◌^◌, ◌<◌, ◌≤◌, Bool, true, false, List, [], ◌∷◌, ◌++◌, length, codes}
use Rattle.std.specs.Fmt.{decimal}
use Rattle.foyer_memcached.specs.declared.command.Limits.{Limits}
use Rattle.foyer_memcached.specs.declared.expiry.Expiry.{Expiry}
use Rattle.foyer_memcached.specs.declared.expiry.Expiry.TheVariants.{Past, After}
use Rattle.foyer_memcached.specs.declared.verb.Mode.{Mode}
use Rattle.foyer_memcached.specs.declared.verb.Mode.TheVariants as mode
use Rattle.foyer_memcached.specs.Asked.{Asked, Storing, Get, GetTouch, Store, TooLarge, Delete, Count, Touch, Flush, Stats, Version, Verbosity, Quit, NoOperation, MetaGet, MetaStore, MetaDelete, MetaCount, MetaShow, Skip, Bad}
use Rattle.foyer_memcached.specs.Command.{item_len, line_limit}
use Rattle.foyer_memcached.specs.Lines.{any_long}

-- ---- words in a line

-- no byte is this one
abbrev pub Without : ℕ → List ℕ → Type 0
Without a [] = Unit {0}
Without a (b ∷ bs) = (b ≢ a) × Without a bs

-- a word: at least one byte, and no blank and no line feed
abbrev pub IsWord : List ℕ → Type 0
IsWord w = (0 < length w) × Without 32 w × Without 10 w

abbrev pub AreWords : List (List ℕ) → Type 0
AreWords [] = Unit {0}
AreWords (w ∷ ws) = IsWord w × AreWords ws

-- words with a blank between them
abbrev pub joined : List (List ℕ) → List ℕ
joined [] = []
joined (w ∷ []) = w
joined (w ∷ (x ∷ ws)) = w ++ 32 ∷ joined (x ∷ ws)

-- words as a line, with the carriage return, and that with its line feed
abbrev pub line_text : List (List ℕ) → List ℕ
line_text ws = joined ws ++ 13 ∷ []

abbrev pub line_bytes : List (List ℕ) → List ℕ
line_bytes ws = line_text ws ++ 10 ∷ []

-- ---- the words of a command

abbrev pub quiet_words : Bool → List (List ℕ)
quiet_words true = codes "noreply" ∷ []
quiet_words false = []

abbrev pub expiry_word : Expiry → List ℕ
expiry_word Past = codes "-1"
expiry_word (After n) = decimal n

abbrev pub mode_word : Mode → List ℕ
mode_word mode.Set = codes "set"
mode_word mode.Add = codes "add"
mode_word mode.Replace = codes "replace"
mode_word mode.Append = codes "append"
mode_word mode.Prepend = codes "prepend"
mode_word mode.Cas = codes "cas"

abbrev pub version_words : Mode → ℕ → List (List ℕ) → List (List ℕ)
version_words mode.Set cas ws = ws
version_words mode.Add cas ws = ws
version_words mode.Replace cas ws = ws
version_words mode.Append cas ws = ws
version_words mode.Prepend cas ws = ws
version_words mode.Cas cas ws = decimal cas ∷ ws

abbrev pub words_for : Asked → List (List ℕ)
words_for (Get false keys) = codes "get" ∷ keys
words_for (Get true keys) = codes "gets" ∷ keys
words_for (GetTouch false e keys) = codes "gat" ∷ (expiry_word e ∷ keys)
words_for (GetTouch true e keys) = codes "gats" ∷ (expiry_word e ∷ keys)
words_for (Store s value) = mode_word s.mode ∷ (s.key ∷ (decimal s.flags ∷ (expiry_word s.expiry ∷ (decimal s.len ∷ version_words s.mode s.cas (quiet_words s.is_quiet)))))
words_for (TooLarge s) = []
words_for (Delete key quiet) = codes "delete" ∷ (key ∷ quiet_words quiet)
words_for (Count true key by quiet) = codes "incr" ∷ (key ∷ (decimal by ∷ quiet_words quiet))
words_for (Count false key by quiet) = codes "decr" ∷ (key ∷ (decimal by ∷ quiet_words quiet))
words_for (Touch key e quiet) = codes "touch" ∷ (key ∷ (expiry_word e ∷ quiet_words quiet))
words_for (Flush e quiet) = codes "flush_all" ∷ (expiry_word e ∷ quiet_words quiet)
words_for (Stats about) = codes "stats" ∷ about
words_for Version = codes "version" ∷ []
words_for (Verbosity quiet) = codes "verbosity" ∷ (codes "1" ∷ quiet_words quiet)
words_for Quit = codes "quit" ∷ []
words_for NoOperation = codes "mn" ∷ []
words_for (MetaGet key flags) = []
words_for (MetaStore s flags value) = []
words_for (MetaDelete key flags) = []
words_for (MetaCount up key flags) = []
words_for (MetaShow key is_binary) = []
words_for (Skip refusal len) = []
words_for (Bad refusal) = []

-- what follows the line: of a storing command the value, a carriage return and a line feed
abbrev pub data_for : Asked → List ℕ
data_for (Get has_cas keys) = []
data_for (GetTouch has_cas e keys) = []
data_for (Store s value) = value ++ 13 ∷ (10 ∷ [])
data_for (TooLarge s) = []
data_for (Delete key quiet) = []
data_for (Count up key by quiet) = []
data_for (Touch key e quiet) = []
data_for (Flush e quiet) = []
data_for (Stats about) = []
data_for Version = []
data_for (Verbosity quiet) = []
data_for Quit = []
data_for NoOperation = []
data_for (MetaGet key flags) = []
data_for (MetaStore s flags value) = []
data_for (MetaDelete key flags) = []
data_for (MetaCount up key flags) = []
data_for (MetaShow key is_binary) = []
data_for (Skip refusal len) = []
data_for (Bad refusal) = []

abbrev pub command_bytes : Asked → List ℕ
command_bytes c = line_bytes (words_for c) ++ data_for c

-- ---- commands that have bytes

abbrev pub IsKey : List ℕ → Type 0
IsKey w = IsWord w × (length w ≤ 250)

abbrev pub ExpiryFits : Expiry → Type 0
ExpiryFits Past = Unit {0}
ExpiryFits (After n) = n < 2 ^ 64

-- only cas names a version
abbrev pub VersionFits : Mode → ℕ → Type 0
VersionFits mode.Set cas = cas ≡ 0
VersionFits mode.Add cas = cas ≡ 0
VersionFits mode.Replace cas = cas ≡ 0
VersionFits mode.Append cas = cas ≡ 0
VersionFits mode.Prepend cas = cas ≡ 0
VersionFits mode.Cas cas = cas < 2 ^ 64

abbrev pub AreKeys : List (List ℕ) → Type 0
AreKeys keys = (0 < length keys) × AreWords keys × (any_long keys ≡ false)

pub record StoringFits (limits : Limits) (s : Storing) (value : List ℕ) : Type 0 where
  pub key : IsKey s.key
  pub flags : s.flags < 2 ^ 32
  pub expiry : ExpiryFits s.expiry
  pub len : s.len ≡ length value
  pub most : s.len ≤ 2147483645
  pub version : VersionFits s.mode s.cas
  pub item : item_len s ≤ limits.item

abbrev pub PartsFit : Limits → Asked → Type 0
PartsFit limits (Get has_cas keys) = AreKeys keys
PartsFit limits (GetTouch has_cas e keys) = ExpiryFits e × AreKeys keys
PartsFit limits (Store s value) = StoringFits limits s value
PartsFit limits (TooLarge s) = ⊥
PartsFit limits (Delete key quiet) = IsKey key
PartsFit limits (Count up key by quiet) = IsKey key × (by < 2 ^ 64)
PartsFit limits (Touch key e quiet) = IsKey key × ExpiryFits e
PartsFit limits (Flush e quiet) = ExpiryFits e
PartsFit limits (Stats about) = AreWords about
PartsFit limits Version = Unit {0}
PartsFit limits (Verbosity quiet) = Unit {0}
PartsFit limits Quit = Unit {0}
PartsFit limits NoOperation = Unit {0}
PartsFit limits (MetaGet key flags) = ⊥
PartsFit limits (MetaStore s flags value) = ⊥
PartsFit limits (MetaDelete key flags) = ⊥
PartsFit limits (MetaCount up key flags) = ⊥
PartsFit limits (MetaShow key is_binary) = ⊥
PartsFit limits (Skip refusal len) = ⊥
PartsFit limits (Bad refusal) = ⊥

-- a command that has bytes, of a line within its limit
abbrev pub Fits : Limits → Asked → Type 0
Fits limits c = PartsFit limits c × (length (line_text (words_for c)) ≤ line_limit limits (line_text (words_for c)))
