-- What clients ask for.
use Rattle.std.specs.Prelude.{ℕ, List, Bool, Option, Some, None}
use Rattle.foyer_memcached.specs.declared.command.Command.{Command}
use Rattle.foyer_memcached.specs.declared.command.Command.TheVariants as command
use Rattle.foyer_memcached.specs.declared.command.Head.{Head}
use Rattle.foyer_memcached.specs.declared.command.Line.{Line}
use Rattle.foyer_memcached.specs.declared.command.Line.TheVariants as line
use Rattle.foyer_memcached.specs.declared.command.Refusal.{Refusal}
use Rattle.foyer_memcached.specs.declared.expiry.Expiry.{Expiry}
use Rattle.foyer_memcached.specs.declared.meta.Meta.{Meta}
use Rattle.foyer_memcached.specs.declared.meta.Options.{Options}
use Rattle.foyer_memcached.specs.declared.verb.Mode.{Mode}
use Rattle.foyer_memcached.specs.Words.{words}

-- what a line says that data follow: how to store, and how many bytes
pub record Storing : Type 0 where
  pub mode : Mode
  pub key : List ℕ
  pub flags : ℕ
  pub expiry : Expiry
  pub len : ℕ  -- of the data, in bytes
  pub cas : ℕ  -- the version that must be there, for cas; else 0
  pub is_quiet : Bool

-- the flags of a meta command: what they say, and their words, which the reply goes through again
pub record Flagged : Type 0 where
  pub options : Options
  pub words : List (List ℕ)

-- a command without its place in memory
pub data Asked : Type 0 where
  Get : (has_cas : Bool) (keys : List (List ℕ)) → Asked
  GetTouch : (has_cas : Bool) (expiry : Expiry) (keys : List (List ℕ)) → Asked
  Store : (how : Storing) (value : List ℕ) → Asked
  TooLarge : (how : Storing) → Asked
  Delete : (key : List ℕ) (is_quiet : Bool) → Asked
  Count : (is_up : Bool) (key : List ℕ) (by : ℕ) (is_quiet : Bool) → Asked
  Touch : (key : List ℕ) (expiry : Expiry) (is_quiet : Bool) → Asked
  Flush : (delay : Expiry) (is_quiet : Bool) → Asked
  Stats : (about : List (List ℕ)) → Asked
  Version : Asked
  Verbosity : (is_quiet : Bool) → Asked
  Quit : Asked
  NoOperation : Asked
  MetaGet : (key : List ℕ) (flags : Flagged) → Asked
  MetaStore : (how : Storing) (flags : Flagged) (value : List ℕ) → Asked
  MetaDelete : (key : List ℕ) (flags : Flagged) → Asked
  MetaCount : (is_up : Bool) (key : List ℕ) (flags : Flagged) → Asked
  MetaShow : (key : List ℕ) (is_binary : Bool) → Asked
  Skip : (refusal : Refusal) (len : ℕ) → Asked
  Bad : (refusal : Refusal) → Asked

-- what a line says: a whole command, or one whose data follow, with flags if it is a meta command
pub data Said : Type 0 where
  Whole : Asked → Said
  Data : Storing → Option Flagged → Said

abbrev pub flagged : Meta → Flagged
flagged m = record { options = m.options; words = words m.words.rest.now }

abbrev pub flagged_if : Option Meta → Option Flagged
flagged_if None = None
flagged_if (Some m) = Some (flagged m)

abbrev pub storing : Head → Storing
storing h = record { mode = h.mode; key = h.key.now; flags = h.flags; expiry = h.expiry; len = h.len; cas = h.cas; is_quiet = h.is_quiet }

abbrev pub asked : Command → Asked
asked (command.Get has_cas keys) = Get has_cas (words keys.rest.now)
asked (command.GetTouch has_cas expiry keys) = GetTouch has_cas expiry (words keys.rest.now)
asked (command.Store how value) = Store (storing how) value.now
asked (command.TooLarge how) = TooLarge (storing how)
asked (command.Delete key is_quiet) = Delete key.now is_quiet
asked (command.Count is_up key by is_quiet) = Count is_up key.now by is_quiet
asked (command.Touch key expiry is_quiet) = Touch key.now expiry is_quiet
asked (command.Flush delay is_quiet) = Flush delay is_quiet
asked (command.Stats about) = Stats (words about.rest.now)
asked command.Version = Version
asked (command.Verbosity is_quiet) = Verbosity is_quiet
asked command.Quit = Quit
asked command.NoOperation = NoOperation
asked (command.MetaGet key meta) = MetaGet key.now (flagged meta)
asked (command.MetaStore how meta value) = MetaStore (storing how) (flagged meta) value.now
asked (command.MetaDelete key meta) = MetaDelete key.now (flagged meta)
asked (command.MetaCount is_up key meta) = MetaCount is_up key.now (flagged meta)
asked (command.MetaShow key is_binary) = MetaShow key.now is_binary
asked (command.Skip refusal len) = Skip refusal len
asked (command.Bad refusal) = Bad refusal

abbrev pub said : Line → Said
said (line.Whole c) = Whole (asked c)
said (line.Data h meta) = Data (storing h) (flagged_if meta)
