-- What is replied.
use Rattle.std.specs.Prelude.{ℕ, Bool, true, false, List, [], ◌∷◌, ◌++◌, length, codes, Option, Some, None, if◌then◌else◌}
use Rattle.std.specs.Fmt.{decimal}
use Rattle.foyer_memcached.specs.declared.command.Refusal.{Refusal}
use Rattle.foyer_memcached.specs.declared.command.Refusal.TheVariants as refusal
use Rattle.foyer_memcached.specs.declared.reply.Notice.{Notice}
use Rattle.foyer_memcached.specs.declared.reply.Notice.TheVariants as notice
use Rattle.foyer_memcached.specs.declared.turn.Outcome.{Outcome}
use Rattle.foyer_memcached.specs.declared.turn.Outcome.TheVariants as outcome
use Rattle.foyer_memcached.specs.Item.{Kept}

-- a client that asked for no reply gets none
abbrev pub unless : Bool → List ℕ → List ℕ
unless is_quiet text = if is_quiet then [] else text

-- the line that tells what became of a command
abbrev pub outcome_text : Outcome → List ℕ
outcome_text outcome.Stored = codes "STORED\r\n"
outcome_text outcome.NotStored = codes "NOT_STORED\r\n"
outcome_text outcome.Exists = codes "EXISTS\r\n"
outcome_text outcome.NotFound = codes "NOT_FOUND\r\n"
outcome_text outcome.Deleted = codes "DELETED\r\n"
outcome_text outcome.Touched = codes "TOUCHED\r\n"
outcome_text outcome.NotNumber = codes "CLIENT_ERROR cannot increment or decrement non-numeric value\r\n"
outcome_text outcome.TooLarge = codes "SERVER_ERROR object too large for cache\r\n"
outcome_text (outcome.Counted n) = decimal n ++ codes "\r\n"

-- the line that tells why a line is no command
abbrev pub refusal_text : Refusal → List ℕ
refusal_text refusal.Unknown = codes "ERROR\r\n"
refusal_text refusal.BadFormat = codes "CLIENT_ERROR bad command line format\r\n"
refusal_text refusal.BadExpiry = codes "CLIENT_ERROR invalid exptime argument\r\n"
refusal_text refusal.BadDelta = codes "CLIENT_ERROR invalid numeric delta argument\r\n"
refusal_text refusal.BadDelete = codes "CLIENT_ERROR bad command line format.  Usage: delete <key> [noreply]\r\n"
refusal_text refusal.BadChunk = codes "CLIENT_ERROR bad data chunk\r\n"
refusal_text refusal.Untold = []
refusal_text refusal.BadFlag = codes "CLIENT_ERROR invalid flag\r\n"
refusal_text refusal.RepeatedFlag = codes "CLIENT_ERROR duplicate flag\r\n"
refusal_text refusal.BadToken = codes "CLIENT_ERROR bad token in command line format\r\n"
refusal_text refusal.OpaqueTooLong = codes "CLIENT_ERROR opaque token too long\r\n"
refusal_text refusal.BadModeLength = codes "CLIENT_ERROR incorrect length for M token\r\n"
refusal_text refusal.BadStoreMode = codes "CLIENT_ERROR invalid mode for ms M token\r\n"
refusal_text refusal.BadCountMode = codes "CLIENT_ERROR invalid mode for ma M token\r\n"
refusal_text refusal.BadInitial = codes "CLIENT_ERROR invalid numeric initial value\r\n"
refusal_text refusal.BadStep = codes "CLIENT_ERROR invalid numeric delta value\r\n"
refusal_text refusal.BadFlags = codes "CLIENT_ERROR invalid or duplicate flag\r\n"
refusal_text refusal.BadKey = codes "CLIENT_ERROR error decoding key\r\n"

abbrev pub notice_text : Notice → List ℕ
notice_text notice.End = codes "END\r\n"
notice_text notice.Done = codes "OK\r\n"
notice_text notice.Reset = codes "RESET\r\n"
notice_text notice.NoOperation = codes "MN\r\n"
notice_text notice.LineTooLong = codes "CLIENT_ERROR line too long\r\n"
notice_text notice.NoMemory = codes "SERVER_ERROR out of memory storing object\r\n"
notice_text notice.Failed = codes "SERVER_ERROR Io\r\n"

-- a number behind a blank
abbrev pub field : ℕ → List ℕ
field n = 32 ∷ decimal n

abbrev pub version_field : Bool → ℕ → List ℕ
version_field true cas = field cas
version_field false cas = []

-- an item under its key, with its version if it was asked for
abbrev pub value_text : Bool → List ℕ → Kept → List ℕ
value_text has_cas key i =
    codes "VALUE " ++ (key ++ (field i.flags ++ (field (length i.value) ++ (version_field has_cas i.cas ++ (codes "\r\n" ++ (i.value ++ codes "\r\n"))))))

abbrev pub value_if : Bool → List ℕ → Option Kept → List ℕ
value_if has_cas key None = []
value_if has_cas key (Some i) = value_text has_cas key i

-- the server's name for itself
abbrev pub version_text : List ℕ → List ℕ
version_text name = codes "VERSION " ++ (name ++ codes "\r\n")

-- one count of the server's
abbrev pub stat_text : List ℕ → List ℕ → List ℕ
stat_text name value = codes "STAT " ++ (name ++ (32 ∷ (value ++ codes "\r\n")))
