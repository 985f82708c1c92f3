-- What the flags of a meta command say, and what its line says.
use Rattle.std.specs.Prelude.{ℕ, ◌||◌, Bool, true, false, List, [], ◌∷◌, length, drop, slice_index, codes, nat_eq, nat_lt, Option, Some, None, Result, Ok, Err, ◌==◌, if◌then◌else◌}
use Rattle.std.specs.Cmp.Lexicographic.{pointwise}
use Rattle.foyer_memcached.specs.declared.command.Refusal.{Refusal}
use Rattle.foyer_memcached.specs.declared.command.Refusal.TheVariants.{Unknown, BadFormat, BadExpiry, BadDelta, BadDelete, BadChunk, Untold, BadFlag, RepeatedFlag, BadToken, OpaqueTooLong, BadModeLength, BadStoreMode, BadCountMode, BadInitial, BadStep, BadFlags, BadKey}
use Rattle.foyer_memcached.specs.declared.expiry.Expiry.{Expiry}
use Rattle.foyer_memcached.specs.declared.expiry.Expiry.TheVariants.{After}
use Rattle.foyer_memcached.specs.declared.meta.Options.{Options}
use Rattle.foyer_memcached.specs.declared.verb.Mode.{Mode}
use Rattle.foyer_memcached.specs.declared.verb.Mode.TheVariants.{Set, Add, Replace, Append, Prepend, Cas}
use Rattle.foyer_memcached.specs.Asked.{Asked, Flagged, Said, Storing, Bad, Data, MetaCount, MetaDelete, MetaGet, MetaShow, Skip, Whole}
use Rattle.foyer_memcached.specs.Expiry.{expiry_of}
use Rattle.foyer_memcached.specs.Steps.{◌>>=◌, some_or}
use Rattle.foyer_memcached.specs.Words.{number_of}

-- ---- flags: a letter, and behind it what some of them take

abbrev pub no_options : Options
no_options = record { is_quiet = false; has_value = false; is_binary = false; expiry = None; creates = None; cas = None; flags = 0; mode = None; initial = 0; step = 1 }

-- T: another expiry; N: an item to be made where there is none, and its expiry
abbrev pub with_expiry : Options → List ℕ → Result Options Refusal
with_expiry o token = some_or (expiry_of token) BadToken >>= λ e. Ok (record o { expiry = Some e })

abbrev pub with_creates : Options → List ℕ → Result Options Refusal
with_creates o token = some_or (expiry_of token) BadToken >>= λ e. Ok (record o { creates = Some e })

-- C: the version that must be there
abbrev pub with_cas : Options → List ℕ → Result Options Refusal
with_cas o token = some_or (number_of token) BadToken >>= λ n. Ok (record o { cas = Some n })

-- F: the client's own number
abbrev pub with_flags : Options → List ℕ → Result Options Refusal
with_flags o token = some_or (number_of token) BadFormat >>= λ n. if nat_lt 4294967295 n then Err BadFormat else Ok (record o { flags = n })

-- M: one byte
abbrev pub with_mode : Options → List ℕ → Result Options Refusal
with_mode o token = if length token == 1 then Ok (record o { mode = Some (slice_index token 0) }) else Err BadModeLength

-- J: the number that a new item begins with; D: what is added or subtracted
abbrev pub with_initial : Options → List ℕ → Result Options Refusal
with_initial o token = some_or (number_of token) BadInitial >>= λ n. Ok (record o { initial = n })

abbrev pub with_step : Options → List ℕ → Result Options Refusal
with_step o token = some_or (number_of token) BadStep >>= λ n. Ok (record o { step = n })

-- O: at most 31 bytes that come back
abbrev pub with_opaque : Options → List ℕ → Result Options Refusal
with_opaque o token = if nat_lt 31 (length token) then Err OpaqueTooLong else Ok o

-- c, f, k, s, t: what the reply is to tell; u, P, L mean nothing here
abbrev pub is_plain : ℕ → Bool
is_plain b = b == 99 || b == 102 || b == 107 || b == 115 || b == 116 || b == 117 || b == 80 || b == 76

abbrev pub option_by : Options → ℕ → List ℕ → Result Options Refusal
option_by o b token =
    if b == 118 then Ok (record o { has_value = true })
    else if b == 113 then Ok (record o { is_quiet = true })
    else if b == 98 then Ok (record o { is_binary = true })
    else if b == 84 then with_expiry o token
    else if b == 78 then with_creates o token
    else if b == 67 then with_cas o token
    else if b == 70 then with_flags o token
    else if b == 77 then with_mode o token
    else if b == 74 then with_initial o token
    else if b == 68 then with_step o token
    else if b == 79 then with_opaque o token
    else if is_plain b then Ok o
    else Err BadFlag

-- a word's letter, and what follows it
abbrev pub letter : List ℕ → ℕ
letter w = slice_index w 0

abbrev pub option_of : Options → List ℕ → Result Options Refusal
option_of o w = option_by o (letter w) (drop 1 w)

-- one of the words begins with a letter
unfoldable pub any_begins : ℕ → List (List ℕ) → Bool
any_begins b [] = false
any_begins b (w ∷ ws) = if letter w == b then true else any_begins b ws

-- what flags say that follow others; none of them may come again
unfoldable pub options_from : Options → List (List ℕ) → Result Options Refusal
options_from o [] = Ok o
options_from o (w ∷ ws) = if any_begins (letter w) ws then Err RepeatedFlag else (option_of o w >>= λ p. options_from p ws)

abbrev pub options_at : List (List ℕ) → Result Options Refusal
options_at ws = options_from no_options ws

-- ---- lines

abbrev pub short_key : List ℕ → Result (List ℕ) Refusal
short_key word = if nat_lt 250 (length word) then Err BadFormat else Ok word

abbrev pub with_words : Options → List (List ℕ) → Flagged
with_words o ws = record { options = o; words = ws }

-- mg KEY FLAG..; it makes no items
abbrev pub get_of : List ℕ → Options → List (List ℕ) → Option Expiry → Result Asked Refusal
get_of key o ws None = Ok (MetaGet key (with_words o ws))
get_of key o ws (Some e) = Err BadFlag

abbrev pub mg_at : List (List ℕ) → Result Asked Refusal
mg_at [] = Err Unknown
mg_at (key ∷ ws) = short_key key >>= λ k. options_at ws >>= λ o. get_of k o ws o.creates

-- md and ma tell one refusal for all flags but an O that is too long
abbrev pub of_flags : Refusal → Refusal
of_flags OpaqueTooLong = OpaqueTooLong
of_flags Unknown = BadFlags
of_flags BadFormat = BadFlags
of_flags BadExpiry = BadFlags
of_flags BadDelta = BadFlags
of_flags BadDelete = BadFlags
of_flags BadChunk = BadFlags
of_flags Untold = BadFlags
of_flags BadFlag = BadFlags
of_flags RepeatedFlag = BadFlags
of_flags BadToken = BadFlags
of_flags BadModeLength = BadFlags
of_flags BadStoreMode = BadFlags
of_flags BadCountMode = BadFlags
of_flags BadInitial = BadFlags
of_flags BadStep = BadFlags
of_flags BadFlags = BadFlags
of_flags BadKey = BadFlags

abbrev pub one_refusal : Result Options Refusal → Result Options Refusal
one_refusal (Ok o) = Ok o
one_refusal (Err r) = Err (of_flags r)

-- md KEY FLAG..
abbrev pub md_at : List (List ℕ) → Result Asked Refusal
md_at [] = Err Unknown
md_at (key ∷ ws) = short_key key >>= λ k. one_refusal (options_at ws) >>= λ o. Ok (MetaDelete k (with_words o ws))

-- ma KEY FLAG.., with MI or M+ to add, and MD or M- to subtract
abbrev pub is_up_by : Option ℕ → Result Bool Refusal
is_up_by None = Ok true
is_up_by (Some m) = if m == 73 || m == 43 then Ok true else if m == 68 || m == 45 then Ok false else Err BadCountMode

abbrev pub ma_at : List (List ℕ) → Result Asked Refusal
ma_at [] = Err Unknown
ma_at (key ∷ ws) = short_key key >>= λ k. one_refusal (options_at ws) >>= λ o. is_up_by o.mode >>= λ up. Ok (MetaCount up k (with_words o ws))

-- me KEY, where a b may follow
abbrev pub begins_with_b : List (List ℕ) → Bool
begins_with_b [] = false
begins_with_b (w ∷ ws) = pointwise nat_eq w (codes "b")

abbrev pub me_at : List (List ℕ) → Result Asked Refusal
me_at [] = Err BadFormat
me_at (key ∷ ws) = short_key key >>= λ k. Ok (MetaShow k (begins_with_b ws))

-- ms KEY LENGTH FLAG.., with ME to add, MR to replace, MA to append, MP to prepend, MS to set; a set or replace with a version is a cas
abbrev pub mode_by : Option ℕ → Result Mode Refusal
mode_by None = Ok Set
mode_by (Some m) =
    if m == 69 then Ok Add
    else if m == 65 then Ok Append
    else if m == 80 then Ok Prepend
    else if m == 82 then Ok Replace
    else if m == 83 then Ok Set
    else Err BadStoreMode

abbrev pub guarded : Mode → Option ℕ → Mode
guarded m None = m
guarded Set (Some c) = Cas
guarded Replace (Some c) = Cas
guarded Cas (Some c) = Cas
guarded Add (Some c) = Add
guarded Append (Some c) = Append
guarded Prepend (Some c) = Prepend

abbrev pub or_none : Option Expiry → Expiry
or_none None = After 0
or_none (Some e) = e

abbrev pub or_zero : Option ℕ → ℕ
or_zero None = 0
or_zero (Some n) = n

abbrev pub storing_by : List ℕ → ℕ → Options → Mode → Storing
storing_by key len o m = record { mode = guarded m o.cas; key = key; flags = o.flags; expiry = or_none o.expiry; len = len; cas = or_zero o.cas; is_quiet = false }

-- data follow such a line, though its flags be refused
abbrev pub data_by : List ℕ → ℕ → List (List ℕ) → Options → Result Mode Refusal → Said
data_by key len ws o (Err r) = Whole (Skip r len)
data_by key len ws o (Ok m) = Data (storing_by key len o m) (Some (with_words o ws))

abbrev pub data_said : List ℕ → ℕ → List (List ℕ) → Result Options Refusal → Said
data_said key len ws (Err r) = Whole (Skip r len)
data_said key len ws (Ok o) = data_by key len ws o (mode_by o.mode)

abbrev pub len_said : List ℕ → Option ℕ → List (List ℕ) → Said
len_said key None ws = Whole (Bad BadFormat)
len_said key (Some len) ws = if nat_lt 2147483645 len then Whole (Bad BadFormat) else data_said key len ws (options_at ws)

abbrev pub ms_at : List (List ℕ) → Said
ms_at [] = Whole (Bad Unknown)
ms_at (key ∷ []) = Whole (Bad BadFormat)
ms_at (key ∷ (len ∷ ws)) = if nat_lt 250 (length key) then Whole (Bad BadFormat) else len_said key (number_of len) ws
