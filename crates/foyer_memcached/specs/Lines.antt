-- What the words of a line say.
use Rattle.std.specs.Prelude.{ℕ, Bool, true, false, List, [], ◌∷◌, length, take, codes, nat_eq, nat_lt, Option, Some, None, Result, Ok, Err, if◌then◌else◌}
use Rattle.std.specs.Cmp.Lexicographic.{pointwise}
use Rattle.foyer_memcached.specs.declared.command.Refusal.{Refusal}
use Rattle.foyer_memcached.specs.declared.command.Refusal.TheVariants.{Unknown, BadFormat, BadExpiry, BadDelta, BadDelete, Untold}
use Rattle.foyer_memcached.specs.declared.expiry.Expiry.{Expiry}
use Rattle.foyer_memcached.specs.declared.expiry.Expiry.TheVariants.{After}
use Rattle.foyer_memcached.specs.declared.verb.Mode.{Mode}
use Rattle.foyer_memcached.specs.declared.verb.Mode.TheVariants as mode
use Rattle.foyer_memcached.specs.declared.verb.Verb.{Verb}
use Rattle.foyer_memcached.specs.declared.verb.Verb.TheVariants as verb
use Rattle.foyer_memcached.specs.Asked.{Asked, Said, Storing, Bad, Count, Data, Delete, Flush, Get, GetTouch, NoOperation, Quit, Stats, Touch, Verbosity, Version, Whole}
use Rattle.foyer_memcached.specs.Expiry.{expiry_of}
use Rattle.foyer_memcached.specs.Meta.{ma_at, md_at, me_at, mg_at, ms_at}
use Rattle.foyer_memcached.specs.Steps.{◌>>=◌, some_or}
use Rattle.foyer_memcached.specs.Words.{number_of}

-- the word is this one
abbrev pub is : List ℕ → List ℕ → Bool
is word this = pointwise nat_eq word this

-- the verb that a line's first word is
unfoldable pub verb_of : List ℕ → Option Verb
verb_of w =
    if is w (codes "get") then Some (verb.Get false)
    else if is w (codes "set") then Some (verb.Store mode.Set)
    else if is w (codes "gets") then Some (verb.Get true)
    else if is w (codes "delete") then Some verb.Delete
    else if is w (codes "incr") then Some (verb.Count true)
    else if is w (codes "decr") then Some (verb.Count false)
    else if is w (codes "add") then Some (verb.Store mode.Add)
    else if is w (codes "replace") then Some (verb.Store mode.Replace)
    else if is w (codes "append") then Some (verb.Store mode.Append)
    else if is w (codes "prepend") then Some (verb.Store mode.Prepend)
    else if is w (codes "cas") then Some (verb.Store mode.Cas)
    else if is w (codes "touch") then Some verb.Touch
    else if is w (codes "gat") then Some (verb.GetTouch false)
    else if is w (codes "gats") then Some (verb.GetTouch true)
    else if is w (codes "flush_all") then Some verb.Flush
    else if is w (codes "stats") then Some verb.Stats
    else if is w (codes "version") then Some verb.Version
    else if is w (codes "verbosity") then Some verb.Verbosity
    else if is w (codes "quit") then Some verb.Quit
    else if is w (codes "mg") then Some verb.MetaGet
    else if is w (codes "ms") then Some verb.MetaStore
    else if is w (codes "md") then Some verb.MetaDelete
    else if is w (codes "ma") then Some verb.MetaCount
    else if is w (codes "me") then Some verb.MetaShow
    else if is w (codes "mn") then Some verb.NoOperation
    else None

-- the last words of a line: nothing, or one word, which is noreply or means nothing
abbrev pub quiet_at : List (List ℕ) → Result Bool Refusal
quiet_at [] = Ok false
quiet_at (w ∷ []) = Ok (is w (codes "noreply"))
quiet_at (w ∷ (x ∷ ws)) = Err Unknown

-- a refusal isn't told if the line ends with noreply
abbrev pub refusal_for : Bool → Refusal → Refusal
refusal_for is_quiet r = if is_quiet then Untold else r

abbrev pub hushed : {A : Type 0} → Bool → Result A Refusal → Result A Refusal
hushed is_quiet (Ok x) = Ok x
hushed is_quiet (Err r) = Err (refusal_for is_quiet r)

-- a key of at most 250 bytes
abbrev pub key_of : List ℕ → Result (List ℕ) Refusal
key_of word = if nat_lt 250 (length word) then Err BadFormat else Ok word

unfoldable pub any_long : List (List ℕ) → Bool
any_long [] = false
any_long (w ∷ ws) = if nat_lt 250 (length w) then true else any_long ws

-- one key or more
abbrev pub keys_at : List (List ℕ) → Result (List (List ℕ)) Refusal
keys_at [] = Err Unknown
keys_at (k ∷ ks) = if any_long (k ∷ ks) then Err BadFormat else Ok (k ∷ ks)

-- get KEY..
abbrev pub get_at : Bool → List (List ℕ) → Result Asked Refusal
get_at has_cas args = keys_at args >>= λ keys. Ok (Get has_cas keys)

-- gat EXPIRY KEY..
abbrev pub get_touch_at : Bool → List (List ℕ) → Result Asked Refusal
get_touch_at has_cas [] = Err Unknown
get_touch_at has_cas (expiry ∷ args) =
    some_or (expiry_of expiry) BadExpiry >>= λ e. keys_at args >>= λ keys. Ok (GetTouch has_cas e keys)

-- delete KEY, where a 0 may follow
abbrev pub delete_quiet : List (List ℕ) → Result Bool Refusal
delete_quiet [] = Ok false
delete_quiet (w ∷ []) = if is w (codes "0") then Ok false else if is w (codes "noreply") then Ok true else Err BadDelete
delete_quiet (w ∷ (x ∷ [])) = if is x (codes "noreply") then (if is w (codes "0") then Ok true else Err Untold) else Err BadDelete
delete_quiet (w ∷ (x ∷ (y ∷ ws))) = Err Unknown

abbrev pub delete_of : List ℕ → Bool → Result Asked Refusal
delete_of key is_quiet = key_of key >>= λ k. Ok (Delete k is_quiet)

abbrev pub delete_at : List (List ℕ) → Result Asked Refusal
delete_at [] = Err Unknown
delete_at (key ∷ args) = delete_quiet args >>= λ q. hushed q (delete_of key q)

-- incr KEY NUMBER
abbrev pub count_of : Bool → List ℕ → List ℕ → Bool → Result Asked Refusal
count_of up key by is_quiet = key_of key >>= λ k. some_or (number_of by) BadDelta >>= λ n. Ok (Count up k n is_quiet)

abbrev pub count_at : Bool → List (List ℕ) → Result Asked Refusal
count_at up [] = Err Unknown
count_at up (key ∷ []) = Err Unknown
count_at up (key ∷ (by ∷ args)) =
    quiet_at args >>= λ q. hushed q (count_of up key by q)

-- touch KEY EXPIRY
abbrev pub touch_of : List ℕ → List ℕ → Bool → Result Asked Refusal
touch_of key expiry is_quiet = key_of key >>= λ k. some_or (expiry_of expiry) BadExpiry >>= λ e. Ok (Touch k e is_quiet)

abbrev pub touch_at : List (List ℕ) → Result Asked Refusal
touch_at [] = Err Unknown
touch_at (key ∷ []) = Err Unknown
touch_at (key ∷ (expiry ∷ args)) =
    quiet_at args >>= λ q. hushed q (touch_of key expiry q)

-- flush_all, flush_all noreply, flush_all DELAY
abbrev pub flush_of : List ℕ → Bool → Result Asked Refusal
flush_of delay is_quiet = some_or (expiry_of delay) BadExpiry >>= λ e. Ok (Flush e is_quiet)

abbrev pub flush_at : List (List ℕ) → Result Asked Refusal
flush_at [] = Ok (Flush (After 0) false)
flush_at (w ∷ []) = if is w (codes "noreply") then Ok (Flush (After 0) true) else flush_of w false
flush_at (w ∷ (x ∷ ws)) = quiet_at (x ∷ ws) >>= λ q. hushed q (flush_of w q)

-- verbosity LEVEL, verbosity noreply
abbrev pub level_of : List ℕ → Bool → Result Asked Refusal
level_of level is_quiet = some_or (number_of level) BadFormat >>= λ n. Ok (Verbosity is_quiet)

abbrev pub verbosity_at : List (List ℕ) → Result Asked Refusal
verbosity_at [] = Err Unknown
verbosity_at (w ∷ []) = if is w (codes "noreply") then Ok (Verbosity true) else level_of w false
verbosity_at (w ∷ (x ∷ ws)) = quiet_at (x ∷ ws) >>= λ q. hushed q (level_of w q)

-- what follows the length in the line of a storing command: for cas a version
abbrev pub tail_at : Mode → List (List ℕ) → Result (Option ℕ × Bool) Refusal
tail_at mode.Cas [] = Err Unknown
tail_at mode.Cas (cas ∷ args) = quiet_at args >>= λ q. Ok (number_of cas, q)
tail_at mode.Set args = quiet_at args >>= λ q. Ok (Some 0, q)
tail_at mode.Add args = quiet_at args >>= λ q. Ok (Some 0, q)
tail_at mode.Replace args = quiet_at args >>= λ q. Ok (Some 0, q)
tail_at mode.Append args = quiet_at args >>= λ q. Ok (Some 0, q)
tail_at mode.Prepend args = quiet_at args >>= λ q. Ok (Some 0, q)

-- the flags have 32 bits, and the length plus 2 fits 31
abbrev pub storing_of : Mode → List ℕ → Option ℕ → Option Expiry → Option ℕ → Option ℕ → Bool → Result Storing Refusal
storing_of m key flags expiry len cas is_quiet =
    some_or flags BadFormat >>= λ f. some_or expiry BadFormat >>= λ e. some_or len BadFormat >>= λ l. some_or cas BadFormat >>= λ c.
    if nat_lt 250 (length key) then Err BadFormat
    else if nat_lt 4294967295 f then Err BadFormat
    else if nat_lt 2147483645 l then Err BadFormat
    else Ok (record { mode = m; key = key; flags = f; expiry = e; len = l; cas = c; is_quiet = is_quiet })

-- set KEY FLAGS EXPIRY LENGTH, cas KEY FLAGS EXPIRY LENGTH VERSION
abbrev pub storing_at : Mode → List (List ℕ) → Result Storing Refusal
storing_at m [] = Err Unknown
storing_at m (key ∷ []) = Err Unknown
storing_at m (key ∷ (flags ∷ [])) = Err Unknown
storing_at m (key ∷ (flags ∷ (expiry ∷ []))) = Err Unknown
storing_at m (key ∷ (flags ∷ (expiry ∷ (len ∷ args)))) =
    tail_at m args >>= λ t. hushed t.1 (storing_of m key (number_of flags) (expiry_of expiry) (number_of len) t.0 t.1)

abbrev pub whole : Result Asked Refusal → Said
whole (Ok c) = Whole c
whole (Err r) = Whole (Bad r)

abbrev pub data_follow : Result Storing Refusal → Said
data_follow (Ok s) = Data s None
data_follow (Err r) = Whole (Bad r)

abbrev pub said_by : Verb → List (List ℕ) → Said
said_by (verb.Get has_cas) args = whole (get_at has_cas args)
said_by (verb.GetTouch has_cas) args = whole (get_touch_at has_cas args)
said_by (verb.Store m) args = data_follow (storing_at m args)
said_by verb.Delete args = whole (delete_at args)
said_by (verb.Count is_up) args = whole (count_at is_up args)
said_by verb.Touch args = whole (touch_at args)
said_by verb.Flush args = whole (flush_at args)
said_by verb.Stats args = Whole (Stats args)
said_by verb.Version args = Whole Version
said_by verb.Verbosity args = whole (verbosity_at args)
said_by verb.Quit args = Whole Quit
said_by verb.NoOperation args = Whole NoOperation
said_by verb.MetaGet args = whole (mg_at args)
said_by verb.MetaStore args = ms_at args
said_by verb.MetaDelete args = whole (md_at args)
said_by verb.MetaCount args = whole (ma_at args)
said_by verb.MetaShow args = whole (me_at args)

-- the word begins as the version of an HTTP request does, and the last of these words does
abbrev pub begins_http : List ℕ → Bool
begins_http w = is (take 5 w) (codes "HTTP/")

unfoldable pub ends_http : Bool → List (List ℕ) → Bool
ends_http is_last [] = is_last
ends_http is_last (w ∷ ws) = ends_http (begins_http w) ws

-- a browser's request, which is no command, closes the connection
abbrev pub unknown_at : List ℕ → List (List ℕ) → Said
unknown_at w args = if ends_http (begins_http w) args then Whole Quit else Whole (Bad Unknown)

abbrev pub said_if : Option Verb → List ℕ → List (List ℕ) → Said
said_if None w args = unknown_at w args
said_if (Some v) w args = said_by v args

-- what a line of these words says
unfoldable pub said_at : List (List ℕ) → Said
said_at [] = Whole (Bad Unknown)
said_at (w ∷ args) = said_if (verb_of w) w args
