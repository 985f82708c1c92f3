-- One command on one key: its outcome, by what a client sees under the key, and the item that is kept from then on, if it is another one.
use Rattle.std.specs.Prelude.{ℕ, ◌+◌, ◌-◌, ◌%◌, ◌^◌, Bool, true, false, List, [], ◌∷◌, ◌++◌, length, replicate, Option, Some, None, ◌==◌, if◌then◌else◌}
use Rattle.std.specs.Fmt.{decimal}
use Rattle.foyer_memcached.specs.declared.expiry.Expiry.{Expiry}
use Rattle.foyer_memcached.specs.declared.item.Item.{Item}
use Rattle.foyer_memcached.specs.declared.turn.Outcome.{Outcome}
use Rattle.foyer_memcached.specs.declared.turn.Outcome.TheVariants.{Stored, NotStored, Exists, NotFound, Deleted, Touched, NotNumber, TooLarge, Counted}
use Rattle.foyer_memcached.specs.declared.turn.Put.{Put}
use Rattle.foyer_memcached.specs.declared.turn.Turn.{Turn}
use Rattle.foyer_memcached.specs.declared.verb.Mode.{Mode}
use Rattle.foyer_memcached.specs.declared.verb.Mode.TheVariants.{Set, Add, Replace, Append, Prepend, Cas}
use Rattle.foyer_memcached.specs.Asked.{Storing}
use Rattle.foyer_memcached.specs.Expiry.{moment}
use Rattle.foyer_memcached.specs.Item.{Kept, kept}
use Rattle.foyer_memcached.specs.Words.{number_of}

abbrev pub kept_of : Option Item → Option Kept
kept_of None = None
kept_of (Some i) = Some (kept i)

-- an item that is put, without its place in memory
abbrev pub put : Put → Kept
put p = record { is_deleted = p.is_deleted; flags = p.flags; expiry = p.expiry; cas = p.cas; value = p.front.now ++ p.back.now }

abbrev pub put_of : Option Put → Option Kept
put_of None = None
put_of (Some p) = Some (put p)

abbrev pub turned : Turn → Outcome × Option Kept
turned t = (t.outcome, put_of t.put)

-- ---- storing, at a time and with a new version

abbrev pub stored : ℕ → ℕ → Storing → List ℕ → Outcome × Option Kept
stored now cas s value = (Stored, Some (record { is_deleted = false; flags = s.flags; expiry = moment now s.expiry; cas = cas; value = value }))

-- an item keeps its flags and its expiry, and has another value
abbrev pub changed : ℕ → Kept → List ℕ → Kept
changed cas i value = record { is_deleted = i.is_deleted; flags = i.flags; expiry = i.expiry; cas = cas; value = value }

abbrev pub store_by : Mode → ℕ → ℕ → Storing → List ℕ → Option Kept → Outcome × Option Kept
store_by Set now cas s value found = stored now cas s value
store_by Add now cas s value None = stored now cas s value
store_by Add now cas s value (Some i) = (NotStored, None)
store_by Replace now cas s value None = (NotStored, None)
store_by Replace now cas s value (Some i) = stored now cas s value
store_by Append now cas s value None = (NotStored, None)
store_by Append now cas s value (Some i) = (Stored, Some (changed cas i (i.value ++ value)))
store_by Prepend now cas s value None = (NotStored, None)
store_by Prepend now cas s value (Some i) = (Stored, Some (changed cas i (value ++ i.value)))
store_by Cas now cas s value None = (NotFound, None)
store_by Cas now cas s value (Some i) = if i.cas == s.cas then stored now cas s value else (Exists, None)

abbrev pub store_turn : ℕ → ℕ → Storing → List ℕ → Option Kept → Outcome × Option Kept
store_turn now cas s value found = store_by s.mode now cas s value found

-- ---- deleting: a mark is kept, since a store may return a queued item after its deletion

abbrev pub mark : Kept
mark = record { is_deleted = true; flags = 0; expiry = 0; cas = 0; value = [] }

abbrev pub delete_turn : Option Kept → Outcome × Option Kept
delete_turn None = (NotFound, None)
delete_turn (Some i) = (Deleted, Some mark)

-- ---- a value that is too large: set drops what is there, since the client wants it no more

abbrev pub dropped : Mode → Option Kept → Option Kept
dropped Set found = (delete_turn found).1
dropped Add found = None
dropped Replace found = None
dropped Append found = None
dropped Prepend found = None
dropped Cas found = None

abbrev pub large_turn : Storing → Option Kept → Outcome × Option Kept
large_turn s found = (TooLarge, dropped s.mode found)

-- ---- another expiry

abbrev pub touch_turn : ℕ → Expiry → Option Kept → Outcome × Option Kept
touch_turn now e None = (NotFound, None)
touch_turn now e (Some i) = (Touched, Some (record { is_deleted = i.is_deleted; flags = i.flags; expiry = moment now e; cas = i.cas; value = i.value }))

-- ---- counting

-- a sum of 64 bits, and a difference that stops at 0
abbrev pub counted : Bool → ℕ → ℕ → ℕ
counted true n by = (n + by) % 2 ^ 64
counted false n by = n - by

-- the number in blanks, if it is shorter than what was there
abbrev pub padded : ℕ → ℕ → List ℕ
padded n len = decimal n ++ replicate (len - length (decimal n)) 32

abbrev pub before_blanks : ℕ → List ℕ → List ℕ
before_blanks b [] = if b == 32 then [] else b ∷ []
before_blanks b (c ∷ cs) = b ∷ (c ∷ cs)

-- a value without the blanks at its end
unfoldable pub without_blanks : List ℕ → List ℕ
without_blanks [] = []
without_blanks (b ∷ bs) = before_blanks b (without_blanks bs)

abbrev pub count_from : ℕ → Bool → ℕ → Kept → Option ℕ → Outcome × Option Kept
count_from cas up by i None = (NotNumber, None)
count_from cas up by i (Some n) = (Counted (counted up n by), Some (changed cas i (padded (counted up n by) (length i.value))))

abbrev pub count_turn : ℕ → Bool → ℕ → Option Kept → Outcome × Option Kept
count_turn cas up by None = (NotFound, None)
count_turn cas up by (Some i) = count_from cas up by i (number_of (without_blanks i.value))

-- the item to be kept after an outcome of counting
abbrev pub counted_put : ℕ → Outcome → Option Kept → Option Kept
counted_put cas (Counted n) (Some i) = Some (changed cas i (padded n (length i.value)))
counted_put cas (Counted n) None = None
counted_put cas Stored found = None
counted_put cas NotStored found = None
counted_put cas Exists found = None
counted_put cas NotFound found = None
counted_put cas Deleted found = None
counted_put cas Touched found = None
counted_put cas NotNumber found = None
counted_put cas TooLarge found = None
