-- What meta commands do to one key, and what is replied.
use Rattle.std.specs.Prelude.{ℕ, ◌-◌, ◌&&◌, Bool, true, false, List, [], ◌∷◌, ◌++◌, length, codes, Option, Some, None, ◌==◌, if◌then◌else◌}
use Rattle.std.specs.Fmt.{decimal}
use Rattle.foyer_memcached.specs.declared.expiry.Expiry.{Expiry}
use Rattle.foyer_memcached.specs.declared.meta.Options.{Options}
use Rattle.foyer_memcached.specs.declared.meta_reply.Facts.{Facts}
use Rattle.foyer_memcached.specs.declared.turn.Outcome.{Outcome}
use Rattle.foyer_memcached.specs.declared.turn.Outcome.TheVariants.{Stored, NotStored, Exists, NotFound, Deleted, Touched, NotNumber, TooLarge, Counted}
use Rattle.foyer_memcached.specs.declared.verb.Mode.{Mode}
use Rattle.foyer_memcached.specs.declared.verb.Mode.TheVariants.{Set, Add, Replace, Append, Prepend, Cas}
use Rattle.foyer_memcached.specs.Asked.{Flagged, Storing}
use Rattle.foyer_memcached.specs.Expiry.{moment}
use Rattle.foyer_memcached.specs.Item.{Kept}
use Rattle.foyer_memcached.specs.Meta.{letter}
use Rattle.foyer_memcached.specs.Reply.{field, outcome_text, unless}
use Rattle.foyer_memcached.specs.Turn.{count_turn, delete_turn, store_turn, touch_turn}

-- ---- turns

-- mg with T is a touch
abbrev pub touch_if : ℕ → Option Expiry → Option Kept → Option Kept
touch_if now None found = None
touch_if now (Some e) found = (touch_turn now e found).1

-- another version is there than the one that was named
abbrev pub is_other : Option ℕ → ℕ → Bool
is_other None cas = false
is_other (Some c) cas = if c == cas then false else true

-- to append and to prepend take a version, too
abbrev pub joins : Mode → Bool
joins Append = true
joins Prepend = true
joins Set = false
joins Add = false
joins Replace = false
joins Cas = false

abbrev pub is_kept_from : Mode → Option ℕ → Option Kept → Bool
is_kept_from m c None = false
is_kept_from m c (Some i) = joins m && is_other c i.cas

abbrev pub meta_store_turn : ℕ → ℕ → Storing → Options → List ℕ → Option Kept → Outcome × Option Kept
meta_store_turn now cas s o value found = if is_kept_from s.mode o.cas found then (Exists, None) else store_turn now cas s value found

abbrev pub meta_delete_turn : Options → Option Kept → Outcome × Option Kept
meta_delete_turn o None = (NotFound, None)
meta_delete_turn o (Some i) = if is_other o.cas i.cas then (Exists, None) else delete_turn (Some i)

-- N makes an item where there is none
abbrev pub made : ℕ → ℕ → Expiry → List ℕ → Kept
made now cas e value = record { is_deleted = false; flags = 0; expiry = moment now e; cas = cas; value = value }

abbrev pub made_turn : ℕ → ℕ → ℕ → Option Expiry → Outcome × Option Kept
made_turn now cas n None = (NotFound, None)
made_turn now cas n (Some e) = (Counted n, Some (made now cas e (decimal n)))

-- T changes the expiry of what is counted
abbrev pub retimed_item : ℕ → Option Expiry → Kept → Kept
retimed_item now None i = i
retimed_item now (Some e) i = record { is_deleted = i.is_deleted; flags = i.flags; expiry = moment now e; cas = i.cas; value = i.value }

abbrev pub retimed_put : ℕ → Option Expiry → Option Kept → Option Kept
retimed_put now e None = None
retimed_put now e (Some i) = Some (retimed_item now e i)

abbrev pub retimed : ℕ → Option Expiry → Outcome × Option Kept → Outcome × Option Kept
retimed now e turn = (turn.0, retimed_put now e turn.1)

abbrev pub meta_count_turn : ℕ → ℕ → Bool → Options → Option Kept → Outcome × Option Kept
meta_count_turn now cas up o None = made_turn now cas o.initial o.creates
meta_count_turn now cas up o (Some i) = if is_other o.cas i.cas then (Exists, None) else retimed now o.expiry (count_turn cas up o.step (Some i))

-- ---- what flags tell

abbrev pub no_facts : Facts
no_facts = record { flags = None; expiry = None; cas = None; len = None }

abbrev pub item_facts : Kept → Facts
item_facts i = record { flags = Some i.flags; expiry = Some i.expiry; cas = Some i.cas; len = Some (length i.value) }

-- a blank, a letter and a number, if it is known
abbrev pub lettered : ℕ → Option ℕ → List ℕ
lettered l None = []
lettered l (Some n) = 32 ∷ (l ∷ decimal n)

-- how many seconds are left, and -1 if the item doesn't expire
abbrev pub seconds_left : ℕ → Option ℕ → List ℕ
seconds_left now None = []
seconds_left now (Some e) = if e == 0 then codes " t-1" else 32 ∷ (116 ∷ decimal (e - now))

abbrev pub binary_mark : Bool → List ℕ
binary_mark is_binary = if is_binary then codes " b" else []

-- O, k, c, s, f, t
abbrev pub flag_text : ℕ → ℕ → Bool → List ℕ → Facts → List ℕ → List ℕ
flag_text l now is_binary key f w =
    if l == 79 then 32 ∷ w
    else if l == 107 then codes " k" ++ (key ++ binary_mark is_binary)
    else if l == 99 then lettered 99 f.cas
    else if l == 115 then lettered 115 f.len
    else if l == 102 then lettered 102 f.flags
    else if l == 116 then seconds_left now f.expiry
    else []

-- a t behind T tells the new expiry
abbrev pub new_expiry : ℕ → Option Expiry → Option ℕ → Option ℕ
new_expiry now None x = x
new_expiry now (Some e) None = None
new_expiry now (Some e) (Some x) = Some (moment now e)

abbrev pub after_flag : ℕ → Option Expiry → ℕ → Facts → Facts
after_flag now e l f = if l == 84 then record { flags = f.flags; expiry = new_expiry now e f.expiry; cas = f.cas; len = f.len } else f

-- what the flags tell, in their order
unfoldable pub flags_text : ℕ → Options → List ℕ → Facts → List (List ℕ) → List ℕ
flags_text now o key f [] = []
flags_text now o key f (w ∷ ws) = flag_text (letter w) now o.is_binary key f w ++ flags_text now o key (after_flag now o.expiry (letter w) f) ws

-- ---- replies

abbrev pub told_flags : ℕ → List ℕ → Flagged → Facts → List ℕ
told_flags now key f facts = flags_text now f.options key facts f.words

abbrev pub short_line : List ℕ → ℕ → List ℕ → Flagged → Facts → List ℕ
short_line code now key f facts = code ++ (told_flags now key f facts ++ codes "\r\n")

-- with v the value
abbrev pub value_line : ℕ → List ℕ → Flagged → Facts → List ℕ → List ℕ
value_line now key f facts value =
    if f.options.has_value then codes "VA" ++ (field (length value) ++ (told_flags now key f facts ++ (codes "\r\n" ++ (value ++ codes "\r\n"))))
    else short_line (codes "HD") now key f facts

abbrev pub get_text : ℕ → List ℕ → Flagged → Option Kept → List ℕ
get_text now key f None = unless f.options.is_quiet (short_line (codes "EN") now key f no_facts)
get_text now key f (Some i) = value_line now key f (item_facts i) i.value

abbrev pub went_well : Outcome → Bool
went_well Stored = true
went_well Deleted = true
went_well Touched = true
went_well (Counted n) = true
went_well NotStored = false
went_well Exists = false
went_well NotFound = false
went_well NotNumber = false
went_well TooLarge = false

abbrev pub code_of : Outcome → List ℕ
code_of Stored = codes "HD"
code_of Deleted = codes "HD"
code_of Touched = codes "HD"
code_of (Counted n) = codes "HD"
code_of NotStored = codes "NS"
code_of Exists = codes "EX"
code_of NotFound = codes "NF"
code_of NotNumber = codes "NS"
code_of TooLarge = codes "NS"

-- q says nothing of what went as it should
abbrev pub outcome_line : ℕ → List ℕ → Flagged → Facts → Outcome → List ℕ
outcome_line now key f facts o = unless (f.options.is_quiet && went_well o) (short_line (code_of o) now key f facts)

-- the version of what was stored, else 0
abbrev pub version_facts : ℕ → Outcome → Facts
version_facts cas o = record { flags = None; expiry = None; cas = Some (if went_well o then cas else 0); len = None }

-- the expiry of what was counted, before T
abbrev pub count_expiry : ℕ → Options → Option Kept → Option ℕ
count_expiry now o (Some i) = Some i.expiry
count_expiry now o None = new_expiry now o.creates (Some 0)

abbrev pub count_facts : ℕ → ℕ → Options → Option Kept → Facts
count_facts now cas o found = record { flags = None; expiry = count_expiry now o found; cas = Some cas; len = None }

-- a new item has the expiry of N, whatever T says
abbrev pub counting : Flagged → Option Kept → Flagged
counting f None = record { options = record f.options { expiry = None }; words = f.words }
counting f (Some i) = f

abbrev pub count_text : ℕ → ℕ → List ℕ → Flagged → Option Kept → Outcome → List ℕ
count_text now cas key f found (Counted n) = unless f.options.is_quiet (value_line now key (counting f found) (count_facts now cas f.options found) (decimal n))
count_text now cas key f found NotNumber = outcome_text NotNumber
count_text now cas key f found Stored = outcome_line now key f no_facts Stored
count_text now cas key f found NotStored = outcome_line now key f no_facts NotStored
count_text now cas key f found Exists = outcome_line now key f no_facts Exists
count_text now cas key f found NotFound = outcome_line now key f no_facts NotFound
count_text now cas key f found Deleted = outcome_line now key f no_facts Deleted
count_text now cas key f found Touched = outcome_line now key f no_facts Touched
count_text now cas key f found TooLarge = outcome_line now key f no_facts TooLarge

-- me: what is known of an item but its value; its size is that of its value
abbrev pub left_text : ℕ → ℕ → List ℕ
left_text now e = if e == 0 then codes "-1" else decimal (e - now)

abbrev pub show_text : ℕ → List ℕ → Option Kept → List ℕ
show_text now key None = codes "EN\r\n"
show_text now key (Some i) =
    codes "ME " ++ (key ++ (codes " exp=" ++ (left_text now i.expiry ++ (codes " cas=" ++ (decimal i.cas ++ (codes " size=" ++ (decimal (length i.value) ++ codes "\r\n")))))))

-- ---- answers: the reply, and what is kept

abbrev pub mg_answer : ℕ → List ℕ → Flagged → Option Kept → List ℕ × Option Kept
mg_answer now key f found = (get_text now key f found, touch_if now f.options.expiry found)

abbrev pub ms_answer : ℕ → ℕ → Storing → Flagged → List ℕ → Option Kept → List ℕ × Option Kept
ms_answer now cas s f value found =
    (outcome_line now s.key f (version_facts cas (meta_store_turn now cas s f.options value found).0) (meta_store_turn now cas s f.options value found).0, (meta_store_turn now cas s f.options value found).1)

abbrev pub md_answer : ℕ → List ℕ → Flagged → Option Kept → List ℕ × Option Kept
md_answer now key f found = (outcome_line now key f no_facts (meta_delete_turn f.options found).0, (meta_delete_turn f.options found).1)

abbrev pub ma_answer : ℕ → ℕ → Bool → List ℕ → Flagged → Option Kept → List ℕ × Option Kept
ma_answer now cas up key f found = (count_text now cas key f found (meta_count_turn now cas up f.options found).0, (meta_count_turn now cas up f.options found).1)
