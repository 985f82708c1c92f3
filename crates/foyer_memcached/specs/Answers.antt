-- What a connection's commands are answered, by what the store was found to hold.
use Rattle.std.specs.Prelude.{ℕ, ◌||◌, Bool, true, false, List, [], ◌∷◌, ◌++◌, Option, Some, None, if◌then◌else◌}
use Rattle.foyer_memcached.specs.declared.reply.Notice.TheVariants.{End, Done, NoOperation}
use Rattle.foyer_memcached.specs.declared.turn.Outcome.{Outcome}
use Rattle.foyer_memcached.specs.Asked.{Asked, MetaGet, MetaStore, MetaDelete, MetaCount, MetaShow, Skip, Get, GetTouch, Store, TooLarge, Delete, Count, Touch, Flush, Stats, Version, Verbosity, Quit, Bad}
use Rattle.foyer_memcached.specs.Asked as asked
use Rattle.foyer_memcached.specs.Item.{Kept, item_bytes}
use Rattle.foyer_memcached.specs.MetaReply.{ma_answer, md_answer, mg_answer, ms_answer, show_text}
use Rattle.foyer_memcached.specs.Reply.{notice_text, outcome_text, refusal_text, unless, value_if}
use Rattle.foyer_memcached.specs.Turn.{count_turn, delete_turn, large_turn, store_turn, touch_turn}

abbrev pub told : Bool → Outcome × Option Kept → List ℕ × Option Kept
told is_quiet turn = (unless is_quiet (outcome_text turn.0), turn.1)

-- what a command says of one key and keeps under it, at a time and with a new version, by what a client sees there; what the server says of itself is given
abbrev pub answer_of : ℕ → ℕ → List ℕ → Asked → List ℕ → Option Kept → List ℕ × Option Kept
answer_of now cas about (Get has_cas keys) key found = (value_if has_cas key found, None)
answer_of now cas about (GetTouch has_cas e keys) key found = (value_if has_cas key found, (touch_turn now e found).1)
answer_of now cas about (Store s value) key found = told s.is_quiet (store_turn now cas s value found)
answer_of now cas about (TooLarge s) key found = told s.is_quiet (large_turn s found)
answer_of now cas about (Delete k q) key found = told q (delete_turn found)
answer_of now cas about (Count up k by q) key found = told q (count_turn cas up by found)
answer_of now cas about (Touch k e q) key found = told q (touch_turn now e found)
answer_of now cas about (Flush delay q) key found = (unless q (notice_text Done), None)
answer_of now cas about (Stats words) key found = (about, None)
answer_of now cas about Version key found = (about, None)
answer_of now cas about (Verbosity q) key found = (unless q (notice_text Done), None)
answer_of now cas about Quit key found = ([], None)
answer_of now cas about asked.NoOperation key found = (notice_text NoOperation, None)
answer_of now cas about (MetaGet k flags) key found = mg_answer now k flags found
answer_of now cas about (MetaStore s flags value) key found = ms_answer now cas s flags value found
answer_of now cas about (MetaDelete k flags) key found = md_answer now k flags found
answer_of now cas about (MetaCount up k flags) key found = ma_answer now cas up k flags found
answer_of now cas about (MetaShow k is_binary) key found = (show_text now k found, None)
answer_of now cas about (Skip refusal len) key found = (refusal_text refusal, None)
answer_of now cas about (Bad refusal) key found = (refusal_text refusal, None)

-- the bytes of the item that is kept
abbrev pub put_bytes : Option Kept → Option (List ℕ)
put_bytes None = None
put_bytes (Some i) = Some (item_bytes i)

-- ---- a connection's commands

-- a command, when it was answered, and what a client saw then under its keys, one after another
pub record Step : Type 0 where
  pub now : ℕ
  pub cas : ℕ
  pub about : List ℕ  -- what the server says of itself
  pub command : Asked
  pub found : List (Option Kept)

abbrev pub first_found : List (Option Kept) → Option Kept
first_found [] = None
first_found (f ∷ fs) = f

abbrev pub others_found : List (Option Kept) → List (Option Kept)
others_found [] = []
others_found (f ∷ fs) = fs

-- the items that were found, under their keys
abbrev pub values_text : Bool → List (List ℕ) → List (Option Kept) → List ℕ
values_text has_cas [] found = []
values_text has_cas (k ∷ ks) found = value_if has_cas k (first_found found) ++ values_text has_cas ks (others_found found)

abbrev pub reply_by : Asked → Step → List ℕ
reply_by (Get has_cas keys) s = values_text has_cas keys s.found ++ notice_text End
reply_by (GetTouch has_cas e keys) s = values_text has_cas keys s.found ++ notice_text End
reply_by (Store how value) s = (answer_of s.now s.cas s.about (Store how value) [] (first_found s.found)).0
reply_by (TooLarge how) s = (answer_of s.now s.cas s.about (TooLarge how) [] (first_found s.found)).0
reply_by (Delete k q) s = (answer_of s.now s.cas s.about (Delete k q) [] (first_found s.found)).0
reply_by (Count up k by q) s = (answer_of s.now s.cas s.about (Count up k by q) [] (first_found s.found)).0
reply_by (Touch k e q) s = (answer_of s.now s.cas s.about (Touch k e q) [] (first_found s.found)).0
reply_by (Flush delay q) s = unless q (notice_text Done)
reply_by (Stats words) s = s.about
reply_by Version s = s.about
reply_by (Verbosity q) s = unless q (notice_text Done)
reply_by Quit s = []
reply_by asked.NoOperation s = notice_text NoOperation
reply_by (MetaGet k flags) s = (answer_of s.now s.cas s.about (MetaGet k flags) [] (first_found s.found)).0
reply_by (MetaStore how flags value) s = (answer_of s.now s.cas s.about (MetaStore how flags value) [] (first_found s.found)).0
reply_by (MetaDelete k flags) s = (answer_of s.now s.cas s.about (MetaDelete k flags) [] (first_found s.found)).0
reply_by (MetaCount up k flags) s = (answer_of s.now s.cas s.about (MetaCount up k flags) [] (first_found s.found)).0
reply_by (MetaShow k is_binary) s = show_text s.now k (first_found s.found)
reply_by (Skip refusal len) s = refusal_text refusal
reply_by (Bad refusal) s = refusal_text refusal

abbrev pub is_last : Asked → Bool
is_last (Get has_cas keys) = false
is_last (GetTouch has_cas e keys) = false
is_last (Store how value) = false
is_last (TooLarge how) = false
is_last (Delete k q) = false
is_last (Count up k by q) = false
is_last (Touch k e q) = false
is_last (Flush delay q) = false
is_last (Stats words) = false
is_last Version = false
is_last (Verbosity q) = false
is_last Quit = true
is_last asked.NoOperation = false
is_last (MetaGet k flags) = false
is_last (MetaStore how flags value) = false
is_last (MetaDelete k flags) = false
is_last (MetaCount up k flags) = false
is_last (MetaShow k is_binary) = false
is_last (Skip refusal len) = false
is_last (Bad refusal) = false

-- the replies to commands, in their order, up to one that closes the connection
unfoldable pub answers : List Step → List ℕ
answers [] = []
answers (s ∷ ss) = reply_by s.command s ++ (if is_last s.command then [] else answers ss)

-- whether one of them closes it
unfoldable pub closes : List Step → Bool
closes [] = false
closes (s ∷ ss) = is_last s.command || closes ss
