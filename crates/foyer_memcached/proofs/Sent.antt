-- A command that was written is read as that command.
use Rattle.std.proofs.Common.{◌≡◌, ◌≢◌, ℕ, ◌+◌, ◌-◌, ◌*◌, ◌^◌, ◌<◌, ◌≤◌, Bool, true, false, cond, eqb, ltb, List, [], ◌∷◌, ◌++◌, length, get_or, take, drop, Some, None, Ok, refl, sym, ap, ◌∙◌, append_assoc, arith}
use Rattle.std.specs.Prelude.{codes}
use Rattle.std.specs.Char.{is_ascii_digit, digit_value}
use Rattle.std.specs.Fmt.{decimal}
use Rattle.std.specs.Str.Parse.{AllDigits, digits_value, digits_value_after}
use Rattle.std.proofs.lemmas.Bool.{ne_eqb, le-ltb, lt-ltb, eq-eqb}
use Rattle.std.proofs.lemmas.Fmt.{decimal_is_IsNumeral}
use Rattle.std.proofs.lemmas.List.{length-append, take_at, drop_at}
use Rattle.std.proofs.lemmas.Str.{digit_value_digit}
use Rattle.std.proofs.lemmas.Str.Parse.{digit_at}
use Rattle.foyer_memcached.specs.declared.command.Limits.{Limits}
use Rattle.foyer_memcached.specs.declared.expiry.Expiry.{Expiry}
use Rattle.foyer_memcached.specs.declared.expiry.Expiry.TheVariants.{Past, After}
use Rattle.foyer_memcached.specs.declared.verb.Mode.{Mode}
use Rattle.foyer_memcached.specs.declared.verb.Mode.TheVariants as mode
use Rattle.foyer_memcached.specs.Asked.{Asked, Said, Storing, Whole, Data, Get, GetTouch, Store, TooLarge, Delete, Count, Touch, Flush, Stats, Version, Verbosity, Quit, NoOperation, MetaGet, MetaStore, MetaDelete, MetaCount, MetaShow, Skip, Bad}
use Rattle.foyer_memcached.specs.Bytes.{Without, IsWord, AreWords, line_bytes, quiet_words, expiry_word, mode_word, version_words, words_for, data_for, command_bytes, IsKey, ExpiryFits, VersionFits, AreKeys, PartsFit, Fits}
use Rattle.foyer_memcached.specs.Command.{after_line, command_at, item_len}
use Rattle.foyer_memcached.specs.Expiry.{expiry_of}
use Rattle.foyer_memcached.specs.Lines.{is, said_at, verb_of, keys_at}
use Rattle.foyer_memcached.specs.Words.{decimal_after, in_64_bits, number_of}
use Rattle.foyer_memcached.proofs.Spelled.{line_again}
use Rattle.foyer_memcached.proofs.Values.{value_read}

-- ---- words that are known

has_none : ℕ → List ℕ → Bool
has_none a [] = true
has_none a (b ∷ bs) = cond (eqb b a) false (has_none a bs)

none_of : (a : ℕ) (w : List ℕ) → has_none a w ≡ true → Without a w
unfolding has_none
none_of a [] e = tt
none_of a (b ∷ bs) e = go (eqb b a) refl (none_of a bs) e
  where
    go : (t : Bool) → eqb b a ≡ t → (has_none a bs ≡ true → Without a bs) → cond t false (has_none a bs) ≡ true → (b ≢ a) × Without a bs
    go true is rest e = absurd cc
    go false is rest e = (λ same. absurd (differ (eq-eqb b a same) is), rest e)
      where
        differ : eqb b a ≡ true → eqb b a ≡ false → ⊥
        differ p q = cc

known : (w : List ℕ) → 0 < length w → has_none 32 w ≡ true → has_none 10 w ≡ true → IsWord w
known w some blank feed = (some, none_of 32 w blank, none_of 10 w feed)

-- ---- numbers

digit_first : (d : ℕ) (ds : List ℕ) → AllDigits 10 (d ∷ ds) → (48 ≤ d) × (d ≤ 57)
digit_first d ds all = let in_range = digit_at (d ∷ ds) 0 all (omega arith) in (in_range.0, in_range.1)

digits_plain : (a : ℕ) (ds : List ℕ) → a < 48 → AllDigits 10 ds → Without a ds
digits_plain a [] low all = tt
digits_plain a (d ∷ ds) low all = (λ (e : d ≡ a). absurd (omega (arith, e, low, (digit_first d ds all).0)), digits_plain a ds low all.1)

digits_read : (ds : List ℕ) (n : ℕ) → AllDigits 10 ds → decimal_after n ds ≡ Some (digits_value_after 10 n ds)
unfolding decimal_after
digits_read [] n all = refl
digits_read (d ∷ ds) n all =
    let r = digit_first d ds all in
    let low : ltb d 48 ≡ false = le-ltb d 48 r.0 in
    let high : ltb 57 d ≡ false = le-ltb 57 d r.1 in
    let worth : digit_value d ≡ d - 48 = omega (arith, digit_value_digit d (r.0, r.1)) in
    let digit : is_ascii_digit d ≡ true = grind (arith, r.0, r.1) in
    let next : decimal_after (n * 10 + (d - 48)) ds ≡ Some (digits_value_after 10 (n * 10 + (d - 48)) ds) = digits_read ds (n * 10 + (d - 48)) all.1 in
    ap (λ (t : Bool). cond t (decimal_after (n * 10 + (d - 48)) ds) None) digit ∙ next ∙ ap (λ (v : ℕ). Some (digits_value_after 10 (n * 10 + v) ds)) (sym worth)

numeral_read : (ds : List ℕ) → 0 < length ds → AllDigits 10 ds → digits_value 10 ds < 2 ^ 64 → number_of ds ≡ Some (digits_value 10 ds)
unfolding number_of
numeral_read [] some all small = absurd (omega (arith, some))
numeral_read (d ∷ ds) some all small = ap in_64_bits (digits_read (d ∷ ds) 0 all) ∙ (rw (lt-ltb (digits_value 10 (d ∷ ds)) (2 ^ 64) small) refl)

pub number_again : (n : ℕ) → n < 2 ^ 64 → number_of (decimal n) ≡ Some n
number_again n small =
    let is = decimal_is_IsNumeral n small in
    numeral_read (decimal n) is.0.0 is.0.1 (omega (arith, is.1, small)) ∙ ap (λ (m : ℕ). Some m) is.1

number_word : (n : ℕ) → n < 2 ^ 64 → IsWord (decimal n)
number_word n small =
    let is = decimal_is_IsNumeral n small in
    (is.0.0, digits_plain 32 (decimal n) (omega arith) is.0.1, digits_plain 10 (decimal n) (omega arith) is.0.1)

first_digit : (ds : List ℕ) → 0 < length ds → AllDigits 10 ds → 48 ≤ get_or ds 0 0
first_digit [] some all = absurd (omega (arith, some))
first_digit (d ∷ ds) some all = (digit_first d ds all).0

pub expiry_again : (e : Expiry) → ExpiryFits e → expiry_of (expiry_word e) ≡ Some e
unfolding expiry_of number_of decimal_after
expiry_again Past fits = refl
expiry_again (After n) fits =
    let is = decimal_is_IsNumeral n fits in
    let no_minus : eqb (get_or (decimal n) 0 0) 45 ≡ false = ne_eqb _ 45 (λ e. omega (arith, e, first_digit (decimal n) is.0.0 is.0.1)) in
    rw (no_minus, number_again n fits) refl

pub expiry_is_word : (e : Expiry) → ExpiryFits e → IsWord (expiry_word e)
unfolding has_none
expiry_is_word Past fits = known (codes "-1") (omega arith) refl refl
expiry_is_word (After n) fits = number_word n fits

-- ---- the words of commands are words

quiet_are : (q : Bool) → AreWords (quiet_words q)
unfolding has_none
quiet_are true = (known (codes "noreply") (omega arith) refl refl, tt)
quiet_are false = tt

mode_is : (m : Mode) → IsWord (mode_word m)
unfolding has_none
mode_is mode.Set = known (codes "set") (omega arith) refl refl
mode_is mode.Add = known (codes "add") (omega arith) refl refl
mode_is mode.Replace = known (codes "replace") (omega arith) refl refl
mode_is mode.Append = known (codes "append") (omega arith) refl refl
mode_is mode.Prepend = known (codes "prepend") (omega arith) refl refl
mode_is mode.Cas = known (codes "cas") (omega arith) refl refl

version_are : (m : Mode) (cas : ℕ) (ws : List (List ℕ)) → VersionFits m cas → AreWords ws → AreWords (version_words m cas ws)
version_are mode.Set cas ws fits are = are
version_are mode.Add cas ws fits are = are
version_are mode.Replace cas ws fits are = are
version_are mode.Append cas ws fits are = are
version_are mode.Prepend cas ws fits are = are
version_are mode.Cas cas ws fits are = (number_word cas fits, are)

words_are : (limits : Limits) (c : Asked) → PartsFit limits c → AreWords (words_for c)
unfolding has_none
words_are limits (Get false keys) fits = (known (codes "get") (omega arith) refl refl, fits.1)
words_are limits (Get true keys) fits = (known (codes "gets") (omega arith) refl refl, fits.1)
words_are limits (GetTouch false e keys) fits = (known (codes "gat") (omega arith) refl refl, (expiry_is_word e fits.0, fits.1.1))
words_are limits (GetTouch true e keys) fits = (known (codes "gats") (omega arith) refl refl, (expiry_is_word e fits.0, fits.1.1))
words_are limits (Store s value) fits =
    (mode_is s.mode, (fits.key.0, (number_word s.flags (omega (arith, fits.flags)), (expiry_is_word s.expiry fits.expiry, (number_word s.len (omega (arith, fits.most)), version_are s.mode s.cas (quiet_words s.is_quiet) fits.version (quiet_are s.is_quiet))))))
words_are limits (TooLarge s) fits = absurd fits
words_are limits (Delete key q) fits = (known (codes "delete") (omega arith) refl refl, (fits.0, quiet_are q))
words_are limits (Count true key by q) fits = (known (codes "incr") (omega arith) refl refl, (fits.0.0, (number_word by fits.1, quiet_are q)))
words_are limits (Count false key by q) fits = (known (codes "decr") (omega arith) refl refl, (fits.0.0, (number_word by fits.1, quiet_are q)))
words_are limits (Touch key e q) fits = (known (codes "touch") (omega arith) refl refl, (fits.0.0, (expiry_is_word e fits.1, quiet_are q)))
words_are limits (Flush e q) fits = (known (codes "flush_all") (omega arith) refl refl, (expiry_is_word e fits, quiet_are q))
words_are limits (Stats about) fits = (known (codes "stats") (omega arith) refl refl, fits)
words_are limits Version fits = (known (codes "version") (omega arith) refl refl, tt)
words_are limits (Verbosity q) fits = (known (codes "verbosity") (omega arith) refl refl, (known (codes "1") (omega arith) refl refl, quiet_are q))
words_are limits Quit fits = (known (codes "quit") (omega arith) refl refl, tt)
words_are limits NoOperation fits = (known (codes "mn") (omega arith) refl refl, tt)
words_are limits (MetaGet key flags) fits = absurd fits
words_are limits (MetaStore s flags value) fits = absurd fits
words_are limits (MetaDelete key flags) fits = absurd fits
words_are limits (MetaCount up key flags) fits = absurd fits
words_are limits (MetaShow key is_binary) fits = absurd fits
words_are limits (Skip r len) fits = absurd fits
words_are limits (Bad r) fits = absurd fits

-- ---- and say the command

keys_again : (keys : List (List ℕ)) → AreKeys keys → keys_at keys ≡ Ok keys
keys_again [] fits = absurd (omega (arith, fits.0))
keys_again (k ∷ ks) fits = rw fits.2 refl

key_short : (key : List ℕ) → IsKey key → ltb 250 (length key) ≡ false
key_short key fits = le-ltb 250 (length key) fits.1

get_said : (has_cas : Bool) (keys : List (List ℕ)) → AreKeys keys → said_at (words_for (Get has_cas keys)) ≡ Whole (Get has_cas keys)
unfolding said_at verb_of
get_said true keys fits = rw (keys_again keys fits) refl
get_said false keys fits = rw (keys_again keys fits) refl

get_touch_said : (has_cas : Bool) (e : Expiry) (keys : List (List ℕ)) → ExpiryFits e → AreKeys keys → said_at (words_for (GetTouch has_cas e keys)) ≡ Whole (GetTouch has_cas e keys)
unfolding said_at verb_of
get_touch_said true e keys ef fits = rw (expiry_again e ef, keys_again keys fits) refl
get_touch_said false e keys ef fits = rw (expiry_again e ef, keys_again keys fits) refl

delete_said : (key : List ℕ) (q : Bool) → IsKey key → said_at (words_for (Delete key q)) ≡ Whole (Delete key q)
unfolding said_at verb_of
delete_said key true fits = rw (key_short key fits) refl
delete_said key false fits = rw (key_short key fits) refl

count_said : (up : Bool) (key : List ℕ) (by : ℕ) (q : Bool) → IsKey key → by < 2 ^ 64 → said_at (words_for (Count up key by q)) ≡ Whole (Count up key by q)
unfolding said_at verb_of
count_said true key by true fits small = rw (key_short key fits, number_again by small) refl
count_said true key by false fits small = rw (key_short key fits, number_again by small) refl
count_said false key by true fits small = rw (key_short key fits, number_again by small) refl
count_said false key by false fits small = rw (key_short key fits, number_again by small) refl

touch_said : (key : List ℕ) (e : Expiry) (q : Bool) → IsKey key → ExpiryFits e → said_at (words_for (Touch key e q)) ≡ Whole (Touch key e q)
unfolding said_at verb_of
touch_said key e true fits ef = rw (key_short key fits, expiry_again e ef) refl
touch_said key e false fits ef = rw (key_short key fits, expiry_again e ef) refl

no_noreply : (e : Expiry) → ExpiryFits e → is (expiry_word e) (codes "noreply") ≡ false
no_noreply Past fits = refl
no_noreply (After n) fits =
    let given = decimal_is_IsNumeral n fits in
    go (decimal n) given.0.0 given.0.1
  where
    go : (ds : List ℕ) → 0 < length ds → AllDigits 10 ds → is ds (codes "noreply") ≡ false
    go [] some all = absurd (omega (arith, some))
    go (d ∷ ds) some all =
        let other : eqb d 110 ≡ false = ne_eqb d 110 (λ e. omega (arith, e, (digit_first d ds all).1)) in
        rw other refl

flush_said : (e : Expiry) (q : Bool) → ExpiryFits e → said_at (words_for (Flush e q)) ≡ Whole (Flush e q)
unfolding said_at verb_of
flush_said e true ef = rw (expiry_again e ef) refl
flush_said e false ef = rw (no_noreply e ef, expiry_again e ef) refl

verbosity_said : (q : Bool) → said_at (words_for (Verbosity q)) ≡ Whole (Verbosity q)
unfolding said_at verb_of number_of decimal_after
verbosity_said true = refl
verbosity_said false = refl

stats_said : (about : List (List ℕ)) → said_at (words_for (Stats about)) ≡ Whole (Stats about)
unfolding said_at verb_of
stats_said about = refl

version_said : said_at (words_for Version) ≡ Whole Version
unfolding said_at verb_of
version_said = refl

quit_said : said_at (words_for Quit) ≡ Whole Quit
unfolding said_at verb_of
quit_said = refl

store_said : (m : Mode) (key : List ℕ) (flags : ℕ) (e : Expiry) (len cas : ℕ) (q : Bool) (value : List ℕ) → IsKey key → flags < 2 ^ 32 → ExpiryFits e → len ≤ 2147483645 → VersionFits m cas
    → said_at (words_for (Store (record { mode = m; key = key; flags = flags; expiry = e; len = len; cas = cas; is_quiet = q }) value)) ≡ Data (record { mode = m; key = key; flags = flags; expiry = e; len = len; cas = cas; is_quiet = q }) None
unfolding said_at verb_of
store_said m key flags e len cas q value fits few ef most version = go m q version
  where
    f : number_of (decimal flags) ≡ Some flags
    f = number_again flags (omega (arith, few))

    l : number_of (decimal len) ≡ Some len
    l = number_again len (omega (arith, most))

    few_flags : ltb 4294967295 flags ≡ false
    few_flags = le-ltb 4294967295 flags (omega (arith, few))

    few_bytes : ltb 2147483645 len ≡ false
    few_bytes = le-ltb 2147483645 len most

    go : (m : Mode) (q : Bool) → VersionFits m cas → said_at (words_for (Store (record { mode = m; key = key; flags = flags; expiry = e; len = len; cas = cas; is_quiet = q }) value)) ≡ Data (record { mode = m; key = key; flags = flags; expiry = e; len = len; cas = cas; is_quiet = q }) None
    go mode.Set true v = rw (f, l, expiry_again e ef, key_short key fits, few_flags, few_bytes, v) refl
    go mode.Set false v = rw (f, l, expiry_again e ef, key_short key fits, few_flags, few_bytes, v) refl
    go mode.Add true v = rw (f, l, expiry_again e ef, key_short key fits, few_flags, few_bytes, v) refl
    go mode.Add false v = rw (f, l, expiry_again e ef, key_short key fits, few_flags, few_bytes, v) refl
    go mode.Replace true v = rw (f, l, expiry_again e ef, key_short key fits, few_flags, few_bytes, v) refl
    go mode.Replace false v = rw (f, l, expiry_again e ef, key_short key fits, few_flags, few_bytes, v) refl
    go mode.Append true v = rw (f, l, expiry_again e ef, key_short key fits, few_flags, few_bytes, v) refl
    go mode.Append false v = rw (f, l, expiry_again e ef, key_short key fits, few_flags, few_bytes, v) refl
    go mode.Prepend true v = rw (f, l, expiry_again e ef, key_short key fits, few_flags, few_bytes, v) refl
    go mode.Prepend false v = rw (f, l, expiry_again e ef, key_short key fits, few_flags, few_bytes, v) refl
    go mode.Cas true v = rw (f, l, expiry_again e ef, number_again cas v, key_short key fits, few_flags, few_bytes) refl
    go mode.Cas false v = rw (f, l, expiry_again e ef, number_again cas v, key_short key fits, few_flags, few_bytes) refl

nothing_said : said_at (words_for NoOperation) ≡ Whole NoOperation
unfolding said_at verb_of
nothing_said = refl

-- ---- commands

after_value : (limits : Limits) (s : Storing) (value rest : List ℕ) → s.len ≡ length value → item_len s ≤ limits.item → after_line limits (Data s None) ((value ++ 13 ∷ (10 ∷ [])) ++ rest) ≡ Ok (Store s value, rest)
after_value limits s value rest len few =
    let parts : (value ++ 13 ∷ (10 ∷ [])) ++ rest ≡ value ++ 13 ∷ (10 ∷ rest) = append_assoc value (13 ∷ (10 ∷ [])) rest in
    let behind : drop s.len (value ++ 13 ∷ (10 ∷ rest)) ≡ 13 ∷ (10 ∷ rest) = drop_at value (13 ∷ (10 ∷ rest)) s.len (sym len) in
    let front : take s.len (value ++ 13 ∷ (10 ∷ rest)) ≡ value = take_at value (13 ∷ (10 ∷ rest)) s.len (sym len) in
    let end : is (take 2 (drop s.len (value ++ 13 ∷ (10 ∷ rest)))) (13 ∷ (10 ∷ [])) ≡ true = ap (λ (b : List ℕ). is (take 2 b) (13 ∷ (10 ∷ []))) behind in
    ap (after_line limits (Data s None)) parts
    ∙ value_read limits s None (value ++ 13 ∷ (10 ∷ rest)) true few (omega (arith, len, length-append value (13 ∷ (10 ∷ rest)))) end
    ∙ (rw (front, behind) refl)

after_words : (limits : Limits) (c : Asked) (rest : List ℕ) → PartsFit limits c → after_line limits (said_at (words_for c)) (data_for c ++ rest) ≡ Ok (c, rest)
after_words limits (Get has_cas keys) rest fits = ap (λ (s : Said). after_line limits s rest) (get_said has_cas keys fits)
after_words limits (GetTouch has_cas e keys) rest fits = ap (λ (s : Said). after_line limits s rest) (get_touch_said has_cas e keys fits.0 fits.1)
after_words limits (Store s value) rest fits =
    ap (λ (a : Said). after_line limits a (data_for (Store s value) ++ rest)) (store_said s.mode s.key s.flags s.expiry s.len s.cas s.is_quiet value fits.key fits.flags fits.expiry fits.most fits.version)
    ∙ after_value limits s value rest fits.len fits.item
after_words limits (TooLarge s) rest fits = absurd fits
after_words limits (Delete key q) rest fits = ap (λ (s : Said). after_line limits s rest) (delete_said key q fits)
after_words limits (Count up key by q) rest fits = ap (λ (s : Said). after_line limits s rest) (count_said up key by q fits.0 fits.1)
after_words limits (Touch key e q) rest fits = ap (λ (s : Said). after_line limits s rest) (touch_said key e q fits.0 fits.1)
after_words limits (Flush e q) rest fits = ap (λ (s : Said). after_line limits s rest) (flush_said e q fits)
after_words limits (Stats about) rest fits = ap (λ (s : Said). after_line limits s rest) (stats_said about)
after_words limits Version rest fits = ap (λ (s : Said). after_line limits s rest) version_said
after_words limits (Verbosity q) rest fits = ap (λ (s : Said). after_line limits s rest) (verbosity_said q)
after_words limits Quit rest fits = ap (λ (s : Said). after_line limits s rest) quit_said
after_words limits NoOperation rest fits = ap (λ (s : Said). after_line limits s rest) nothing_said
after_words limits (MetaGet key flags) rest fits = absurd fits
after_words limits (MetaStore s flags value) rest fits = absurd fits
after_words limits (MetaDelete key flags) rest fits = absurd fits
after_words limits (MetaCount up key flags) rest fits = absurd fits
after_words limits (MetaShow key is_binary) rest fits = absurd fits
after_words limits (Skip r len) rest fits = absurd fits
after_words limits (Bad r) rest fits = absurd fits

pub command_again : (limits : Limits) (c : Asked) (rest : List ℕ) → Fits limits c → command_at limits (command_bytes c ++ rest) ≡ Ok (c, rest)
command_again limits c rest fits =
    ap (command_at limits) (append_assoc (line_bytes (words_for c)) (data_for c) rest)
    ∙ line_again limits (words_for c) (data_for c ++ rest) (words_are limits c fits.0) fits.1
    ∙ after_words limits c rest fits.0
