-- What equally long records take.
use Rattle.std.proofs.Common.{◌≡◌, ℕ, ◌+◌, ◌-◌, ◌*◌, ◌<◌, ◌≤◌, ◌^◌, List, [], ◌∷◌, ◌++◌, length, zero, suc, refl, ap, sym, subst, ◌∙◌, arith}
use Rattle.std.proofs.lemmas.List.{length-append}
use Rattle.std.proofs.lemmas.Bool.{eqb-true}
use Rattle.std.specs.Int.{w64, to_le_bytes}
use Rattle.foyer_format_layout.specs.Each.{Each}
use Rattle.foyer_format_code.specs.CodeLaws.{full_length, number_length}
use Rattle.foyer_format_code.specs.Codes.{number_bytes, counted}
use Rattle.foyer_format_buffer.specs.Entries.{Entry, Entries, FitsBuffer, with_entry, left_of, size_of}
use Rattle.foyer_format_layout.specs.Page.{page_up}
use Rattle.foyer_format_record.specs.Record.{record_bytes}
use Rattle.foyer_format_buffer.proofs.EntriesLemmas.{size_none, size_cons}
use Rattle.foyer_format_record.proofs.RecordBytes.{length-record_bytes}
use Rattle.foyer_format_record.specs.declared.compress.Compression.{Compression}
use Rattle.foyer_format_record.specs.declared.compress.Compression.TheVariants as compression
use Rattle.foyer_ffi.specs.LaidOut.{AreRecords, record_len, greatest}

-- each entry has so many bytes
abbrev pub AreLong : ℕ → List Entry → Type 0
AreLong n es = Each (λ e. length e.bytes ≡ n) es

length-counted : (value : List ℕ) → length (counted value) ≡ 8 + length value
length-counted value =
    let len : length (to_le_bytes w64 (length value)) ≡ 8 = eqb-true _ _ (full_length w64 (length value)) in
    omega (arith, length-append (to_le_bytes w64 (length value)) value, len)

length-record : (hash sequence key : ℕ) (value : List ℕ) → key < 2 ^ 64
    → length (record_bytes hash sequence (number_bytes w64 key) (counted value)) ≡ record_len (length value)
length-record hash sequence key value fits =
    let len : length (number_bytes w64 key) ≡ 8 = number_length w64 key fits in
    length-record_bytes hash sequence (number_bytes w64 key) (counted value) ∙ omega (arith, len, length-counted value)

long_more : (n : ℕ) (es : List Entry) (e : Entry) → AreLong n es → length e.bytes ≡ n → AreLong n (es ++ e ∷ [])
long_more n [] e long is = (is, tt)
long_more n (f ∷ es) e long is = (long.0, long_more n es e long.1 is)

pub not_empty : (n : ℕ) (es : List Entry) → 0 < n → AreLong n es → Each (λ e. 0 < length e.bytes) es
not_empty n [] some long = tt
not_empty n (e ∷ es) some long = (omega (arith, long.0), not_empty n es some long.1)

pub size_long : (n : ℕ) (es : List Entry) → AreLong n es → size_of es ≡ length es * page_up n
size_long n [] long = size_none ∙ omega arith
size_long n (e ∷ es) long =
    size_cons e es ∙ omega (arith, ap page_up long.0, size_long n es long.1)

-- what a push adds to records of one value
pub record IsPushed (value : List ℕ) (old new : Entries) : Type 0 where
  pub each : AreLong (record_len (length value)) new.entries
  pub fits : page_up (record_len (length value)) ≤ old.greatest
  pub greatest : new.greatest ≡ old.greatest
  pub room : new.room ≡ old.room
  pub count : length new.entries ≡ length old.entries + 1

pub pushed : (old new : Entries) (key : ℕ) (value : List ℕ) (c : Compression) (is_encodable : Type 0) → key < 2 ^ 64
    → AreLong (record_len (length value)) old.entries
    → new ≡ with_entry old key key (record_bytes key key (number_bytes w64 key) (counted value))
    → FitsBuffer old c is_encodable (length (counted value) + length (number_bytes w64 key))
    → IsPushed value old new
pushed old new key value c is_encodable word long is fits =
    let len : length (number_bytes w64 key) ≡ 8 = number_length w64 key word in
    let total : 36 + (length (counted value) + length (number_bytes w64 key)) ≡ record_len (length value) =
    omega (arith, len, length-counted value) in
    let bytes : List ℕ = record_bytes key key (number_bytes w64 key) (counted value) in
    let entry : Entry = record { hash = key; sequence = key; bytes = bytes } in
    let P : Entries → Type 0 = λ b. IsPushed value old b in
    subst P (sym is)
    (record {
      each = long_more (record_len (length value)) old.entries entry long (length-record key key key value word);
      fits = subst (λ n. page_up n ≤ old.greatest) total fits.greatest;
      greatest = refl;
      room = refl;
      count = length-append old.entries (entry ∷ []);
    })

-- what a push refuses takes more than there is, or than it may
pub not_pushed : (b : Entries) (key : ℕ) (value : List ℕ) (c : Compression) (is_encodable : Type 0) → key < 2 ^ 64 → c ≡ compression.None
    → is_encodable → (FitsBuffer b c is_encodable (length (counted value) + length (number_bytes w64 key)) → ⊥)
    → record_len (length value) ≤ left_of b → page_up (record_len (length value)) ≤ b.greatest → ⊥
not_pushed b key value c is_encodable word plain coded refuses room most =
    let len : length (number_bytes w64 key) ≡ 8 = number_length w64 key word in
    let total : 36 + (length (counted value) + length (number_bytes w64 key)) ≡ record_len (length value) =
    omega (arith, len, length-counted value) in
    refuses (record {
      plain = plain;
      encoded = coded;
      room = omega (arith, room, total);
      greatest = subst (λ n. page_up n ≤ b.greatest) (sym total) most;
    })

-- Records of the value under all keys below this one were taken, in so many bytes.
pub record AreTaken (value : List ℕ) (records key bytes : ℕ) : Type 0 where
  pub sum : bytes ≡ key * page_up (record_len (length value))
  pub few : key ≤ records
  pub fits : 0 < key → page_up (record_len (length value)) ≤ greatest

-- either part shows that the page is short
either : (key n page most : ℕ) → (0 < key → page ≤ most) → (0 < n → page ≤ most) → 0 < key + n → page ≤ most
either zero n page most before now some = now (omega (arith, some))
either (suc key) n page most before now some = before (omega arith)

pub taken_more : (value items : List ℕ) (es : List Entry) (records key bytes sum most : ℕ) → items ≡ value
    → AreTaken value records key bytes → AreLong (record_len (length items)) es
    → (0 < length es → page_up (record_len (length items)) ≤ most) → most ≡ greatest
    → key + length es ≤ records → sum ≡ bytes + size_of es → AreTaken value records (key + length es) sum
taken_more value items es records key bytes sum most same taken long fits is few more =
    let len : ℕ = record_len (length value) in
    let each : AreLong len es = subst (λ (v : List ℕ). AreLong (record_len (length v)) es) same long in
    let page : page_up (record_len (length items)) ≡ page_up len = ap (λ (v : List ℕ). page_up (record_len (length v))) same in
    record {
      sum = omega (arith, more, taken.sum, size_long len es each);
      few = few;
      fits = either key (length es) (page_up len) greatest taken.fits (λ some. omega (arith, fits some, is, page));
    }

pub are_records : (value : List ℕ) (records key bytes : ℕ) → AreTaken value records key bytes → AreRecords (length value) records bytes
are_records value records key bytes taken = record { count = key; few = taken.few; fits = taken.fits; sum = taken.sum }

-- as many records or more pass what these pass
pub passes : (most page key len records : ℕ) → key + len ≤ records → most ≤ key * page + len * page → most ≤ records * page
passes most page key len records few over =
    let all : key + len + (records - (key + len)) ≡ records = omega (arith, few) in
    subst (λ n. most ≤ n * page) all (omega (arith, over))

pub too_long : (page most : ℕ) → (page ≤ most → ⊥) → most < page
too_long page most over = grind (arith, over)
