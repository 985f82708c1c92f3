-- What the store keeps under a key: 18 bytes, and then the value.
use Rattle.std.specs.Prelude.{◌≡◌, ℕ, ◌^◌, ◌<◌, ◌&&◌, Bool, true, false, List, ◌∷◌, ◌++◌, length, drop, slice_index, nat_lt, nat_le, Option, Some, None, ◌==◌, if◌then◌else◌}
use Rattle.foyer_memcached.specs.declared.item.Item.{Item}
use Rattle.foyer_memcached.specs.Numbers.{four_bytes, four_at, eight_bytes, eight_at}

-- an item without its place in memory
pub record Kept : Type 0 where
  pub is_deleted : Bool  -- whether it only says that the key was deleted
  pub flags : ℕ  -- the client's own number
  pub expiry : ℕ  -- the second of Unix time from which on it isn't seen; 0: none
  pub cas : ℕ  -- its version
  pub value : List ℕ

abbrev pub kept : Item → Kept
kept i = record { is_deleted = i.is_deleted; flags = i.flags; expiry = i.expiry; cas = i.cas; value = i.value.now }

-- an item whose numbers have 4, 4 and 8 bytes
pub record Fits (i : Kept) : Type 0 where
  pub flags : i.flags < 2 ^ 32
  pub expiry : i.expiry < 2 ^ 32
  pub cas : i.cas < 2 ^ 64

-- the second byte: 4 if the key was deleted, else 0
abbrev pub mark_byte : Bool → ℕ
mark_byte true = 4
mark_byte false = 0

abbrev pub mark_of : ℕ → Option Bool
mark_of b = if b == 4 then Some true else if b == 0 then Some false else None

-- an item's bytes: m, the mark, the flags, the expiry, the cas, the value
abbrev pub item_bytes : Kept → List ℕ
item_bytes i = 109 ∷ (mark_byte i.is_deleted ∷ (four_bytes i.flags ++ (four_bytes i.expiry ++ (eight_bytes i.cas ++ i.value))))

abbrev pub item_of : Option Bool → ℕ → ℕ → ℕ → List ℕ → Option Kept
item_of None flags expiry cas value = None
item_of (Some is_deleted) flags expiry cas value = Some (record { is_deleted = is_deleted; flags = flags; expiry = expiry; cas = cas; value = value })

-- the item that the bytes are, if they are one
unfoldable pub item_at : List ℕ → Option Kept
item_at bytes =
    if nat_lt (length bytes) 18 then None
    else if slice_index bytes 0 == 109 then item_of (mark_of (slice_index bytes 1)) (four_at 2 bytes) (four_at 6 bytes) (eight_at 10 bytes) (drop 18 bytes)
    else None

-- what was returned, seen by view, is what the definition reads
abbrev pub Reads : {X Y : Type 0} → (X → Y) → Option X → Option Y → Type 0
Reads view (Some x) read = read ≡ Some (view x)
Reads view None read = read ≡ None

-- the expiry has come
abbrev pub is_over : ℕ → Kept → Bool
is_over now i = nat_lt 0 i.expiry && nat_le i.expiry now

-- what a client sees at a time of what is kept: nothing if the key was deleted or the item's expiry has come
abbrev pub visible : ℕ → Option Kept → Option Kept
visible now None = None
visible now (Some i) = if i.is_deleted then None else if is_over now i then None else Some i
