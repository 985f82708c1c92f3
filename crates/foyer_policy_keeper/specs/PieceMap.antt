-- What is kept: for each hash and key a piece with its number, or none. A key is asked for by `==`, whose meaning is `eq`.
use Rattle.std.specs.Prelude.{◌≡◌, ℕ, ◌<◌, ◌≤◌, ◌==◌, Bool, true, ◌&&◌, not, if◌then◌else◌, nat_eq, Option, Some, None, IsSome, List, [], find, filter, ◌⊎◌, Result, Ok, Err}
use Rattle.std.specs.Option.{ForSome, option_map}
use Rattle.std.specs.Map.{lookup}
use Rattle.foyer_policy_piece.specs.Record.{Record}
use Rattle.foyer_policy_piece.specs.Referred.{Referred}
use Rattle.foyer_policy_keeper.specs.declared.keeper.shard.NotKept.{NotKept}

-- the pieces of one hash
abbrev pub Pieces : Type 0 → Type 0 → Type 0 → Type 0
Pieces K V P = List (Referred K V P)

-- the same, and how many more have room there
pub record Roomy (K V P : Type 0) : Type 0 where
  pub pieces : Pieces K V P
  pub room : ℕ

-- the pieces of each hash that has some
abbrev pub PieceMap : Type 0 → Type 0 → Type 0 → Type 0
PieceMap K V P = List (ℕ × Roomy K V P)

-- what contracts see of a shard: its pieces, how many more hashes have room, and the number that was given last
pub record Shelf (K V P : Type 0) : Type 0 where
  pub map : PieceMap K V P
  pub room : ℕ
  pub last : ℕ

-- the pieces of a hash
abbrev pub pieces_in : {K V P : Type 0} → Option (Roomy K V P) → Pieces K V P
pieces_in None = []
pieces_in (Some bucket) = bucket.pieces

abbrev pub pieces_at : {K V P : Type 0} → PieceMap K V P → ℕ → Pieces K V P
pieces_at map hash = pieces_in (lookup (nat_eq hash) map)

-- a release by a number removes only what has it
abbrev pub without_number : {K V P : Type 0} → ℕ → Option (Referred K V P) → Option (Referred K V P)
without_number n None = None
without_number n (Some held) = if held.number == n then None else Some held

module _ {K V P : Type 0} (eq : K → K → Bool) where
  -- the piece of a key among those of its hash
  abbrev pub piece_of : Pieces K V P → K → Option (Referred K V P)
  piece_of pieces key = find (λ held. eq held.piece.key key) pieces

  -- the pieces without those of a key
  abbrev pub without : Pieces K V P → K → Pieces K V P
  without pieces key = filter (λ held. not (eq held.piece.key key)) pieces

  -- the piece of a hash and a key
  abbrev pub piece_at : PieceMap K V P → ℕ → K → Option (Referred K V P)
  piece_at map hash key = piece_of (pieces_at map hash) key

  -- what a look under a hash and a key gives: the piece that is there, or what shows that none is
  abbrev pub IsFound : PieceMap K V P → ℕ → K → Result (Record K V P) NotKept → Type 0
  IsFound map hash key (Ok piece) = option_map (λ held. held.piece) (piece_at map hash key) ≡ Some piece
  IsFound map hash key (Err shown) = (piece_at map hash key ≡ None) × (shown.hash ≡ hash)

  -- what a question under a hash and a key gives: what shows that no piece is there, if none is
  abbrev pub IsLacked : PieceMap K V P → ℕ → K → Option NotKept → Type 0
  IsLacked map hash key None = IsSome (piece_at map hash key)
  IsLacked map hash key (Some shown) = (piece_at map hash key ≡ None) × (shown.hash ≡ hash)

  -- of all pieces of a hash the key's becomes this one, and the other keys keep theirs
  abbrev pub Enters : Pieces K V P → Pieces K V P → Referred K V P → Type 0
  Enters old new held =
      (key : K) → piece_of new key ≡ (if eq held.piece.key key then Some held else piece_of old key)

  -- the hash and the key have this, and all others what they had
  abbrev pub ChangesAt : PieceMap K V P → PieceMap K V P → ℕ → K → Option (Referred K V P) → Type 0
  ChangesAt old new hash key held =
      (h : ℕ) (k : K) → piece_at new h k ≡ (if nat_eq hash h && eq key k then held else piece_at old h k)

  -- each hash and key has what it had
  abbrev pub HoldsSame : PieceMap K V P → PieceMap K V P → Type 0
  HoldsSame old new = (h : ℕ) (k : K) → piece_at new h k ≡ piece_at old h k

  -- a hash has no piece any more, and all others have what they had
  abbrev pub LosesHash : PieceMap K V P → PieceMap K V P → ℕ → Type 0
  LosesHash old new hash =
      (h : ℕ) (k : K) → piece_at new h k ≡ (if nat_eq hash h then None else piece_at old h k)

  -- the piece has this hash, and a key that is equal to this one
  abbrev pub IsOf : ℕ → K → Record K V P → Type 0
  IsOf hash key piece = (piece.hash ≡ hash) × (eq piece.key key ≡ true)

  -- each piece is where its hash is, and has a number of those that were given
  abbrev pub AreOwn : PieceMap K V P → ℕ → Type 0
  AreOwn map last = (hash : ℕ) (key : K) → ForSome (piece_at map hash key) (λ held. (held.piece.hash ≡ hash) × (0 < held.number) × (held.number ≤ last))

  -- a key's piece is there to be replaced, or there is room for one more
  abbrev pub HasPlace : Roomy K V P → K → Type 0
  HasPlace bucket key = IsSome (piece_of bucket.pieces key) ⊎ (0 < bucket.room)

  -- the same of a hash and a key: a hash that has no piece yet takes room of the shard
  abbrev pub HasPlaceIn : ℕ → Option (Roomy K V P) → K → Type 0
  HasPlaceIn room None key = 0 < room
  HasPlaceIn room (Some bucket) key = HasPlace bucket key

  abbrev pub HasRoomFor : Shelf K V P → ℕ → K → Type 0
  HasRoomFor shelf hash key = HasPlaceIn shelf.room (lookup (nat_eq hash) shelf.map) key
