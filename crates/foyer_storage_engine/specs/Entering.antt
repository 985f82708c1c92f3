-- What a keeper's shard holds, as the map of a run of the store.
use Rattle.std.specs.Prelude.{◌≡◌, ℕ, Bool, true, List, Option, Some, None}
use Rattle.std.specs.Option.{option_map}
use Rattle.foyer_core_shared.specs.Content.{Content, Meaning, content_of}
use Rattle.foyer_core_shared.specs.Reply.{Reply}
use Rattle.foyer_core_shared.specs.Reply.TheVariants as reply
use Rattle.foyer_core_store_runs.specs.StoreLaw.{IsEquality}
use Rattle.foyer_core_store_runs.specs.StoreRun.{Kept, Store, entered}
use Rattle.foyer_policy_keeper.specs.PieceMap.{PieceMap, piece_at}
use Rattle.foyer_policy_piece.specs.Referred.{Referred}

-- a piece that is kept, by its encodings
abbrev pub kept_as : {K V P : Type 0} → Meaning K V P → Referred K V P → Kept Content
kept_as m held = record { number = held.number; piece = content_of m held }

-- of each key whose hash is the shard's the run's map has what the shard has
abbrev pub AreKept : {K V P : Type 0} → Meaning K V P → (K → K → Bool) → (is_own : ℕ → Bool) → (List ℕ → ℕ) → PieceMap K V P → (List ℕ → Option (Kept Content)) → Type 0
AreKept {K} m eq is_own hash_of pieces map =
    (k : K) → is_own (hash_of (m.key_of k)) ≡ true → map (m.key_of k) ≡ option_map (kept_as m) (piece_at eq pieces (hash_of (m.key_of k)) k)

-- the piece that a reply queues, with its sequence
abbrev pub queued_as : {K V P A : Type 0} → Meaning K V P → Referred K V P → Reply K V P A → Option (ℕ × Content)
queued_as m held (reply.Queued sequence) = Some (sequence, content_of m held)
queued_as m held answer = None

-- If keys are equal just as their encodings are, and the piece has its key's hash, the shard goes on, for its own hashes, as the map of
-- each run that it showed: by an event that queues the piece under its number, or by none. Which hashes are its own is the keeper's: any
-- set of them will do.
abbrev pub EntersRun : {K V P A : Type 0} → Meaning K V P → (K → K → Bool) → PieceMap K V P → PieceMap K V P → Referred K V P → Reply K V P A → Type 0
EntersRun {K} m eq old new held answer =
    (same : List ℕ → List ℕ → Bool) (hash_of : List ℕ → ℕ) (is_own : ℕ → Bool) (σ : Store Content (List ℕ))
    → IsEquality same → ((a b : K) → eq a b ≡ same (m.key_of a) (m.key_of b)) → held.piece.hash ≡ hash_of (m.key_of held.piece.key)
    → AreKept m eq is_own hash_of old σ.map → AreKept m eq is_own hash_of new (entered same (λ c. c.key) held.number (queued_as m held answer) σ).map
