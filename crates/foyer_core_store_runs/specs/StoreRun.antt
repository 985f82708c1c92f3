-- Runs of a store: the events of a core's world, with the keeper's map beside them.
use Rattle.std.specs.Prelude.{◌≡◌, ◌≢◌, ℕ, ◌==◌, Bool, if◌then◌else◌, List, [], ◌∷◌, ◌++◌, Option, Some, None}
use Rattle.foyer_core_model.specs.Numbers.{put}
use Rattle.foyer_core_model.specs.State.{Submission, Piece}
use Rattle.foyer_core_model.specs.Rules.{Rules, Splitting}
use Rattle.foyer_core_model.specs.Step.{Enqueue, Receive, FlushEnd}
use Rattle.foyer_core_model.specs.Reply.{Queued, Received, Ended}
use Rattle.foyer_core_model.specs.World.{World, WorldEvent, Applies, after, MayHappen}
use Rattle.foyer_core_model.specs.Opened.{IsOpened}

-- what the keeper has for a key: a piece, and the number of its insertion
pub record Kept (C : Type 0) : Type 0 where
  pub number : ℕ
  pub piece : C

-- all that is of a store: its core's world, the keeper's map, and the pieces on their way
pub record Store (C Key : Type 0) : Type 0 where
  pub world : World C
  pub map : Key → Option (Kept C)
  pub queued : ℕ → Option C  -- by its sequence, each piece that was queued
  pub held : ℕ → Option C  -- those of them that aren't released
  pub numbers : ℕ → ℕ  -- by the same, the number of its insertion; 0 before it
  pub back : ℕ → List (ℕ × C)  -- by flusher, the pieces that it gave back and that aren't released, with their sequences

-- an event of the world, with the number that an insertion gets if the event is one; or the release of the piece
-- that a flusher gave back first
pub data StoreEvent (C : Type 0) : Type 0 where
  Happens : WorldEvent C → (number : ℕ) → StoreEvent C
  Releases : (flusher : ℕ) → StoreEvent C

-- the piece that an event queues, with its sequence
abbrev pub queued_by : {C : Type 0} → WorldEvent C → Option (ℕ × C)
queued_by (Applies (Enqueue h n age c) (Queued s) new) = Some (s, c)
queued_by event = None

-- the piece at the front of a queue
abbrev pub front_piece : {C : Type 0} → List (Submission C) → List (ℕ × C)
front_piece (Piece h s n c ∷ rest) = (s, c) ∷ []
front_piece queue = []

-- what each flusher gave back, after an event: a piece that it didn't take, or those of a batch that ends
abbrev pub back_after : {C : Type 0} → World C → WorldEvent C → (ℕ → List (ℕ × C)) → ℕ → List (ℕ × C)
back_after w (Applies (Receive f) (Received (Some d)) new) back = put back f (back f ++ front_piece (w.core.flushers f).queue)
back_after w (Applies (FlushEnd f) (Ended pieces waits) new) back = put back f (back f ++ pieces)
back_after w event back = back

-- m with v at a key
abbrev pub put_key : {Key X : Type 0} → (Key → Key → Bool) → (Key → X) → Key → X → Key → X
put_key same m k v q = if same q k then v else m q

-- a release by a number removes only what has it
abbrev pub without_number : {C : Type 0} → ℕ → Option (Kept C) → Option (Kept C)
without_number n None = None
without_number n (Some kept) = if kept.number == n then None else Some kept

module _ {C Key : Type 0} (same : Key → Key → Bool) (key_of : C → Key) where
  -- a piece that is queued is put into the map under a number
  abbrev pub entered : ℕ → Option (ℕ × C) → Store C Key → Store C Key
  entered number None σ = σ
  entered number (Some p) σ =
      record σ {
        map = put_key same σ.map (key_of p.1) (Some (record { number = number; piece = p.1 }));
        queued = put σ.queued p.0 (Some p.1);
        held = put σ.held p.0 (Some p.1);
        numbers = put σ.numbers p.0 number;
      }

  -- the first of the pieces that a flusher gave back is released
  abbrev pub first_released : ℕ → List (ℕ × C) → Store C Key → Store C Key
  first_released f [] σ = σ
  first_released f (p ∷ ps) σ =
      record σ {
        map = put_key same σ.map (key_of p.1) (without_number (σ.numbers p.0) (σ.map (key_of p.1)));
        held = put σ.held p.0 None;
        back = put σ.back f ps;
      }

-- a piece carries the hash of its key
abbrev pub CarriesHash : {C Key : Type 0} → (C → Key) → (Key → ℕ) → WorldEvent C → Type 0
CarriesHash key_of hash_of (Applies (Enqueue h n age c) reply new) = h ≡ hash_of (key_of c)
CarriesHash key_of hash_of event = Unit {0}

-- an insertion has a number from 1 up, which no other insertion of its key has
abbrev pub IsNumbered : {C Key : Type 0} → (C → Key) → (ℕ → Option C) → (ℕ → ℕ) → ℕ → Option (ℕ × C) → Type 0
IsNumbered key_of queued numbers number None = Unit {0}
IsNumbered {C} key_of queued numbers number (Some p) =
    (number ≢ 0) × ((u : ℕ) (c : C) → queued u ≡ Some c → key_of c ≡ key_of p.1 → numbers u ≢ number)

module _ {C Key : Type 0} (same : Key → Key → Bool) (key_of : C → Key) (rules : Rules C) where
  -- what an event of a store leaves
  abbrev pub store_after : Store C Key → StoreEvent C → Store C Key
  store_after σ (Happens event number) =
      entered same key_of number (queued_by event) (record σ { world = after rules σ.world event; back = back_after σ.world event σ.back })
  store_after σ (Releases f) = first_released same key_of f (σ.back f) σ

  -- what a list of them leaves
  abbrev pub store_after_all : Store C Key → List (StoreEvent C) → Store C Key
  store_after_all σ [] = σ
  store_after_all σ (e ∷ es) = store_after_all (store_after σ e) es

module _ {C Key : Type 0} (same : Key → Key → Bool) (key_of : C → Key) (hash_of : Key → ℕ) (rules : Rules C) (Splits : Splitting C) (is_value : C → Type 0) where
  -- what may happen in a store
  abbrev pub MayHappenIn : Store C Key → StoreEvent C → Type 0
  MayHappenIn σ (Happens event number) =
      MayHappen rules Splits is_value σ.world event × CarriesHash key_of hash_of event × IsNumbered key_of σ.queued σ.numbers number (queued_by event)
  MayHappenIn σ (Releases f) = Unit {0}

  -- each event may, after those before it
  abbrev pub MayAllHappenIn : Store C Key → List (StoreEvent C) → Type 0
  MayAllHappenIn σ [] = Unit {0}
  MayAllHappenIn σ (e ∷ es) = MayHappenIn σ e × MayAllHappenIn (store_after same key_of rules σ e) es

-- an opened store has nothing in its keeper
pub record IsOpenedStore {C Key : Type 0} (rules : Rules C) (σ : Store C Key) : Type 0 where
  pub world : IsOpened rules σ.world
  pub map : (k : Key) → σ.map k ≡ None
  pub queued : (s : ℕ) → σ.queued s ≡ None
  pub held : (s : ℕ) → σ.held s ≡ None
  pub numbers : (s : ℕ) → σ.numbers s ≡ 0
  pub back : (f : ℕ) → σ.back f ≡ []
