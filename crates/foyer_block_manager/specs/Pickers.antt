-- What pickers see, and what they answer.
use Rattle.std.specs.Prelude.{◌≡◌, ℕ, ◌-◌, ◌*◌, ◌/◌, ◌==◌, ◌<◌, ◌≤◌, ◌⊎◌, nat_lt, nat_le, Bool, true, false, not, ◌&&◌, ◌||◌, if◌then◌else◌, List, [], ◌∷◌, ◌++◌, length, take, map, Option, Some, None, slice_get}
use Rattle.std.specs.List.{filter}
use Rattle.foyer_core_model.specs.Ids.{is_id_in, without_id}
use Rattle.foyer_block_manager.specs.Managed.{is_evictable}
use Rattle.foyer_block_manager.specs.declared.block.states.BlockState.{BlockState}

-- the blocks by their ids, the ids of the evictable ones, and how many clean ones may be handed out
pub record Info : Type 0 where
  pub blocks : List BlockState
  pub evictable : List ℕ
  pub clean : ℕ

abbrev pub is_evictable_in : List BlockState → ℕ → Bool
is_evictable_in blocks b = is_evictable (slice_get blocks b)

-- an answer that is an evictable block; another is no pick
abbrev pub is_pick : List BlockState → Option ℕ → Bool
is_pick blocks None = false
is_pick blocks (Some b) = is_evictable_in blocks b

-- what each picker would answer, with what it would put on probation
abbrev pub Answer : Type 0
Answer = Option ℕ × List ℕ

-- a picker sees this
abbrev pub picker_info : List BlockState → List ℕ → ℕ → Info
picker_info blocks evictable clean = record { blocks = blocks; evictable = evictable; clean = clean }

-- what these pickers would say
abbrev pub answers_of : {P : Type 0} → (P → Info → Option ℕ) → (P → Info → List ℕ) → List P → Info → List Answer
answers_of answer marks pickers info = map (λ p. (answer p info, marks p info)) pickers

-- the answers of those that are consulted: in order, up to the first pick
abbrev pub answers_given : List BlockState → List Answer → List (Option ℕ)
answers_given blocks [] = []
answers_given blocks (a ∷ rest) = a.0 ∷ (if is_pick blocks a.0 then [] else answers_given blocks rest)

-- and what they put on probation
abbrev pub marks_given : List BlockState → List Answer → List ℕ
marks_given blocks [] = []
marks_given blocks (a ∷ rest) = a.1 ++ (if is_pick blocks a.0 then [] else marks_given blocks rest)

-- the first pick
abbrev pub pick_of : List BlockState → List Answer → Option ℕ
pick_of blocks [] = None
pick_of blocks (a ∷ rest) = if is_pick blocks a.0 then a.0 else pick_of blocks rest

-- A picker by age: the ids in the order in which they became evictable, how many it has room for, and how many blocks
-- shall be on probation or clean.
pub record Fifo : Type 0 where
  pub num : ℕ
  pub den : ℕ
  pub queue : List ℕ
  pub room : ℕ
  pub probations : ℕ

-- the oldest
abbrev pub fifo_answer : Fifo → Info → Option ℕ
fifo_answer p info = slice_get p.queue 0

-- of the oldest, as many as are wanted beside the clean ones, those that are evictable
abbrev pub fifo_marks : Fifo → Info → List ℕ
fifo_marks p info = filter (is_evictable_in info.blocks) (take (p.probations - info.clean) p.queue)

-- a block becomes evictable; one that is queued already or finds no room changes nothing
abbrev pub fifo_with : Fifo → ℕ → Fifo
fifo_with p b = if is_id_in b p.queue || nat_le p.room (length p.queue) then p else record p { queue = p.queue ++ b ∷ [] }

abbrev pub fifo_without : Fifo → ℕ → Fifo
fifo_without p b = record p { queue = without_id b p.queue }

-- how many of so many blocks
abbrev pub probations_of : (num den blocks : ℕ) → ℕ
probations_of num den blocks = blocks * num / den

-- the invalid bytes of a block
abbrev pub invalid_of : Option BlockState → ℕ
invalid_of None = 0
invalid_of (Some it) = it.statistics.invalid

abbrev pub invalid_in : List BlockState → ℕ → ℕ
invalid_in blocks b = invalid_of (slice_get blocks b)

-- of two blocks the one with more invalid bytes, among equals the greater id
abbrev pub worse : (ℕ → ℕ) → Option ℕ → ℕ → ℕ
worse invalid None b = b
worse invalid (Some a) b = if nat_lt (invalid a) (invalid b) || ((invalid a == invalid b) && nat_lt a b) then b else a

abbrev pub worst_of : (ℕ → ℕ) → Option ℕ → List ℕ → Option ℕ
worst_of invalid best [] = best
worst_of invalid best (b ∷ bs) = worst_of invalid (Some (worse invalid best b)) bs

-- so many invalid bytes reach the ratio
abbrev pub is_reached : (num den block_size invalid : ℕ) → Bool
is_reached num den block_size invalid = not ((block_size == 0) || nat_lt (invalid * den) (num * block_size))

abbrev pub if_reached : (num den block_size : ℕ) → (ℕ → ℕ) → Option ℕ → Option ℕ
if_reached num den block_size invalid None = None
if_reached num den block_size invalid (Some b) = if is_reached num den block_size (invalid b) then Some b else None

-- the worst of the evictable ones, if its invalid bytes reach the ratio num / den of a block
abbrev pub ratio_answer : (num den block_size : ℕ) → Info → Option ℕ
ratio_answer num den block_size info = if_reached num den block_size (invalid_in info.blocks) (worst_of (invalid_in info.blocks) None info.evictable)

-- of these ids the one with the most invalid bytes, and of those the greatest
pub record IsWorst (invalid : ℕ → ℕ) (ids : List ℕ) (b : ℕ) : Type 0 where
  pub there : is_id_in b ids ≡ true
  pub most : (c : ℕ) → is_id_in c ids ≡ true → (invalid c < invalid b) ⊎ ((invalid c ≡ invalid b) × (c ≤ b))

-- what is picked by invalid bytes, if a block is picked, is the worst of the evictable ones
abbrev pub WorstIsPicked : Type 0
WorstIsPicked = (invalid : ℕ → ℕ) (ids : List ℕ) (b : ℕ) → worst_of invalid None ids ≡ Some b → IsWorst invalid ids b
