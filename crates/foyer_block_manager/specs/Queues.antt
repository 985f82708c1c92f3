-- Ids in the order in which they came.
use Rattle.std.specs.Prelude.{◌≡◌, ℕ, ◌<◌, Bool, nat_lt, not, ◌&&◌, if◌then◌else◌, List, [], ◌∷◌, ◌++◌, length, Option, Some, None, slice_get}
use Rattle.foyer_core_model.specs.Ids.{is_id_in, without_id, AreDistinct}
use Rattle.foyer_block_manager.specs.Pickers.{Fifo}

-- the ids, each once, and for how many there is room
pub record Queued : Type 0 where
  pub ids : List ℕ
  pub room : ℕ

-- one more, unless it is there already or finds no room
abbrev pub queued_with : Queued → ℕ → Queued
queued_with q b = if not (is_id_in b q.ids) && nat_lt (length q.ids) q.room then record q { ids = q.ids ++ b ∷ [] } else q

-- and one less
abbrev pub queued_without : Queued → ℕ → Queued
queued_without q b = record q { ids = without_id b q.ids }

-- if an id has a flag, the flag says whether the id is queued; each id is queued once
pub record AreFlagged (ids : List ℕ) (flags : List Bool) : Type 0 where
  pub once : AreDistinct ids
  pub flag : (b : ℕ) → b < length flags → slice_get flags b ≡ Some (is_id_in b ids)

-- a picker by age with this queue; it has none before it is given the blocks
abbrev pub fifo_of : (num den probations : ℕ) → Option Queued → Fifo
fifo_of num den probations None = record { num = num; den = den; queue = []; room = 0; probations = probations }
fifo_of num den probations (Some q) = record { num = num; den = den; queue = q.ids; room = q.room; probations = probations }
