-- The notes that are kept behind the lock.
use Rattle.std.specs.Prelude.{◌<◌, List, Option, Some, None, vec_capacity, vec_len}
use Rattle.foyer_core_shared.specs.Chunks.{all_of}
use Rattle.foyer_core_shared.specs.declared.brief.Brief.{Brief}
use Rattle.foyer_core_shared.specs.declared.notes.Notes.{Notes}

-- all notes, if notes are kept
abbrev pub kept_notes : {A : Type 0} → Option (Notes A) → Option (List Brief)
kept_notes None = None
kept_notes (Some n) = Some (all_of n.full.items n.last.items)

-- if notes are kept, there is room for one more
abbrev pub HasRoom : {A : Type 0} → Option (Notes A) → Type 0
HasRoom None = Unit {0}
HasRoom (Some n) = vec_len n.last < vec_capacity n.last
