-- What a mark of the log keeps from being found.
use Rattle.std.specs.Prelude.{◌≡◌, ℕ, ◌<◌, Bool, List, Some, Contains}
use Rattle.foyer_block_index.specs.declared.tombstone.Tombstone.{Tombstone as Mark}
use Rattle.foyer_format_layout.specs.Position.{Sizes}
use Rattle.foyer_core_model.specs.Record.{Address, Indexed}
use Rattle.foyer_block_recover.specs.Opening.{Opened, Opens}
use Rattle.foyer_block_recover.specs.Placed.{IsOpening}
use Rattle.foyer_block_recover.specs.Recovery.{marks_of}
use Rattle.foyer_block_recover.specs.declared.block.recover.RecoverMode.{RecoverMode}

-- what was opened has no address of this hash with this sequence or a lower one
abbrev pub IsForgotten : (hash sequence : ℕ) → Opened → Type 0
IsForgotten hash sequence o = (a : Address) → o.index hash ≡ Some (Indexed a) → sequence < a.sequence

-- An opening with a mark forgets what the mark's hash had up to the mark's sequence: of bytes that are seen, and of others.
abbrev pub MarksForget : Type 0
MarksForget =
    (s : Sizes) (n : ℕ) (bytes : ℕ → ℕ → ℕ) (mode : RecoverMode) (failed : ℕ → ℕ → Bool) (marks : List Mark) (mark : Mark) (o : Opened)
    → Contains marks mark → Opens s n bytes mode failed (marks_of marks) o → IsForgotten mark.hash mark.sequence o

abbrev pub MarksForgetUnseen : Type 0
MarksForgetUnseen =
    (s : Sizes) (n : ℕ) (marks : List Mark) (mark : Mark) (o : Opened)
    → Contains marks mark → IsOpening s n (marks_of marks) o → IsForgotten mark.hash mark.sequence o
