use Rattle.std.proofs.Common.{◌≡◌, ◌+◌, ◌*◌, ◌≤◌, ◌++◌, length, vec_len, vec_capacity}
use Rattle.foyer_core_flusher.specs.Issuing.{writes_of}
use Rattle.foyer_core_flusher.specs.Offsets.{PartFits}
use Rattle.foyer_format_layout.specs.Each.{Each}
use Rattle.foyer_core_flusher.proofs.issuing.writes_of.Given as goal

-- what is left comes behind what stands, there is room for it, and its offsets fit
abbrev pub invariant-loop-part : goal.invariant-loop-part
invariant-loop-part g l =
    (goal.iterator-loop-part g).can_next l.part-iterator
    × (goal.iterator-loop-part g).is_finite l.part-iterator
    × (l.issued.items ++ writes_of l.fn.block_size l.part-iterator.rest.items ≡ writes_of l.fn.block_size l.fn.block.blob_parts.items)
    × (vec_len l.issued + 3 * length l.part-iterator.rest.items ≤ vec_capacity l.issued)
    × Each PartFits l.part-iterator.rest.items
