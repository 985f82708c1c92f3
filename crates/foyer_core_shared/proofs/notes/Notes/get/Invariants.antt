use Rattle.std.proofs.Common.{◌≡◌, drop, slice_get}
use Rattle.foyer_core_shared.specs.Chunks.{all_of}
use Rattle.foyer_core_shared.proofs.notes.Notes.get.Given as goal

-- the place is as far behind the chunks that were passed as is left
abbrev pub invariant-loop-chunk : goal.invariant-loop-chunk
invariant-loop-chunk g l =
    slice_get (all_of (drop l.chunk-index l.self.full.items) l.self.last.items) l.left ≡ slice_get (all_of l.self.full.items l.self.last.items) l.fn.place
