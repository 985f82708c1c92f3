use Rattle.std.proofs.Common.{◌≡◌, ◌++◌, drop}
use Rattle.foyer_core_flusher.specs.Issuing.{entering_of}
use Rattle.foyer_core_flusher.proofs.issuing.records_of.Given as goal

-- what is left comes behind what stands
abbrev pub invariant-loop-part : goal.invariant-loop-part
invariant-loop-part g l =
    l.records.items ++ entering_of (drop l.part-index l.block.blob_parts.items) ≡ entering_of l.block.blob_parts.items
