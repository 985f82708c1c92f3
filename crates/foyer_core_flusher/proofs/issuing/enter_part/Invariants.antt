use Rattle.std.proofs.Common.{◌≡◌, ◌++◌, map, drop}
use Rattle.foyer_core_flusher.specs.Issuing.{entering}
use Rattle.foyer_core_flusher.proofs.issuing.enter_part.Given as goal

-- what is left comes behind what stands
abbrev pub invariant-loop-entry : goal.invariant-loop-entry
invariant-loop-entry g l =
    l.records.items ++ map (entering l.blob) (drop l.entry-index l.entries) ≡ l.fn.records.items ++ map (entering l.blob) l.entries
