use Rattle.std.proofs.Common.{◌≡◌, drop}
use Rattle.foyer_core_steps.specs.Reclaiming.{is_entry_among}
use Rattle.foyer_core_steps.proofs.block.reclaimer.is_among.Given as goal

-- none of those before is it
abbrev pub invariant-each_entry : goal.invariant-each_entry
invariant-each_entry l = is_entry_among (drop l.other-index l.entries) l.entry ≡ is_entry_among l.entries l.entry
