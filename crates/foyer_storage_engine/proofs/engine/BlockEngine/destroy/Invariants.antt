-- destroy
use Rattle.std.specs.Prelude.{◌≡◌, ◌-◌, ◌<◌}
use Rattle.foyer_storage_engine.specs.Accessing.{IsCleanedBy}
use Rattle.foyer_storage_engine.specs.Ending.{BringsClean, HoldsButDestroys}
use Rattle.foyer_storage_engine.proofs.engine.BlockEngine.destroy.Given as goal

abbrev pub invariant-loop-block : goal.invariant-loop-block
invariant-loop-block g l = (l.session.shares.parts ≡ l.fn.session.shares.parts) × (0 < l.block → BringsClean (IsCleanedBy g.D.Disk.is_known g.D.Disk.byte_at g.D.Disk.surely_has g.D.Disk.surely_lies g.D.Disk.faults) (l.block - 1) l.session l.ended) × HoldsButDestroys l.fn.session l.session
