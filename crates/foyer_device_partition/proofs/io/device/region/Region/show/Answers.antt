use Rattle.std.proofs.Common.{arith}
use Rattle.foyer_device_partition.proofs.LaidLemmas.{laid_disjoint, laid_in_files, laid_end}
use Rattle.foyer_device_partition.proofs.io.device.region.Region.show.Goals as goal

pub returns-clause-apart : goal.returns-clause-apart
returns-clause-apart g c = laid_disjoint 0 _

pub returns-clause-within : goal.returns-clause-within
returns-clause-within g c = laid_in_files 0 _

pub returns-clause-ends : goal.returns-clause-ends
returns-clause-ends g c = rw (← c.self.view_is) (laid_end 0 _ _ (omega (arith, c.self.invariant.1, c.self.invariant.2)))
