use Rattle.foyer_core_access.proofs.CleanLemmas.{zeros_clean}
use Rattle.foyer_core_access.proofs.reclaims.BlockCleaner.clean.Goals as goal

pub returns-clause-cleaned : goal.returns-clause-cleaned
returns-clause-cleaned g c = λ known. zeros_clean (g.D.Disk.byte_at c.args.disk.now) (g.D.Disk.byte_at c.write.new.self) c.args.block c.write.result (c.write.ensures.wrote known)
