use Rattle.std.proofs.Common.{ℕ}
use Rattle.foyer_core_run.proofs.AccessCleanLemmas.{zeros_clean}
use Rattle.std.proofs.lemmas.List.{length-replicate}
use Rattle.foyer_core_model.specs.Numbers.{page}
use Rattle.foyer_storage_local.proofs.LocalRuns.{failed_unsure}
use Rattle.foyer_storage_local.proofs.engine.destroy.clean_page.Goals as goal

pub returns-clause-cleaned : goal.returns-clause-cleaned
returns-clause-cleaned g c = λ known. zeros_clean (g.D.Disk.byte_at c.args.disk.now) (g.D.Disk.byte_at c.write.new.self) c.args.block c.write.result (c.write.ensures.wrote known)

pub returns-clause-fails : goal.returns-clause-fails
returns-clause-fails g c =
    failed_unsure c.write.result g.D.Disk.surely_lies g.D.Disk.faults c.args.disk.now c.write.new.self c.args.block 0 page _ (length-replicate {A = ℕ} page 0) c.write.ensures.faulted
