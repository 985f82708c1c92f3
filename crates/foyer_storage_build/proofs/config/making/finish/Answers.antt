use Rattle.std.proofs.Common.{◌∙◌, replicate, ap}
use Rattle.foyer_storage_build.proofs.config.making.finish.Goals as goal

pub returns-clause-blocks : goal.returns-clause-blocks
returns-clause-blocks g c = (
  c.in_ok-flushers.ensures.blocks ∙ ap (replicate c.args.opening.counted.settings.flushers) c.as_slice-2.ensures.value,
  c.in_ok-reclaimers.ensures.blocks ∙ ap (replicate c.args.opening.counted.settings.reclaimers) c.as_slice-2.ensures.value,
)

pub returns-clause-loads : goal.returns-clause-loads
returns-clause-loads g c = rw c.new-built.ensures.engine c.in_ok-opened.ensures.loads

pub returns-clause-mode : goal.returns-clause-mode
returns-clause-mode g c = rw c.new-built.ensures.engine c.in_ok-opened.ensures.mode
