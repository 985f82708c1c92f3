use Rattle.std.specs.Prelude.{◌≡◌, ◌+◌, vec_len}
use Rattle.foyer_storage_build.proofs.config.disks.Disks.disks.Given as goal

abbrev pub invariant-loop-made : goal.invariant-loop-made
invariant-loop-made g l = (vec_len l.disks ≡ l.made) × (l.recorder.view.parts + l.made ≡ l.fn.recorder.view.parts)
