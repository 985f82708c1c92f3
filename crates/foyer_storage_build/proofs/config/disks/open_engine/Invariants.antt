use Rattle.std.specs.Prelude.{◌≡◌, ◌+◌, length, vec_len}
use Rattle.foyer_storage_build.proofs.config.disks.open_engine.Given as goal

abbrev pub invariant-loop-other : goal.invariant-loop-other
invariant-loop-other g l = (l.engine.settings ≡ l.fn.settings) × (l.engine.shared.mode ≡ l.fn.mode) × (vec_len l.engine.others + length l.other-iterator.rest.items ≡ vec_len l.fn.others)
