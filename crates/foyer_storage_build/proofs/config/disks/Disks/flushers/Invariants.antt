use Rattle.std.specs.Prelude.{◌≡◌, ◌+◌, map, replicate, vec_len}
use Rattle.std.specs.List.{range_with_len}
use Rattle.foyer_storage_build.proofs.config.disks.Disks.flushers.Given as goal

abbrev pub invariant-loop-flusher : goal.invariant-loop-flusher
invariant-loop-flusher g l = record {
  count : vec_len l.workers ≡ l.flusher;
  seats : l.recorder.view.parts + l.flusher ≡ l.fn.recorder.view.parts;
  numbers : map (λ w. w.worker.parts.flusher) l.workers.items ≡ range_with_len 0 l.flusher;
  blocks : map (λ w. w.worker.parts.disk.blocks.items) l.workers.items ≡ replicate l.flusher l.fn.self.blocks.now;
}
