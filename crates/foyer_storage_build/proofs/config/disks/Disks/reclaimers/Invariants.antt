use Rattle.std.specs.Prelude.{◌≡◌, ◌+◌, ◌*◌, map, replicate, vec_len}
use Rattle.foyer_storage_build.proofs.config.disks.Disks.reclaimers.Given as goal

abbrev pub invariant-loop : goal.invariant-loop
invariant-loop g l = record {
  count : vec_len l.workers ≡ l.counter;
  seats : l.recorder.view.parts + 2 * l.counter ≡ l.fn.recorder.view.parts;
  blocks : map (λ w. w.worker.parts.disk.blocks.items) l.workers.items ≡ replicate l.counter l.fn.self.blocks.now;
}
