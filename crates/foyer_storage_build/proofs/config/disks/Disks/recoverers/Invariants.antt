use Rattle.std.specs.Prelude.{◌≡◌, ◌+◌, ◌≤◌, map, replicate, vec_len}
use Rattle.foyer_storage_build.proofs.config.disks.Disks.recoverers.Given as goal

abbrev pub invariant-loop-worker : goal.invariant-loop-worker
invariant-loop-worker g l = record {
  few : vec_len l.recoverers ≤ l.worker;
  left : l.fn.recorder.view.parts ≤ l.recorder.view.parts + l.worker;
  blocks : map (λ r. r.recoverer.disk.disk.blocks.items) l.recoverers.items ≡ replicate (vec_len l.recoverers) l.fn.self.blocks.now;
}
