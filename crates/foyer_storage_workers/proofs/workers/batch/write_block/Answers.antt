use Rattle.std.proofs.Common.{◌∙◌, refl, subst, arith}
use Rattle.std.proofs.lemmas.List.{drop_all}
use Rattle.std.specs.Prelude.{length}
use Rattle.foyer_io_disk.specs.Disk.{SurelyCame}
use Rattle.foyer_storage_engine.specs.Issuing.{written_bytes}
use Rattle.foyer_storage_workers.specs.WorkerSteps.{ReportsWrite}
use Rattle.foyer_storage_engine.proofs.HoldingLemmas.{held_on}
use Rattle.foyer_storage_workers.proofs.WorkerStepLemmas.{goes_first, reported_on, write_at, written_all, written_left, written_on}
use Rattle.foyer_storage_workers.proofs.workers.batch.write_block.Goals as goal

pub writes-init : goal.writes-init
writes-init g c = record {
  parts = refl;
  named = (refl, refl, refl);
  known = λ known. known;
  reported = λ known some. absurd (omega (arith, some));
  so_far = λ known. goes_first (λ w. w.offset) (λ w. written_bytes w.bytes) c.args.flusher c.args.block c.args.writes.now (g.O.Disk.byte_at c.args.disk.now) refl;
}

pub writes-preserved : goal.writes-preserved
writes-preserved g c =
    let w = c.write-item.result in
    let i = c.writes.write-index in
    let at = write_at (λ w. w.offset) (λ w. written_bytes w.bytes) c.args.flusher c.args.block c.args.writes.now i w c.writes-test.true c.write-item.is in
    let now = g.O.Disk.byte_at c.writes.disk in
    let middle = g.O.Disk.byte_at c.write_one.new.disk in
    let session = c.write_one.new.session in
    let came = SurelyCame (g.O.Disk.surely_has c.writes.disk) (g.O.Disk.surely_lies c.writes.disk) (g.O.Disk.faults c.writes.disk) (g.O.Disk.faults c.write_one.new.disk)
    c.args.block w.offset (length (written_bytes w.bytes)) in
    let reports = λ (known : g.O.Disk.is_known c.args.disk.now).
    subst (λ goes. ReportsWrite c.args.flusher c.args.block w.offset (written_bytes w.bytes) now middle came session goes) c.if-not-write_one.false
    (c.write_one.ensures.reports (c.writes.invariant.known known)) in
    record {
      parts = c.write_one.ensures.parts ∙ c.writes.invariant.parts;
      named = held_on c.args.session.now c.writes.session session c.writes.invariant.named c.write_one.ensures.named;
      known = λ known. c.write_one.ensures.known (c.writes.invariant.known known);
      reported = λ known. reported_on (λ w. w.offset) (λ w. written_bytes w.bytes) c.args.flusher c.args.block i w now middle came session (reports known);
      so_far = λ known.
          written_on (λ w. w.offset) (λ w. written_bytes w.bytes) c.args.flusher c.args.block c.args.writes.now i w
          (g.O.Disk.byte_at c.args.disk.now) now middle came session at (reports known) (c.writes.invariant.so_far known);
    }

pub returns-then-not-write_one-clause-writes : goal.returns-then-not-write_one-clause-writes
returns-then-not-write_one-clause-writes g c = λ known.
    let w = c.write-item.result in
    let i = c.writes.write-index in
    let now = g.O.Disk.byte_at c.writes.disk in
    let middle = g.O.Disk.byte_at c.write_one.new.disk in
    let session = c.write_one.new.session in
    let came = SurelyCame (g.O.Disk.surely_has c.writes.disk) (g.O.Disk.surely_lies c.writes.disk) (g.O.Disk.faults c.writes.disk) (g.O.Disk.faults c.write_one.new.disk)
    c.args.block w.offset (length (written_bytes w.bytes)) in
    written_left (λ w. w.offset) (λ w. written_bytes w.bytes) c.args.flusher c.args.block c.args.writes.now i w
    (g.O.Disk.byte_at c.args.disk.now) now middle came session
    (write_at (λ w. w.offset) (λ w. written_bytes w.bytes) c.args.flusher c.args.block c.args.writes.now i w c.writes-test.true c.write-item.is)
    (subst (λ goes. ReportsWrite c.args.flusher c.args.block w.offset (written_bytes w.bytes) now middle came session goes) c.if-not-write_one.true
    (c.write_one.ensures.reports (c.writes.invariant.known known)))
    (c.writes.invariant.so_far known)

pub returns-clause-writes : goal.returns-clause-writes
returns-clause-writes g c = λ known.
    written_all (λ w. w.offset) (λ w. written_bytes w.bytes) c.args.flusher c.args.block c.args.writes.now c.writes.write-index c.writes.session
    (g.O.Disk.byte_at c.args.disk.now) (g.O.Disk.byte_at c.writes.disk)
    (drop_all c.writes.write-index c.args.writes.now c.writes-test.false)
    (c.writes.invariant.reported known) (c.writes.invariant.so_far known)
