use Rattle.std.proofs.Common.{◌∙◌, refl, subst}
use Rattle.foyer_storage_engine.proofs.HoldingLemmas.{held_on}
use Rattle.foyer_storage_workers.specs.WorkerSteps.{AreReadFrom, ReportsRead, first_part}
use Rattle.foyer_storage_workers.proofs.TurnLemmas.{read_on}
use Rattle.foyer_storage_workers.proofs.workers.reading.read_block.Goals as goal

pub loop-init : goal.loop-init
loop-init g c = record {
  parts = refl;
  named = (refl, refl, refl);
  known = λ known. known;
  same = refl;
  all = λ known last reads.
      subst (λ sizes. AreReadFrom g.row.A.Denot c.args.block (g.O.Disk.byte_at c.args.parts.now.disk) last (first_part sizes.blob_index_size))
      c.settings.ensures reads;
}

pub loop-preserved : goal.loop-preserved
loop-preserved g c =
    let was = c.loop.invariant in
    let made = c.read_part.ensures in
    record {
      parts = made.parts ∙ was.parts;
      named = held_on c.args.session.now c.loop.session c.read_part.new.session was.named made.named;
      known = λ known. made.known (was.known known);
      same = made.same ∙ was.same;
      all = λ known last reads.
          was.all known last (read_on g.row.A.Denot c.args.block (g.O.Disk.byte_at c.args.parts.now.disk) last c.read_part.new.session c.loop.part c.in-Some-read_part.next
          (subst (λ t. ReportsRead g.row.A.Denot c.args.block (g.O.Disk.byte_at c.args.parts.now.disk) c.loop.part c.read_part.new.session t) c.in-Some-read_part.is
          (subst (λ bytes. ReportsRead g.row.A.Denot c.args.block bytes c.loop.part c.read_part.new.session c.read_part.result) was.same (made.reports (was.known known)))) reads);
    }
