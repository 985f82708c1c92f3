use Rattle.std.proofs.Common.{◌≡◌, ◌≤◌}
use Rattle.std.specs.Prelude.{IfSome}
use Rattle.foyer_io_engine.specs.Disk.{IfKnown, Becomes}
use Rattle.foyer_block_tombstone.specs.PageBytes.{HoldsPage}
use Rattle.foyer_block_tombstone.specs.Writes.{HasWritten}
use Rattle.foyer_block_tombstone.proofs.StageLemmas.{Stage}
use Rattle.foyer_block_tombstone.proofs.block.tombstone.log.put_all.Given as goal

abbrev pub invariant-pages : goal.invariant-pages
invariant-pages g l = record {
  places : l.buffer.places ≡ l.fn.buffer.places;
  stage : Becomes (g.E.IoEngine.disk l.fn.buffer.engine) (g.E.IoEngine.disk l.buffer.engine) (λ d e. Stage l.fn.buffer.places l.pages l.start l.marks l.j d e);
  fresh : IfSome l.buffer.page (λ n. IfKnown (g.E.IoEngine.disk l.buffer.engine) (λ d. HoldsPage d l.fn.buffer.places n l.buffer.bytes));
  once : HasWritten l.fn.buffer.writes l.j l.buffer.writes;
  counted : g.E.IoEngine.faults l.fn.buffer.engine ≤ g.E.IoEngine.faults l.buffer.engine;
}
