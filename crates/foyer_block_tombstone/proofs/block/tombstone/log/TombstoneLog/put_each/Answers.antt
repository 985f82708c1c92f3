use Rattle.foyer_block_tombstone.proofs.WriteLemmas.{touched_none, touched_modulo, written_none}
use Rattle.foyer_block_tombstone.proofs.StageLemmas.{put_from, touched_from}
use borrow.Author.Tests.{eqb-true}
use Rattle.std.proofs.Common.{◌≡◌, ◌*◌, ◌∙◌, length, ap, sym}
use Rattle.foyer_block_tombstone.specs.Pages.{pages_of}
use Rattle.foyer_block_tombstone.proofs.block.tombstone.log.TombstoneLog.put_each.Goals as goal

pub returns-in-Ok-clause-put : goal.returns-in-Ok-clause-put
returns-in-Ok-clause-put g c =
    rw (← c.self.view_is, ← c.self.invariant.0) (λ d known.
    let put = c.in-Ok.ensures.put d known in
    (put.0, put.1, λ apart. put_from c.self.inside.slot (put.2 apart)))

pub returns-in-Ok-clause-written : goal.returns-in-Ok-clause-written
returns-in-Ok-clause-written g c =
    rw (← c.self.view_is, ← c.self.invariant.0) (λ d known.
    let written = c.put_all.ensures.written d known in
    (written.0, written.1, touched_from (256 * c.self.inside.pages) c.self.inside.slot (length c.args.marks.now) written.2))

pub returns-in-Err-clause-written : goal.returns-in-Err-clause-written
returns-in-Err-clause-written g c =
    rw (← c.self.view_is, ← c.self.invariant.0, ap (λ v. g.E.IoEngine.disk v.engine) c.unload.ensures) (λ d known.
    let written = c.put_all.ensures.written d known in
    (written.0, written.1, touched_from (256 * c.self.inside.pages) c.self.inside.slot (length c.args.marks.now) written.2))

pub returns-in-Ok-clause-once : goal.returns-in-Ok-clause-once
returns-in-Ok-clause-once g c =
    let modulo = touched_modulo c.self.inside.slot (length c.args.marks.now) c.self.inside.pages in
    rw (← c.self.view_is, ← c.self.invariant.0) (rw modulo at c.in-Ok.ensures.once)

pub returns-in-Err-clause-once : goal.returns-in-Err-clause-once
returns-in-Err-clause-once g c =
    let modulo = touched_modulo c.self.inside.slot (length c.args.marks.now) c.self.inside.pages in
    rw (← c.self.view_is, ← c.self.invariant.0, ap (λ v. v.writes) c.unload.ensures) (rw modulo at c.in-Err.ensures.once)

pub returns-then-is_empty-clause-once : goal.returns-then-is_empty-clause-once
returns-then-is_empty-clause-once g c =
    let none : length c.args.marks.now ≡ 0 = eqb-true (length c.args.marks.now) 0 (sym c.is_empty.ensures ∙ c.if-is_empty.true) in
    rw (← c.self.view_is, none, touched_none c.self.inside.slot (pages_of c.self.inside.buffer.places))
    (written_none c.self.inside.buffer.writes c.self.invariant.3)
