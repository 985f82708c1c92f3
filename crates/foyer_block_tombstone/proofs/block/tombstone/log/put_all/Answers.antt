use Rattle.std.proofs.Common.{◌≡◌, ◌*◌, length, arith, ◌∙◌, Err, ◌<◌, ◌/◌, ◌+◌}
use Rattle.std.proofs.Math.Nat.{mod-lt}
use Rattle.std.proofs.lemmas.Result.{err_from_is_err_and}
use Rattle.foyer_device_page.specs.declared.error.Error.TheVariants as error
use Rattle.foyer_block_tombstone.proofs.PageLemmas.{has_later}
use Rattle.foyer_block_tombstone.specs.Ring.{IsTouched, touched}
use Rattle.foyer_block_tombstone.proofs.WriteLemmas.{written_more, written_fault}
use Rattle.foyer_block_tombstone.proofs.StageLemmas.{stage_more, stage_fault, stage_end, touches, page_number}
use Rattle.foyer_block_tombstone.proofs.block.tombstone.log.put_all.Goals as goal

pub pages-preserved : goal.pages-preserved
pages-preserved g c =
    let touched : IsTouched (256 * c.args.pages) c.args.start (length c.args.marks.now) (page_number c.args.pages c.args.start c.pages.j) =
    touches c.args.pages c.args.start (length c.args.marks.now) c.pages.j (omega arith) c.requires.some (c.touched_pages-touched.ensures.each c.pages.j c.pages-test.true) in
    record {
      places = c.put_page.ensures.places ∙ c.pages.invariant.places;
      stage = stage_more c.args.buffer.now.places c.args.pages c.args.start c.args.marks.now c.pages.j
          (g.E.IoEngine.disk c.args.buffer.now.engine) (g.E.IoEngine.disk c.pages.buffer.engine) (g.E.IoEngine.disk c.put_page.new.buffer.engine)
          (omega (arith, c.touched_pages-touched.ensures.few)) touched c.pages.invariant.stage
          (rw c.pages.invariant.places at c.put_page.ensures.written) (rw c.pages.invariant.places at c.in_ok-put_page.ensures.put);
      fresh = rw c.pages.invariant.places at c.in_ok-put_page.ensures.fresh;
      once = written_more c.args.buffer.now.writes c.pages.j c.pages.buffer.writes c.put_page.new.buffer.writes c.pages.invariant.once c.in_ok-put_page.ensures.once;
      counted = omega (arith, c.put_page.ensures.counted, c.pages.invariant.counted);
    }

pub returns-in_err-put_page-clause-written : goal.returns-in_err-put_page-clause-written
returns-in_err-put_page-clause-written g c =
    let touched : IsTouched (256 * c.args.pages) c.args.start (length c.args.marks.now) (page_number c.args.pages c.args.start c.pages.j) =
    touches c.args.pages c.args.start (length c.args.marks.now) c.pages.j (omega arith) c.requires.some (c.touched_pages-touched.ensures.each c.pages.j c.pages-test.true) in
    stage_fault c.args.buffer.now.places c.args.pages c.args.start c.args.marks.now c.pages.j
    (g.E.IoEngine.disk c.args.buffer.now.engine) (g.E.IoEngine.disk c.pages.buffer.engine) (g.E.IoEngine.disk c.put_page.new.buffer.engine)
    touched c.pages.invariant.stage (rw c.pages.invariant.places at c.put_page.ensures.written)

pub returns-clause-put : goal.returns-clause-put
returns-clause-put g c = λ d known.
    let s = c.pages.invariant.stage d known in
    let all = c.touched_pages-touched.ensures in
    let is : c.touched_pages-touched.result ≡ c.pages.j = omega arith in (
      s.0,
      s.1,
      λ apart.
          stage_end c.args.buffer.now.places c.args.pages c.args.start c.pages.j c.args.marks.now d s.0 s.2
          (omega arith) (omega arith) (omega (arith, all.few)) (rw is at all.reach) apart,
    )

pub returns-in_err-put_page-clause-outside : goal.returns-in_err-put_page-clause-outside
returns-in_err-put_page-clause-outside g c = λ d known refused has.
    let p = err_from_is_err_and c.from_residual.result c.from_residual.ensures.1 in
    let failed : c.put_page.result ≡ Err error.OutOfRange = cc (c.in_err-put_page.was, p.1, p.2, refused) in
    let s = c.pages.invariant.stage d known in
    let page : page_number c.args.pages c.args.start c.pages.j < c.args.pages = mod-lt (c.args.start / 256 + c.pages.j) (omega arith) in
    rw c.pages.invariant.places at (c.put_page.ensures.outside s.0 s.1 failed) (has_later s.2.changes (has (page_number c.args.pages c.args.start c.pages.j) page))

pub returns-clause-once : goal.returns-clause-once
returns-clause-once g c =
    let is : c.pages.j ≡ touched c.args.start (length c.args.marks.now) c.args.pages = omega (arith, c.touched_pages-touched.ensures.exact) in
    rw (← is) c.pages.invariant.once

pub returns-in_err-put_page-clause-once : goal.returns-in_err-put_page-clause-once
returns-in_err-put_page-clause-once g c =
    let exact : c.touched_pages-touched.result ≡ touched c.args.start (length c.args.marks.now) c.args.pages = c.touched_pages-touched.ensures.exact in
    let p = err_from_is_err_and c.from_residual.result c.from_residual.ensures.1 in
    rw p.1 (written_fault c.args.buffer.now.writes c.pages.j (touched c.args.start (length c.args.marks.now) c.args.pages)
    c.pages.buffer.writes c.put_page.new.buffer.writes
    (omega (arith, exact, c.pages-test.true)) c.pages.invariant.once c.in_err-put_page.ensures.once)
