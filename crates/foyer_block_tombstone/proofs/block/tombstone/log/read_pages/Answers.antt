use Rattle.std.proofs.Common.{◌≡◌, ◌*◌, ◌+◌, ◌∙◌, arith, Err}
use Rattle.std.proofs.lemmas.Grind.{common_steps}
use Rattle.foyer_block_tombstone.specs.PageBytes.{HoldsPage, ring_on}
use Rattle.std.proofs.lemmas.Result.{err_from_is_err_and}
use Rattle.foyer_device_page.specs.declared.error.Error.TheVariants as error
use Rattle.foyer_block_tombstone.proofs.PageLemmas.{ring_page}
use Rattle.foyer_block_tombstone.proofs.block.tombstone.log.read_pages.Goals as goal

pub pages-preserved : goal.pages-preserved
pages-preserved g c =
    let ps = c.args.buffer.now.places in
    record {
      places = c.load.ensures.places ∙ c.pages.invariant.places;
      kept = c.load.ensures.kept ∙ c.pages.invariant.kept;
      writes = c.load.ensures.writes ∙ c.pages.invariant.writes;
      read = λ d known.
          let holds : HoldsPage d ps c.pages.page c.load.new.self.bytes = rw c.pages.invariant.places at (c.in_ok-load.ensures.read d (c.pages.invariant.kept ∙ known)) in
          let plus : 256 * (c.pages.page + 1) ≡ 256 * c.pages.page + 256 = omega arith in
          rw plus (c.in_ok-take_marks.ensures.read (ring_on d ps) c.args.tombstones.now.items
          (λ j lt. rw c.as_slice.ensures (ring_page holds c.in_ok-load.ensures.size j lt)) (c.pages.invariant.read d known));
      counted = omega (arith, c.load.ensures.counted, c.pages.invariant.counted);
      fresh = rw (c.in_ok-load.ensures.loaded, c.load.ensures.kept) (rw c.pages.invariant.places at c.in_ok-load.ensures.read);
      before = grind (arith, common_steps, c.take_marks.ensures.before, c.pages.invariant.before);
    }

pub returns-clause-read : goal.returns-clause-read
returns-clause-read g c = λ d known.
    let is : c.pages.page ≡ c.args.pages = omega arith in
    rw is at (c.pages.invariant.read d known)

pub returns-in_err-load-clause-outside : goal.returns-in_err-load-clause-outside
returns-in_err-load-clause-outside g c = λ d known refused has.
    let p = err_from_is_err_and c.from_residual.result c.from_residual.ensures.1 in
    let failed : c.load.result ≡ Err error.OutOfRange = cc (c.in_err-load.was, p.1, p.2, refused) in
    rw c.pages.invariant.places at (c.load.ensures.outside d (c.pages.invariant.kept ∙ known) failed) (has c.pages.page c.pages-test.true)
