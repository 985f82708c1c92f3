use Rattle.std.proofs.Common.{◌≡◌, ap, ◌∙◌, Some, Err}
use Rattle.std.proofs.lemmas.Result.{err_from_is_err_and}
use Rattle.foyer_device_page.specs.declared.error.Error.TheVariants as error
use Rattle.foyer_block_tombstone.proofs.PageLemmas.{put_written, written_fresh}
use Rattle.foyer_block_tombstone.proofs.block.tombstone.log.put_page.Goals as goal

pub returns-clause-put : goal.returns-clause-put
returns-clause-put g c =
    let put = c.put.ensures.same in
    let page : c.put.new.self.page ≡ Some c.args.page = ap (λ v. v.page) put ∙ c.in_ok-fetch.ensures.loaded in
    let places : c.put.new.self.places ≡ c.args.buffer.now.places = ap (λ v. v.places) put ∙ c.fetch.ensures.places in
    let disk : g.E.IoEngine.disk c.put.new.self.engine ≡ g.E.IoEngine.disk c.args.buffer.now.engine = ap (λ v. g.E.IoEngine.disk v.engine) put ∙ c.fetch.ensures.kept in
    let written = rw (page, places, disk) at c.flush.ensures.written in
    put_written c.args.slots c.args.start c.args.marks.now c.args.buffer.now.places c.args.page c.fetch.new.self.bytes c.put.new.self.bytes
    c.flush.result (g.E.IoEngine.disk c.args.buffer.now.engine) (g.E.IoEngine.disk c.flush.new.self.engine)
    c.in_ok-fetch.ensures.read c.in_ok-fetch.ensures.size c.put.ensures.size written c.put.ensures.bytes

pub returns-clause-fresh : goal.returns-clause-fresh
returns-clause-fresh g c =
    let put = c.put.ensures.same in
    let page : c.put.new.self.page ≡ Some c.args.page = ap (λ v. v.page) put ∙ c.in_ok-fetch.ensures.loaded in
    let places : c.put.new.self.places ≡ c.args.buffer.now.places = ap (λ v. v.places) put ∙ c.fetch.ensures.places in
    let written = rw (page, places) at c.flush.ensures.written in
    rw (c.flush.ensures.same.1, page, c.flush.ensures.same.2)
    (written_fresh c.args.buffer.now.places c.args.page c.put.new.self.bytes c.flush.result
    (g.E.IoEngine.disk c.put.new.self.engine) (g.E.IoEngine.disk c.flush.new.self.engine) c.flush.ensures.hidden written)

pub returns-in_err-fetch-clause-outside : goal.returns-in_err-fetch-clause-outside
returns-in_err-fetch-clause-outside g c = λ d known refused.
    let p = err_from_is_err_and c.from_residual.result c.from_residual.ensures.1 in
    let failed : c.fetch.result ≡ Err error.OutOfRange = cc (c.in_err-fetch.was, p.1, p.2, refused) in
    c.fetch.ensures.outside d known failed

pub returns-clause-outside : goal.returns-clause-outside
returns-clause-outside g c = λ d known refused.
    let put = c.put.ensures.same in
    let page : c.put.new.self.page ≡ Some c.args.page = ap (λ v. v.page) put ∙ c.in_ok-fetch.ensures.loaded in
    let places : c.put.new.self.places ≡ c.args.buffer.now.places = ap (λ v. v.places) put ∙ c.fetch.ensures.places in
    let disk : g.E.IoEngine.disk c.put.new.self.engine ≡ g.E.IoEngine.disk c.args.buffer.now.engine = ap (λ v. g.E.IoEngine.disk v.engine) put ∙ c.fetch.ensures.kept in
    let outside = c.flush.ensures.outside d (disk ∙ known) refused in
    rw (page, places) at outside
