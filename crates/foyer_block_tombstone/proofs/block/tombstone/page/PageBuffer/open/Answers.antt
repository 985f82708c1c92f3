use Rattle.std.proofs.Common.{◌≡◌, Err, ap, ◌∙◌}
use Rattle.std.proofs.lemmas.Result.{err_from_is_err_and}
use Rattle.foyer_device_page.specs.declared.error.Error.TheVariants as error
use Rattle.foyer_block_tombstone.proofs.block.tombstone.page.PageBuffer.open.Goals as goal

pub returns-in_err-load-clause-outside : goal.returns-in_err-load-clause-outside
returns-in_err-load-clause-outside g c = λ d known refused.
    let p = err_from_is_err_and c.from_residual-in_err-load.result c.from_residual-in_err-load.ensures.1 in
    let failed : c.load.result ≡ Err error.OutOfRange = cc (c.in_err-load.was, p.1, p.2, refused) in
    let new = c.in_ok-buffer.ensures.new in
    rw (ap (λ v. v.places) new) at (c.load.ensures.outside d (ap (λ v. g.E.IoEngine.disk v.engine) new ∙ known) failed)
