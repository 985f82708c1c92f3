use Rattle.std.proofs.Common.{◌≡◌, ◌∙◌, sym, ap, slice_get}
use Rattle.foyer_block_manager.specs.Managed.{Managed, is_writing}
use Rattle.foyer_block_manager.proofs.ClearingLemmas.{written_as}
use Rattle.foyer_block_manager.proofs.block.manager.BlockManager.is_written.Goals as goal

pub returns : goal.returns
returns g c =
    let test : c.is_writing.result ≡ is_writing (slice_get (c.args.self.now).blocks c.args.id) = c.is_writing.ensures ∙ ap (λ (w : Managed). is_writing (slice_get w.blocks c.args.id)) c.self.view_is in
    (λ is. (written_as c.args.self.now c.args.id).0 (sym test ∙ is), λ is. test ∙ (written_as c.args.self.now c.args.id).1 is)
