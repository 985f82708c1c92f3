use Rattle.std.proofs.Common.{◌≡◌, ◌∙◌, sym, ap, slice_get}
use Rattle.foyer_block_manager.specs.Managed.{Managed, is_reclaiming}
use Rattle.foyer_block_manager.proofs.ClearingLemmas.{reclaimed_block}
use Rattle.foyer_block_manager.proofs.block.manager.BlockManager.is_reclaimed.Goals as goal

pub returns : goal.returns
returns g c =
    let test : c.is_reclaiming.result ≡ is_reclaiming (slice_get (c.args.self.now).blocks c.args.id) = c.is_reclaiming.ensures ∙ ap (λ (w : Managed). is_reclaiming (slice_get w.blocks c.args.id)) c.self.view_is in
    (λ is. (reclaimed_block c.args.self.now c.args.id).0 (sym test ∙ is), λ is. test ∙ (reclaimed_block c.args.self.now c.args.id).1 is)
